-- Lists of alarms that are strictly sorted are equal where they have the same alarms.
use Rattle.std.proofs.Common.{◌≡◌, ◌⊎◌, zero, suc, refl, sym, subst, ◌∙◌, inl, inr, List, [], ◌∷◌}
use Rattle.std.proofs.Common.{arith}
use Rattle.std.specs.Prelude.{Contains}
use Rattle.tm_terms.specs.declared.alarms.Alarm.{Alarm}
use Rattle.tm_terms.specs.Alarms.{AlarmBefore, IsStrictlySorted}

either : {A B C : Type 0} → (A → C) → (B → C) → A ⊎ B → C
either f g (inl a) = f a
either f g (inr b) = g b

-- ## Membership

none : (a : Alarm) → Contains [] a → ⊥
none a (k, lt, e) = absurd (omega (arith, lt))

first : (a : Alarm) (rest : List Alarm) → Contains (a ∷ rest) a
first a rest = (zero, omega arith, refl)

later : (a b : Alarm) (rest : List Alarm) → Contains rest b → Contains (a ∷ rest) b
later a b rest (k, lt, e) = (suc k, omega (arith, lt), e)

cases : (a b : Alarm) (rest : List Alarm) → Contains (a ∷ rest) b → (a ≡ b) ⊎ Contains rest b
cases a b rest (zero, lt, e) = inl e
cases a b rest (suc k, lt, e) = inr (k, omega (arith, lt), e)

-- ## The order

pub before_trans : (a b c : Alarm) → AlarmBefore a b → AlarmBefore b c → AlarmBefore a c
before_trans a b c (inl l) (inl m) = inl (omega (arith, l, m))
before_trans a b c (inl l) (inr m) = inl (let e = m.0 in omega (arith, l, e))
before_trans a b c (inr l) (inl m) = inl (let e = l.0 in omega (arith, m, e))
before_trans a b c (inr (e, inl l)) (inr (f, inl m)) = inr (e ∙ f, inl (omega (arith, l, m)))
before_trans a b c (inr (e, inl l)) (inr (f, inr m)) = inr (e ∙ f, inl (let g = m.0 in omega (arith, l, g)))
before_trans a b c (inr (e, inr l)) (inr (f, inl m)) = inr (e ∙ f, inl (let g = l.0 in omega (arith, m, g)))
before_trans a b c (inr (e, inr (g, l))) (inr (f, inr (h, m))) = inr (e ∙ f, inr (g ∙ h, omega (arith, l, m)))

pub never_before : (a : Alarm) → AlarmBefore a a → ⊥
never_before a (inl l) = absurd (omega (arith, l))
never_before a (inr (e, inl l)) = absurd (omega (arith, l))
never_before a (inr (e, inr (f, l))) = absurd (omega (arith, l))

pub tail_sorted : (a : Alarm) (rest : List Alarm) → IsStrictlySorted (a ∷ rest) → IsStrictlySorted rest
tail_sorted a [] s = tt
tail_sorted a (b ∷ rest) s = s.1

-- the first comes before the others
pub first_before : (a b : Alarm) (rest : List Alarm) → IsStrictlySorted (a ∷ rest) → Contains rest b → AlarmBefore a b
first_before a b [] s h = absurd (none b h)
first_before a b (c ∷ rest) s h =
    either (λ e. subst (AlarmBefore a) e s.0) (λ more. before_trans a c b s.0 (first_before c b rest s.1 more))
    (cases c b rest h)

-- ## Equal lists

pub same_first : (a b : Alarm) (one other : List Alarm) → IsStrictlySorted (a ∷ one) → IsStrictlySorted (b ∷ other)
    → Contains (b ∷ other) a → Contains (a ∷ one) b → a ≡ b
same_first a b one other s t h k =
    either (λ e. sym e)
    (λ above. either (λ e. e)
    (λ below. absurd (never_before a
    (before_trans a b a (first_before a b one s below) (first_before b a other t above)))) (cases a b one k))
    (cases b a other h)

rest_of : (a b x : Alarm) (one other : List Alarm) → a ≡ b → IsStrictlySorted (a ∷ one)
    → ((y : Alarm) → Contains (a ∷ one) y → Contains (b ∷ other) y) → Contains one x → Contains other x
rest_of a b x one other e s f h =
    either (λ same. absurd (never_before a (subst (AlarmBefore a) (sym (e ∙ same)) (first_before a x one s h))))
    (λ more. more) (cases b x other (f x (later a x one h)))

pub equal_lists : (one other : List Alarm) → IsStrictlySorted one → IsStrictlySorted other
    → ((x : Alarm) → Contains one x → Contains other x) → ((x : Alarm) → Contains other x → Contains one x)
    → one ≡ other
equal_lists [] [] s t f g = refl
equal_lists [] (b ∷ other) s t f g = absurd (none b (g b (first b other)))
equal_lists (a ∷ one) [] s t f g = absurd (none a (f a (first a one)))
equal_lists (a ∷ one) (b ∷ other) s t f g =
    let e = same_first a b one other s t (f a (first a one)) (g b (first b other)) in
    let rest = equal_lists one other (tail_sorted a one s) (tail_sorted b other t)
    (λ x h. rest_of a b x one other e s f h) (λ x h. rest_of b a x other one (sym e) t g h) in
    λ i. e i ∷ rest i
