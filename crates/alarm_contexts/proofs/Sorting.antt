-- The order of contexts, and of what they are made of.
use Rattle.std.proofs.Common.{◌≡◌, ◌⊎◌, ℕ, suc, ◌+◌, ◌<◌, refl, ap, sym, subst, ◌∙◌, inl, inr, false, List, [], ◌∷◌}
use Rattle.std.proofs.Common.{length, get_or, arith}
use Rattle.std.specs.Prelude.{Contains}
use Rattle.std.specs.List.Sorted.{IsSorted}
use Rattle.std.specs.Ordering.{nat_cmp, bool_cmp, ordering_then, ordering_reverse, MatchOrdering, is_lt, is_eq}
use Rattle.std.specs.declared.cmp.Ordering.{Ordering}
use Rattle.std.specs.declared.cmp.Ordering.TheVariants.{Less, Equal, Greater}
use Rattle.std.proofs.lemmas.Cmp.{ranked}
use Rattle.tm_terms.specs.declared.alarms.Alarm.{Alarm}
use Rattle.tm_terms.specs.contracts.alarms.AlarmOrd.TheImpl as alarm_ord
use Rattle.tm_terms.specs.contracts.alarms.AlarmOrd.TheImpl.Laws.{total-law, matches_eq-law}
use Rattle.tm_terms.specs.Alarms.{AlarmBefore}
use Rattle.access_races.proofs.Joins.{either}
use Rattle.access_races.proofs.Sorting.{is_before, is_same}
use Rattle.alarm_contexts.specs.declared.alarm_context.ContextEdge.{ContextEdge}
use Rattle.alarm_contexts.specs.declared.exits.Context.{Context}
use Rattle.alarm_contexts.specs.contracts.exits.ContextOrd.TheImpl.{cmp-value}
use Rattle.alarm_contexts.specs.declared.flaws.ObjectFlaw.{ObjectFlaw}
use Rattle.access_races.specs.Rising.{AreRising}
use Rattle.alarm_contexts.specs.Order.{IsEdgeBefore, IsFlawBefore}
use Rattle.alarm_contexts.specs.reading.Merging.{edge_of, IsBefore, Precedes}
use Rattle.access_races.proofs.Rising.{none, cases}

-- ## The order of alarms

pub alarm_trans : (a b c : Alarm) → AlarmBefore a b → AlarmBefore b c → AlarmBefore a c
alarm_trans a b c (inl l) (inl m) = inl (omega (arith, l, m))
alarm_trans a b c (inl l) (inr m) = inl (let e = m.0 in omega (arith, l, e))
alarm_trans a b c (inr l) (inl m) = inl (let e = l.0 in omega (arith, m, e))
alarm_trans a b c (inr (e, inl l)) (inr (f, inl m)) = inr (e ∙ f, inl (omega (arith, l, m)))
alarm_trans a b c (inr (e, inl l)) (inr (f, inr m)) = inr (e ∙ f, inl (let g = m.0 in omega (arith, l, g)))
alarm_trans a b c (inr (e, inr l)) (inr (f, inl m)) = inr (e ∙ f, inl (let g = l.0 in omega (arith, m, g)))
alarm_trans a b c (inr (e, inr (g, l))) (inr (f, inr (h, m))) = inr (e ∙ f, inr (g ∙ h, omega (arith, l, m)))

pub alarm_never : (a : Alarm) → AlarmBefore a a → ⊥
alarm_never a (inl l) = absurd (omega (arith, l))
alarm_never a (inr (e, inl l)) = absurd (omega (arith, l))
alarm_never a (inr (e, inr (f, l))) = absurd (omega (arith, l))

-- ## The order of edges

pub edge_trans : (a b c : ContextEdge) → IsEdgeBefore a b → IsEdgeBefore b c → IsEdgeBefore a c
edge_trans a b c (inl l) (inl m) = inl (omega (arith, l, m))
edge_trans a b c (inl l) (inr m) = inl (let e = m.0 in omega (arith, l, e))
edge_trans a b c (inr l) (inl m) = inl (let e = l.0 in omega (arith, m, e))
edge_trans a b c (inr (e, l)) (inr (f, m)) = inr (e ∙ f, omega (arith, l, m))

pub edge_never : (a : ContextEdge) → IsEdgeBefore a a → ⊥
edge_never a (inl l) = absurd (omega (arith, l))
edge_never a (inr (e, l)) = absurd (omega (arith, l))

-- ## The order of flaws

pub flaw_trans : (a b c : ObjectFlaw) → IsFlawBefore a b → IsFlawBefore b c → IsFlawBefore a c
flaw_trans a b c (inl l) (inl m) = inl (omega (arith, l, m))
flaw_trans a b c (inl l) (inr m) = inl (let e = m.0 in omega (arith, l, e))
flaw_trans a b c (inr l) (inl m) = inl (let e = l.0 in omega (arith, m, e))
flaw_trans a b c (inr (e, l)) (inr (f, m)) = inr (e ∙ f, omega (arith, l, m))

pub flaw_never : (a : ObjectFlaw) → IsFlawBefore a a → ⊥
flaw_never a (inl l) = absurd (omega (arith, l))
flaw_never a (inr (e, l)) = absurd (omega (arith, l))

-- ## The order of contexts

abbrev edge : Context → ContextEdge
edge x = edge_of x.exit

is_before_trans : (x y z : Context) → IsBefore x y → IsBefore y z → IsBefore x z
is_before_trans x y z (inl l) (inl m) = inl (alarm_trans x.alarm y.alarm z.alarm l m)
is_before_trans x y z (inl l) (inr m) = inl (subst (AlarmBefore x.alarm) m.0 l)
is_before_trans x y z (inr l) (inl m) = inl (subst (λ a. AlarmBefore a z.alarm) (sym l.0) m)
is_before_trans x y z (inr l) (inr m) = inr (l.0 ∙ m.0, edge_trans (edge x) (edge y) (edge z) l.1 m.1)

after_trans : (x y z : Context) → Precedes x y → Precedes y z → Precedes x z
after_trans x y z (inl h) (inl k) = inl (is_before_trans x y z h k)
after_trans x y z (inl (inl l)) (inr s) = inl (inl (subst (AlarmBefore x.alarm) s.0 l))
after_trans x y z (inl (inr l)) (inr s) = inl (inr (l.0 ∙ s.0, subst (IsEdgeBefore (edge x)) s.1 l.1))
after_trans x y z (inr s) (inl (inl m)) = inl (inl (subst (λ a. AlarmBefore a z.alarm) (sym s.0) m))
after_trans x y z (inr s) (inl (inr m)) = inl (inr (s.0 ∙ m.0, subst (λ e. IsEdgeBefore e (edge z)) (sym s.1) m.1))
after_trans x y z (inr s) (inr r) = inr (s.0 ∙ r.0, s.1 ∙ r.1)

-- of one alarm the edges come one after another
pub edge_after : (x y : Context) → Precedes x y → x.alarm ≡ y.alarm
    → IsEdgeBefore (edge x) (edge y) ⊎ (edge x ≡ edge y)
edge_after x y (inl (inl l)) e = absurd (alarm_never y.alarm (subst (λ a. AlarmBefore a y.alarm) e l))
edge_after x y (inl (inr l)) e = inl l.1
edge_after x y (inr s) e = inr s.1

pub alarm_after : (x y : Context) → Precedes x y → AlarmBefore x.alarm y.alarm ⊎ (x.alarm ≡ y.alarm)
alarm_after x y (inl (inl l)) = inl l
alarm_after x y (inl (inr l)) = inr l.0
alarm_after x y (inr s) = inr s.0

-- ## Sorting

turned : (r : Ordering) → ordering_reverse r ≡ Greater → r ≡ Less
turned Less e = refl
turned Equal e = absurd cc
turned Greater e = absurd cc

alarm_ranked : (a b : Alarm) (r : Ordering) → alarm_ord.cmp-value.it a b ≡ r
    → MatchOrdering r (AlarmBefore a b) (a ≡ b) (AlarmBefore b a)
alarm_ranked a b Less e = is_before a b e
alarm_ranked a b Equal e = is_same a b (matches_eq-law a b ∙ ap is_eq e)
alarm_ranked a b Greater e =
    is_before b a (turned (alarm_ord.cmp-value.it b a) (sym (total-law.antisymm a b) ∙ e))

pub is_after : (x y : Context) → is_lt (cmp-value.it y x) ≡ false → Precedes x y
is_after x y h =
    by_parts (alarm_ord.cmp-value.it y.alarm x.alarm) (nat_cmp y.exit.body x.exit.body)
    (nat_cmp y.exit.edge x.exit.edge) (nat_cmp y.exit.copy x.exit.copy) (bool_cmp y.exit.ends x.exit.ends)
    (alarm_ranked y.alarm x.alarm (alarm_ord.cmp-value.it y.alarm x.alarm) refl)
    (ranked y.exit.body x.exit.body (nat_cmp y.exit.body x.exit.body) refl)
    (ranked y.exit.edge x.exit.edge (nat_cmp y.exit.edge x.exit.edge) refl) h
  where
    by_parts : (a b c l m : Ordering)
        → MatchOrdering a (AlarmBefore y.alarm x.alarm) (y.alarm ≡ x.alarm) (AlarmBefore x.alarm y.alarm)
        → MatchOrdering b (y.exit.body < x.exit.body) (y.exit.body ≡ x.exit.body) (x.exit.body < y.exit.body)
        → MatchOrdering c (y.exit.edge < x.exit.edge) (y.exit.edge ≡ x.exit.edge) (x.exit.edge < y.exit.edge)
        → is_lt (ordering_then a (ordering_then b (ordering_then c (ordering_then l m)))) ≡ false → Precedes x y
    by_parts Less b c l m fa fb fc e = absurd cc
    by_parts Greater b c l m fa fb fc e = inl (inl fa)
    by_parts Equal Less c l m fa fb fc e = absurd cc
    by_parts Equal Greater c l m fa fb fc e = inl (inr (sym fa, inl fb))
    by_parts Equal Equal Less l m fa fb fc e = absurd cc
    by_parts Equal Equal Greater l m fa fb fc e = inl (inr (sym fa, inr (sym fb, fc)))
    by_parts Equal Equal Equal l m fa fb fc e = inr (sym fa, λ i. record { body = (sym fb) i; edge = (sym fc) i })

-- ## Sorted lists

all_after : (x : Context) (xs : List Context)
    → ((k : ℕ) (d : Context) → suc k < length (x ∷ xs)
    → Precedes (get_or (x ∷ xs) k d) (get_or (x ∷ xs) (suc k) d))
    → (y : Context) → Contains xs y → Precedes x y
all_after x [] next y h = absurd (none y h)
all_after x (a ∷ xs) next y h =
    let here : Precedes x a = next 0 x (omega arith) in
    either (λ e. subst (Precedes x) e here)
    (λ more. after_trans x a y here (all_after a xs (λ k d lt. next (suc k) d (omega (arith, lt))) y more))
    (cases a y xs h)

rises : (xs : List Context)
    → ((k : ℕ) (d : Context) → suc k < length xs → Precedes (get_or xs k d) (get_or xs (suc k) d))
    → AreRising Precedes xs
rises [] next = tt
rises (x ∷ xs) next = (
  λ y h. all_after x xs next y h,
  rises xs (λ k d lt. next (suc k) d (omega (arith, lt))),
)

pub rises_sorted : (xs : List Context) → IsSorted cmp-value.it xs → AreRising Precedes xs
rises_sorted xs s = rises xs (λ k d lt.
    let one : k + 1 ≡ suc k = omega arith in
    let there : is_lt (cmp-value.it (get_or xs (k + 1) d) (get_or xs k d)) ≡ false =
    s k d (omega arith) (omega (arith, lt)) in
    is_after (get_or xs k d) (get_or xs (suc k) d)
    (subst (λ n. is_lt (cmp-value.it (get_or xs n d) (get_or xs k d)) ≡ false) one there))
