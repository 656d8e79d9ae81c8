-- The order of accesses.
use Rattle.std.proofs.Common.{◌≡◌, ℕ, suc, ◌+◌, ◌<◌, refl, ap, sym, subst, ◌∙◌, inl, inr, Bool, true}
use Rattle.std.proofs.Common.{false, cond, List, [], ◌∷◌, length, get_or, arith}
use Rattle.std.specs.Prelude.{Contains}
use Rattle.std.specs.List.Sorted.{IsSorted}
use Rattle.std.specs.Ordering.{nat_cmp, bool_cmp, ordering_then, MatchOrdering, is_lt}
use Rattle.std.specs.declared.cmp.Ordering.{Ordering}
use Rattle.std.specs.declared.cmp.Ordering.TheVariants.{Less, Equal, Greater}
use Rattle.std.proofs.lemmas.Cmp.{ranked}
use Rattle.tm_terms.specs.declared.places.Place.{Place}
use Rattle.access_races.proofs.Joins.{either}
use Rattle.access_groups.specs.declared.object_access.ObjectAccess.{ObjectAccess}
use Rattle.access_groups.specs.contracts.object_access.ObjectAccessOrd.TheImpl.{cmp-value}
use Rattle.access_races.specs.Rising.{AreRising}
use Rattle.access_groups.specs.Order.{sort_key, AreBefore, IsBefore}
use Rattle.access_groups.specs.reading.Merging.{Precedes}
use Rattle.access_races.proofs.Rising.{none, cases}

-- ## The order of keys

before_trans : (a b c : List ℕ) → AreBefore a b → AreBefore b c → AreBefore a c
before_trans [] b c h k = absurd h
before_trans (x ∷ xs) [] c h k = absurd h
before_trans (x ∷ xs) (y ∷ ys) [] h k = absurd k
before_trans (x ∷ xs) (y ∷ ys) (z ∷ zs) (inl l) (inl m) = inl (omega (arith, l, m))
before_trans (x ∷ xs) (y ∷ ys) (z ∷ zs) (inl l) (inr m) = inl (let e = m.0 in omega (arith, l, e))
before_trans (x ∷ xs) (y ∷ ys) (z ∷ zs) (inr l) (inl m) = inl (let e = l.0 in omega (arith, m, e))
before_trans (x ∷ xs) (y ∷ ys) (z ∷ zs) (inr l) (inr m) = inr (l.0 ∙ m.0, before_trans xs ys zs l.1 m.1)

never : (a : List ℕ) → AreBefore a a → ⊥
never [] h = h
never (x ∷ xs) (inl l) = absurd (omega (arith, l))
never (x ∷ xs) (inr h) = never xs h.1

pub is_before_trans : (e f g : ObjectAccess) → IsBefore e f → IsBefore f g → IsBefore e g
is_before_trans e f g h k = before_trans (sort_key e) (sort_key f) (sort_key g) h k

pub never_before : (e : ObjectAccess) → IsBefore e e → ⊥
never_before e h = never (sort_key e) h

pub before_alike : (e f g : ObjectAccess) → sort_key e ≡ sort_key f → IsBefore f g → IsBefore e g
before_alike e f g same h = subst (λ r. AreBefore r (sort_key g)) (sym same) h

pub not_alike : (e f : ObjectAccess) → IsBefore e f → sort_key e ≡ sort_key f → ⊥
not_alike e f h same = never (sort_key f) (subst (λ r. AreBefore r (sort_key f)) same h)

after_trans : (e f g : ObjectAccess) → Precedes e f → Precedes f g → Precedes e g
after_trans e f g (inl h) (inl k) = inl (is_before_trans e f g h k)
after_trans e f g (inl h) (inr s) = inl (subst (AreBefore (sort_key e)) s h)
after_trans e f g (inr s) (inl k) = inl (before_alike e f g s k)
after_trans e f g (inr s) (inr r) = inr (s ∙ r)

-- ## Equal keys

kind_same : (x y : Bool) → cond {A = ℕ} x 1 0 ≡ cond {A = ℕ} y 1 0 → x ≡ y
kind_same true true e = refl
kind_same true false e = absurd (omega (arith, e))
kind_same false true e = absurd (omega (arith, e))
kind_same false false e = refl

pub record AreAlike (e f : ObjectAccess) : Type 0 where
  pub place : e.place ≡ f.place
  pub task : e.task ≡ f.task
  pub stores : e.stores ≡ f.stores
  pub held : e.held ≡ f.held

pub alike : (e f : ObjectAccess) → sort_key e ≡ sort_key f → AreAlike e f
alike e f h =
    let line : e.place.line ≡ f.place.line = ap (λ (r : List ℕ). get_or r 0 0) h in
    let col : e.place.col ≡ f.place.col = ap (λ (r : List ℕ). get_or r 1 0) h in
    let kind : cond {A = ℕ} e.stores 1 0 ≡ cond {A = ℕ} f.stores 1 0 = ap (λ (r : List ℕ). get_or r 3 0) h in record {
      place = λ i. record { line = line i; col = col i };
      task = ap (λ (r : List ℕ). get_or r 2 0) h;
      stores = kind_same e.stores f.stores kind;
      held = ap (λ (r : List ℕ). get_or r 4 0) h;
    }

pub keys_same : (e f : ObjectAccess) → AreAlike e f → sort_key e ≡ sort_key f
keys_same e f h =
    λ i. (ap (λ (p : Place). p.line) h.place) i ∷ (ap (λ (p : Place). p.col) h.place) i ∷ h.task i
    ∷ cond (h.stores i) 1 0 ∷ h.held i ∷ []

-- ## Sorting

bool_ranked : (x y : Bool) → MatchOrdering (bool_cmp x y) (cond {A = ℕ} x 1 0 < cond {A = ℕ} y 1 0) (cond {A = ℕ} x 1 0 ≡ cond {A = ℕ} y 1 0)
    (cond {A = ℕ} y 1 0 < cond {A = ℕ} x 1 0)
bool_ranked true true = refl
bool_ranked true false = omega arith
bool_ranked false true = omega arith
bool_ranked false false = refl

abbrev kind : ObjectAccess → ℕ
kind e = cond e.stores 1 0

pub is_after : (e f : ObjectAccess) → is_lt (cmp-value.it f e) ≡ false → Precedes e f
is_after e f h =
    by_parts (nat_cmp f.place.line e.place.line) (nat_cmp f.place.col e.place.col) (nat_cmp f.task e.task)
    (bool_cmp f.stores e.stores) (nat_cmp f.held e.held) (nat_cmp f.free e.free) (bool_cmp f.racing e.racing)
    (ranked f.place.line e.place.line (nat_cmp f.place.line e.place.line) refl)
    (ranked f.place.col e.place.col (nat_cmp f.place.col e.place.col) refl)
    (ranked f.task e.task (nat_cmp f.task e.task) refl) (bool_ranked f.stores e.stores)
    (ranked f.held e.held (nat_cmp f.held e.held) refl) h
  where
    by_parts : (a b c d l m n : Ordering)
        → MatchOrdering a (f.place.line < e.place.line) (f.place.line ≡ e.place.line) (e.place.line < f.place.line)
        → MatchOrdering b (f.place.col < e.place.col) (f.place.col ≡ e.place.col) (e.place.col < f.place.col)
        → MatchOrdering c (f.task < e.task) (f.task ≡ e.task) (e.task < f.task)
        → MatchOrdering d (kind f < kind e) (kind f ≡ kind e) (kind e < kind f)
        → MatchOrdering l (f.held < e.held) (f.held ≡ e.held) (e.held < f.held)
        → is_lt (ordering_then (ordering_then a b)
        (ordering_then c (ordering_then d (ordering_then l (ordering_then m n))))) ≡ false → Precedes e f
    by_parts Less b c d l m n fa fb fc fd fl e' = absurd cc
    by_parts Greater b c d l m n fa fb fc fd fl e' = inl (inl fa)
    by_parts Equal Less c d l m n fa fb fc fd fl e' = absurd cc
    by_parts Equal Greater c d l m n fa fb fc fd fl e' = inl (inr (sym fa, inl fb))
    by_parts Equal Equal Less d l m n fa fb fc fd fl e' = absurd cc
    by_parts Equal Equal Greater d l m n fa fb fc fd fl e' = inl (inr (sym fa, inr (sym fb, inl fc)))
    by_parts Equal Equal Equal Less l m n fa fb fc fd fl e' = absurd cc
    by_parts Equal Equal Equal Greater l m n fa fb fc fd fl e' =
        inl (inr (sym fa, inr (sym fb, inr (sym fc, inl fd))))
    by_parts Equal Equal Equal Equal Less m n fa fb fc fd fl e' = absurd cc
    by_parts Equal Equal Equal Equal Greater m n fa fb fc fd fl e' =
        inl (inr (sym fa, inr (sym fb, inr (sym fc, inr (sym fd, inl fl)))))
    by_parts Equal Equal Equal Equal Equal m n fa fb fc fd fl e' =
        inr (λ i. (sym fa) i ∷ (sym fb) i ∷ (sym fc) i ∷ (sym fd) i ∷ (sym fl) i ∷ [])

-- ## Sorted lists

all_after : (x : ObjectAccess) (xs : List ObjectAccess)
    → ((k : ℕ) (d : ObjectAccess) → suc k < length (x ∷ xs)
    → Precedes (get_or (x ∷ xs) k d) (get_or (x ∷ xs) (suc k) d))
    → (y : ObjectAccess) → Contains xs y → Precedes x y
all_after x [] next y h = absurd (none y h)
all_after x (a ∷ xs) next y h =
    let here : Precedes x a = next 0 x (omega arith) in
    either (λ e. subst (Precedes x) e here)
    (λ more. after_trans x a y here (all_after a xs (λ k d lt. next (suc k) d (omega (arith, lt))) y more))
    (cases a y xs h)

rises : (xs : List ObjectAccess)
    → ((k : ℕ) (d : ObjectAccess) → suc k < length xs → Precedes (get_or xs k d) (get_or xs (suc k) d))
    → AreRising Precedes xs
rises [] next = tt
rises (x ∷ xs) next = (
  λ y h. all_after x xs next y h,
  rises xs (λ k d lt. next (suc k) d (omega (arith, lt))),
)

pub rises_sorted : (xs : List ObjectAccess) → IsSorted cmp-value.it xs → AreRising Precedes xs
rises_sorted xs s = rises xs (λ k d lt.
    let one : k + 1 ≡ suc k = omega arith in
    let there : is_lt (cmp-value.it (get_or xs (k + 1) d) (get_or xs k d)) ≡ false =
    s k d (omega arith) (omega (arith, lt)) in
    is_after (get_or xs k d) (get_or xs (suc k) d)
    (subst (λ n. is_lt (cmp-value.it (get_or xs n d) (get_or xs k d)) ≡ false) one there))
