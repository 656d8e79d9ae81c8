-- The places that the code finds are those at which tasks race.
use Rattle.std.proofs.Common.{◌≡◌, ◌≢◌, ℕ, zero, suc, ◌+◌, ◌<◌, ◌≤◌, ◌==◌, refl, ap, sym, subst, ◌∙◌, Bool, true, false, not, ◌&&◌, ◌||◌, List, [], ◌∷◌, map, length, Option, Some, None, arith, ◌⊎◌, inl, inr}
use Rattle.std.specs.Prelude.{Contains, IsTrue}
use Rattle.std.specs.List.{range_with_len, dedup}
use Rattle.std.specs.List.Sorted.{IsStrictlySortedBy, IsSorted, IsPermutation}
use Rattle.std.specs.Ordering.{nat_cmp, ordering_then, MatchOrdering}
use Rattle.std.specs.List.Retain.{IsFiltered, DiffersFromLast}
use Rattle.std.proofs.lemmas.List.Filters.{dedup_is}
use Rattle.std.specs.declared.cmp.Ordering.{Ordering}
use Rattle.std.specs.declared.cmp.Ordering.TheVariants.{Less, Equal, Greater}
use Rattle.std.proofs.lemmas.Bool.{eq-eqb, eqb-true}
use native.Mathlib.Decide.{ℕ_discrete}
use Rattle.std.proofs.lemmas.Cmp.{ranked}
use Rattle.std.proofs.lemmas.List.Elements.{Contains-append_left, Contains-append_right, Contains-append_cases}
use Rattle.std.proofs.lemmas.List.Kept.{IsStrictlySortedBy-dedup, Contains-dedup, Contains-from_dedup}
use Rattle.std.proofs.lemmas.List.Sorted.{Contains-permutation, IsPermutation-sym}
use Rattle.std.proofs.lemmas.Map.Keys.{Less-from_sorted, sorted_tail}
use Rattle.tm_terms.specs.declared.places.Place.{Place}
use Rattle.tm_terms.specs.contracts.places.PlaceOrd.TheImpl.{cmp-value}
use Rattle.tm_terms.specs.contracts.places.PlaceOrd.TheImpl.Laws.{total-law, matches_eq-law}
use Rattle.tm_terms.specs.contracts.places.PlacePartialEq.TheImpl.{eq-value}
use Rattle.tm_terms.specs.contracts.places.PlaceEq.TheImpl.Laws.{laws-law}
use Rattle.tm_laid.specs.Layouts.{LaidTree}
use Rattle.concrete_values.specs.declared.actions.Next.{Next}
use Rattle.concrete_values.specs.declared.actions.Next.TheVariants as Acts
use Rattle.concrete_steps.specs.Worlds.{World, next_at, tasks_may_run}
use Rattle.concrete_steps.specs.Occurring.{IsAccess, a_load_there, a_store_there, IsRace}
use Rattle.concrete_worlds.specs.declared.accesses.Access.{Access}
use Rattle.concrete_worlds.specs.Races.{PlaceBefore, AreStrictlySorted, AreRaces}
use Rattle.concrete_worlds.specs.reading.Access.{access_of, access_after, accesses_after, races_with, races_with_some, place_if, race_of, races_from}

-- ## Tests

or_cases : (x y : Bool) → (x || y) ≡ true → (x ≡ true) ⊎ (y ≡ true)
or_cases true y e = inl refl
or_cases false y e = inr e

or_right : (x y : Bool) → y ≡ true → (x || y) ≡ true
or_right true y e = refl
or_right false y e = e

or_left : (x y : Bool) → x ≡ true → (x || y) ≡ true
or_left true y e = refl
or_left false y e = absurd cc

both_of : (x y : Bool) → (x && y) ≡ true → (x ≡ true) × (y ≡ true)
both_of true y e = (refl, e)
both_of false y e = absurd cc

both : (x y : Bool) → x ≡ true → y ≡ true → (x && y) ≡ true
both true y e h = h
both false y e h = absurd cc

differs : (j i : ℕ) → not (j == i) ≡ true → j ≢ i
differs j i e same = let clash : false ≡ true = sym (ap not (eq-eqb j i same)) ∙ e in absurd cc

differ : (j i : ℕ) → j ≢ i → not (j == i) ≡ true
differ j i ne = by_test (j == i) refl
  where
    by_test : (b : Bool) → (j == i) ≡ b → not (j == i) ≡ true
    by_test true e = absurd (ne (eqb-true j i e))
    by_test false e = ap not e

-- ## Accesses

access_case : (action : Next) (a : Access) → access_of action ≡ Some a → IsAccess a.object a.offset action a.stores a.place
access_case (Acts.Load o k s v p) a e =
    let q : record { object = o; offset = k; stores = false; place = p } ≡ a = cc in
    subst (λ (z : Access). IsAccess z.object z.offset (Acts.Load o k s v p) z.stores z.place) q a_load_there
access_case (Acts.Store o k s x p) a e =
    let q : record { object = o; offset = k; stores = true; place = p } ≡ a = cc in
    subst (λ (z : Access). IsAccess z.object z.offset (Acts.Store o k s x p) z.stores z.place) q a_store_there
access_case (Acts.Chosen low high) a e = absurd cc
access_case (Acts.Clear o) a e = absurd cc
access_case (Acts.Lock m p) a e = absurd cc
access_case (Acts.Unlock m p) a e = absurd cc
access_case Acts.Yield a e = absurd cc
access_case (Acts.Probe m p) a e = absurd cc
access_case (Acts.Fault class p) a e = absurd cc
access_case Acts.Ended a e = absurd cc
access_case Acts.Spins a e = absurd cc
access_case Acts.Misfit a e = absurd cc

access_is : (o k : ℕ) (action : Next) (b : Bool) (p : Place) → IsAccess o k action b p
    → access_of action ≡ Some (record { object = o; offset = k; stores = b; place = p })
access_is o k _ _ _ a_load_there = refl
access_is o k _ _ _ a_store_there = refl

-- ## One access and those of the other tasks

some_true : (A : ℕ → Option Access) (i : ℕ) (a : Access) (j m : ℕ) → races_with_some i a j (map A (range_with_len j m)) ≡ true
    → (o : ℕ) × (o < j + m) × (o ≢ i) × (races_with a (A o) ≡ true)
some_true A i a j zero e = absurd cc
some_true A i a j (suc m) e = by_side (some_true A i a (j + 1) m) (or_cases (not (j == i) && races_with a (A j)) _ e)
  where
    by_side : (races_with_some i a (j + 1) (map A (range_with_len (j + 1) m)) ≡ true → (o : ℕ) × (o < j + 1 + m) × (o ≢ i) × (races_with a (A o) ≡ true))
        → ((not (j == i) && races_with a (A j)) ≡ true) ⊎ (races_with_some i a (j + 1) (map A (range_with_len (j + 1) m)) ≡ true)
        → (o : ℕ) × (o < j + suc m) × (o ≢ i) × (races_with a (A o) ≡ true)
    by_side rest (inl h) = let b = both_of (not (j == i)) (races_with a (A j)) h in (j, omega arith, differs j i b.0, b.1)
    by_side rest (inr h) = let r = rest h in (r.0, omega (arith, r.1), r.2, r.3)

some_of : (A : ℕ → Option Access) (i : ℕ) (a : Access) (j m o : ℕ) → j ≤ o → o < j + m → o ≢ i → races_with a (A o) ≡ true
    → races_with_some i a j (map A (range_with_len j m)) ≡ true
some_of A i a j zero o l h ne e = absurd (omega (arith, l, h))
some_of A i a j (suc m) o l h ne e =
    by_place (λ q. some_of A i a (j + 1) m o (omega (arith, l, q)) (omega (arith, h)) ne e) (ℕ_discrete j o)
  where
    by_place : (j ≢ o → races_with_some i a (j + 1) (map A (range_with_len (j + 1) m)) ≡ true) → Dec (j ≡ o)
        → races_with_some i a j (map A (range_with_len j (suc m))) ≡ true
    by_place rest (yes q) =
        or_left (not (j == i) && races_with a (A j)) _
        (both _ _ (differ j i (λ s. ne (sym q ∙ s))) (ap (λ z. races_with a (A z)) q ∙ e))
    by_place rest (no q) = or_right (not (j == i) && races_with a (A j)) _ (rest q)

-- ## All accesses

one_place : (b : Bool) (p q : Place) → Contains (place_if b p) q → (b ≡ true) × (p ≡ q)
one_place true p q (zero, h, e) = (refl, e)
one_place true p q (suc k, h, e) = absurd (omega (arith, h))
one_place false p q (k, h, e) = absurd (omega (arith, h))

race_case : (all : List (Option Access)) (i : ℕ) (x : Option Access) (p : Place) → Contains (race_of all i x) p
    → (a : Access) × (x ≡ Some a) × (races_with_some i a 0 all ≡ true) × (a.place ≡ p)
race_case all i None p (k, h, e) = absurd (omega (arith, h))
race_case all i (Some a) p c = let r = one_place (races_with_some i a 0 all) a.place p c in (a, refl, r.0, r.1)

race_is : (all : List (Option Access)) (i : ℕ) (a : Access) → races_with_some i a 0 all ≡ true → Contains (race_of all i (Some a)) a.place
race_is all i a e = subst (λ b. Contains (place_if b a.place) a.place) (sym e) (zero, omega arith, refl)

from_case : (A : ℕ → Option Access) (all : List (Option Access)) (k m : ℕ) (p : Place) → Contains (races_from all k (map A (range_with_len k m))) p
    → (i : ℕ) × (i < k + m) × Contains (race_of all i (A i)) p
from_case A all k zero p (j, h, e) = absurd (omega (arith, h))
from_case A all k (suc m) p c =
    by_side (from_case A all (k + 1) m p) (Contains-append_cases (race_of all k (A k)) (races_from all (k + 1) (map A (range_with_len (k + 1) m))) p c)
  where
    by_side : (Contains (races_from all (k + 1) (map A (range_with_len (k + 1) m))) p → (i : ℕ) × (i < k + 1 + m) × Contains (race_of all i (A i)) p)
        → Contains (race_of all k (A k)) p ⊎ Contains (races_from all (k + 1) (map A (range_with_len (k + 1) m))) p
        → (i : ℕ) × (i < k + suc m) × Contains (race_of all i (A i)) p
    by_side rest (inl h) = (k, omega arith, h)
    by_side rest (inr h) = let r = rest h in (r.0, omega (arith, r.1), r.2)

from_is : (A : ℕ → Option Access) (all : List (Option Access)) (k m i : ℕ) (p : Place) → k ≤ i → i < k + m → Contains (race_of all i (A i)) p
    → Contains (races_from all k (map A (range_with_len k m))) p
from_is A all k zero i p l h c = absurd (omega (arith, l, h))
from_is A all k (suc m) i p l h c =
    by_place (λ q. from_is A all (k + 1) m i p (omega (arith, l, q)) (omega (arith, h)) c) (ℕ_discrete k i)
  where
    by_place : (k ≢ i → Contains (races_from all (k + 1) (map A (range_with_len (k + 1) m))) p) → Dec (k ≡ i)
        → Contains (races_from all k (map A (range_with_len k (suc m)))) p
    by_place rest (yes q) = Contains-append_left (race_of all k (A k)) _ p (subst (λ z. Contains (race_of all z (A z)) p) (sym q) c)
    by_place rest (no q) = Contains-append_right (race_of all k (A k)) _ p (rest q)

-- ## Races

abbrev access_at : LaidTree → World → ℕ → Option Access
access_at laid w i = access_of (next_at laid w i)

abbrev pub accesses_of : LaidTree → World → List (Option Access)
accesses_of laid w = map (λ i. access_of (next_at laid w i)) (range_with_len 0 (length laid.file.tasks))

abbrev pub found_races : LaidTree → World → List Place
found_races laid w = races_from (accesses_of laid w) 0 (accesses_of laid w)

with_other : (laid : LaidTree) (w : World) (i o : ℕ) (a : Access) (x : Option Access) → i < length laid.file.tasks → o < length laid.file.tasks
    → o ≢ i → access_at laid w i ≡ Some a → access_at laid w o ≡ x → races_with a x ≡ true → IsRace laid w i o a.place
with_other laid w i o a None li lo ne e f r = absurd cc
with_other laid w i o a (Some b) li lo ne e f r =
    let one = both_of (a.object == b.object && a.offset == b.offset) (a.stores || b.stores) r in
    let two = both_of (a.object == b.object) (a.offset == b.offset) one.0 in
    record {
      tasks = (li, lo, (λ s. ne (sym s)));
      object = a.object;
      offset = a.offset;
      stores = a.stores;
      other_stores = b.stores;
      other_place = b.place;
      access = access_case (next_at laid w i) a e;
      other = subst (λ z. IsAccess z a.offset (next_at laid w o) b.stores b.place) (sym (eqb-true a.object b.object two.0))
          (subst (λ z. IsAccess b.object z (next_at laid w o) b.stores b.place) (sym (eqb-true a.offset b.offset two.1))
          (access_case (next_at laid w o) b f));
      store = or_cases a.stores b.stores one.1;
    }

race_found : (laid : LaidTree) (w : World) (p : Place) → Contains (found_races laid w) p → (i : ℕ) × (o : ℕ) × IsRace laid w i o p
race_found laid w p c =
    let n = length laid.file.tasks in
    let r = from_case (access_at laid w) (accesses_of laid w) 0 n p c in
    let q = race_case (accesses_of laid w) r.0 (access_at laid w r.0) p r.2 in
    let s = some_true (access_at laid w) r.0 q.0 0 n q.2 in (
      r.0,
      s.0,
      subst (λ z. IsRace laid w r.0 s.0 z) q.3
          (with_other laid w r.0 s.0 q.0 (access_at laid w s.0) (omega (arith, r.1)) (omega (arith, s.1)) s.2 q.1 refl s.3),
    )

races_there : (laid : LaidTree) (w : World) (i o : ℕ) (p : Place) (h : IsRace laid w i o p)
    → races_with (record { object = h.object; offset = h.offset; stores = h.stores; place = p }) (access_at laid w o) ≡ true
races_there laid w i o p h =
    ap (λ z. races_with (record { object = h.object; offset = h.offset; stores = h.stores; place = p }) z)
    (access_is h.object h.offset (next_at laid w o) h.other_stores h.other_place h.other)
    ∙ both _ _ (both _ _ (eq-eqb h.object h.object refl) (eq-eqb h.offset h.offset refl)) (either h.stores h.other_stores h.store)
  where
    either : (x y : Bool) → IsTrue x ⊎ IsTrue y → (x || y) ≡ true
    either x y (inl e) = or_left x y e
    either x y (inr e) = or_right x y e

found_race : (laid : LaidTree) (w : World) (i o : ℕ) (p : Place) → IsRace laid w i o p → Contains (found_races laid w) p
found_race laid w i o p h =
    let n = length laid.file.tasks in
    let A = access_at laid w in
    let a : Access = record { object = h.object; offset = h.offset; stores = h.stores; place = p } in
    let is : access_at laid w i ≡ Some a = access_is h.object h.offset (next_at laid w i) h.stores p h.access in
    let some : races_with_some i a 0 (accesses_of laid w) ≡ true =
    some_of (access_at laid w) i a 0 n o (omega arith) (omega (arith, h.tasks.1)) (λ s. h.tasks.2 (sym s)) (races_there laid w i o p h) in
    from_is (access_at laid w) (accesses_of laid w) 0 n i p (omega arith) (omega (arith, h.tasks.0))
    (subst (λ x. Contains (race_of (accesses_of laid w) i x) p) (sym is) (race_is (accesses_of laid w) i a some))

-- ## The order

before_by : (a b c d : ℕ) (r s : Ordering) → MatchOrdering r (a < b) (a ≡ b) (b < a) → MatchOrdering s (c < d) (c ≡ d) (d < c)
    → ordering_then r s ≡ Less → (a < b) ⊎ ((a ≡ b) × (c < d))
before_by a b c d Less s m n e = inl m
before_by a b c d Equal Less m n e = inr (m, n)
before_by a b c d Equal Equal m n e = absurd cc
before_by a b c d Equal Greater m n e = absurd cc
before_by a b c d Greater s m n e = absurd cc

pub is_before : (p q : Place) → cmp-value.it p q ≡ Less → PlaceBefore p q
is_before p q e =
    before_by p.line q.line p.col q.col (nat_cmp p.line q.line) (nat_cmp p.col q.col)
    (ranked p.line q.line (nat_cmp p.line q.line) refl) (ranked p.col q.col (nat_cmp p.col q.col) refl) e

pub is_same : (p q : Place) → eq-value.it p q ≡ true → p ≡ q
is_same p q e =
    let b = both_of (p.line == q.line) (p.col == q.col) e in
    ap (λ z. record { line = z; col = p.col }) (eqb-true p.line q.line b.0) ∙ ap (λ z. record { line = q.line; col = z }) (eqb-true p.col q.col b.1)

strictly : (R : Place → Place → Ordering) → ((p q : Place) → R p q ≡ Less → PlaceBefore p q) → (ps : List Place) → IsStrictlySortedBy R ps
    → AreStrictlySorted ps
strictly R less [] s = tt
strictly R less (p ∷ []) s = tt
strictly R less (p ∷ q ∷ ps) s =
    (less p q (Less-from_sorted R (p ∷ q ∷ ps) 0 1 p s (omega arith) (omega arith)), strictly R less (q ∷ ps) (sorted_tail R p (q ∷ ps) s))

same_accesses : (laid : LaidTree) (w : World) → accesses_after laid w.answers (length laid.file.tasks) ≡ accesses_of laid w
unfolding next_at access_after
same_accesses laid w = refl

-- the places found, sorted and each once
pub are_races : (laid : LaidTree) (w : World) (all : List (Option Access)) (ps qs rs : List Place) → w.stopped ≡ false → tasks_may_run laid w ≡ true
    → all ≡ accesses_after laid w.answers (length laid.file.tasks)
    → ps ≡ races_from all 0 all → IsPermutation ps qs → IsSorted cmp-value.it qs → IsFiltered (DiffersFromLast eq-value.it) [] qs rs → AreRaces laid w rs
are_races laid w all ps qs rs runs begun es e perm sorted filtered =
    let found : ps ≡ found_races laid w = e ∙ ap (λ z. races_from z 0 z) (es ∙ same_accesses laid w) in
    let kept : rs ≡ dedup eq-value.it qs = dedup_is eq-value.it qs rs filtered in
    record {
      sorted = strictly cmp-value.it is_before rs (subst (IsStrictlySortedBy cmp-value.it) (sym kept) (IsStrictlySortedBy-dedup total-law matches_eq-law qs sorted));
      all = λ p h. subst (λ z. Contains z p) (sym kept) (Contains-dedup laws-law is_same qs p (Contains-permutation ps qs p perm
          (subst (λ z. Contains z p) (sym found) (found_race laid w h.one h.other p h.races))));
      only = λ p c.
          let r = race_found laid w p (subst (λ z. Contains z p) found
          (Contains-permutation qs ps p (IsPermutation-sym ps qs perm) (Contains-from_dedup eq-value.it qs p (subst (λ z. Contains z p) kept c)))) in
          record { runs = runs; begun = begun; one = r.0; other = r.1; races = r.2 };
    }

-- none where an error has stopped the run, or the initial section is not done
pub no_races_stopped : (laid : LaidTree) (w : World) → w.stopped ≡ true → AreRaces laid w []
no_races_stopped laid w e = record {
  sorted = tt;
  all = λ p h. let clash : true ≡ false = sym e ∙ h.runs in absurd cc;
  only = λ p c. absurd (omega (arith, c.1));
}

pub no_races_before : (laid : LaidTree) (w : World) → tasks_may_run laid w ≡ false → AreRaces laid w []
no_races_before laid w e = record {
  sorted = tt;
  all = λ p h. let clash : true ≡ false = sym h.begun ∙ e in absurd cc;
  only = λ p c. absurd (omega (arith, c.1));
}
