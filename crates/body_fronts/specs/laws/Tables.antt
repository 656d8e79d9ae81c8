-- Tables over a list of keys, and lists of numbers by a test.
use Rattle.std.specs.Prelude.{◌≡◌, ℕ, zero, suc, ◌<◌, Bool, true, false, List, [], ◌∷◌, length, get_or, Option}
use Rattle.std.specs.Prelude.{Some, None, refl}
use Rattle.std.proofs.Common.{sym, ap, subst, ◌∙◌, inl, inr, arith}
use Rattle.std.proofs.lemmas.Bool.{cases_eq, false≢true}
use Rattle.std.specs.FinMap.{get, get-empty}
use Rattle.std.specs.Ordering.{nat_cmp}
use Rattle.sparse_bodies.specs.task_equations.table_covers.tm_lattice.Tables.{Table}
use Rattle.sparse_bodies.specs.task_equations.table_covers.tm_lattice.laws.TableLaws.{get-insert_here, get-insert_there}
use Rattle.sparse_bodies.specs.task_equations.state_fits.transfer_rows.Accesses.{is_among}
use Rattle.transfer_rows.proofs.Steps.{among_cons, among_here, among_there}
use Rattle.front_constraints.specs.Systems.{AreListed}
use Rattle.body_fronts.specs.BodySystems.{table_with, with_entry}

module _ {V : Type 0} (f : ℕ → Option V) where
  -- another key has what it had
  other_key : (t : Table V) (j k : ℕ) → (k ≡ j → ⊥) → (a : Option V) → get (with_entry t j a) k ≡ get t k
  other_key t j k differ None = refl
  other_key t j k differ (Some v) = get-insert_there t j v k differ

  this_key : (t : Table V) (j k : ℕ) → k ≡ j → (a : Option V) → get t k ≡ None → get (with_entry t j a) k ≡ a
  this_key t j k same None none = none
  this_key t j k same (Some v) none = get-insert_here t j v k same

  -- a key that is not listed has nothing
  pub get-unlisted : (ks : List ℕ) (k : ℕ) → is_among ks k ≡ false → get (table_with f ks) k ≡ None
  get-unlisted [] k h = get-empty nat_cmp k
  get-unlisted (j ∷ ks) k h = elim (cases_eq k j) [
    | inl here ↦ absurd (false≢true (sym h ∙ among_here k j ks here))
    | inr there ↦ other_key (table_with f ks) j k there (f j) ∙ get-unlisted ks k (later (is_among ks k) refl)
  ]
    where
      later : (b : Bool) → is_among ks k ≡ b → is_among ks k ≡ false
      later true is = absurd (false≢true (sym h ∙ among_there k j ks is))
      later false is = is

  again : (t : Table V) (k : ℕ) (a : Option V) → get t k ≡ a → get (with_entry t k a) k ≡ a
  again t k None is = is
  again t k (Some v) is = get-insert_here t k v k refl

  at_head : (ks : List ℕ) (j k : ℕ) → (is_among ks k ≡ true → get (table_with f ks) k ≡ f k) → k ≡ j
      → (b : Bool) → is_among ks k ≡ b → get (table_with f (j ∷ ks)) k ≡ f k
  at_head ks j k rest here true is =
      subst (λ (i : ℕ). get (with_entry (table_with f ks) i (f i)) k ≡ f k) here
      (again (table_with f ks) k (f k) (rest is))
  at_head ks j k rest here false is =
      this_key (table_with f ks) j k here (f j) (get-unlisted ks k is) ∙ ap f (sym here)

  -- and a listed one what there is
  pub get-listed : (ks : List ℕ) (k : ℕ) → is_among ks k ≡ true → get (table_with f ks) k ≡ f k
  get-listed [] k h = absurd (false≢true h)
  get-listed (j ∷ ks) k h = elim (cases_eq k j) [
    | inl here ↦ at_head ks j k (λ is. get-listed ks k is) here (is_among ks k) refl
    | inr there ↦ other_key (table_with f ks) j k there (f j) ∙ get-listed ks k (
        elim (among_cons j k ks h) [ inl here ↦ absurd (there here) | inr later ↦ later ])
  ]

-- what a list has at a place is among it
at_among : (xs : List ℕ) (j : ℕ) → j < length xs → is_among xs (get_or xs j 0) ≡ true
at_among [] j lt = absurd (omega arith)
at_among (x ∷ xs) zero lt = among_here x x xs refl
at_among (x ∷ xs) (suc j) lt = among_there (get_or xs j 0) x xs (at_among xs j (omega arith))

place_of : (xs : List ℕ) (x : ℕ) → is_among xs x ≡ true → (j : ℕ) × ((j < length xs) × (get_or xs j 0 ≡ x))
place_of [] x h = absurd (false≢true h)
place_of (y ∷ xs) x h = elim (among_cons y x xs h) [
  | inl here ↦ (0, (omega arith, sym here))
  | inr there ↦ (let p = place_of xs x there in (suc p.0, (omega (arith, p.1.0), p.1.1)))
]

module _ (test : ℕ → Bool) (xs : List ℕ) (listed : AreListed test xs) where
  pub is_listed : (x : ℕ) → test x ≡ true → is_among xs x ≡ true
  is_listed x h = (let p = listed.all x h in
      subst (λ y. is_among xs y ≡ true) p.1.1 (at_among xs p.0 p.1.0))

  pub is_unlisted : (x : ℕ) → test x ≡ false → is_among xs x ≡ false
  is_unlisted x h = by (is_among xs x) refl
    where
      by : (b : Bool) → is_among xs x ≡ b → is_among xs x ≡ false
      by false is = is
      by true is = (let p = place_of xs x is in
          absurd (false≢true (sym h ∙ ap test (sym p.1.1) ∙ listed.within p.0 p.1.0)))
