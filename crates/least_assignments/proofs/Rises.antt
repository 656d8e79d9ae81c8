-- What one value that is brought to a variable does, and what several do one after another.
use Rattle.std.proofs.Common.{◌≡◌, ℕ, ◌+◌, ◌<◌, ◌⊎◌, List, Option, Some, None, IfSome, Bool, true, false, length, get_or, set, sym, ap, subst, ◌∙◌, refl, inl, inr, arith}
use Rattle.std.proofs.lemmas.Bool.{cases_eq, false≢true}
use Rattle.std.proofs.lemmas.List.{length-set}
use Rattle.tm_lattice.specs.declared.lattices.Lattice as lattice
use Rattle.tm_lattice.specs.LatticeLaws.{IsOrder, IsJoin}
use Rattle.tm_lattice.specs.Tables.{IsBelow, joined_value}
use Rattle.least_assignments.specs.Constraints.{Assignment, Constraints, AreLawful, IsPointwiseBelow, at}
use Rattle.least_assignments.specs.Solutions.{AreRound}
use Rattle.least_assignments.specs.reading.WorkLists.{room, IsRise, HoldsAt, HoldsBelow}
use Rattle.least_assignments.proofs.Options as options
use Rattle.least_assignments.proofs.Raised as raised

module _ {V M : Type 0} (values : lattice.Ghosts V M) (suits : ℕ → V → Type 0) (allows : ℕ → Assignment V → Type 0)
    (sys : Constraints V) (order : IsOrder values.is_value values.leq)
    (join : IsJoin values.is_value values.leq values.joined)
    (law : AreLawful values.is_value values.leq values.joined suits allows sys) where
  abbrev Below : Option V → Option V → Type 0
  Below x y = IsBelow values.leq x y

  abbrev Round : List (Option V) → Type 0
  Round xs = AreRound values suits allows sys (at xs)

  abbrev Rise : (Assignment V → Type 0) → List (Option V) → List Bool → List (Option V) → List Bool → Type 0
  Rise Holds xs pending ys later = IsRise values suits allows sys Holds xs pending ys later

  abbrev Upto : ℕ → List ℕ → (ℕ → Option V) → Assignment V → Type 0
  Upto n targets given a = HoldsBelow values suits allows sys n targets given a

  under_itself : (xs : List (Option V)) → Round xs → IsPointwiseBelow sys values.leq (at xs) (at xs)
  under_itself xs round i lt = options.reflexive values suits allows sys order law i (at xs i) (round.fits i lt)

  -- where nothing changes
  pub unmoved : (Holds : Assignment V → Type 0) (xs : List (Option V)) (pending : List Bool) → Round xs → Holds (at xs)
      → Rise Holds xs pending xs pending
  unmoved Holds xs pending round here = record {
    variables = refl;
    constraints = refl;
    round = round;
    above = under_itself xs round;
    holds = here;
    quiet = λ k lt false-at. (false-at, λ i i-lt reads. refl);
    below = λ other closed below held. below;
    fewer = inl (refl, refl);
  }

  -- a value is joined in where it is not below what stands there, and the constraints that read it are marked
  pub risen : (xs : List (Option V)) (pending later : List Bool) (i : ℕ) (v : V) (readers : List ℕ)
      → length xs ≡ sys.variable_count → i < sys.variable_count → Round xs → suits i v
      → (IsBelow values.leq (Some v) (get_or xs i None) → ⊥) → length later ≡ length pending
      → ((k : ℕ) → k < sys.constraint_count → sys.reads k i ≡ true
      → (j : ℕ) × ((j < length readers) × (get_or readers j 0 ≡ k)))
      → ((j : ℕ) → j < length readers → get_or later (get_or readers j 0) true ≡ true)
      → ((k : ℕ) → get_or later k true ≡ false → get_or pending k true ≡ false)
      → Rise (HoldsAt values suits allows sys i v) xs pending
      (set xs i (Some (sys.outward i (joined_value values.joined (get_or xs i None) v)))) later
  risen xs pending later i v readers variables lt round v-fits over len all marked others = record {
    variables = length-set xs i (Some (sys.outward i (joined_value values.joined (get_or xs i None) v)));
    constraints = len;
    round = raised.after_round values suits allows sys order join law xs i v variables lt round v-fits over;
    above = raised.grows values suits allows sys order join law xs i v variables lt round v-fits over;
    holds = raised.holds values suits allows sys order join law xs i v variables lt round v-fits over;
    quiet = λ k k-lt quiet. (
      others k quiet,
      λ n n-lt reads. elim (cases_eq n i) [
        | inl same ↦ absurd (
            let found = all k k-lt (subst (λ m. sys.reads k m ≡ true) same reads) in
            false≢true (sym quiet ∙ sym (ap (λ m. get_or later m true) found.1.1) ∙ marked found.0 found.1.0))
        | inr differ ↦ sym (raised.at_other values suits allows sys order join law xs i v variables lt round v-fits over n differ)
      ],
    );
    below = λ other closed below held. raised.below_closed values suits allows sys order join law xs i v variables lt round
        v-fits over other closed below held;
    fewer = inr (raised.falls values suits allows sys order join law xs i v variables lt round v-fits over);
  }

  -- ## One after another

  fewer_still : (xs ys zs : List (Option V)) (pending later last : List Bool)
      → ((ys ≡ xs) × (later ≡ pending)) ⊎ (room values suits allows sys 0 ys < room values suits allows sys 0 xs)
      → ((zs ≡ ys) × (last ≡ later)) ⊎ (room values suits allows sys 0 zs < room values suits allows sys 0 ys)
      → ((zs ≡ xs) × (last ≡ pending)) ⊎ (room values suits allows sys 0 zs < room values suits allows sys 0 xs)
  fewer_still xs ys zs pending later last (inl same) (inl same') = inl (same'.0 ∙ same.0, same'.1 ∙ same.1)
  fewer_still xs ys zs pending later last (inl same) (inr less) =
      inr (subst (λ l. room values suits allows sys 0 zs < room values suits allows sys 0 l) same.0 less)
  fewer_still xs ys zs pending later last (inr less) (inl same) =
      inr (subst (λ l. room values suits allows sys 0 l < room values suits allows sys 0 xs) (sym same.0) less)
  fewer_still xs ys zs pending later last (inr less) (inr less') = inr (omega (arith, less, less'))

  -- none is brought at first
  pub none_yet : (targets : List ℕ) (given : ℕ → Option V) (xs : List (Option V)) (pending : List Bool) → Round xs
      → Rise (Upto 0 targets given) xs pending xs pending
  none_yet targets given xs pending round = unmoved (Upto 0 targets given) xs pending round (λ j lt. absurd (omega arith))

  module _ (targets : List ℕ) (given : ℕ → Option V)
      (within : (j : ℕ) → j < length targets → get_or targets j 0 < sys.variable_count)
      (fits : (j : ℕ) → j < length targets → IfSome (given j) (suits (get_or targets j 0))) where
    -- the values of these numbers are held as before, and the next one is
    with_next : (n : ℕ) (a : Assignment V) → Upto n targets given a → Below (given n) (a (get_or targets n 0))
        → Upto (n + 1) targets given a
    with_next n a before here j lt = elim (cases_eq j n) [
      | inl same ↦ subst (λ m. Below (given m) (a (get_or targets m 0))) (sym same) here
      | inr differ ↦ before j (omega arith)
    ]

    up : (n : ℕ) (xs ys : List (Option V)) → n < length targets ⊎ (n ≡ length targets) → Round xs → Round ys
        → IsPointwiseBelow sys values.leq (at xs) (at ys) → Upto n targets given (at xs) → Upto n targets given (at ys)
    up n xs ys bound round round' above held j lt =
        let j-lt : j < length targets = elim bound [ inl less ↦ omega (arith, less, lt) | inr same ↦ omega (arith, same, lt) ] in
        let i = get_or targets j 0 in
        let i-lt = within j j-lt in
        options.transitive values suits allows sys order law i (given j) (at xs i) (at ys i) (fits j j-lt)
        (round.fits i i-lt) (round'.fits i i-lt) (held j lt) (above i i-lt)

    -- where the next one is none
    pub passed : (n : ℕ) (xs ys : List (Option V)) (pending later : List Bool) → given n ≡ None
        → Rise (Upto n targets given) xs pending ys later → Rise (Upto (n + 1) targets given) xs pending ys later
    passed n xs ys pending later none rise = record {
      variables = rise.variables;
      constraints = rise.constraints;
      round = rise.round;
      above = rise.above;
      holds = with_next n (at ys) rise.holds
          (subst (λ x. Below x (at ys (get_or targets n 0))) (sym none) tt);
      quiet = rise.quiet;
      below = λ other closed below held. rise.below other closed below (λ j lt. held j (omega arith));
      fewer = rise.fewer;
    }

    -- where the next one is brought
    pub brought : (n : ℕ) (v : V) (xs ys zs : List (Option V)) (pending later last : List Bool) → n < length targets
        → given n ≡ Some v → Round xs
        → Rise (Upto n targets given) xs pending ys later
        → Rise (HoldsAt values suits allows sys (get_or targets n 0) v) ys later zs last
        → Rise (Upto (n + 1) targets given) xs pending zs last
    brought n v xs ys zs pending later last lt is round rise next = record {
      variables = next.variables ∙ rise.variables;
      constraints = next.constraints ∙ rise.constraints;
      round = next.round;
      above = λ i i-lt. options.transitive values suits allows sys order law i (at xs i) (at ys i) (at zs i)
          (round.fits i i-lt) (rise.round.fits i i-lt) (next.round.fits i i-lt) (rise.above i i-lt) (next.above i i-lt);
      holds = with_next n (at zs) (up n ys zs (inl lt) rise.round next.round next.above rise.holds)
          (subst (λ x. Below x (at zs (get_or targets n 0))) (sym is) next.holds);
      quiet = λ k k-lt quiet.
          let later-quiet = next.quiet k k-lt quiet in
          let first = rise.quiet k k-lt later-quiet.0 in
          (first.0, λ i i-lt reads. first.1 i i-lt reads ∙ later-quiet.1 i i-lt reads);
      below = λ other closed below held.
          next.below other closed (rise.below other closed below (λ j j-lt. held j (omega arith)))
          (subst (λ x. Below x (other (get_or targets n 0))) is (held n (omega arith)));
      fewer = fewer_still xs ys zs pending later last rise.fewer next.fewer;
    }
