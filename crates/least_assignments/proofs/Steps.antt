-- What one step of the work list keeps, where it begins and where it ends.
use Rattle.std.proofs.Common.{◌≡◌, ℕ, suc, ◌+◌, ◌*◌, ◌<◌, ◌≤◌, ◌⊎◌, List, Option, None, Bool, true, false, cond, length, get_or, set, sym, ap, subst, ◌∙◌, inl, inr, arith}
use Rattle.std.specs.List.{count_by}
use Rattle.std.proofs.lemmas.Bool.{cases_eq}
use Rattle.std.proofs.lemmas.List.{get_or-set_other, length-set}
use Rattle.std.proofs.lemmas.List.Sums.{sum_by-set, count_by-le-length}
use Rattle.std.proofs.Math.Nat.{mul-le-mul_right}
use Rattle.tm_lattice.specs.declared.lattices.Lattice as lattice
use Rattle.tm_lattice.specs.LatticeLaws.{IsOrder}
use Rattle.tm_lattice.specs.Tables.{IsBelow}
use Rattle.least_assignments.specs.Constraints.{Assignment, Constraints, AreLawful, AgreeFor, at}
use Rattle.least_assignments.specs.Constraints.{target_count, target}
use Rattle.least_assignments.specs.Solutions.{AreRound, IsDone, AreDoneOrPending, IsMet}
use Rattle.least_assignments.specs.reading.WorkLists.{room, left, IsRise, IsStep, HoldsBelow}
use Rattle.least_assignments.proofs.Options as options

module _ {V M : Type 0} (values : lattice.Ghosts V M) (suits : ℕ → V → Type 0) (allows : ℕ → Assignment V → Type 0)
    (sys : Constraints V) (order : IsOrder values.is_value values.leq)
    (law : AreLawful values.is_value values.leq values.joined suits allows sys) where
  abbrev Below : Option V → Option V → Type 0
  Below x y = IsBelow values.leq x y

  -- products: one less of the room outweighs all pending constraints
  outweighs : (r r' e p p' : ℕ) → r' < r → p' ≤ e → r' * (e + 1) + p' < r * (e + 1) + p
  outweighs r r' e p p' lt le =
      let more = mul-le-mul_right (e + 1) lt in
      let split : suc r' * (e + 1) ≡ r' * (e + 1) + (e + 1) = omega arith in
      omega arith

  one-fewer : (pending : List Bool) (k : ℕ) → k < length pending → get_or pending k true ≡ true
      → count_by (λ b. b) (set pending k false) < count_by (λ b. b) pending
  one-fewer pending k lt is =
      let one : Bool → ℕ = λ b. cond b 1 0 in
      let sums = sum_by-set one pending k false true lt in
      let was : one (get_or pending k true) ≡ 1 = ap one is in
      omega arith

  smaller : (xs ys : List (Option V)) (pending later : List Bool) (k : ℕ) → length pending ≡ sys.constraint_count
      → k < sys.constraint_count → get_or pending k true ≡ true → length later ≡ length (set pending k false)
      → ((ys ≡ xs) × (later ≡ set pending k false)) ⊎ (room values suits allows sys 0 ys < room values suits allows sys 0 xs)
      → left values suits allows sys ys later < left values suits allows sys xs pending
  smaller xs ys pending later k len lt is len' (inl same) =
      let fewer = one-fewer pending k (omega (arith, len, lt)) is in
      subst (λ l. left values suits allows sys l later < left values suits allows sys xs pending) (sym same.0)
      (subst (λ l. left values suits allows sys xs l < left values suits allows sys xs pending) (sym same.1)
      (omega (arith, fewer)))
  smaller xs ys pending later k len lt is len' (inr less) =
      let count = count_by-le-length (λ (b : Bool). b) later in
      let same = length-set pending k false in
      outweighs _ _ _ _ _ less (omega (arith, count, same, len, len'))

  -- A constraint was applied, and what it brings was brought.
  module _ (xs ys : List (Option V)) (pending later : List Bool) (k : ℕ) (all : List (Option V))
      (variables : length xs ≡ sys.variable_count) (constraints : length pending ≡ sys.constraint_count)
      (lt : k < sys.constraint_count) (is : get_or pending k true ≡ true)
      (round : AreRound values suits allows sys (at xs)) (done : AreDoneOrPending values suits allows sys (at xs) pending)
      (allowed : allows k (at xs))
      (gives : (j : ℕ) → j < target_count sys k → get_or all j None ≡ sys.gives k (at xs) j)
      (rise : IsRise values suits allows sys (HoldsBelow values suits allows sys (target_count sys k) (sys.targets k) (at all))
      xs (set pending k false) ys later) where
    -- the constraint itself holds what it brought
    here : AgreeFor sys k (at xs) (at ys) → IsMet values suits allows sys k (at ys)
    here agree j j-lt =
        subst (λ x. Below x (at ys (target sys k j))) (gives j j-lt ∙ law.local k (at xs) (at ys) j lt agree j-lt)
        (rise.holds j j-lt)

    -- another one holds what it held
    there : (n : ℕ) → n < sys.constraint_count → AgreeFor sys n (at xs) (at ys) → IsMet values suits allows sys n (at xs)
        → IsMet values suits allows sys n (at ys)
    there n n-lt agree met j j-lt =
        let i = target sys n j in
        let i-lt = law.target_within n j n-lt j-lt in
        subst (λ x. Below x (at ys i)) (law.local n (at xs) (at ys) j n-lt agree j-lt)
        (options.transitive values suits allows sys order law i (sys.gives n (at xs) j) (at xs i) (at ys i)
        (law.gives_fits n (at xs) j n-lt round.fits j-lt) (round.fits i i-lt) (rise.round.fits i i-lt) (met j j-lt)
        (rise.above i i-lt))

    all_done : AreDoneOrPending values suits allows sys (at ys) later
    all_done n n-lt quiet =
        let first = rise.quiet n n-lt quiet in
        elim (cases_eq n k) [
          | inl same ↦ subst (λ m. IsDone values suits allows sys m (at ys)) (sym same) (
              let agree = subst (λ m. AgreeFor sys m (at xs) (at ys)) same first.1 in
              record { met = here agree; allowed = law.allows_local k (at xs) (at ys) lt agree allowed })
          | inr differ ↦ (
              let before = done n n-lt (sym (get_or-set_other pending k n false true differ) ∙ first.0) in
              record {
                met = there n n-lt first.1 before.met;
                allowed = law.allows_local n (at xs) (at ys) n-lt first.1 before.allowed;
              })
        ]

    pub stepped : IsStep values suits allows sys xs pending ys later
    stepped = record {
      variables = rise.variables;
      constraints = rise.constraints ∙ length-set pending k false;
      round = rise.round;
      done = all_done;
      risen = rise.above;
      least = λ other closed below.
          rise.below other closed below (λ j j-lt.
          let i = target sys k j in
          let i-lt = law.target_within k j lt j-lt in
          subst (λ x. Below x (other i)) (sym (gives j j-lt))
          (options.transitive values suits allows sys order law i (sys.gives k (at xs) j) (sys.gives k other j) (other i)
          (law.gives_fits k (at xs) j lt round.fits j-lt) (law.gives_fits k other j lt closed.round.fits j-lt)
          (closed.round.fits i i-lt)
          (law.monotone k (at xs) other j lt round.fits closed.round.fits below j-lt) (closed.met k lt j j-lt)));
      smaller = smaller xs ys pending later k constraints lt is rise.constraints rise.fewer;
    }
