-- Operands, their conversions, and what stands at the right of an operator.
use Rattle.std.proofs.Common.{◌≡◌, refl, sym, ap, subst, ◌∙◌, ℕ, suc, Bool, true, false, List, [], ◌∷◌, ◌++◌}
use Rattle.std.proofs.Common.{length, Option, Some, None, slice_get, ℤ}
use Rattle.std.specs.Prelude.{◌≤ℤ◌, int_le, if◌then◌else◌}
use Rattle.std.proofs.lemmas.Bool.{and_from, false≢true}
use Rattle.std.proofs.lemmas.Int.{ints}
use Rattle.std.proofs.Common.{arith}
use Rattle.temporary_types.specs.tm_cint.declared.int_types.IntType.{IntType}
use Rattle.temporary_types.specs.tm_cint.declared.int_types.IntType.TheVariants as Ints
use Rattle.temporary_types.specs.tm_cint.declared.operators.BinOp.{BinOp}
use Rattle.temporary_types.specs.tm_cint.declared.operators.BinOp.TheVariants as Bins
use Rattle.temporary_types.specs.tm_cint.IntTypes.{lo_of, hi_of, IsIn}
use Rattle.temporary_types.specs.tm_cint.Conversions.{converted_value, represents_all}
use Rattle.temporary_types.specs.tm_cint.Operators.{result_type}
use Rattle.temporary_types.specs.tm_typed.Rules.{is_comparison, FitsRight}
use Rattle.temporary_types.specs.tm_laid.Layouts.{LaidTree}
use Rattle.temporary_types.specs.Sorts.{Sort, numbers, Holds, HoldsRight, outcome_type}
use Rattle.lowering_laws.specs.lowering.Steps.{Steps, Code}
use Rattle.lowering_laws.specs.lowering.Table.{Conversion, conversion, convert_then, converted_at, more_after, operands}
use Rattle.operation_laws.proofs.Within.{within_self, truth_within, within_through, holds_wider, holds_mapped}
use Rattle.operation_laws.proofs.StepSorts.{StepsFit, CodeFits}
use Rattle.operation_laws.proofs.Growing.{Grows, grows_same, grows_end, at_end, length_end}

-- ## Conversions

-- a conversion makes numbers of the one type numbers of the other
abbrev pub Converts : Conversion → IntType → IntType → Type 0
Converts None a t = represents_all t a ≡ true
Converts (Some c) a t = (represents_all c.0 a ≡ true) × (represents_all t c.1 ≡ true)

pub conversion_converts : (from to a : IntType) → represents_all from a ≡ true → Converts (conversion from to) a to
conversion_converts from to a h = by_test (represents_all to from) refl
  where
    by_test : (b : Bool) → represents_all to from ≡ b → Converts (if b then None else Some (from, to)) a to
    by_test true e = within_through (numbers a) (numbers from) (numbers to) h e
    by_test false e = (h, within_self (numbers to))

-- the sorts of the variables after a conversion
abbrev pub convert_vars : Conversion → List Sort → List Sort
convert_vars None vs = vs
convert_vars (Some c) vs = vs ++ numbers c.1 ∷ []

pub convert_grows : (c : Conversion) (vs : List Sort) → Grows vs (convert_vars c vs)
convert_grows None vs = grows_same vs
convert_grows (Some c) vs = grows_end vs (numbers c.1)

pub convert_count : (c : Conversion) (vs : List Sort) (n : ℕ) → length vs ≡ n
    → length (convert_vars c vs) ≡ more_after c n
convert_count None vs n e = e
convert_count (Some c) vs n e = length_end vs (numbers c.1) ∙ ap suc e

-- the variable that was given last
pub last_is : (vs : List Sort) (s : Sort) (n : ℕ) → length vs ≡ n → slice_get (vs ++ s ∷ []) n ≡ Some s
last_is vs s n e = ap (slice_get (vs ++ s ∷ [])) (sym e) ∙ at_end vs s

pub converted_is : (c : Conversion) (vs : List Sort) (v n : ℕ) (a t : IntType) → slice_get vs v ≡ Some (numbers a)
    → length vs ≡ n → Converts c a t → Holds (convert_vars c vs) (converted_at c v n) (numbers t)
converted_is None vs v n a t e l k = (numbers a, e, k)
converted_is (Some c) vs v n a t e l k = (numbers c.1, last_is vs (numbers c.1) n l, k.1)

pub holds_grown : (vs ws : List Sort) → Grows vs ws → (v : ℕ) (s : Sort) → Holds vs v s → Holds ws v s
holds_grown vs ws g v s h = holds_mapped (λ x. x) vs ws g v s h

-- ## Operators

-- a type that takes each converted value has all values of the other type
pub all_of : (t u : IntType) → ((z : ℤ) → IsIn t (converted_value z u)) → represents_all t u ≡ true
all_of t u h =
    let low : IsIn t (lo_of u) = subst (λ (z : ℤ). IsIn t z) (low_kept u) (h (lo_of u)) in
    let high : IsIn t (hi_of u) = subst (λ (z : ℤ). IsIn t z) (high_kept u) (h (hi_of u)) in
    and_from (int_le (lo_of t) (lo_of u)) (int_le (hi_of u) (hi_of t)) (le_is (lo_of t) (lo_of u) low.at_least)
    (le_is (hi_of u) (hi_of t) high.at_most)
  where
    le_is : (p q : ℤ) → p ≤ℤ q → int_le p q ≡ true
    le_is p q l = sym (omega (arith, ints))

    low_kept : (x : IntType) → converted_value (lo_of x) x ≡ lo_of x
    low_kept Ints.Bool = refl
    low_kept _ = refl

    high_kept : (x : IntType) → converted_value (hi_of x) x ≡ hi_of x
    high_kept Ints.Bool = refl
    high_kept _ = refl

-- what fits there may stand at the right of an operator
pub right_fits : (op : BinOp) (t u : IntType) → FitsRight op t u → (vs : List Sort) (v : ℕ) → Holds vs v (numbers u)
    → HoldsRight vs op t v
right_fits Bins.Shl t u f vs v h = (u, h)
right_fits Bins.Shr t u f vs v h = (u, h)
right_fits _ t u f vs v h = holds_wider vs v (numbers u) (numbers t) h (all_of t u f.fits)

-- numbers of the type in which it works may
pub right_own : (op : BinOp) (t : IntType) (vs : List Sort) (v : ℕ) → Holds vs v (numbers t) → HoldsRight vs op t v
right_own Bins.Shl t vs v h = (t, h)
right_own Bins.Shr t vs v h = (t, h)
right_own _ t vs v h = h

-- a comparison has both operands in its type
pub compared_right : (op : BinOp) (t : IntType) (vs : List Sort) (v : ℕ) → is_comparison op ≡ true
    → HoldsRight vs op t v → Holds vs v (numbers t)
compared_right Bins.Lt t vs v e h = h
compared_right Bins.Le t vs v e h = h
compared_right Bins.Gt t vs v e h = h
compared_right Bins.Ge t vs v e h = h
compared_right Bins.Eq t vs v e h = h
compared_right Bins.Ne t vs v e h = h
compared_right _ t vs v e h = absurd (false≢true e)

-- what an operator gives is of the type that typing says, and of that in which it works
pub outcome_typed : (op : BinOp) (t : IntType) → represents_all (result_type op t) (outcome_type op t) ≡ true
outcome_typed Bins.Lt t = refl
outcome_typed Bins.Le t = refl
outcome_typed Bins.Gt t = refl
outcome_typed Bins.Ge t = refl
outcome_typed Bins.Eq t = refl
outcome_typed Bins.Ne t = refl
outcome_typed _ t = within_self (numbers t)

pub outcome_within : (op : BinOp) (t : IntType) → represents_all t (outcome_type op t) ≡ true
outcome_within Bins.Lt t = truth_within t
outcome_within Bins.Le t = truth_within t
outcome_within Bins.Gt t = truth_within t
outcome_within Bins.Ge t = truth_within t
outcome_within Bins.Eq t = truth_within t
outcome_within Bins.Ne t = truth_within t
outcome_within _ t = within_self (numbers t)

module _ (laid : LaidTree) (Call : ℕ → List Sort → Option Sort → Type 0) where
  pub convert_step : (c : Conversion) (vs : List Sort) (v : ℕ) (a t : IntType) (rest : Steps) (ws : List Sort)
      → slice_get vs v ≡ Some (numbers a) → Converts c a t → StepsFit laid Call (convert_vars c vs) rest ws
      → StepsFit laid Call vs (convert_then c v rest) ws
  convert_step None vs v a t rest ws e k h = h
  convert_step (Some c) vs v a t rest ws e k h =
      (Some (numbers c.1), ((numbers a, e, k.0), within_self (numbers c.1)), h)

  -- ## Two operands, both converted

  module _ (l : Code) (cl : Conversion) (r : Code) (cr : Conversion) (a t b u : IntType)
      (fl : CodeFits laid Call l (Some (numbers a))) (kl : Converts cl a t)
      (fr : CodeFits laid Call r (Some (numbers b))) (kr : Converts cr b u) where
    abbrev both : List Sort
    both = numbers a ∷ numbers b ∷ []

    abbrev first : List Sort
    first = convert_vars cl both

    -- the sorts of the variables after both conversions
    abbrev pub after_operands : List Sort
    after_operands = convert_vars cr first

    pub operands_count : length after_operands ≡ more_after cr (more_after cl 2)
    operands_count = convert_count cr first (more_after cl 2) (convert_count cl both 2 refl)

    pub left_holds : Holds after_operands (converted_at cl 0 2) (numbers t)
    left_holds =
        holds_grown first after_operands (convert_grows cr first) (converted_at cl 0 2) (numbers t)
        (converted_is cl both 0 2 a t refl refl kl)

    pub right_holds : Holds after_operands (converted_at cr 1 (more_after cl 2)) (numbers u)
    right_holds =
        converted_is cr first 1 (more_after cl 2) b u (convert_grows cl both 1 (numbers b) refl)
        (convert_count cl both 2 refl) kr

    pub operands_fit : (rest : ℕ → ℕ → ℕ → Steps) (ws : List Sort)
        → StepsFit laid Call after_operands
        (rest (converted_at cl 0 2) (converted_at cr 1 (more_after cl 2)) (more_after cr (more_after cl 2))) ws
        → StepsFit laid Call [] (operands l cl r cr rest) ws
    operands_fit rest ws h = (
      Some (numbers a),
      fl,
      (
        Some (numbers b),
        fr,
        convert_step cl both 0 a t _ ws refl kl
            (convert_step cr first 1 b u _ ws (convert_grows cl both 1 (numbers b) refl) kr h),
      ),
    )
