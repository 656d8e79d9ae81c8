-- The operators on strided sets as functions. Each gives the one set that its relation describes.
use Rattle.std.specs.Prelude.{pos}
use Rattle.filters.specs.strided_dom.Progression.{Progression, single, IsExactly}
use Rattle.filters.specs.strided_dom.Combinations.{IsInBoth}
use Rattle.tm_cint.specs.declared.int_types.IntType.{IntType}
use Rattle.tm_cint.specs.declared.operators.BinOp.{BinOp}
use Rattle.tm_cint.specs.declared.operators.BinOp.TheVariants.{Sub}
use Rattle.transfer_int.specs.Values.{IsValue, IsConverted, ones_of}
use Rattle.filters.specs.Partners.{Compares, IsAssumed}
use Rattle.operator_values.specs.laws.Listings.{partner_hull}
use Rattle.operator_values.specs.laws.Sets.{both_set}
use Rattle.operator_values.specs.laws.RowSets.{value_set, converted_set}
use Rattle.operator_values.specs.laws.Comparisons.{compares_test}

-- `a op b` in this type (C99 6.5.5 to 6.5.14)
unfoldable pub operated : BinOp → IntType → Progression → Progression → Progression
operated op t a b = (value_set op t a b).0

pub operated_is : (op : BinOp) (t : IntType) (a b : Progression) → IsExactly (IsValue op t a b) (operated op t a b)
unfolding operated
operated_is op t a b = (value_set op t a b).1

-- `-a`
abbrev pub negated : IntType → Progression → Progression
negated t a = operated Sub t (single (pos 0)) a

-- `~a`
abbrev pub complemented : IntType → Progression → Progression
complemented t a = operated Sub t (single (ones_of t)) a

-- what a conversion to the type gives (C99 6.3.1)
unfoldable pub converted : IntType → Progression → Progression
converted t a = (converted_set t a).0

pub converted_is : (t : IntType) (a : Progression) → IsExactly (IsConverted t a) (converted t a)
unfolding converted
converted_is t a = (converted_set t a).1

-- what is left of a where `x op y` is known of a member x of a and a member y of b
unfoldable pub left_assumed : BinOp → Progression → Progression → Progression
left_assumed op a b = (partner_hull (Compares op) (compares_test op) a b).0

-- and of b
unfoldable pub right_assumed : BinOp → Progression → Progression → Progression
right_assumed op a b = (partner_hull (λ y x. Compares op x y) (λ y x. compares_test op x y) b a).0

pub assumed_is : (op : BinOp) (a b : Progression) → IsAssumed op a b (left_assumed op a b) (right_assumed op a b)
unfolding left_assumed right_assumed
assumed_is op a b = record {
  of_left = (partner_hull (Compares op) (compares_test op) a b).1;
  of_right = (partner_hull (λ y x. Compares op x y) (λ y x. compares_test op x y) b a).1;
}

-- what two sets have in common
unfoldable pub met_numbers : Progression → Progression → Progression
met_numbers a b = (both_set a b).0

pub met_numbers_is : (a b : Progression) → IsExactly (IsInBoth a b) (met_numbers a b)
unfolding met_numbers
met_numbers_is a b = (both_set a b).1
