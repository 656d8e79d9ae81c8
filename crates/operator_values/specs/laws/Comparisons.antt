-- Every comparison of integers can be tested.
use Rattle.std.specs.Prelude.{ℤ}
use Rattle.std.proofs.Common.{inl, inr, arith}
use Rattle.std.proofs.lemmas.Int.{ints, by_lt_z}
use Rattle.std.specs.Prelude.{◌<ℤ◌}
use Rattle.tm_cint.specs.declared.operators.BinOp.{BinOp}
use Rattle.tm_cint.specs.declared.operators.BinOp.TheVariants.{Add, Sub, Mul, Div, Rem, Shl, Shr, And, Or, Xor}
use Rattle.tm_cint.specs.declared.operators.BinOp.TheVariants.{Lt, Le}
use Rattle.tm_cint.specs.declared.operators.BinOp.TheVariants.{Gt, Ge, Eq, Ne}
use Rattle.filters.specs.Partners.{Compares}
use Rattle.operator_values.specs.laws.Listings.{Test, not_test, same_test, most_test}

pub less_test : (x y : ℤ) → Test (x <ℤ y)
less_test x y = by_lt_z x y (λ less. inl less) (λ le. inr (λ less. absurd (omega (arith, ints, le, less))))

pub compares_test : (op : BinOp) (x y : ℤ) → Test (Compares op x y)
compares_test Lt x y = less_test x y
compares_test Le x y = most_test x y
compares_test Gt x y = less_test y x
compares_test Ge x y = most_test y x
compares_test Eq x y = same_test x y
compares_test Ne x y = not_test (same_test x y)
compares_test Add x y = inr (λ h. h)
compares_test Sub x y = inr (λ h. h)
compares_test Mul x y = inr (λ h. h)
compares_test Div x y = inr (λ h. h)
compares_test Rem x y = inr (λ h. h)
compares_test Shl x y = inr (λ h. h)
compares_test Shr x y = inr (λ h. h)
compares_test And x y = inr (λ h. h)
compares_test Or x y = inr (λ h. h)
compares_test Xor x y = inr (λ h. h)
