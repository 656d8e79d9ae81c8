use Rattle.std.proofs.Common.{ℤ, pos, ◌*ℤ◌, ◌^◌, ◌≡◌, true, sym, ◌∙◌, subst}
use Rattle.std.specs.Int.{w128}
use Rattle.std.specs.Int.RustNames.{FitsSigned, unsigned_abs, int_le}
use Rattle.std.proofs.lemmas.Int.{to_z-of_z}
use Rattle.tm_cint.specs.Operators.{is_count}
use Rattle.tm_cint.proofs.Wide.{wide, shifted_fits, shifted_left-shifts}
use Rattle.tm_cint.proofs.operators.shifted_left.Goals as goal
use Rattle.tm_cint.proofs.operators.shifted_left.Goals.{After-power_of_two}

-- what the two tests and the power say
record Parts (c : After-power_of_two) : Type 0 where
  count : is_count c.args.ty c.args.b ≡ true
  not_negative : int_le (pos 0) c.args.a ≡ true
  power : c.power_of_two.result ≡ pos (2 ^ unsigned_abs c.args.b)
  fits : FitsSigned w128 (c.args.a *ℤ c.power_of_two.result)

parts : (c : After-power_of_two) → Parts c
parts c =
    let a : FitsSigned w128 c.args.a = c.ranges.a in
    let b : FitsSigned w128 c.args.b = c.ranges.b in
    let counted : is_count c.args.ty c.args.b ≡ true = sym (simp to_z-of_z at c.is_count.ensures) ∙ c.if-is_count.true in
    let tested : int_le (pos 0) c.args.a ≡ true = simp to_z-of_z at c.if-a-ge0.true in
    let is : c.power_of_two.result ≡ pos (2 ^ unsigned_abs c.args.b) = simp to_z-of_z at c.power_of_two.ensures in
    record {
      count = counted;
      not_negative = tested;
      power = is;
      fits = subst (λ (z : ℤ). FitsSigned w128 (c.args.a *ℤ z)) (sym is) (shifted_fits c.args.ty c.args.a c.args.b (wide c.args.ty c.args.a c.requires) counted tested);
    }

pub overflow_mul-a : goal.overflow_mul-a
overflow_mul-a c =
    let a : FitsSigned w128 c.args.a = c.ranges.a in
    let power : FitsSigned w128 c.power_of_two.result = record { sfits = c.power_of_two.type_inv } in
    simp to_z-of_z (parts c).fits

pub returns-then-a-ge0 : goal.returns-then-a-ge0
returns-then-a-ge0 c =
    let a : FitsSigned w128 c.args.a = c.ranges.a in
    let power : FitsSigned w128 c.power_of_two.result = record { sfits = c.power_of_two.type_inv } in
    let p = parts (goal.at.returns-then-a-ge0 c).After-power_of_two in
    let product : FitsSigned w128 (c.args.a *ℤ c.power_of_two.result) = p.fits in
    let shifted = simp to_z-of_z at c.fitted.ensures in
    (rw p.power at shifted) ∙ sym (shifted_left-shifts c.args.ty c.args.a c.args.b p.count p.not_negative)
