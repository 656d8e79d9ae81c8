use Rattle.std.proofs.Common.{◌≡◌, ℕ, arith, ap, sym, subst, ◌∙◌}
use Rattle.std.specs.Int.{IsGcd}
use Rattle.tm_numbers.specs.Divisors.{gcd}
use Rattle.tm_numbers.proofs.Gcds.{gcd-zero, gcd_mod, gcd_is}
use Rattle.tm_numbers.proofs.divisors.gcd.Goals as goal

pub loop-b-preserved : goal.loop-b-preserved
loop-b-preserved c = gcd_mod _ _ ∙ c.loop-b.invariant

last_is : (x y g : ℕ) → y ≡ 0 → gcd x y ≡ g → x ≡ g
last_is x y g e h = sym (gcd-zero x) ∙ ap (λ (n : ℕ). gcd x n) (sym e) ∙ h

pub returns-clause-value : goal.returns-clause-value
returns-clause-value c = let e : c.loop-b.b ≡ 0 = omega arith in last_is _ _ _ e c.loop-b.invariant

pub returns-clause-greatest : goal.returns-clause-greatest
returns-clause-greatest c =
    let e : c.loop-b.b ≡ 0 = omega arith in
    subst (λ g. IsGcd c.args.a c.args.b g) (sym (last_is _ _ _ e c.loop-b.invariant)) (gcd_is c.args.a c.args.b)
