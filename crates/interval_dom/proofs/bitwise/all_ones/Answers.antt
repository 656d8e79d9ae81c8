use Rattle.std.proofs.Common.{◌≡◌, ℕ, ℤ, pos, ◌-◌, ◌*◌, ◌^◌, ◌<◌, ◌≤◌, ap, sym, ◌∙◌, arith}
use Rattle.std.specs.Prelude.{unsigned_abs}
use Rattle.std.proofs.Math.Nat.{pow-suc}
use Rattle.std.proofs.lemmas.Int.{ints}
use Rattle.interval_dom.specs.Bitwise.{bit_length}
use Rattle.std.proofs.lemmas.Nat.{pow_pos}
use Rattle.interval_dom.proofs.Ranges.{ones_back}
use Rattle.interval_dom.proofs.Lengths.{length_is, length_zero}
use Rattle.interval_dom.proofs.bitwise.all_ones.Goals as goal

pub returns-then-n-eq0 : goal.returns-then-n-eq0
returns-then-n-eq0 c =
    let e : c.args.n ≡ pos 0 = omega (arith, ints) in
    sym (ap (λ (z : ℤ). pos (2 ^ bit_length (unsigned_abs z) - 1)) e ∙ ap (λ (k : ℕ). pos (2 ^ k - 1)) length_zero)

pub returns-else-n-eq0 : goal.returns-else-n-eq0
returns-else-n-eq0 c =
    let low : 2 ^ c.ilog2.result ≤ unsigned_abs c.args.n = omega (arith, ints) in
    let high : unsigned_abs c.args.n < 2 * 2 ^ c.ilog2.result = omega (arith, ints) in
    let size : unsigned_abs c.args.n < 2 ^ 64 = omega (arith, ints) in
    let e = ap (λ (k : ℕ). 2 ^ k) (length_is _ _ low high) in
    ones_back (2 ^ c.ilog2.result) _ (omega (arith, pow-suc 2 c.ilog2.result)) (pow_pos c.ilog2.result) (omega arith)
