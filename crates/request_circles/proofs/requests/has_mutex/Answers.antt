use Rattle.std.proofs.Common.{◌≡◌, arith}
use Rattle.std.specs.Int.{bit_at}
use Rattle.std.proofs.lemmas.Bool.{ltb-true}
use Rattle.std.proofs.lemmas.Nat.Bits.{bit_at_above}
use Rattle.request_circles.proofs.requests.has_mutex.Goals as goal

pub returns-else-mutex-lt16 : goal.returns-else-mutex-lt16
returns-else-mutex-lt16 c =
    let none : bit_at c.args.set c.args.mutex ≡ 0 =
    bit_at_above c.args.set 16 c.args.mutex c.ranges.set.fits c.if-mutex-lt16.false in
    (λ t. absurd (let lt = ltb-true c.args.mutex 16 t in omega (arith, lt)), λ e. absurd (omega (arith, none, e)))
