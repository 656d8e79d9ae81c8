use Rattle.std.proofs.Common.{refl, arith}
use Rattle.std.proofs.lemmas.Int.{ints}
use Rattle.certificate_reading.proofs.values.lies_between.Goals as goal

pub returns : goal.returns
returns c = (
  (λ t. record {
    all = λ z m.
        (let a = c.lo.ensures.least.bound z m in
        let b = c.hi.ensures.greatest.bound z m in
        (omega (arith, ints, a), omega (arith, ints, b)));
  }),
  (λ h. refl),
)
