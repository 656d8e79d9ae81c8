use Rattle.text_choices.specs.reading.Declared.{declared_of}
use Rattle.text_choices.proofs.Foremost.{kept_static, kept_first, kept_other}
use Rattle.text_choices.proofs.reserved.foremost.Goals as goal

pub returns-then-one : goal.returns-then-one
returns-then-one c = kept_static (declared_of c.args.one) (declared_of c.args.other) c.if-one.true

pub returns-then-yields : goal.returns-then-yields
returns-then-yields c =
    kept_first (declared_of c.args.one) (declared_of c.args.other) (c.yields.ensures.0 c.if-yields.true)

pub returns-else-yields : goal.returns-else-yields
returns-else-yields c =
    kept_other (declared_of c.args.one) (declared_of c.args.other) c.if-one.false
    (λ h. let t = c.yields.ensures.1 h in cc)
