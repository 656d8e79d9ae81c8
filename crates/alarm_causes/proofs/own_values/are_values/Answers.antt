use Rattle.std.proofs.Common.{◌≡◌, rules}
use Rattle.strided_dom.specs.Progression.{empty}
use Rattle.tm_cint.specs.IntTypes.{IsIn}
use Rattle.alarm_causes.proofs.Ends.{between_ends, of_empty}
use Rattle.alarm_causes.proofs.own_values.are_values.Goals as goal

pub returns-then-is_empty : goal.returns-then-is_empty
returns-then-is_empty c = λ _.
    let none : c.args.numbers.now ≡ empty = search rules in
    of_empty c.args.of c.args.numbers.now none

pub returns-then-holds : goal.returns-then-holds
returns-then-holds c = λ holds.
    let low : IsIn c.args.of c.lo.result = search rules in
    let high : IsIn c.args.of c.hi.result = search rules in
    between_ends c.args.of c.args.numbers.now c.lo.result c.hi.result c.lo.ensures.least c.hi.ensures.greatest low high
