use Rattle.std.proofs.Common.{false, get_or, arith}
use Rattle.std.proofs.lemmas.List.Elements.{Contains-get_or}
use Rattle.request_circles.specs.reading.Steps.{IsStepLeft}
use Rattle.request_circles.proofs.Noting.{none_in}
use Rattle.request_circles.proofs.distances.next_in.Goals as goal

pub is_step-requires-clause-from : goal.is_step-requires-clause-from
is_step-requires-clause-from c =
    c.requires.frontier (get_or c.args.frontier.now c.loop-index.index 0)
    (Contains-get_or c.args.frontier.now c.loop-index.index 0 (omega arith))

pub returns : goal.returns
returns c =
    none_in (λ j. IsStepLeft c.args.requests.now c.args.left.now.marks.items false j c.args.number)
    c.args.frontier.now c.loop-index.index (omega arith) c.loop-index.invariant
