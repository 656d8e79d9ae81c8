use Rattle.std.proofs.Common.{[]}
use Rattle.request_circles.proofs.Noting.{level_more}
use Rattle.request_circles.proofs.distances.note_level.Goals as goal

pub loop-number-preserved : goal.loop-number-preserved
loop-number-preserved c =
    level_more c.args.requests.now c.args.left.now.marks.items c.args.frontier.now c.args.steps c.loop-number.number
    c.args.noted.now.far.items c.loop-number.noted.far.items c.note.new.noted.far.items c.args.noted.now.next.items
    c.loop-number.noted.next.items c.note.new.noted.next.items [] c.loop-number.found.items c.note.new.found.items
    c.loop-number.invariant c.in_ok-note.ensures
