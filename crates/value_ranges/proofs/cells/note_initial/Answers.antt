use Rattle.std.proofs.Common.{◌≡◌, ◌∙◌, length, subst, arith}
use Rattle.tm_laid.specs.Layouts.{laid_tree}
use Rattle.value_ranges.specs.reading.Notes.{AreWidened, IsFirst, IsFirstBelow}
use Rattle.value_ranges.proofs.Widening.{begins, goes_on}
use Rattle.value_ranges.proofs.cells.note_initial.Goals as goal

pub loop-cell-init : goal.loop-cell-init
loop-cell-init c = begins (λ o n cell. IsFirst c.args.grouping (laid_tree c.args.laid.now) cell o n) c.args.noted.now.items

pub note_first-requires-clause-room : goal.note_first-requires-clause-room
note_first-requires-clause-room c = c.loop-cell.invariant.count ∙ c.requires

pub loop-cell-preserved : goal.loop-cell-preserved
loop-cell-preserved c =
    goes_on (λ o n cell. IsFirst c.args.grouping (laid_tree c.args.laid.now) cell o n) c.loop-cell.cell c.args.noted.now.items
    c.loop-cell.noted.items c.note_first.new.noted.items c.loop-cell.invariant c.note_first.ensures

pub returns : goal.returns
returns c =
    let end : c.loop-cell.cell ≡ length c.args.laid.now.initial.items = omega arith in
    subst (λ i. AreWidened (λ o n. IsFirstBelow c.args.grouping (laid_tree c.args.laid.now) i o n) c.args.noted.now.items
    c.loop-cell.noted.items) end c.loop-cell.invariant
