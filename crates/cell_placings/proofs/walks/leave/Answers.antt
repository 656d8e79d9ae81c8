use Rattle.std.proofs.Common.{◌+◌, ◌<◌, ◌∙◌, sym, subst, ap, IfSome}
use Rattle.cell_placings.specs.OwnerTrees.{tree_of, above_in}
use Rattle.cell_placings.specs.reading.Walks.{time_at}
use Rattle.cell_placings.proofs.Walking.{left_by, seen_before}
use Rattle.cell_placings.proofs.walks.leave.Goals as goal

pub note_all-requires : goal.note_all-requires
note_all-requires c =
    subst (λ o. IfSome o (λ t. t < c.args.time + 1))
    (ap (time_at c.args.times.now) (sym c.node_above-above.ensures) ∙ sym c.seen_at-seen.ensures)
    (seen_before (tree_of c.args.owners.now) c.requires.tree c.args.node c.args.time c.args.times.now
    c.args.histories.now c.requires.walked (above_in (tree_of c.args.owners.now) c.args.node))

pub returns : goal.returns
returns c = λ e.
    left_by (tree_of c.args.owners.now) c.requires.tree c.args.node c.args.time c.args.times.now c.args.histories.now
    c.requires.walked c.note_all.new.histories c.requires.below c.node_above-above.result c.seen_at-seen.result
    c.listed-cells.result.now c.node_above-above.ensures
    (c.seen_at-seen.ensures ∙ ap (time_at c.args.times.now) c.node_above-above.ensures)
    c.is_none.result c.is_none.ensures c.if-is_none.false c.listed-cells.ensures (c.in_ok-note_all.ensures e)
