use Rattle.std.proofs.Common.{◌≡◌, ◌+◌, arith, subst, None}
use Rattle.cell_placings.specs.OwnerTrees.{tree_of, above_in}
use Rattle.cell_placings.specs.reading.Walks.{AreNoted}
use Rattle.cell_placings.proofs.Walking.{entered}
use Rattle.cell_placings.proofs.walks.enter.Goals as goal

pub returns : goal.returns
returns c = λ e.
    let w = c.requires.walked in
    let noted = subst (λ xs. AreNoted xs (c.args.time + 1) c.args.below None c.args.histories.now
    c.note_all.new.histories) c.listed-cells.ensures (c.in_ok-note_all.ensures c.if-not-branch.false) in
    let up : above_in (tree_of c.args.owners.now) c.args.below ≡ c.args.node
    = omega (arith, c.node_above-above.ensures) in
    entered (tree_of c.args.owners.now) c.requires.tree c.args.node c.args.time c.args.times.now c.args.histories.now
    c.requires.walked c.args.below c.note_all.new.histories (omega arith)
    (let l = w.times_each in omega (arith, l)) up noted
