use Rattle.std.proofs.Common.{◌≡◌, ◌<◌, ◌∙◌, length, sym, subst, arith}
use Rattle.cell_placings.specs.OwnerTrees.{OwnerTree, tree_of, kept_in}
use Rattle.cell_placings.proofs.TreeFacts.{own, within_cells}
use Rattle.cell_placings.proofs.Walking.{looked_up}
use Rattle.cell_placings.proofs.placings.CellPlacing.kept_at.Goals as goal

pub returns-then-has : goal.returns-then-has
returns-then-has c =
    subst (λ (t : OwnerTree). c.args.node ≡ kept_in t c.args.node c.args.cell) c.self.view_is
    (sym (own (length c.self.inside.times.items) (tree_of c.self.inside.owners) c.self.invariant.is_tree c.args.node
    c.args.cell (sym c.has.ensures ∙ c.if-has.true)))

pub index-time-requires : goal.index-time-requires
index-time-requires c =
    let lt = subst (λ (t : OwnerTree). c.args.node < length t.above) (sym c.self.view_is) c.requires in
    let l = c.self.invariant.is_tree.above_each in
    omega (arith, lt, l)

pub index-history-requires : goal.index-history-requires
index-history-requires c =
    let lt = within_cells (tree_of c.self.inside.owners) c.args.node c.args.cell (sym c.has.ensures ∙ c.if-has.false) in
    let l = c.self.invariant.histories_each in
    omega (arith, lt, l)

pub returns : goal.returns
returns c =
    let lt = subst (λ (t : OwnerTree). c.args.node < length t.above) (sym c.self.view_is) c.requires in
    let l = c.self.invariant.is_tree.above_each in
    subst (λ (t : OwnerTree). c.at.result ≡ kept_in t c.args.node c.args.cell) c.self.view_is
    (c.at.ensures ∙ looked_up (tree_of c.self.inside.owners) c.self.inside.times.items c.self.inside.histories.items
    c.self.invariant c.args.node c.args.cell c.index-time.result.now c.index-history.result.now (omega (arith, lt, l))
    (within_cells (tree_of c.self.inside.owners) c.args.node c.args.cell (sym c.has.ensures ∙ c.if-has.false))
    c.index-time.ensures c.index-history.ensures)
