use Rattle.std.proofs.Common.{◌∙◌, ◌+◌, ℕ, sym, subst}
use Rattle.std.specs.Prelude.{Vec}
use Rattle.std.specs.declared.alloc.Global.{Global}
use Rattle.std.proofs.lemmas.Bool.{false≢true}
use Rattle.tm_laid.specs.Layouts.{LaidTree, laid_tree}
use Rattle.region_cells.specs.reading.Marks.{AreListed}
use Rattle.region_cells.proofs.Wholes.{listed_more, listed_other}
use Rattle.region_cells.proofs.writes.listed.Goals as goal
use Rattle.region_cells.proofs.writes.listed.Goals.{then-is_listed+in_ok-push, else-is_listed}

pub loop-cell-preserved : goal.loop-cell-preserved
loop-cell-preserved c =
    let laid : LaidTree = laid_tree c.args.laid.now in
    let cell : ℕ = c.loop-cell.cell in
    let P : Vec ℕ Global → Type 0 = λ v. AreListed laid c.args.marks.now c.args.covered.now (cell + 1) v.items in
    elim c.if-is_listed.branch [
      | then-is_listed+in_ok-push w ↦ subst P (sym w.cells-is)
          (listed_more laid c.args.marks.now c.args.covered.now cell c.loop-cell.cells.items w.push.new.self.items w.in_ok-push.ensures.items (c.is_listed.ensures.0 w.if-is_listed.true) c.loop-cell.invariant)
      | else-is_listed w ↦ subst P (sym w.cells-is)
          (listed_other laid c.args.marks.now c.args.covered.now cell c.loop-cell.cells.items (λ l. false≢true (sym w.if-is_listed.false ∙ c.is_listed.ensures.1 l)) c.loop-cell.invariant)
    ]
