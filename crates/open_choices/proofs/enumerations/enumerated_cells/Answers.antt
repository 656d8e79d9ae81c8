use Rattle.std.proofs.Common.{◌≤◌, ap, ◌∙◌, length, arith}
use Rattle.tm_laid.specs.Layouts.{laid_tree}
use Rattle.part_extents.specs.Parts.{is_of_enumeration}
use Rattle.open_choices.proofs.Marked.{all_marked}
use Rattle.open_choices.proofs.enumerations.enumerated_cells.Goals as goal

pub returns : goal.returns
returns c =
    let laid = laid_tree c.args.laid.now in
    let n = c.loop-cell.cell-index in
    let end : length laid.abstract_cells ≤ n = omega arith in
    record {
      each = all_marked laid (λ inside. is_of_enumeration laid inside) c.loop-cell.cells.items n c.loop-cell.invariant.count
          c.loop-cell.invariant.each end c.is_of_enumeration-other.result
          (c.is_of_enumeration-other.ensures ∙ ap (λ inside. is_of_enumeration laid inside) c.inside_at-2.ensures);
    }
