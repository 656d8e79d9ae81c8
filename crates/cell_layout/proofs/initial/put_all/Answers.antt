use Rattle.std.proofs.Common.{◌∙◌, ◌+◌, ℕ, List, drop, get_or, slice_set, pos, ap, sym}
use Rattle.std.proofs.lemmas.List.{at_drop_more}
use Rattle.tm_typed.specs.declared.files.StaticCell.{StaticCell}
use Rattle.tm_typed.specs.declared.files.StaticValue.TheVariants as Values
use Rattle.tm_laid.specs.declared.objects.Initial.{Initial}
use Rattle.tm_laid.specs.Objects.{with_given}
use Rattle.cell_layout.proofs.initial.put_all.Goals as goal

absent : StaticCell
absent = record { cell = 0; value = Values.Number (pos 0) }

pub loop-cell-preserved : goal.loop-cell-preserved
unfolding absent
loop-cell-preserved c =
    let numbers = c.args.numbers.now in
    let cells : List StaticCell = c.args.cells.now in
    let i : ℕ = c.loop-cell.cell-index in
    let g : StaticCell = get_or cells i absent in
    let values : List Initial = c.loop-cell.values.items in
    ap (λ vs. with_given numbers (drop (i + 1) cells) vs)
    (c.put.ensures ∙ ap (λ (v : Initial). slice_set values g.cell v) c.given.ensures)
    ∙ sym (at_drop_more (λ gs. with_given numbers gs values) cells i absent c.loop-cell-test.true)
    ∙ c.loop-cell.invariant
