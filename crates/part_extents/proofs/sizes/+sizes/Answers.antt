use Rattle.std.proofs.Common.{◌≡◌, ap, sym, subst, ◌∙◌, ◌-◌, ◌*◌, IfOk, arith}
use Rattle.tm_laid.specs.Layouts.{laid_tree}
use Rattle.tm_laid.specs.TypeCells.{summed, cell_count}
use Rattle.tm_typed.specs.declared.types.CType.TheVariants as Types
use Rattle.part_extents.proofs.Counts.{none_counted, count_opened}
use Rattle.part_extents.proofs.sizes.+sizes.Goals as goal

pub cell_count-returns-then-depth-eq0 : goal.cell_count-returns-then-depth-eq0
cell_count-returns-then-depth-eq0 t c =
    sym (none_counted (laid_tree c.args.laid.now).file c.args.depth c.args.number c.if-depth-eq0.true)

pub cell_count-returns-in-Void : goal.cell_count-returns-in-Void
cell_count-returns-in-Void t c =
    sym (count_opened (laid_tree c.args.laid.now).file c.args.depth c.args.number Types.Void (omega arith) (sym c.in-Void.is ∙ c.type_at.ensures))

pub cell_count-returns-in-Int : goal.cell_count-returns-in-Int
cell_count-returns-in-Int t c =
    sym (count_opened (laid_tree c.args.laid.now).file c.args.depth c.args.number (Types.Int c.in-Int.field-0) (omega arith) (sym c.in-Int.is ∙ c.type_at.ensures))

pub cell_count-returns-in-Pointer : goal.cell_count-returns-in-Pointer
cell_count-returns-in-Pointer t c =
    sym (count_opened (laid_tree c.args.laid.now).file c.args.depth c.args.number (Types.Pointer c.in-Pointer.field-0) (omega arith) (sym c.in-Pointer.is ∙ c.type_at.ensures))

pub cell_count-returns-in_ok-cells-in-Array : goal.cell_count-returns-in_ok-cells-in-Array
cell_count-returns-in_ok-cells-in-Array t c =
    let file = (laid_tree c.args.laid.now).file in
    let i = c.in-Array in
    let e = count_opened file c.args.depth c.args.number (Types.Array i.element i.length) (omega arith) (sym i.is ∙ c.type_at.ensures) in
    subst (λ v. IfOk c.times.result (λ n. n ≡ v)) (ap (λ x. i.length * x) c.in_ok-cells-in-Array.ensures ∙ sym e) c.times.ensures

pub cell_count-returns-in-Struct : goal.cell_count-returns-in-Struct
cell_count-returns-in-Struct t c =
    let file = (laid_tree c.args.laid.now).file in
    let i = c.in-Struct in
    let e = count_opened file c.args.depth c.args.number (Types.Struct i.structure) (omega arith) (sym i.is ∙ c.type_at.ensures) in
    subst (λ v. IfOk c.summed.result (λ n. n ≡ v)) (ap (λ ms. summed (cell_count file (c.args.depth - 1)) ms) c.members_of.ensures ∙ sym e) c.summed.ensures
