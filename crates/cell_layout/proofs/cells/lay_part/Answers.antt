use Rattle.std.proofs.Common.{◌∙◌, ◌++◌, ap, sym, List, reverse}
use Rattle.tm_typed.specs.TypedFiles.{typed_file_tree}
use Rattle.tm_typed.specs.declared.types.CType.TheVariants as Types
use Rattle.cell_layout.specs.declared.cells.TypePart.{TypePart}
use Rattle.cell_layout.specs.reading.Parts.{inner_parts}
use Rattle.cell_layout.proofs.PartSteps.{laid_nothing, laid_int, laid_pointer, laid_inside, array_inside, structure_inside}
use Rattle.cell_layout.proofs.cells.lay_part.Goals as goal

pub returns-in-Void : goal.returns-in-Void
returns-in-Void c =
    laid_nothing (typed_file_tree c.args.file.now) c.args.file.now.order.items c.requires.layable c.args.object c.args.part c.args.cells.now c.args.waiting.now.items (sym c.in-Void.ensures) c.requires.others

pub returns-in_ok-push_scalar-in-Int : goal.returns-in_ok-push_scalar-in-Int
returns-in_ok-push_scalar-in-Int c =
    laid_int (typed_file_tree c.args.file.now) c.args.file.now.order.items c.requires.layable c.args.object c.args.part c.in-Int.of c.args.cells.now c.push_scalar.new.cells c.args.waiting.now.items
    (sym c.in-Int.ensures) c.in_ok-push_scalar-in-Int.ensures c.requires.others

pub returns-in_ok-push_scalar-in-Pointer : goal.returns-in_ok-push_scalar-in-Pointer
returns-in_ok-push_scalar-in-Pointer c =
    laid_pointer (typed_file_tree c.args.file.now) c.args.file.now.order.items c.requires.layable c.args.object c.args.part c.in-Pointer.field-0 c.args.cells.now c.push_scalar-in-Pointer.new.cells
    c.args.waiting.now.items c.class_at.result (sym c.in-Pointer.ensures) c.class_at.ensures c.in_ok-push_scalar-in-Pointer.ensures c.requires.others

pub returns-in_ok-push_parts-in-Array : goal.returns-in_ok-push_parts-in-Array
returns-in_ok-push_parts-in-Array c =
    let file = typed_file_tree c.args.file.now in
    laid_inside file c.args.file.now.order.items c.requires.layable c.args.object c.args.part c.args.cells.now c.args.waiting.now.items c.push_parts.new.waiting.items c.in_ok-parts-in-Array.parts.items
    (inner_parts file c.args.part (Types.Array c.in-Array.element c.in-Array.length))
    (array_inside file c.args.file.now.order.items c.requires.layable c.args.object c.args.part c.in-Array.element c.in-Array.length (sym c.in-Array.ensures))
    c.requires.small c.in_ok-parts-in-Array.ensures
    (c.in_ok-push_parts-in-Array.ensures ∙ ap (λ (xs : List TypePart). c.args.waiting.now.items ++ reverse xs) c.deref.ensures.value) c.requires.others

pub returns-in_ok-push_parts-in-Struct : goal.returns-in_ok-push_parts-in-Struct
returns-in_ok-push_parts-in-Struct c =
    let file = typed_file_tree c.args.file.now in
    laid_inside file c.args.file.now.order.items c.requires.layable c.args.object c.args.part c.args.cells.now c.args.waiting.now.items c.push_parts-in-Struct.new.waiting.items c.in_ok-parts-in-Struct.parts.items
    (inner_parts file c.args.part (Types.Struct c.in-Struct.k))
    (structure_inside file c.args.file.now.order.items c.requires.layable c.args.object c.args.part c.in-Struct.k (sym c.in-Struct.ensures))
    c.requires.small c.in_ok-parts-in-Struct.ensures
    (c.in_ok-push_parts-in-Struct.ensures ∙ ap (λ (xs : List TypePart). c.args.waiting.now.items ++ reverse xs) c.deref-in-Struct.ensures.value) c.requires.others
