use Rattle.std.proofs.Common.{ap, sym, ◌∙◌, [], ◌∷◌, slice_get}
use Rattle.tm_typed.specs.declared.types.Scalar.TheVariants as Scalars
use Rattle.tm_typed.specs.Scopes.{cells_of}
use Rattle.tm_typed.specs.TypedFiles.{typed_file_tree}
use Rattle.tm_laid.specs.Layable.{tables_of}
use Rattle.cell_types.specs.reading.Descents.{member_at}
use Rattle.cell_types.proofs.Steps.{ends_void, ends_int, ends_pointer, array_ends, array_goes, structure_ends, structure_goes}
use Rattle.cell_types.proofs.descents.step_down.Goals as goal

pub returns-in-Void : goal.returns-in-Void
returns-in-Void c =
    ends_void (typed_file_tree c.args.file.now) c.args.file.now.order.items c.requires.layable c.args.part
    (sym (ap (λ e. e.ctype) c.entry_at-entry.ensures) ∙ c.in-Void.is)

pub returns-in-Int : goal.returns-in-Int
returns-in-Int c =
    ends_int (typed_file_tree c.args.file.now) c.args.file.now.order.items c.requires.layable c.args.part c.in-Int.of c.only.result
    (sym (ap (λ e. e.ctype) c.entry_at-entry.ensures) ∙ c.in-Int.is) c.only.ensures

pub returns-in-Pointer : goal.returns-in-Pointer
returns-in-Pointer c =
    ends_pointer (typed_file_tree c.args.file.now) c.args.file.now.order.items c.requires.layable c.args.part c.in-Pointer.field-0 c.only-in-Pointer.result
    (sym (ap (λ e. e.ctype) c.entry_at-entry.ensures) ∙ c.in-Pointer.is)
    (c.only-in-Pointer.ensures ∙ ap (λ e. slice_get (Scalars.Pointer e.class ∷ []) c.args.part.cell) c.entry_at-entry.ensures)

pub returns-in-Some : goal.returns-in-Some
returns-in-Some c =
    array_goes (typed_file_tree c.args.file.now) c.args.file.now.order.items c.requires.layable c.args.part c.in-Array.element c.in-Array.length c.in-Some.next
    (sym (ap (λ e. e.ctype) c.entry_at-entry.ensures) ∙ c.in-Array.is) c.requires.small c.in-Some.ensures

pub returns-in-None : goal.returns-in-None
returns-in-None c =
    array_ends (typed_file_tree c.args.file.now) c.args.file.now.order.items c.requires.layable c.args.part c.in-Array.element c.in-Array.length
    (sym (ap (λ e. e.ctype) c.entry_at-entry.ensures) ∙ c.in-Array.is) c.requires.small c.in-None.ensures

pub returns-in-Some-member_at : goal.returns-in-Some-member_at
returns-in-Some-member_at c =
    let count = cells_of (tables_of (typed_file_tree c.args.file.now)) in
    structure_goes (typed_file_tree c.args.file.now) c.args.file.now.order.items c.requires.layable c.args.part c.in-Struct.k c.in-Some-member_at.next
    (sym (ap (λ e. e.ctype) c.entry_at-entry.ensures) ∙ c.in-Struct.is) c.requires.small
    (ap (λ ms. member_at count ms c.args.part.cell) (sym c.members_of.ensures) ∙ sym c.member_at.ensures ∙ c.in-Some-member_at.is)

pub returns-in-None-member_at : goal.returns-in-None-member_at
returns-in-None-member_at c =
    let count = cells_of (tables_of (typed_file_tree c.args.file.now)) in
    structure_ends (typed_file_tree c.args.file.now) c.args.file.now.order.items c.requires.layable c.args.part c.in-Struct.k
    (sym (ap (λ e. e.ctype) c.entry_at-entry.ensures) ∙ c.in-Struct.is) c.requires.small
    (ap (λ ms. member_at count ms c.args.part.cell) (sym c.members_of.ensures) ∙ sym c.member_at.ensures ∙ c.in-None-member_at.is)
