use Rattle.std.proofs.Common.{◌∙◌, ◌&&◌, ◌||◌, ap, sym, subst, not, Bool, List, arith}
use Rattle.tm_typed.specs.TypedFiles.{typed_file_tree}
use Rattle.cell_layout.specs.declared.cells.TypePart.{TypePart}
use Rattle.cell_layout.proofs.PartSteps.{AreElements, elements_first, element_cells, element_abstracts, elements_room}
use Rattle.cell_layout.proofs.PartSteps.{elements_more, elements_all}
use Rattle.cell_layout.proofs.cells.elements.Goals as goal

pub loop-number-init : goal.loop-number-init
loop-number-init c =
    let file = typed_file_tree c.args.file.now in
    let P : List TypePart → Type 0 = λ ps. AreElements file c.args.part c.args.element c.args.length 0 ps c.first_element-next.result in
    subst P (sym c.new-parts.ensures.items)
    (elements_first file c.args.file.now.order.items c.requires.layable c.args.part c.args.element c.args.length c.first_element-next.result c.requires.small c.requires.array
    (c.first_element-next.ensures
    ∙ ap (λ (b : Bool). record { number = c.args.element; offset = c.args.part.offset; abstract_cell = c.args.part.abstract_cell; smashed = c.args.part.smashed || b; leading = c.args.part.leading })
    c.is_long-smashed.ensures))

pub behind-next-requires-clause-cells : goal.behind-next-requires-clause-cells
behind-next-requires-clause-cells c =
    let file = typed_file_tree c.args.file.now in
    let x = element_cells file c.args.file.now.order.items c.requires.layable c.args.part c.args.element c.args.length c.loop-number.number c.cell_column-cells.result c.loop-number.parts.items
    c.loop-number.next c.loop-number-test.true c.cell_column-cells.ensures c.loop-number.invariant in
    let y = element_abstracts file c.args.file.now.order.items c.requires.layable c.args.part c.args.element c.args.length c.loop-number.number c.abstract_step-abstract_cells.result c.is_long-smashed.result
    c.loop-number.parts.items c.loop-number.next c.loop-number-test.true c.is_long-smashed.ensures c.abstract_step-abstract_cells.ensures c.loop-number.invariant in
    let r = elements_room file c.args.part c.args.element c.args.length c.loop-number.number c.cell_column-cells.result c.abstract_step-abstract_cells.result c.loop-number.parts.items c.loop-number.next
    c.loop-number-test.true x y c.loop-number.invariant in
    let a = r.0 in omega (arith, a)

pub behind-next-requires-clause-abstract_cells : goal.behind-next-requires-clause-abstract_cells
behind-next-requires-clause-abstract_cells c =
    let file = typed_file_tree c.args.file.now in
    let x = element_cells file c.args.file.now.order.items c.requires.layable c.args.part c.args.element c.args.length c.loop-number.number c.cell_column-cells.result c.loop-number.parts.items
    c.loop-number.next c.loop-number-test.true c.cell_column-cells.ensures c.loop-number.invariant in
    let y = element_abstracts file c.args.file.now.order.items c.requires.layable c.args.part c.args.element c.args.length c.loop-number.number c.abstract_step-abstract_cells.result c.is_long-smashed.result
    c.loop-number.parts.items c.loop-number.next c.loop-number-test.true c.is_long-smashed.ensures c.abstract_step-abstract_cells.ensures c.loop-number.invariant in
    let r = elements_room file c.args.part c.args.element c.args.length c.loop-number.number c.cell_column-cells.result c.abstract_step-abstract_cells.result c.loop-number.parts.items c.loop-number.next
    c.loop-number-test.true x y c.loop-number.invariant in
    let a = r.1 in omega (arith, a)

pub loop-number-preserved : goal.loop-number-preserved
loop-number-preserved c =
    let file = typed_file_tree c.args.file.now in
    let x = element_cells file c.args.file.now.order.items c.requires.layable c.args.part c.args.element c.args.length c.loop-number.number c.cell_column-cells.result c.loop-number.parts.items
    c.loop-number.next c.loop-number-test.true c.cell_column-cells.ensures c.loop-number.invariant in
    let y = element_abstracts file c.args.file.now.order.items c.requires.layable c.args.part c.args.element c.args.length c.loop-number.number c.abstract_step-abstract_cells.result c.is_long-smashed.result
    c.loop-number.parts.items c.loop-number.next c.loop-number-test.true c.is_long-smashed.ensures c.abstract_step-abstract_cells.ensures c.loop-number.invariant in
    elements_more file c.args.part c.args.element c.args.length c.loop-number.number c.cell_column-cells.result c.abstract_step-abstract_cells.result c.stays_leading-later.result c.loop-number.parts.items
    c.push.new.self.items c.loop-number.next c.behind-next.result c.loop-number-test.true x y
    (c.stays_leading-later.ensures ∙ ap (λ (b : Bool). c.args.part.leading && not b) c.is_long-smashed.ensures) c.in_ok-push.ensures.items c.behind-next.ensures c.loop-number.invariant

pub returns : goal.returns
returns c =
    elements_all (typed_file_tree c.args.file.now) c.args.part c.args.element c.args.length c.loop-number.number
    c.loop-number.parts.items c.loop-number.next (omega (arith, c.loop-number-test.false)) c.loop-number.invariant
