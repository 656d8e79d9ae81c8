use Rattle.std.proofs.Common.{get_or, false, ℕ, arith}
use Rattle.std.specs.Prelude.{None}
use Rattle.std.proofs.lemmas.List.{drop_more}
use Rattle.tm_typed.specs.TypedFiles.{typed_file_tree}
use Rattle.tm_laid.specs.declared.objects.DeclaredObject.{DeclaredObject}
use Rattle.cell_layout.proofs.ObjectSteps.{placed_room, placed_more}
use Rattle.cell_layout.proofs.placing.placed.Goals as goal

absent : DeclaredObject
absent = record { name = record { start = 0; length = 0 }; place = record { line = 0; col = 0 }; of = record { number = 0; constant = false; volatile = false }; owner = None }

pub overflow_add-abstract_cell : goal.overflow_add-abstract_cell
unfolding absent
overflow_add-abstract_cell c =
    let file = typed_file_tree c.args.file.now in
    let i : ℕ = c.loop-object.object-index in
    let d : DeclaredObject = get_or c.args.declared.now i absent in
    let r = placed_room file c.args.file.now.order.items c.requires.layable c.args.declared.now i d c.loop-object.objects.items c.loop-object.cell c.loop-object.abstract_cell c.cell_column-cells.result
    c.abstract_column-abstract_cells.result (drop_more c.args.declared.now i absent c.loop-object-test.true) c.cell_column-cells.ensures c.abstract_column-abstract_cells.ensures c.loop-object.invariant in
    let a = r.3 in omega (arith, a)

pub loop-object-preserved : goal.loop-object-preserved
unfolding absent
loop-object-preserved c =
    let file = typed_file_tree c.args.file.now in
    let i : ℕ = c.loop-object.object-index in
    let d : DeclaredObject = get_or c.args.declared.now i absent in
    let more = drop_more c.args.declared.now i absent c.loop-object-test.true in
    let r = placed_room file c.args.file.now.order.items c.requires.layable c.args.declared.now i d c.loop-object.objects.items c.loop-object.cell c.loop-object.abstract_cell c.cell_column-cells.result
    c.abstract_column-abstract_cells.result more c.cell_column-cells.ensures c.abstract_column-abstract_cells.ensures c.loop-object.invariant in
    placed_more file c.args.declared.now i d c.loop-object.objects.items c.push.new.self.items c.loop-object.cell c.loop-object.abstract_cell c.cell_column-cells.result
    c.abstract_column-abstract_cells.result more r.0 r.1 c.in_ok-push.ensures.items c.loop-object.invariant
