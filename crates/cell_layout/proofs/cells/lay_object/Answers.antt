use Rattle.std.proofs.Common.{◌++◌, ◌∷◌, [], ◌∙◌, ap, List, false, true}
use Rattle.tm_typed.specs.TypedFiles.{typed_file_tree}
use Rattle.cell_layout.specs.declared.cells.TypePart.{TypePart}
use Rattle.cell_layout.proofs.PartSteps.{going_first, going_small, going_more, going_less}
use Rattle.cell_layout.proofs.CoreSteps.{cored_by, cored_small, cored_laid}
use Rattle.cell_layout.proofs.cells.lay_object.Goals as goal

pub loop-part-init : goal.loop-part-init
loop-part-init c =
    let first : TypePart = record { number = c.args.number; offset = 0; abstract_cell = c.args.first; smashed = false; leading = true } in
    going_first (typed_file_tree c.args.file.now) c.args.object c.args.number c.args.first c.args.cells.now c.push.new.self.items c.requires.cells c.requires.abstract_cells
    (c.in_ok-push.ensures.items ∙ ap (λ (ps : List TypePart). ps ++ first ∷ []) c.new-waiting.ensures.items)

pub lay_part-requires-clause-small : goal.lay_part-requires-clause-small
lay_part-requires-clause-small c =
    let file = typed_file_tree c.args.file.now in
    cored_small file c.in-Some.part c.cored-core.result (cored_by file c.args.cores.now c.in-Some.part c.cored-core.result c.requires.cores c.cored-core.ensures)
    (going_small file c.args.object c.args.number c.args.first c.args.cells.now c.loop-part.cells c.loop-part.waiting.items c.pop.new.self.items c.in-Some.part
    c.in-Some.ensures.items c.loop-part.invariant).0

pub lay_part-requires-clause-others : goal.lay_part-requires-clause-others
lay_part-requires-clause-others c =
    (going_small (typed_file_tree c.args.file.now) c.args.object c.args.number c.args.first c.args.cells.now c.loop-part.cells c.loop-part.waiting.items c.pop.new.self.items c.in-Some.part
    c.in-Some.ensures.items c.loop-part.invariant).1

pub loop-part-preserved : goal.loop-part-preserved
loop-part-preserved c =
    let file = typed_file_tree c.args.file.now in
    going_more file c.args.object c.args.number c.args.first c.args.cells.now c.loop-part.cells c.lay_part.new.cells c.loop-part.waiting.items c.pop.new.self.items
    c.lay_part.new.waiting.items c.in-Some.part c.in-Some.ensures.items c.loop-part.invariant
    (cored_laid file c.args.object c.in-Some.part c.cored-core.result c.loop-part.cells c.lay_part.new.cells c.pop.new.self.items c.lay_part.new.waiting.items
    (cored_by file c.args.cores.now c.in-Some.part c.cored-core.result c.requires.cores c.cored-core.ensures) c.in_ok-lay_part.ensures)

pub loop-part-smaller : goal.loop-part-smaller
loop-part-smaller c =
    let file = typed_file_tree c.args.file.now in
    going_less file c.args.object c.loop-part.cells c.lay_part.new.cells c.loop-part.waiting.items c.pop.new.self.items
    c.lay_part.new.waiting.items c.in-Some.part c.in-Some.ensures.items
    (cored_laid file c.args.object c.in-Some.part c.cored-core.result c.loop-part.cells c.lay_part.new.cells c.pop.new.self.items c.lay_part.new.waiting.items
    (cored_by file c.args.cores.now c.in-Some.part c.cored-core.result c.requires.cores c.cored-core.ensures) c.in_ok-lay_part.ensures)
