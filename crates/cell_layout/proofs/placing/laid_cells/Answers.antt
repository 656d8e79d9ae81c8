use Rattle.std.proofs.Common.{ℕ, List, get_or, false, arith}
use Rattle.std.specs.Prelude.{None}
use Rattle.std.proofs.lemmas.List.{drop_more}
use Rattle.tm_typed.specs.TypedFiles.{typed_file_tree}
use Rattle.tm_laid.specs.declared.objects.LaidObject.{LaidObject}
use Rattle.cell_layout.proofs.ObjectSteps.{cells_more, cells_all}
use Rattle.cell_layout.proofs.placing.laid_cells.Goals as goal

absent : LaidObject
absent = record {
  name = record { start = 0; length = 0 };
  place = record { line = 0; col = 0 };
  of = record {
    number = 0;
    constant = false;
    volatile = false;
  };
  owner = None;
  first_cell = 0;
  cells = 0;
  first_abstract = 0;
  abstract_cells = 0;
}

pub loop-object-preserved : goal.loop-object-preserved
unfolding absent
loop-object-preserved c =
    let objects : List LaidObject = c.args.objects.now in
    let i : ℕ = c.loop-object.object-index in
    let x : LaidObject = get_or objects i absent in
    cells_more (typed_file_tree c.args.file.now) objects i x c.loop-object.cells c.lay_object.new.cells
    c.loop-object.number
    c.in_ok-number.number (drop_more objects i absent c.loop-object-test.true) c.in_ok-lay_object.ensures
    c.in_ok-number.ensures c.loop-object.invariant

pub returns : goal.returns
returns c =
    cells_all (typed_file_tree c.args.file.now) c.args.objects.now c.loop-object.object-index c.loop-object.cells
    c.loop-object.number (omega (arith, c.loop-object-test.false)) c.loop-object.invariant
