use Rattle.std.proofs.Common.{ℕ, false, arith}
use Rattle.std.proofs.lemmas.List.{at_drop_more, at_drop_all}
use Rattle.tm_typed.specs.declared.files.LocalEntry.{LocalEntry}
use Rattle.tm_typed.specs.TypedFiles.{typed_file_tree}
use Rattle.cell_layout.specs.reading.Counts.{of_locals}
use Rattle.cell_layout.proofs.counts.count_locals.Goals as goal

absent : LocalEntry
absent = record {
  name = record { start = 0; length = 0 };
  place = record { line = 0; col = 0 };
  of = record {
    number = 0;
    constant = false;
    volatile = false;
  };
}

pub loop-local-preserved : goal.loop-local-preserved
unfolding absent
loop-local-preserved c =
    let file = typed_file_tree c.args.file.now in
    let l = c.args.limit in
    let i : ℕ = c.loop-local.local-index in
    let more = at_drop_more (of_locals file l) c.args.locals.now i absent c.loop-local-test.true in
    let a = c.capped-sum.ensures in
    let b = c.column.ensures in
    let d = c.loop-local.invariant.1 in
    (omega (arith, a), omega (arith, more, a, b, d))

pub returns : goal.returns
returns c =
    let file = typed_file_tree c.args.file.now in
    let none = at_drop_all (of_locals file c.args.limit) c.args.locals.now c.loop-local.local-index (omega
    (arith, c.loop-local-test.false)) in
    let a = c.loop-local.invariant.0 in
    let b = c.loop-local.invariant.1 in
    omega (arith, none, a, b)
