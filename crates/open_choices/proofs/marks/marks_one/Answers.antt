use Rattle.std.proofs.Common.{◌≤◌, length, get_or, sym, ◌∙◌, arith}
use Rattle.std.proofs.lemmas.Bool.{true≢false}
use Rattle.std.proofs.lemmas.List.{get_or_default}
use Rattle.open_choices.specs.reading.Marks.{IsMarked}
use Rattle.open_choices.proofs.Searching.{is_found, not_found, not_so, none_yet, none_more, none_of_all, one_found}
use Rattle.open_choices.proofs.marks.marks_one.Goals as goal

pub loop-cell-init : goal.loop-cell-init
loop-cell-init c = none_yet (IsMarked c.args.marks.now) c.args.cells.now

pub returns-then-is_marked : goal.returns-then-is_marked
returns-then-is_marked c =
    let xs = c.args.cells.now in
    let i = c.loop-cell.cell-index in
    is_found (one_found (IsMarked c.args.marks.now) xs i (get_or xs i 0) c.loop-cell-test.true
    (get_or_default xs i 0 (get_or xs i 0) c.loop-cell-test.true) (sym c.is_marked.ensures ∙ c.if-is_marked.true))

pub loop-cell-preserved : goal.loop-cell-preserved
loop-cell-preserved c =
    let xs = c.args.cells.now in
    let i = c.loop-cell.cell-index in
    none_more (IsMarked c.args.marks.now) xs i (get_or xs i 0) c.loop-cell-test.true
    (get_or_default xs i 0 (get_or xs i 0) c.loop-cell-test.true) c.loop-cell.invariant
    (λ h. true≢false (sym (c.is_marked.ensures ∙ h) ∙ c.if-is_marked.false))

pub returns : goal.returns
returns c =
    let end : length c.args.cells.now ≤ c.loop-cell.cell-index = omega arith in
    not_found (none_of_all (IsMarked c.args.marks.now) c.args.cells.now c.loop-cell.cell-index end
    c.loop-cell.invariant)
