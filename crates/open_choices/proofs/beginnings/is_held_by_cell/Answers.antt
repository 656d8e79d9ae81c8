use Rattle.std.proofs.Common.{◌+◌, subst, sym, arith}
use Rattle.std.specs.Option.{MatchOption}
use Rattle.tm_lattice.specs.Tables.{IsPast, IsNext}
use Rattle.operand_orders.specs.reading.Views.{solved}
use Rattle.open_choices.proofs.Leftover.{NoneLeft, cell_left, none_left_more, none_left}
use Rattle.open_choices.proofs.Searching.{is_found, not_found, not_so}
use Rattle.open_choices.proofs.beginnings.is_held_by_cell.Goals as goal

pub cells-init : goal.cells-init
cells-init c = λ k lt h. absurd (omega (arith, lt))

pub returns-then-is_left_in : goal.returns-then-is_left_in
returns-then-is_left_in c =
    let cells = c.cells-in-cells.result.now in
    let from = c.cells.from in
    let next = subst (λ t. IsNext t from c.in-Some.cell c.in-Some.entry.now) c.cells-in-cells.ensures
    (subst (λ o. MatchOption o (IsPast cells from) (λ e. IsNext cells from e.0 e.1.now)) c.in-Some.is
    c.in_ok-cell.ensures) in
    is_found (cell_left (solved c.args.view) c.args.life c.args.state.now from c.in-Some.cell c.in-Some.entry.now next
    (c.is_left_in.ensures.0 c.if-is_left_in.true))

pub cells-preserved : goal.cells-preserved
cells-preserved c =
    let b = solved c.args.view in
    let cells = c.cells-in-cells.result.now in
    let from = c.cells.from in
    let next = subst (λ t. IsNext t from c.in-Some.cell c.in-Some.entry.now) c.cells-in-cells.ensures
    (subst (λ o. MatchOption o (IsPast cells from) (λ e. IsNext cells from e.0 e.1.now)) c.in-Some.is
    c.in_ok-cell.ensures) in
    subst (λ n. NoneLeft b c.args.life c.args.state.now (n + 1)) (sym c.from-from.ensures)
    (none_left_more b c.args.life c.args.state.now from c.in-Some.cell c.in-Some.entry.now next c.cells.invariant
    (not_so c.is_left_in.result c.is_left_in.ensures c.if-is_left_in.false))

pub returns : goal.returns
returns c =
    let cells = c.cells-in-cells.result.now in
    let from = c.cells.from in
    let past = subst (λ t. IsPast t from) c.cells-in-cells.ensures
    (subst (λ o. MatchOption o (IsPast cells from) (λ e. IsNext cells from e.0 e.1.now)) c.in_default.is
    c.in_ok-cell.ensures) in
    not_found (none_left (solved c.args.view) c.args.life c.args.state.now from past c.cells.invariant)
