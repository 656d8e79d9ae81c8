use Rattle.std.proofs.Common.{◌∙◌, ap, sym, Some}
use Rattle.std.specs.FinMap.{insert}
use Rattle.std.specs.Option.{option_copied}
use Rattle.tm_laid.specs.Layouts.{laid_tree}
use Rattle.edge_actions.specs.Layouts.{is_shared_cell}
use Rattle.memory_effects.proofs.Contributing.{written_put, written_own, written_twice}
use Rattle.memory_effects.proofs.contributions.with_written.Goals as goal

pub returns-then-not-is_shared_cell : goal.returns-then-not-is_shared_cell
returns-then-not-is_shared_cell c = λ cells so.
    written_own (is_shared_cell (laid_tree c.args.view.now.laid.now)) c.args.value.now cells c.args.cell c.args.added so (sym c.is_shared_cell.ensures ∙ c.if-not-is_shared_cell.true)

pub returns-in-Some : goal.returns-in-Some
returns-in-Some c = λ cells so.
    written_twice (is_shared_cell (laid_tree c.args.view.now.laid.now)) c.args.value.now cells c.args.cell c.args.added so c.in-Some.field-0.now (sym c.get.ensures ∙ ap option_copied c.in-Some.is)

pub returns : goal.returns
returns c = λ cells so.
    written_put (is_shared_cell (laid_tree c.args.view.now.laid.now)) c.args.value.now cells c.args.cell c.args.added so c.put.new.self (sym c.is_shared_cell.ensures ∙ c.if-not-is_shared_cell.false)
    (c.in_ok-put.ensures.written (λ none. c.requires (sym c.in_ok-copy.ensures ∙ none)) ∙ ap (insert c.args.added c.args.cell) c.in_ok-copy.ensures)
