use Rattle.std.proofs.Common.{◌∙◌, ap, sym, Some, cond, eqb}
use Rattle.std.specs.Int.{bit_at}
use Rattle.tm_laid.specs.Layouts.{laid_tree}
use Rattle.pointer_dom.specs.Values.{no_value}
use Rattle.edge_actions.specs.Layouts.{is_shared_cell}
use Rattle.edge_effects.proofs.Common.{something}
use Rattle.memory_effects.proofs.Contributing.{left_own, left_nothing, left_some}
use Rattle.memory_effects.proofs.contributions.left_value.Goals as goal

pub returns-then-not-is_shared_cell : goal.returns-then-not-is_shared_cell
returns-then-not-is_shared_cell c = left_own (is_shared_cell (laid_tree c.args.view.now.laid.now) c.args.cell) _ (sym c.is_shared_cell.ensures ∙ c.if-not-is_shared_cell.true)

pub returns-then-not-has_mutex : goal.returns-then-not-has_mutex
returns-then-not-has_mutex c =
    left_nothing (is_shared_cell (laid_tree c.args.view.now.laid.now) c.args.cell) _ (ap (λ b. cond b c.args.entry.now.value no_value) (sym c.has_mutex.ensures ∙ c.if-not-has_mutex.true))

pub returns-then-is_nothing : goal.returns-then-is_nothing
returns-then-is_nothing c =
    left_nothing (is_shared_cell (laid_tree c.args.view.now.laid.now) c.args.cell) _
    (ap (λ b. cond b c.args.entry.now.value no_value) (sym c.has_mutex.ensures ∙ c.if-not-has_mutex.false) ∙ c.is_nothing.ensures.nothing.0 c.if-is_nothing.true)

pub returns : goal.returns
returns c =
    ap Some c.in_ok-copied.ensures
    ∙ left_some (is_shared_cell (laid_tree c.args.view.now.laid.now) c.args.cell) (eqb (bit_at c.args.entry.now.pending c.args.mutex) 1) c.args.entry.now.value
    (sym c.is_shared_cell.ensures ∙ c.if-not-is_shared_cell.false) (sym c.has_mutex.ensures ∙ c.if-not-has_mutex.false)
    (something c.is_nothing.result c.args.entry.now.value c.is_nothing.ensures.nothing c.if-is_nothing.false)
