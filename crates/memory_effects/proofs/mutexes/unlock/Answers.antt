use Rattle.std.proofs.Common.{ℕ, ◌∙◌, ap, sym, refl, Some, cond}
use Rattle.std.specs.FinMap.{get, keys}
use Rattle.tm_laid.specs.Layouts.{laid_tree}
use Rattle.tm_lattice.specs.Tables.{Table}
use Rattle.pointer_dom.specs.Values.{no_value}
use Rattle.interfere_set.specs.Stores.{Interferences}
use Rattle.edge_effects.specs.calculations.transfer_rows.StateForms.{Cell}
use Rattle.edge_effects.specs.calculations.transfer_rows.Reports.{left_by}
use Rattle.edge_effects.specs.calculations.transfer_rows.Contributions.{cells_added, nested_under}
use Rattle.edge_actions.specs.Layouts.{is_shared_cell}
use Rattle.edge_actions.specs.Edges.{around_of}
use Rattle.memory_effects.proofs.Effects.{unlock_held, unlock_free}
use Rattle.memory_effects.proofs.mutexes.unlock.Goals as goal

pub returns-then-not-has_mutex : goal.returns-then-not-has_mutex
returns-then-not-has_mutex c = λ store.
    unlock_free (around_of c.args.view.now) c.args.state.now store c.plain.result c.plain.ensures.targets c.args.mutex (sym c.has_mutex.ensures ∙ c.if-not-has_mutex.true)
    (c.plain.ensures.classes ∙ c.lock_class.ensures) c.plain.ensures.added c.plain.ensures.state

pub returns : goal.returns
returns c = λ store.
    let around = around_of c.args.view.now in
    let shared = is_shared_cell (laid_tree c.args.view.now.laid.now) in
    let m = c.args.mutex in
    let under = λ (cells : Table Cell). nested_under c.args.view.now.task m (cells_added (λ x. cond (shared x) (left_by m (get cells x)) no_value) (keys cells)) in
    unlock_held around c.args.state.now store _ c.new-2.ensures.items m (sym c.has_mutex.ensures ∙ c.if-not-has_mutex.false) c.lock_class-2.ensures
    (ap (λ (a : Interferences). a.weak) c.from_parts.ensures ∙ c.new.ensures)
    (ap (λ (a : Interferences). a.sync) c.from_parts.ensures ∙ c.in_ok-sync.ensures ∙ ap (nested_under c.args.view.now.task m) c.in_ok-left.ensures ∙ ap under c.cells.ensures)
    (ap Some c.in_ok-after.ensures)
