use Rattle.std.proofs.Common.{ℕ, ◌∙◌, ◌∷◌, [], ◌++◌, get_or, take, sym, subst}
use Rattle.std.proofs.lemmas.List.{take_all, take_more}
use Rattle.tm_laid.specs.Layouts.{laid_tree}
use Rattle.edge_effects.specs.calculations.transfer_rows.StateForms.{Cell}
use Rattle.edge_effects.specs.calculations.transfer_rows.Rows.{joining}
use Rattle.edge_actions.specs.Layouts.{is_shared_cell}
use Rattle.memory_effects.proofs.Changing.{IsChangedAmong, among_start, among_where}
use Rattle.memory_effects.proofs.Joining.{joined_next}
use Rattle.memory_effects.proofs.writes.with_joined.Goals as goal

pub loop-target-init : goal.loop-target-init
loop-target-init c =
    among_start (λ key (d : Cell). joining (is_shared_cell (laid_tree c.args.view.now.laid.now) key) c.args.view.now.held c.args.value.now d) c.args.cells.now c.in_ok-after.after c.in_ok-after.ensures

pub loop-target-preserved : goal.loop-target-preserved
loop-target-preserved c =
    let shared = is_shared_cell (laid_tree c.args.view.now.laid.now) in
    let held = c.args.view.now.held in
    let v = c.args.value.now in
    let cells = c.args.cells.now in
    let targets = c.args.targets.now in
    let i = c.loop-target.target-index in
    let more = c.in_ok-after-2.after in
    subst (λ xs. IsChangedAmong (λ key (d : Cell). joining (shared key) held v d) cells xs more) (sym (take_more targets i 0 c.loop-target-test.true))
    (joined_next held v c.is_nothing-new.ensures.value shared cells c.is_nothing-empty.ensures.value (take i targets) (get_or targets i 0) c.loop-target.after more c.loop-target.invariant c.in_ok-after-2.ensures)

pub returns : goal.returns
returns c =
    let change = λ (key : ℕ) (d : Cell). joining (is_shared_cell (laid_tree c.args.view.now.laid.now) key) c.args.view.now.held c.args.value.now d in
    let targets = c.args.targets.now in
    among_where change c.args.cells.now targets c.loop-target.after
    (subst (λ xs. IsChangedAmong change c.args.cells.now xs c.loop-target.after) (take_all c.loop-target.target-index targets c.loop-target-test.false) c.loop-target.invariant)
