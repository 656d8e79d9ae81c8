use Rattle.std.proofs.Common.{◌≡◌, ◌+◌, ◌∙◌, ap, sym, subst}
use Rattle.std.specs.Option.{MatchOption}
use Rattle.tm_lattice.specs.Tables.{IsPast, IsNext}
use Rattle.memory_effects.specs.reading.Changes.{change_of, kept_or}
use Rattle.memory_effects.proofs.Changing.{IsChangedBelow, below_put, below_skip, below_end, below_all}
use Rattle.memory_effects.proofs.changes.changed_cells.Goals.{in-Some-2+in_ok-after-2, in_default-2}
use Rattle.memory_effects.proofs.changes.changed_cells.Goals as goal

pub returns-then-is_behind : goal.returns-then-is_behind
returns-then-is_behind c =
    let before = c.args.before.now in
    let from = c.loop-after.from in
    let next = subst (λ o. MatchOption o (IsPast before from) (λ e. IsNext before from e.0 e.1.now)) c.in-Some.is c.in_ok-cell.ensures in
    below_end (change_of c.args.view.now c.args.change.now) before from c.loop-after.after c.loop-after.invariant c.in-Some.cell c.in-Some.entry.now next (λ key w le. c.is_behind.ensures c.if-is_behind.true key w le)

pub loop-after-preserved : goal.loop-after-preserved
loop-after-preserved c =
    let before = c.args.before.now in
    let change = change_of c.args.view.now c.args.change.now in
    let from = c.loop-after.from in
    let after = c.loop-after.after in
    let more = c.match-branch-5.after in
    let cell = c.in-Some.cell in
    let entry = c.in-Some.entry.now in
    let next = subst (λ o. MatchOption o (IsPast before from) (λ e. IsNext before from e.0 e.1.now)) c.in-Some.is c.in_ok-cell.ensures in
    subst (λ n. IsChangedBelow change before (n + 1) more) (sym c.from-from-in-Some.ensures) (elim c.match-branch-5.branch [
      | in-Some-2+in_ok-after-2 w ↦
          below_put change before from after c.loop-after.invariant cell entry next more w.in-Some-2.changed (w.after-is ∙ w.in_ok-after-2.ensures.written (λ e. e))
          (sym (ap (λ o. kept_or o entry) w.in-Some-2.is) ∙ c.in_ok-changed.ensures)
      | in_default-2 w ↦
          below_skip change before from after c.loop-after.invariant cell entry next more w.after-is
          (sym (sym (ap (λ o. kept_or o entry) w.in_default-2.is) ∙ c.in_ok-changed.ensures))
    ])

pub returns : goal.returns
returns c =
    let before = c.args.before.now in
    let from = c.loop-after.from in
    below_all (change_of c.args.view.now c.args.change.now) before from c.loop-after.after c.loop-after.invariant
    (subst (λ o. MatchOption o (IsPast before from) (λ e. IsNext before from e.0 e.1.now)) c.in_default.is c.in_ok-cell.ensures)
