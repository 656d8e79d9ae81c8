use Rattle.std.proofs.Common.{sym, ◌∙◌, arith}
use Rattle.row_checks.proofs.Checked.{not_unlocked}
use Rattle.row_checks.proofs.checks.is_unlocked_in.Goals as goal

pub returns-then-not-has : goal.returns-then-not-has
returns-then-not-has c =
    sym (not_unlocked c.args.set.now c.args.traces.now.pending.items c.args.mutex c.loop-cell.cell
    c.index-mutexes.result.now c.all_but-others.result (omega arith) c.index-mutexes.ensures c.all_but-others.ensures
    c.if-mutexes-others.true (sym c.has.ensures ∙ c.if-not-has.true))
