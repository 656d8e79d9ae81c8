use Rattle.std.proofs.Common.{ap, ◌∙◌}
use Rattle.program_notes.proofs.Firsts.{next_of}
use Rattle.program_notes.specs.Guards.{better, guard_below}
use Rattle.program_notes.proofs.guards.guard_of.Goals as goal

pub loop-mutex-preserved : goal.loop-mutex-preserved
loop-mutex-preserved c =
    let mutex = c.loop-mutex.mutex in
    let accesses = c.args.accesses.now in
    c.better-guard.ensures ∙ ap (λ guard. better guard mutex c.held_count.result) c.loop-mutex.invariant
    ∙ ap (better (guard_below accesses mutex) mutex) c.held_count.ensures ∙ next_of (guard_below accesses) mutex
