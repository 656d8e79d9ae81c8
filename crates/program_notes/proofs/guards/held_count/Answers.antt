use Rattle.std.proofs.Common.{ap, ◌∙◌, ◌+◌, arith}
use Rattle.program_notes.proofs.Firsts.{next_of}
use Rattle.program_notes.specs.Guards.{held_below}
use Rattle.program_notes.proofs.guards.held_count.Goals as goal

pub loop-at-preserved : goal.loop-at-preserved
loop-at-preserved c =
    let at = c.loop-at.at in
    let accesses = c.args.accesses.now in
    let so_far = c.loop-at.invariant in
    let within = so_far.1 in
    let most = c.held_at-count.ensures.most in (
      ap (λ count. count + c.held_at-count.result) so_far.0
          ∙ ap (λ more. held_below accesses c.args.mutex at + more) c.held_at-count.ensures.value
          ∙ next_of (held_below accesses c.args.mutex) at,
      omega (arith, within, most),
    )
