use Rattle.std.proofs.Common.{length, ◌+◌, ap, ◌∙◌, None}
use Rattle.std.proofs.lemmas.List.{length_push}
use Rattle.program_solutions.proofs.Turning.{no_start, none_pushed}
use Rattle.program_solutions.proofs.turns.no_starts.Goals as goal

pub loop-init : goal.loop-init
loop-init c = (ap length c.new-starts.ensures.items, no_start c.new-starts.result.items c.new-starts.ensures.items)

pub loop-preserved : goal.loop-preserved
loop-preserved c =
    let items = c.in_ok-push.ensures.items in (
      ap length items ∙ length_push c.loop.starts.items None ∙ ap (λ n. n + 1) c.loop.invariant.0,
      none_pushed c.loop.starts.items c.push.new.self.items items c.loop.invariant.1,
    )
