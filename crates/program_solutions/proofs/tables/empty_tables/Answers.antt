use Rattle.std.proofs.Common.{length, ◌+◌, ap, ◌∙◌}
use Rattle.std.proofs.lemmas.List.{length_push}
use Rattle.program_solutions.proofs.Turning.{no_tables, pushed}
use Rattle.program_solutions.proofs.tables.empty_tables.Goals as goal

pub loop-init : goal.loop-init
loop-init c =
    (ap length c.new-tables.ensures.items, no_tables c.new-tables.result.items c.new-tables.ensures.items)

pub loop-preserved : goal.loop-preserved
loop-preserved c =
    let items = c.in_ok-push.ensures.items in (
      ap length items ∙ length_push c.loop.tables.items c.new.result ∙ ap (λ n. n + 1) c.loop.invariant.0,
      pushed c.loop.tables.items c.push.new.self.items c.new.result items c.new.ensures.items c.loop.invariant.1,
    )
