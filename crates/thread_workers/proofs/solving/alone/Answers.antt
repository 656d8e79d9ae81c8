use Rattle.std.proofs.Common.{Ok, Err, subst}
use Rattle.std.specs.Arc.{arc_value}
use Rattle.store_core.specs.Outcomes.{Takes, Publishes}
use Rattle.thread_workers.proofs.Alone.{not_holding, not_others, idle_again, not_stranger}
use Rattle.thread_workers.proofs.solving.alone.Goals as goal

pub loop-preserved : goal.loop-preserved
loop-preserved g c =
    let next = subst (λ t. Takes g.P.Store.Lattice g.P.Passer c.loop.core c.take.new.self 0 (Ok t)) c.in-Next.is c.in_ok-snapshot.ensures in (
      tt,
      tt,
      idle_again g.P.Store.Lattice g.P.Passer (arc_value c.args.program) c.args.workers c.loop.core c.take.new.self c.publish.new.self c.in-Next.snapshot next
          c.in_ok-contribution-in-Next.contribution c.in-Ok.field-0.version c.in-Ok.field-0.raised c.loop.invariant.2 c.in-Ok.ensures,
    )

pub unreachable-requires-in-Err-Stranger : goal.unreachable-requires-in-Err-Stranger
unreachable-requires-in-Err-Stranger g c =
    let next = subst (λ t. Takes g.P.Store.Lattice g.P.Passer c.loop.core c.take.new.self 0 (Ok t)) c.in-Next.is c.in_ok-snapshot.ensures in
    let brought = c.in_ok-contribution-in-Next.contribution in
    let refused = subst (λ r. Publishes g.P.Store.Lattice g.P.Passer c.take.new.self c.publish.new.self 0 brought (Err r)) c.in-Err-Stranger.field-0-is c.in-Err-Stranger.ensures in
    let passed = c.in_ok-contribution-in-Next.ensures in
    not_stranger g.P.Store.Lattice g.P.Passer (arc_value c.args.program) c.args.workers c.loop.core c.take.new.self c.publish.new.self c.in-Next.snapshot next
    brought c.in-Err-Stranger.field-0-0 passed.program passed.task passed.store refused.0

pub unreachable-requires-in-Holding : goal.unreachable-requires-in-Holding
unreachable-requires-in-Holding g c =
    let holding = subst (λ t. Takes g.P.Store.Lattice g.P.Passer c.loop.core c.take.new.self 0 (Ok t)) c.in-Holding.is c.in_ok-snapshot.ensures in
    not_holding g.P.Store.Lattice g.P.Passer (arc_value c.args.program) c.args.workers c.loop.core c.take.new.self c.in-Holding.field-0 c.loop.invariant.2 holding

pub unreachable-requires-in-Others : goal.unreachable-requires-in-Others
unreachable-requires-in-Others g c =
    let others = subst (λ t. Takes g.P.Store.Lattice g.P.Passer c.loop.core c.take.new.self 0 (Ok t)) c.in-Others.is c.in_ok-snapshot.ensures in
    not_others g.P.Store.Lattice g.P.Passer (arc_value c.args.program) c.args.workers c.loop.core c.take.new.self c.loop.invariant.2 others
