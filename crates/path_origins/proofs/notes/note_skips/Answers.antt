use Rattle.std.proofs.Common.{rules, ◌<◌}
use Rattle.path_origins.specs.Noted.{behind, skips}
use Rattle.path_origins.specs.Shown.{shown}
use Rattle.path_origins.proofs.Skipping.{one_skipped}
use Rattle.path_origins.proofs.notes.note_skips.Goals as goal

pub loop-preserved : goal.loop-preserved
loop-preserved c =
    let below : c.loop.counter < c.args.count = search rules in
    one_skipped c.args.place c.args.count c.loop.counter (shown c.loop.to) (shown c.note.new.to)
    (behind (shown c.args.to.now) (skips c.args.place c.args.count)) below c.in_ok-note.ensures c.loop.invariant
