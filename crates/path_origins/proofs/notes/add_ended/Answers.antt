use Rattle.std.proofs.Common.{◌<◌, None, length, arith}
use Rattle.path_origins.specs.declared.origins.Life.{Life}
use Rattle.path_origins.proofs.Skipping.{ended_more}
use Rattle.path_origins.proofs.notes.add_ended.Goals as goal

pub loop-index-preserved : goal.loop-index-preserved
loop-index-preserved c =
    let none : Life = record {
      object = 0;
      place = record { line = 0; col = 0 };
      begins = 0;
      scope = record { first = 0; end = 0 };
      initialiser = None;
    } in
    let below : c.loop-index.index < length c.args.unended.now = omega arith in
    ended_more c.args.end c.args.unended.now c.loop-index.index none c.loop-index.to.items c.push.new.self.items _ below
    c.in_ok-push.ensures.items c.loop-index.invariant
