use Rattle.std.proofs.lemmas.Result.{on_ok_weaker}
use Rattle.path_origins.specs.Noted.{skips}
use Rattle.path_origins.specs.Shown.{shown}
use Rattle.path_origins.specs.reading.Walks.{decided_by}
use Rattle.path_origins.proofs.Laws.{then_behind}
use Rattle.path_origins.proofs.expressions.both_end.Goals as goal

pub returns : goal.returns
returns c = record {
  noted = on_ok_weaker c.fork_end.result (then_behind (shown c.args.to.now) (shown c.note_skips.new.to)
      (shown c.fork_end.new.to) (skips c.args.place 2) (decided_by c.args.wanted c.args.place)
      c.in_ok-note_skips.ensures) c.fork_end.ensures.noted;
  given = c.fork_end.ensures.given;
}
