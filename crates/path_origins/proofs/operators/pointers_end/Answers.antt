use Rattle.std.proofs.Common.{refl}
use Rattle.path_origins.specs.declared.origins.Form.TheVariants as Forms
use Rattle.path_origins.specs.Noted.{one}
use Rattle.path_origins.specs.Shown.{shown}
use Rattle.path_origins.specs.reading.Ends.{equality_end}
use Rattle.path_origins.proofs.Laws.{pair_behind}
use Rattle.path_origins.proofs.operators.pointers_end.Goals as goal

pub returns : goal.returns
returns c = record {
  noted = pair_behind (shown c.args.to.now) (shown c.note.new.to) (shown c.note-2.new.to)
      (shown c.comparison_ends.new.to) (one c.args.place Forms.Usable) (one c.args.place Forms.Usable)
      (equality_end c.args.wanted c.args.place) c.in_ok-note.ensures c.in_ok-note-2.ensures
      c.in_ok-comparison_ends.ensures;
  given = refl;
}
