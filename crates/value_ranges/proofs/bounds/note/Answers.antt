use Rattle.std.proofs.Common.{refl, subst, ◌∙◌, None}
use Rattle.std.proofs.lemmas.List.{get_or_default}
use Rattle.value_ranges.specs.reading.Notes.{Noted, IsJoined}
use Rattle.value_ranges.proofs.bounds.note.Goals as goal

pub returns : goal.returns
returns c = record {
  bounds = c.joined.result;
  joined = subst (λ (x : Noted). IsJoined x c.args.more c.joined.result)
      (c.index.ensures
      ∙ get_or_default c.args.noted.now.items c.args.more.object c.index.result.now None c.requires) c.joined.ensures;
  is = refl;
}
