use Rattle.std.proofs.Common.{subst}
use Rattle.std.specs.Prelude.{List}
use Rattle.tm_terms.specs.declared.places.Place.{Place}
use Rattle.tm_laid.specs.Layouts.{laid_tree}
use Rattle.path_origins.specs.Opens.{is_among}
use Rattle.edge_origins.specs.Bodies.{AreBodyOrigins}
use Rattle.text_choices.specs.Lists.{IsOfText}
use Rattle.source_assumptions.proofs.Listed.{added_to_none}
use Rattle.source_assumptions.proofs.replies.opened_of.Goals as goal

pub returns : goal.returns
returns c =
    let laid = laid_tree c.args.laid.now in
    let opens = c.in_ok-opens.opens in
    let origins = c.in_ok-origins.origins in
    record {
      exact = added_to_none c.new-others.result.items c.add_text_choices.new.choices.items
          (IsOfText c.args.bytes.now laid) c.new-others.ensures.items c.in_ok-add_text_choices.ensures;
      opens = opens.items;
      are_opens = c.in_ok-opens.ensures;
      noted = subst (λ (ps : List Place). AreBodyOrigins laid (is_among ps) c.args.graphs.now origins.items)
          c.deref.ensures.value c.in_ok-origins.ensures;
    }
