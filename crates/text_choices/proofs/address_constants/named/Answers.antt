use Rattle.std.proofs.Common.{Some, ap, sym, ◌∙◌}
use Rattle.std.specs.Prelude.{option_map}
use Rattle.tm_laid.specs.Layouts.{laid_tree}
use Rattle.text_choices.specs.AddressConstants.{Spot}
use Rattle.text_choices.specs.Initialisers.{static_spot}
use Rattle.text_choices.specs.reading.Named.{last_at}
use Rattle.text_choices.proofs.Named.{last_named_is}
use Rattle.text_choices.proofs.address_constants.named.Goals as goal

pub returns-in-Some : goal.returns-in-Some
returns-in-Some c =
    let laid = laid_tree c.args.laid.now in
    let n = c.args.name in
    let p = c.args.place in
    let e = last_named_is laid.file.statics n p ∙ ap (λ xs. last_at xs n p) (sym c.requires.indexed.named) ∙ sym c.last.ensures ∙ c.in-Some.is in
    ap (λ (s : Spot). Some s) c.static_spot.ensures ∙ sym (ap (option_map (static_spot laid)) e)

pub returns-in-None : goal.returns-in-None
returns-in-None c =
    let laid = laid_tree c.args.laid.now in
    let n = c.args.name in
    let p = c.args.place in
    let e = last_named_is laid.file.statics n p ∙ ap (λ xs. last_at xs n p) (sym c.requires.indexed.named) ∙ sym c.last.ensures ∙ c.in-None.is in
    sym (ap (option_map (static_spot laid)) e)
