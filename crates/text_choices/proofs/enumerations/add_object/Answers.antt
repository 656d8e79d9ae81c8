use Rattle.std.proofs.Common.{◌≡◌, Bool, List, ap, subst, ◌∙◌}
use Rattle.std.specs.Prelude.{IsTrue, OnOk}
use Rattle.tm_typed.specs.declared.files.StaticCell.{StaticCell}
use Rattle.tm_laid.specs.Layouts.{laid_tree}
use Rattle.text_choices.specs.declared.kinds.Choice.{Choice}
use Rattle.text_choices.specs.declared.kinds.Kind.TheVariants as Kinds
use Rattle.text_choices.specs.Choices.{Adds}
use Rattle.text_choices.specs.reading.Typed.{any_negative}
use Rattle.text_choices.proofs.enumerations.add_object.Goals as goal

pub returns : goal.returns
returns c =
    let laid = laid_tree c.args.laid.now in
    let object = c.args.object.now in
    let is = c.any_negative-holds.ensures ∙ ap (λ (cells : List StaticCell). any_negative laid object.of cells) c.deref.ensures.value in
    subst (λ (b : Bool). OnOk c.add_where.result (Adds c.args.choices.now.items c.add_where.new.choices.items
    (λ (x : Choice). IsTrue b × (x ≡ record { place = object.place; kind = Kinds.Enum })))) is c.add_where.ensures
