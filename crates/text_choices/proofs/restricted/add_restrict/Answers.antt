use Rattle.std.proofs.Common.{◌≡◌}
use Rattle.std.specs.Prelude.{IsTrue}
use Rattle.std.proofs.lemmas.Result.{on_ok_weaker}
use Rattle.text_choices.specs.declared.kinds.Kind.TheVariants as Kinds
use Rattle.text_choices.specs.Choices.{OfKind}
use Rattle.text_choices.specs.reading.Tokens.{restrict_at}
use Rattle.text_choices.proofs.Additions.{Adds-same}
use Rattle.text_choices.proofs.TokenLemmas.{restrict_added, restrict_found}
use Rattle.text_choices.proofs.restricted.add_restrict.Goals as goal

pub returns : goal.returns
returns c =
    let t = c.args.token in
    on_ok_weaker c.add_where.result
    (Adds-same c.args.choices.now.items c.add_where.new.choices.items (λ x. IsTrue c.is_restrict.result × (x ≡ record { place = t.place; kind = Kinds.Restrict })) (OfKind Kinds.Restrict (λ place. t ≡ restrict_at place))
    (restrict_added t c.is_restrict.result c.is_restrict.ensures) (restrict_found t c.is_restrict.result c.is_restrict.ensures))
    c.add_where.ensures
