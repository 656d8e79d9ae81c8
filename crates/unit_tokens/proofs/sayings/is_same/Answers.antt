use Rattle.std.proofs.Common.{◌≡◌, ◌∙◌, sym}
use Rattle.unit_tokens.proofs.SameSayings.{same_others}
use Rattle.unit_tokens.proofs.sayings.is_same.Goals as goal

pub returns-in-None-name_of-2 : goal.returns-in-None-name_of-2
returns-in-None-name_of-2 c = λ t.
    let same : c.args.other ≡ c.args.shape = c.is_same_shape.ensures t in
    same_others c.args.joined.now c.args.units.now c.args.other c.args.shape
    (sym c.name_of-in-None.ensures ∙ c.in-None-name_of-2.is) (sym c.name_of.ensures ∙ c.in-None.is) same
