use Rattle.std.proofs.Common.{◌∙◌, arith}
use Rattle.std.specs.Int.{w128}
use Rattle.std.proofs.lemmas.Int.{ints, to_z-of_z}
use Rattle.std.proofs.lemmas.Result.{on_ok_weaker}
use Rattle.certificate_texts.proofs.Adding.{as_number}
use Rattle.certificate_texts.proofs.pages.Page.push_natural.Goals as goal

pub returns : goal.returns
returns c =
    on_ok_weaker c.push_number.result (λ h. as_number h (to_z-of_z w128 c.from.result (omega (arith, ints, c.from.ensures))
    ∙ c.from.ensures)) c.push_number.ensures
