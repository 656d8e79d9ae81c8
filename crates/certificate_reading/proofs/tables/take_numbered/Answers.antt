use Rattle.std.proofs.Common.{◌≡◌, ◌∙◌, subst, [], ◌∷◌, to_z, of_z, rules}
use Rattle.std.specs.Int.{w128}
use Rattle.std.proofs.lemmas.Int.{to_z-of_z}
use Rattle.std.specs.Prelude.{IfOk, MatchBool}
use Rattle.certificate_words.specs.Words.{line_onto}
use Rattle.certificate_parts.specs.Fronts.{line_of, IsNotFront}
use Rattle.certificate_reading.proofs.tables.take_numbered.Goals as goal

pub returns : goal.returns
returns c =
    let letters = c.args.letters.now in
    let old = c.args.ahead.now in
    let new = c.take.new.self in
    let p : to_z w128 (of_z w128 c.from.result) ≡ c.from.result = search (rules, to_z-of_z) in
    subst (λ z. IfOk c.take.result (λ taken. MatchBool taken (old ≡ line_onto (line_of letters (z ∷ [])) new)
    ((new ≡ old) × IsNotFront (line_of letters (z ∷ [])) old))) (p ∙ c.from.ensures) c.take.ensures
