use Rattle.std.proofs.Common.{◌≡◌, ◌∙◌, subst, ap, pos, [], ◌∷◌, to_z, of_z, arith, rules}
use Rattle.std.specs.Int.{w128}
use Rattle.std.proofs.lemmas.Int.{to_z-of_z}
use Rattle.tm_laid.specs.Layouts.{laid_tree}
use Rattle.temporary_extents.specs.Extents.{IsWithin}
use Rattle.post_recheck.specs.state_fits.Kinds.{InExtents}
use Rattle.certificate_words.specs.Words.{tag, number}
use Rattle.certificate_words.specs.Lines.{words_of}
use Rattle.certificate_parts.specs.Fronts.{IsNotBegun}
use Rattle.certificate_reading.proofs.RowsOfValues.{no_key, no_value, value_step, lawful_rest, found_value}
use Rattle.certificate_reading.proofs.RowsOfValues.{missing_value}
use Rattle.certificate_reading.proofs.rows.value_at.Goals as goal

pub returns-in_default : goal.returns-in_default
returns-in_default c =
    let p : to_z w128 (of_z w128 c.from.result) ≡ c.from.result = search (rules, to_z-of_z) in
    no_key c.args.letters.now c.requires.letters (InExtents (laid_tree c.args.laid.now) c.args.extents.now) c.args.key
    c.args.ahead.now (words_of c.words.result.now) c.words.ensures
    (subst (λ z. IsNotBegun (words_of c.words.result.now) c.args.letters.now (z ∷ [])) (p ∙ c.from.ensures)
    c.in_default.ensures)

pub returns-in_default-2 : goal.returns-in_default-2
returns-in_default-2 c =
    let p : to_z w128 (of_z w128 c.from.result) ≡ c.from.result = search (rules, to_z-of_z) in
    no_value c.args.letters.now c.requires.letters (InExtents (laid_tree c.args.laid.now) c.args.extents.now) c.args.key
    c.args.ahead.now (words_of c.words.result.now) c.words.ensures (words_of c.in-Some.rest.now)
    (subst (λ z. words_of c.words.result.now ≡ tag c.args.letters.now ∷ number z ∷ words_of c.in-Some.rest.now)
    (p ∙ c.from.ensures) c.in-Some.ensures)
    (missing_value (IsWithin (laid_tree c.args.laid.now) c.extent_at.result)
    (InExtents (laid_tree c.args.laid.now) c.args.extents.now c.args.key)
    (ap (IsWithin (laid_tree c.args.laid.now)) c.extent_at.ensures) (words_of c.in-Some.rest.now) c.in_ok-value.field-0
    c.in_default-2.is c.in_ok-value.ensures)

pub returns : goal.returns
returns c =
    let p : to_z w128 (of_z w128 c.from.result) ≡ c.from.result = search (rules, to_z-of_z) in
    let is = subst (λ z. words_of c.words.result.now ≡ tag c.args.letters.now ∷ number z ∷ words_of c.in-Some.rest.now)
    (p ∙ c.from.ensures) c.in-Some.ensures in
    value_step c.args.letters.now c.requires.letters (InExtents (laid_tree c.args.laid.now) c.args.extents.now) c.args.key
    c.args.ahead.now (words_of c.words.result.now) c.words.ensures (words_of c.in-Some.rest.now) is c.in-Some-2.value
    c.step.new.self (omega arith)
    (found_value (IsWithin (laid_tree c.args.laid.now) c.extent_at.result)
    (InExtents (laid_tree c.args.laid.now) c.args.extents.now c.args.key)
    (ap (IsWithin (laid_tree c.args.laid.now)) c.extent_at.ensures) (words_of c.in-Some.rest.now) c.in_ok-value.field-0
    c.in-Some-2.value c.in-Some-2.is c.in_ok-value.ensures)
    (lawful_rest c.args.ahead.now (words_of c.words.result.now) (words_of c.in-Some.rest.now) c.args.letters.now
    (pos c.args.key) c.words.ensures is) c.in_ok-step.ensures
