use Rattle.std.proofs.Common.{◌≡◌, ◌∙◌, subst, [], ◌∷◌, to_z, of_z, arith, rules}
use Rattle.std.specs.Int.{w128}
use Rattle.std.proofs.lemmas.Int.{to_z-of_z}
use Rattle.std.specs.Prelude.{MatchBool}
use Rattle.certificate_words.specs.Words.{line_onto}
use Rattle.certificate_parts.specs.Fronts.{line_of, IsNotFront}
use Rattle.certificate_parts.proofs.RowsRead.{marks_more}
use Rattle.certificate_parts.proofs.rows.marks_in.Goals as goal

pub loop-key-preserved : goal.loop-key-preserved
loop-key-preserved c =
    let i = c.loop-key.key-index in
    let letters = c.args.letters.now in
    let mid = c.loop-key.ahead in
    let new = c.take.new.self in
    let p : to_z w128 (of_z w128 c.from.result) ≡ c.from.result = search (rules, to_z-of_z) in
    marks_more letters c.requires.letters c.args.keys.now c.requires.distinct i c.args.ahead.now mid new
    c.loop-key.marks.items c.push.new.self.items c.in_ok-mark.mark c.loop-key-test.true
    (let f = c.type_inv.keys i in omega (arith, f)) c.loop-key.invariant
    (subst (λ z. MatchBool c.in_ok-mark.mark (mid ≡ line_onto (line_of letters (z ∷ [])) new)
    ((new ≡ mid) × IsNotFront (line_of letters (z ∷ [])) mid)) (p ∙ c.from.ensures) c.in_ok-mark.ensures)
    c.in_ok-push.ensures.items
