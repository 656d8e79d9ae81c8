use Rattle.std.proofs.Common.{◌≡◌, ◌↔◌, IsTrue, pos, to_z, of_z, sym, subst, ◌∙◌, arith}
use Rattle.std.proofs.lemmas.Int.{ints, to_z-of_z}
use Rattle.std.proofs.lemmas.Result.{IfOk-weaker}
use Rattle.std.specs.Int.{w128}
use Rattle.strided_dom.specs.Progression.{Has}
use Rattle.operand_orders.specs.reading.Views.{solved}
use Rattle.open_choices.specs.reading.Found.{LeavesFrom}
use Rattle.open_choices.proofs.Searching.{not_found, not_so}
use Rattle.open_choices.proofs.members.leaves_at.Goals as goal

pub returns-then-not-has : goal.returns-then-not-has
returns-then-not-has c =
    let seen : to_z w128 (of_z w128 c.from.result) ≡ pos c.args.offset =
    to_z-of_z w128 c.from.result (omega (arith, ints, c.from.ensures, c.ranges.offset.fits)) ∙ c.from.ensures in
    not_found (λ h. not_so c.has.result c.has.ensures c.if-not-has.true
    (subst (λ v. Has c.args.set.now v) (sym seen) h.0))

pub returns : goal.returns
returns c =
    let seen : to_z w128 (of_z w128 c.from.result) ≡ pos c.args.offset =
    to_z-of_z w128 c.from.result (omega (arith, ints, c.from.ensures, c.ranges.offset.fits)) ∙ c.from.ensures in
    let has = subst (λ v. Has c.args.set.now v) seen (c.has.ensures.0 c.if-not-has.false) in
    let From = LeavesFrom (solved c.args.view) c.args.object c.args.target c.args.offset (Has c.args.steps.now) in
    IfOk-weaker c.leaves_from.result (λ x. IsTrue x ↔ From)
    (λ x. IsTrue x ↔ (Has c.args.set.now (pos c.args.offset) × From))
    (λ x h. (λ e. (has, h.0 e), λ p. h.1 p.1)) c.leaves_from.ensures
