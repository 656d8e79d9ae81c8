use Rattle.std.proofs.Common.{◌≡◌, ◌∙◌, ap, subst, arith, length, take, All}
use Rattle.std.proofs.Math.Seq.{take-length}
use Rattle.std.proofs.lemmas.List.Elements.{All-more}
use Rattle.tm_terms.specs.declared.tokens.Shape.TheVariants as shape
use Rattle.unit_tokens.specs.Fates.{IsRightlyLeft}
use Rattle.unit_tokens.specs.declared.fates.Fate.TheVariants as fate
use Rattle.unit_tokens.proofs.fates.are_rightly_left.Goals as goal

pub loop-one-preserved : goal.loop-one-preserved
loop-one-preserved c =
    All-more (IsRightlyLeft c.args.fated.now) c.args.fated.now c.loop-one.one-index
    (record { token = record { shape = shape.Name (record { start = 0; length = 0 }); place = record { line = 0; col = 0 } }; fate = fate.Stays })
    c.loop-one-test.true c.loop-one.invariant (c.is_rightly_left.ensures c.if-not-is_rightly_left.false)

pub returns : goal.returns
returns c =
    let a = c.loop-one-test.false in
    let b = c.loop-one.auto.one-index-end in
    λ t. subst (λ fs. All (IsRightlyLeft c.args.fated.now) fs)
    (ap (λ n. take n c.args.fated.now) (let e : c.loop-one.one-index ≡ length c.args.fated.now = omega (arith, a, b) in e)
    ∙ take-length c.args.fated.now)
    c.loop-one.invariant
