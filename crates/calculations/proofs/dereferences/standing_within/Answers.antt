use Rattle.std.proofs.Common.{◌≡◌, ◌+◌, ℤ, ◌<ℤ◌, pos, to_z, of_z, true, sym, ap, subst, ◌∙◌, arith}
use Rattle.std.proofs.lemmas.Bool.{false≢true}
use Rattle.std.specs.Int.{w128}
use Rattle.std.proofs.lemmas.Int.{ints, to_z-of_z}
use Rattle.strided_dom.specs.Progression.{Has, IsHull, single}
use Rattle.strided_dom.specs.Combinations.{IsInEither}
use Rattle.calculations.specs.reading.Ends.{Stands, IsStandingUpTo}
use Rattle.calculations.proofs.StandingOffsets.{standing_none, standing_skip, standing_there, standing_fails, standing_all, all_standing, from_first, to_last}
use Rattle.calculations.proofs.dereferences.standing_within.Goals.{then-has+then-stands_at, then-has+else-stands_at, else-has}
use Rattle.calculations.proofs.dereferences.standing_within.Goals as goal

pub loop-offset-init : goal.loop-offset-init
loop-offset-init c =
    let There = Stands c.args.followed.now c.args.object in
    let o = c.args.offsets.now in
    subst (λ n. IsStandingUpTo There o n c.empty-standing.result true) (sym c.from-offset.ensures)
    (subst (λ s. IsStandingUpTo There o c.args.first s true) (sym c.empty-standing.ensures) (standing_none There o c.args.first (from_first o c.args.first c.args.last c.requires.ends)))

pub loop-offset-preserved : goal.loop-offset-preserved
loop-offset-preserved c =
    let There = Stands c.args.followed.now c.args.object in
    let o = c.args.offsets.now in
    let n = c.loop-offset.offset in
    let same = c.set-set.ensures.value in
    let seen : to_z w128 (of_z w128 c.from.result) ≡ pos n =
    to_z-of_z w128 c.from.result (omega (arith, ints, c.from.ensures, c.loop-offset-test.true, c.from-offset-end.ensures, c.ranges.last.fits)) ∙ c.from.ensures in
    elim c.if-has.branch [
      | then-has+then-stands_at w ↦
          subst (λ s. IsStandingUpTo There o (n + 1) s c.if-has.all) (sym w.standing-is)
          (subst (IsStandingUpTo There o (n + 1) w.hull-standing.result) (sym w.all-is)
          (standing_there There o n c.loop-offset.standing c.loop-offset.all c.loop-offset.invariant (subst (λ s. Has s (pos n)) same (subst (λ v. Has c.set-set.result v) seen (c.has.ensures.0 w.if-has.true))) (sym w.stands_at.ensures ∙ w.if-stands_at.true)
          w.hull-standing.result (subst (λ s. IsHull (IsInEither c.loop-offset.standing s) w.hull-standing.result) (w.one.ensures ∙ ap single (to_z-of_z w128 w.from-then-stands_at.result (omega (arith, ints, w.from-then-stands_at.ensures, c.loop-offset-test.true, c.from-offset-end.ensures, c.ranges.last.fits)) ∙ w.from-then-stands_at.ensures)) w.hull-standing.ensures)))
      | then-has+else-stands_at w ↦
          subst (λ s. IsStandingUpTo There o (n + 1) s c.if-has.all) (sym w.standing-is)
          (subst (IsStandingUpTo There o (n + 1) c.loop-offset.standing) (sym w.all-is)
          (standing_fails There o n c.loop-offset.standing c.loop-offset.all c.loop-offset.invariant (subst (λ s. Has s (pos n)) same (subst (λ v. Has c.set-set.result v) seen (c.has.ensures.0 w.if-has.true))) (λ stands. false≢true (sym w.if-stands_at.false ∙ w.stands_at.ensures ∙ stands))))
      | else-has w ↦
          subst (λ s. IsStandingUpTo There o (n + 1) s c.if-has.all) (sym w.standing-is)
          (subst (IsStandingUpTo There o (n + 1) c.loop-offset.standing) (sym w.all-is)
          (standing_skip There o n c.loop-offset.standing c.loop-offset.all c.loop-offset.invariant (λ here. false≢true (sym w.if-has.false ∙ c.has.ensures.1 (subst (λ v. Has c.set-set.result v) (sym seen) (subst (λ s. Has s (pos n)) (sym same) here))))))
    ]

pub returns-clause-hull : goal.returns-clause-hull
returns-clause-hull c =
    let There = Stands c.args.followed.now c.args.object in
    let o = c.args.offsets.now in
    let behind : (v : ℤ) → Has o.offsets v → v <ℤ pos c.loop-offset.offset = λ v h. let last = to_last o c.args.first c.args.last c.requires.ends v h in
    omega (arith, ints, last, c.loop-offset-test.false, c.from-offset-end.ensures) in
    standing_all There o c.loop-offset.offset c.loop-offset.standing c.loop-offset.all c.loop-offset.invariant behind

pub returns-clause-all : goal.returns-clause-all
returns-clause-all c =
    let There = Stands c.args.followed.now c.args.object in
    let o = c.args.offsets.now in
    let behind : (v : ℤ) → Has o.offsets v → v <ℤ pos c.loop-offset.offset = λ v h. let last = to_last o c.args.first c.args.last c.requires.ends v h in
    omega (arith, ints, last, c.loop-offset-test.false, c.from-offset-end.ensures) in
    all_standing There o c.loop-offset.offset c.loop-offset.standing c.loop-offset.all c.loop-offset.invariant behind
