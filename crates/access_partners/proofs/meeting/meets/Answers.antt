use Rattle.std.proofs.Common.{◌∙◌, ap, sym, refl, arith}
use Rattle.std.proofs.lemmas.Bool.{true≢false}
use Rattle.access_races.specs.declared.accesses.Way.{Way}
use Rattle.access_races.specs.Races.{do_race}
use Rattle.access_partners.proofs.Racing.{none_below, none_more, none_at_end, none_behind, meets_at}
use Rattle.access_partners.proofs.meeting.meets.Goals as goal

pub loop-at-init : goal.loop-at-init
loop-at-init c =
    none_below c.args.way c.args.cell c.args.other c.args.points.now c.requires c.first_from-first.result
    c.first_from-first.ensures

pub loop-at-preserved : goal.loop-at-preserved
loop-at-preserved c =
    none_more c.args.way c.args.cell c.args.other c.args.points.now c.requires c.first_from-first.result
    c.first_from-first.ensures c.loop-at.at c.loop-at.invariant
    (ap (λ (w : Way). do_race c.args.way w) (sym c.way_at.ensures) ∙ sym c.do_race.ensures ∙ c.if-do_race.false)

pub returns-then-point-cell : goal.returns-then-point-cell
returns-then-point-cell c = (
  λ e. absurd (true≢false (sym e)),
  λ h. absurd (none_behind c.args.way c.args.cell c.args.other c.args.points.now c.requires c.first_from-first.result
      c.first_from-first.ensures c.loop-at.at c.loop-at.auto.at c.loop-at-test.true c.loop-at.invariant
      c.if-point-cell.true h),
)

pub returns-then-do_race : goal.returns-then-do_race
returns-then-do_race c = (
  λ t. meets_at c.args.way c.args.cell c.args.other c.args.points.now c.requires c.first_from-first.result
      c.first_from-first.ensures c.loop-at.at c.loop-at-test.true c.if-point-cell.false
      (ap (λ (w : Way). do_race c.args.way w) (sym c.way_at.ensures) ∙ sym c.do_race.ensures ∙ c.if-do_race.true),
  λ h. refl,
)

pub returns : goal.returns
returns c = (
  λ e. absurd (true≢false (sym e)),
  λ h. absurd (none_at_end c.args.way c.args.cell c.args.other c.args.points.now c.requires c.first_from-first.result
      c.first_from-first.ensures (λ k lt. c.loop-at.invariant k (omega (arith, lt))) h),
)
