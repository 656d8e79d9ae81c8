use Rattle.std.proofs.Common.{◌∙◌, sym}
use Rattle.std.proofs.lemmas.Bool.{true≢false}
use Rattle.access_partners.proofs.Racing.{never_meet}
use Rattle.access_partners.proofs.meeting.do_meet.Goals as goal

pub returns : goal.returns
returns c = (
  λ e. absurd (true≢false (sym e)),
  λ h. absurd (never_meet c.args.one c.args.other c.args.one_points.now c.args.other_points.now
      (sym c.may_race.ensures ∙ c.if-may_race.false) h),
)
