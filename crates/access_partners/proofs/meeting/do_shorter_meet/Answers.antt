use Rattle.access_partners.proofs.Racing.{meet_back}
use Rattle.access_partners.proofs.meeting.do_shorter_meet.Goals as goal

pub returns-then-is_longer : goal.returns-then-is_longer
returns-then-is_longer c =
    let these = c.args.one_points.now in
    let those = c.args.other_points.now in (
      λ t. meet_back c.args.one c.args.other these those (c.do_points_meet.ensures.0 t),
      λ h. c.do_points_meet.ensures.1 (meet_back c.args.other c.args.one those these h),
    )
