use Rattle.std.proofs.Common.{true, false}
use Rattle.report_page.proofs.top.tell.Goals as goal

pub returns-in-Ok-clause-others : goal.returns-in-Ok-clause-others
returns-in-Ok-clause-others g c =
    let told = c.tell.ensures in
    (told.others false, told.other_faults.0, told.other_faults.1, told.others true)
