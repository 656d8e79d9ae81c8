use Rattle.std.proofs.Common.{refl}
use Rattle.report_views.proofs.Sharing.{strange_of}
use Rattle.report_views.proofs.shares.shared.Goals as goal

pub returns-then-told-ways-clause-refused : goal.returns-then-told-ways-clause-refused
returns-then-told-ways-clause-refused c =
    λ cause e. strange_of c.args.findings.now c.args.ways.now c.in-Ok.counts.items c.in-Ok.told _ _ cause
    c.if-told-ways.true c.in-Ok.ensures.0 c.in-Ok.ensures.1 refl e
