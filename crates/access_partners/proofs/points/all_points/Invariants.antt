use Rattle.std.proofs.Common.{◌↔◌, take}
use Rattle.std.specs.Prelude.{Contains}
use Rattle.access_partners.specs.declared.points.Point.{Point as APoint}
use Rattle.access_partners.specs.reading.Points.{IsPointOf}
use Rattle.access_partners.proofs.points.all_points.Given as goal

abbrev pub invariant-loop-site : goal.invariant-loop-site
invariant-loop-site l = (q : APoint) → Contains l.points.items q ↔ IsPointOf (take l.site-index l.sites) q
