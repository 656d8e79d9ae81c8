-- The code's findings in their files, as those of the definitions.
use Rattle.report_views.specs.declared.spots.Spot.{Spot as SpotCode}
use Rattle.report_views.specs.Spots.{Spot}

abbrev pub spot_seen : SpotCode → Spot
spot_seen spot = record { name = spot.origin.name.now; line = spot.origin.line; col = spot.col; rule = spot.rule }
