-- What the scan of the code has found so far.
use Rattle.unit_plans.specs.Sights.{Stand}
use Rattle.unit_plans.specs.declared.scans.Scan.{Scan}

abbrev pub stand_of : Scan → Stand
stand_of scan = record { spot = scan.spot; rooms = scan.rooms.items; sights = scan.sights.items }
