-- The laws of logs.
use Rattle.std.specs.Prelude.{◌≡◌, ℕ, List, length, map, sum}
use Rattle.std.specs.List.{flat_map}
use Rattle.source_marks.specs.Marks.{Origin}
use Rattle.report_reading.specs.Ways.{Way}
use Rattle.report_views.specs.Shares.{cut, shares}
use Rattle.report_views.specs.declared.spots.Finding.{Finding}
use Rattle.report_logs.specs.Logs.{IsLogged}
use Rattle.report_logs.specs.Sarif.{Told, told_of, ways_told}

-- a log has each finding once, in their order: none is left out
abbrev pub AllTold : Type 0
AllTold =
    (documents folder name text lines log : List ℕ) (origins : List Origin) (findings : List Finding) (ways : List Way)
    → (logged : IsLogged documents folder name text lines origins findings ways (shares findings ways) log)
    → map (λ (told : Told). told.spot)
    (told_of logged.spots logged.written.regions logged.written.functions logged.written.fingerprints
    (cut (shares findings ways) (ways_told ways logged.sites logged.written.site_regions)))
    ≡ logged.spots

-- a log has each thing that is told of alarms once, in their order, where none is left when each finding has had its
-- turn
abbrev pub AllWaysTold : Type 0
AllWaysTold =
    (documents folder name text lines log : List ℕ) (origins : List Origin) (findings : List Finding) (ways : List Way)
    → (logged : IsLogged documents folder name text lines origins findings ways (shares findings ways) log)
    → sum (shares findings ways) ≡ length ways
    → flat_map (λ (told : Told). told.ways)
    (told_of logged.spots logged.written.regions logged.written.functions logged.written.fingerprints
    (cut (shares findings ways) (ways_told ways logged.sites logged.written.site_regions)))
    ≡ ways_told ways logged.sites logged.written.site_regions
