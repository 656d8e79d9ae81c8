use Rattle.std.proofs.Common.{◌≡◌, List, ◌++◌, map, drop}
use Rattle.std.specs.Prelude.{option_map}
use Rattle.serde_json.specs.View.{view}
use Rattle.tm_terms.specs.declared.alarms.Alarm.{Alarm}
use Rattle.report_reading.specs.reading.Found.{alarms_of}
use Rattle.report_reading.proofs.alarms.alarms_of.Given as goal

abbrev pub invariant-loop-item : goal.invariant-loop-item
invariant-loop-item l =
    alarms_of (map view l.items)
    ≡ option_map (λ (rest : List Alarm). l.alarms.items ++ rest) (alarms_of (map view (drop l.item-index l.items)))
