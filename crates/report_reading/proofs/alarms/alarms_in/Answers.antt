use Rattle.std.proofs.Common.{◌≡◌, ◌∙◌, ap, map}
use Rattle.serde_json.specs.View.{view}
use Rattle.report_reading.specs.reading.Found.{alarms_in, alarms_of}
use Rattle.report_reading.specs.reading.Seen.{alarms_seen}
use Rattle.report_reading.proofs.Rebuilt.{found_in, if_ok_by}
use Rattle.report_reading.proofs.alarms.alarms_in.Goals as goal

pub returns-in-Some : goal.returns-in-Some
returns-in-Some c =
    let items = c.in-Some.items.now.items in
    if_ok_by (λ found. alarms_seen found ≡ alarms_of (map view c.deref.result.now))
    (λ found. alarms_seen found ≡ alarms_in (view c.args.value.now)) c.alarms_of.result c.alarms_of.ensures
    (λ found e. found_in (view c.args.value.now) (map view items) (alarms_seen found) c.in-Some.ensures
    (e ∙ ap (λ vs. alarms_of (map view vs)) c.deref.ensures.value))
