-- What the code holds, as lists.
use Rattle.std.specs.Prelude.{List, Option, option_map, Vec}
use Rattle.std.specs.Borrow.{Bor}
use Rattle.std.specs.declared.alloc.Global.{Global}
use Rattle.serde_json.specs.Data.{Items}
use Rattle.serde_json.specs.View.{items_view}
use Rattle.serde_json.specs.declared.value.Value.{Value}
use Rattle.tm_terms.specs.declared.alarms.Alarm.{Alarm}

abbrev pub items_seen : Option (Bor (Vec Value Global)) → Option Items
items_seen found = option_map (λ items. items_view items.now.items) found

abbrev pub alarms_seen : Option (Vec Alarm Global) → Option (List Alarm)
alarms_seen found = option_map (λ alarms. alarms.items) found
