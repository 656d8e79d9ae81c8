-- The events of the code as plain data.
use Rattle.std.specs.Prelude.{List, map, reverse}
use Rattle.std.specs.Arc.{arc_value}
use Rattle.store_core.specs.declared.events.Event.{Event}
use Rattle.store_core.specs.declared.events.Event.TheVariants.{Read, Publish}
use Rattle.store_core.specs.Histories as plain

module _ {P S M : Type 0} where
  -- an event with the value of what it adds
  abbrev pub plain_event : Event P S M → plain.Event S
  plain_event (Read worker task version) = plain.Read worker task version
  plain_event (Publish worker task version after added) = plain.Publish worker task version after (arc_value added)

  -- the past of a list of events in the order of time
  abbrev pub past_of : List (Event P S M) → plain.Past S
  past_of events = reverse (map plain_event events)
