-- What a report promises of the runs of its program. No definition here, nor any that one here cites, speaks of the
-- analysis.
--
-- In `int x; __task(1) void t(void) { x = 8 / x; }` the cell of `x` holds 0 when `t` divides: DIV occurs at the sign
-- `/`, so a report that lists all has that alarm.
use Rattle.std.specs.Prelude.{List, Contains}
use Rattle.sound_tables.specs.tm_cint.declared.Class.{Class}
use Rattle.sound_tables.specs.tm_terms.declared.alarms.Alarm.{Alarm}
use Rattle.sound_tables.specs.tm_terms.declared.places.Place.{Place}
use Rattle.sound_tables.specs.tm_laid.Layouts.{LaidTree}
use Rattle.sound_tables.specs.concrete_steps.Occurring.{Occurs}

-- each error that occurs in a run of the program that the scheduler allows, up to its first fault, stands in the report
-- at its place
abbrev pub ListsAll : LaidTree → List Alarm → Type 0
ListsAll laid report = (class : Class) (place : Place) → Occurs laid class place
    → Contains report (record { place = place; class = class })
