use Rattle.std.proofs.Common.{◌≡◌, ◌++◌, drop, filter}
use Rattle.tm_terms.specs.declared.places.Place.{Place}
use Rattle.note_details.specs.Races.{is_at}
use Rattle.note_details.specs.reading.Races.{row_at}
use Rattle.note_details.proofs.races.by_places.Given as goal

-- those that are kept for each place, and those that are left
abbrev pub invariant-loop-racer : goal.invariant-loop-racer
invariant-loop-racer l = (q : Place) → row_at l.rows q ++ filter (is_at q) (drop l.racer-index l.racers) ≡ filter (is_at q) l.racers
