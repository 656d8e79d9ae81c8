use Rattle.std.proofs.Common.{[]}
use Rattle.program_reports.specs.post_recheck.Pairs.{lists_of}
use Rattle.value_ranges.specs.reading.Reached.{AddsPlaces, IsOfTables}
use Rattle.value_ranges.proofs.places.reached_in.Given as goal

abbrev pub invariant-loop-number : goal.invariant-loop-number
invariant-loop-number l =
    AddsPlaces (λ place. IsOfTables l.graphs l.configured (lists_of l.tables) l.number place) [] l.places.items
