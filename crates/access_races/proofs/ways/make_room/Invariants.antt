use Rattle.std.proofs.Common.{◌≡◌, ◌≤◌, ◌^◌, ℕ, length}
use Rattle.access_races.specs.reading.Ways.{list_at}
use Rattle.access_races.proofs.ways.make_room.Given as goal

abbrev pub invariant-loop : goal.invariant-loop
invariant-loop g l =
    record {
      count : length l.lists.items ≡ l.counter;
      small : length l.initial.lists.items ≤ 2 ^ 32 → length l.lists.items ≤ 2 ^ 32;
      same : (n : ℕ) → list_at l.lists.items n ≡ list_at l.initial.lists.items n;
    }
