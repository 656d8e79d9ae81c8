use Rattle.std.proofs.Common.{◌≡◌, ◌<◌, ℕ, length, get_or}
use Rattle.access_partners.specs.reading.Pairs.{IsFirstSame}
use Rattle.access_partners.proofs.pairs.firsts.Given as goal

abbrev pub invariant-loop-at : goal.invariant-loop-at
invariant-loop-at l = record {
  count : length l.firsts.items ≡ l.at;
  each : (i : ℕ) → i < l.at → IsFirstSame l.accesses l.points i (get_or l.firsts.items i 0);
}
