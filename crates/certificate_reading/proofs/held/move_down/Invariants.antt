use Rattle.std.proofs.Common.{◌-◌, ◌≡◌, ◌≤◌, drop, length, take}
use Rattle.certificate_reading.proofs.held.move_down.Given as goal

-- so many bytes stand where they belong, and those behind are as they were
abbrev pub invariant-loop-moved : goal.invariant-loop-moved
invariant-loop-moved l = record {
  within : l.moved ≤ l.count;
  size : length l.bytes ≡ length l.initial.bytes;
  done : take l.moved l.bytes ≡ take l.moved (drop l.from l.initial.bytes);
  left : drop l.moved l.bytes ≡ drop l.moved l.initial.bytes;
}

abbrev pub decreases-loop-moved : goal.decreases-loop-moved
decreases-loop-moved l = l.count - l.moved
