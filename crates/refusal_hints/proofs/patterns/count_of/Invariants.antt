use Rattle.std.proofs.Common.{◌≡◌, ◌+◌, ◌≤◌, drop}
use Rattle.refusal_hints.specs.Patterns.{count_of}
use Rattle.refusal_hints.specs.reading.Seen.{words_seen}
use Rattle.refusal_hints.proofs.patterns.count_of.Given as goal

abbrev pub invariant-loop-other : goal.invariant-loop-other
invariant-loop-other l = record {
  value : count_of l.word (words_seen l.words) ≡ l.count + count_of l.word (words_seen (drop l.other-index l.words));
  few : l.count ≤ l.other-index;
}
