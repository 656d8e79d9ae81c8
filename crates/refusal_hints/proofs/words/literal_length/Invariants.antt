use Rattle.std.proofs.Common.{◌≡◌, ◌+◌, drop, false}
use Rattle.refusal_hints.specs.Words.{literal_length}
use Rattle.refusal_hints.proofs.words.literal_length.Given as goal

abbrev pub invariant-loop-i : goal.invariant-loop-i
invariant-loop-i l = literal_length l.quote false l.text ≡ l.i + literal_length l.quote l.protected (drop l.i l.text)
