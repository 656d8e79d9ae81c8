use Rattle.std.proofs.Common.{◌≡◌, ◌+◌, drop}
use Rattle.refusal_hints.specs.Words.{comment_length}
use Rattle.refusal_hints.proofs.words.comment_length.Given as goal

abbrev pub invariant-loop-i : goal.invariant-loop-i
invariant-loop-i l = comment_length l.text ≡ l.i + comment_length (drop l.i l.text)
