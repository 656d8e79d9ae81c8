use Rattle.std.proofs.Common.{◌≡◌, drop, map}
use Rattle.refusal_hints.specs.Hints.{construct_among}
use Rattle.refusal_hints.specs.reading.Seen.{row_seen, words_seen}
use Rattle.refusal_hints.proofs.hints.construct_among.Given as goal

abbrev pub invariant-loop-row : goal.invariant-loop-row
invariant-loop-row l =
    construct_among (record { before = words_seen l.before; behind = words_seen l.behind }) (map row_seen l.rows)
    ≡ construct_among (record { before = words_seen l.before; behind = words_seen l.behind })
    (map row_seen (drop l.row-index l.rows))
