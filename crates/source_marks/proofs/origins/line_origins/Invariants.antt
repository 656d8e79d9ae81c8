use Rattle.std.proofs.Common.{◌≡◌, ◌≤◌, ◌+◌, List, ℕ, ◌++◌, length, map, vec_len}
use Rattle.std.specs.Prelude.{option_map}
use Rattle.source_marks.specs.Marks.{greatest_line, lines_of, Origin, origins_from, origins_of}
use Rattle.source_marks.specs.reading.Seen.{origin_seen}
use Rattle.source_marks.proofs.origins.line_origins.Given as goal

-- the origins so far are made, and those that are left go on from here
abbrev pub invariant-loop-origins : goal.invariant-loop-origins
invariant-loop-origins l = record {
  made : origins_of l.name l.text
      ≡ option_map (λ (rest : List Origin). map origin_seen l.origins.items ++ rest) (origins_from (origin_seen l.origin) (lines_of l.rest));
  lines : (earlier : List (List ℕ)) × (lines_of l.text ≡ earlier ++ lines_of l.rest) × (length earlier ≡ vec_len l.origins);
  small : l.origin.line + length l.rest ≤ greatest_line + length l.text;
  within : length l.rest ≤ length l.text;
}

abbrev pub decreases-loop-origins : goal.decreases-loop-origins
decreases-loop-origins l = length l.rest
