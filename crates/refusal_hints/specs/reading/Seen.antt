-- Words and rows of the code, as those of the definitions.
use Rattle.std.specs.Prelude.{List, ℕ, map}
use Rattle.std.specs.Borrow.{Bor}
use Rattle.refusal_hints.specs.declared.constructs.Construct.{Construct}
use Rattle.refusal_hints.specs.Rows.{Row}

-- the words that references lead to
abbrev pub words_seen : List (Bor (List ℕ)) → List (List ℕ)
words_seen words = map (λ w. w.now) words

-- a row of a table
abbrev pub row_seen : Bor (List ℕ) × Bor (List ℕ) × Bor (List ℕ) × Construct → Row
row_seen row =
    record { opening = row.0.now; before = row.1.now; behind = row.2.now; construct = row.3 }
