-- Where the results of a log stand.
use Rattle.std.specs.Prelude.{ℕ, ◌==◌, ◌&&◌, Bool, true, false, not, List, [], ◌∷◌, ◌++◌, length, codes, count_by, decimal}
use Rattle.std.specs.Prelude.{if◌then◌else◌}
use Rattle.std.specs.List.{flat_map}
use Rattle.serde_json.specs.Data.{Data}
use Rattle.log_baselines.specs.Logs.{has_text, is_absent}
use Rattle.log_baselines.specs.Suppressions.{suppressions_of}
use Rattle.log_baselines.specs.declared.standings.Standing.{Standing}
use Rattle.log_baselines.specs.declared.standings.Standing.TheVariants.{New, Unchanged, Absent, Suppressed}

-- where a result stands: it was found no more, or it is suppressed, or the old log has it too, or it is new
abbrev pub standing_of : Data → Standing
standing_of result =
    if is_absent result then Absent
    else (if not (length (suppressions_of result) == 0) then Suppressed
    else (if has_text (codes "baselineState") (codes "unchanged") result then Unchanged
    else New))

-- a standing is this one
abbrev pub is_same : Standing → Standing → Bool
is_same New New = true
is_same Unchanged Unchanged = true
is_same Absent Absent = true
is_same Suppressed Suppressed = true
is_same _ _ = false

-- a result that is to be mended, and no mere note, nor one that a human is to look at, which has no level
abbrev pub is_problem : Data → Bool
is_problem result =
    not (has_text (codes "level") (codes "note") result) && not (has_text (codes "level") (codes "none") result)

-- a result that is to be mended stands so
abbrev pub stands : Standing → Data → Bool
stands standing result = is_same standing (standing_of result) && is_problem result

-- how many results that are to be mended stand so
abbrev pub count_of : Standing → List Data → ℕ
count_of standing results = count_by (stands standing) results

-- the word of a standing
abbrev pub word_of : Standing → List ℕ
word_of New = codes "new"
word_of Unchanged = codes "unchanged"
word_of Absent = codes "absent"
word_of Suppressed = codes "suppressed"

-- the line of a result
abbrev pub standing_line : Data → List ℕ
standing_line result = word_of (standing_of result) ++ 10 ∷ []

-- a line for each result
abbrev pub standing_lines : List Data → List ℕ
standing_lines results = flat_map standing_line results

-- four numbers in a line
abbrev pub counts_line : ℕ → ℕ → ℕ → ℕ → List ℕ
counts_line new unchanged absent suppressed =
    codes "new " ++ (decimal new ++ (codes " unchanged " ++ (decimal unchanged ++ (codes " absent " ++ (decimal absent
    ++ (codes " suppressed " ++ (decimal suppressed ++ 10 ∷ [])))))))

-- a line for each result, and then how many of those that are to be mended stand how
abbrev pub standings_text : List Data → List ℕ
standings_text results =
    standing_lines results ++ counts_line (count_of New results) (count_of Unchanged results) (count_of Absent results)
    (count_of Suppressed results)
