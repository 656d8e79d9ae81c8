-- The text of a history: a line for each event, in the order of time. Workers, tasks and versions stand in decimal.
use Rattle.std.specs.Prelude.{ℕ, List, [], ◌∷◌, ◌++◌, codes, decimal}
use Rattle.store_core.specs.Histories.{Event, Read, Publish, Past}

-- read WORKER TASK VERSION
abbrev pub read_line : ℕ → ℕ → ℕ → List ℕ
read_line worker task version =
    codes "read " ++ (decimal worker ++ (codes " " ++ (decimal task ++ (codes " " ++ (decimal version ++ (10 ∷ []))))))

-- publish WORKER TASK VERSION AFTER
abbrev pub publish_line : ℕ → ℕ → ℕ → ℕ → List ℕ
publish_line worker task version after =
    codes "publish " ++ (decimal worker ++ (codes " " ++ (decimal task ++ (codes " " ++ (decimal version
    ++ (codes " " ++ (decimal after ++ (10 ∷ []))))))))

-- the line of an event
abbrev pub event_line : {S : Type 0} → Event S → List ℕ
event_line (Read worker task version) = read_line worker task version
event_line (Publish worker task version after added) = publish_line worker task version after

-- a past has its newest event first, and its text the oldest one
abbrev pub history_text : {S : Type 0} → Past S → List ℕ
history_text [] = []
history_text (event ∷ past) = history_text past ++ event_line event
