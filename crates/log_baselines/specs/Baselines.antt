-- The log that comes out of a log by an old one.
use Rattle.std.specs.Prelude.{◌≡◌, ℕ, Bool, true, false, List, [], ◌∷◌, ◌++◌, length, codes, IsTrue}
use Rattle.std.specs.Prelude.{Option, Some, None}
use Rattle.std.specs.List.{list_all, list_any}
use Rattle.serde_json.specs.Data.{Data}
use Rattle.serde_json.specs.Written.{IsInOrder}
use Rattle.log_baselines.specs.Causes.{AreRemarks, IsLog, IsValueOf}
use Rattle.log_baselines.specs.Keys.{keys_of}
use Rattle.log_baselines.specs.Logs.{prints_of}
use Rattle.log_baselines.specs.Results.{absents, found, with_list}
use Rattle.log_baselines.specs.Standings.{stands, standings_text}
use Rattle.log_baselines.specs.Suppressions.{is_reasoned}
use Rattle.log_baselines.specs.declared.standings.Standing.TheVariants.{New}

-- a log of this tool: its run, the results that this has found, and their keys
pub record IsParts (log run : Data) (results : List Data) (keys : List (List ℕ)) : Type 0 where
  pub log_is : IsLog log run results
  pub prints : List (List ℕ)
  pub prints_are : prints_of results ≡ Some prints
  pub keys_are : keys ≡ keys_of prints

-- the bytes are a log of this tool with these parts
abbrev pub IsRead : List ℕ → Data → Data → List Data → List (List ℕ) → Type 0
IsRead bytes log run results keys = IsValueOf bytes log × IsParts log run results keys

-- the results of an old log and their keys, where there is one, and none else. What they keep of their suppressions says
-- why.
abbrev pub IsOld : Option (List ℕ) → Bool → List Data → List (List ℕ) → Type 0
IsOld None compared results keys = (compared ≡ false) × (results ≡ []) × (keys ≡ [])
IsOld (Some bytes) compared results keys =
    (compared ≡ true) × (log : Data) × (run : Data) × IsRead bytes log run results keys
    × IsTrue (list_all is_reasoned results)

-- a log with other results
abbrev pub with_results : Data → Data → List Data → Data
with_results log run results = with_list (codes "runs") (with_list (codes "results") results run ∷ []) log

-- the results of the log that comes out: those that were found, each as it was but for its state and its suppressions,
-- in their order, and then those of the old log that were found no more, in theirs
abbrev pub all_results : Bool → List (List ℕ) → List Data → List Data → List (List ℕ) → List Data → List Data
all_results compared keys remarks results old_keys olds =
    found compared old_keys olds keys remarks results ++ absents keys old_keys olds

-- a line of JSON with this value
abbrev pub IsLineOf : List ℕ → Data → Type 0
IsLineOf line value = (text : List ℕ) × (line ≡ text ++ 10 ∷ []) × IsInOrder text value

-- a log with these results, as a line of JSON; where they stand, in words; and whether one that is to be mended is new
-- and not suppressed
pub record IsWrittenBy (value run : Data) (results : List Data) (log standings : List ℕ) (is_worse : Bool) : Type 0
  where
    pub line : IsLineOf log (with_results value run results)
    pub stand : standings ≡ standings_text results
    pub worse : is_worse ≡ list_any (stands New) results

-- what comes out of the results of a log with their keys and remarks on them, by an old log, where there is one
pub record IsOutcome (value run : Data) (keys : List (List ℕ)) (told results : List Data) (old : Option (List ℕ))
    (log standings : List ℕ) (is_worse : Bool) : Type 0 where
  pub compared : Bool
  pub olds : List Data
  pub old_keys : List (List ℕ)
  pub reads_old : IsOld old compared olds old_keys
  pub written : IsWrittenBy value run (all_results compared keys told results old_keys olds) log standings is_worse

-- the log that comes out of a log, with remarks on its results, by an old one, where there is one
pub record IsBaseline (new remarks : List ℕ) (old : Option (List ℕ)) (log standings : List ℕ) (is_worse : Bool) : Type 0
  where
    pub value : Data
    pub run : Data
    pub results : List Data
    pub keys : List (List ℕ)
    pub reads : IsRead new value run results keys
    pub told : List Data
    pub reads_remarks : AreRemarks remarks told
    pub as_many : length told ≡ length results
    pub outcome : IsOutcome value run keys told results old log standings is_worse
