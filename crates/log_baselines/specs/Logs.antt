-- What is read of a log in the format SARIF 2.1.0 (OASIS, 2020).
use Rattle.std.specs.Prelude.{ℕ, Bool, false, not, List, [], ◌∷◌, codes, bytes_eq, filter}
use Rattle.std.specs.Prelude.{Option, Some, None, option_map, option_and_then}
use Rattle.serde_json.specs.Data.{Data, Items, no_items, item}
use Rattle.serde_json.specs.Find.{as_array, as_str, get}

-- ## Members

-- the values of an array
abbrev pub list_of : Items → List Data
list_of no_items = []
list_of (item value values) = value ∷ list_of values

-- the text that an object has under a key
abbrev pub text_at : List ℕ → Data → Option (List ℕ)
text_at key value = option_and_then as_str (get key value)

-- the values of the array that an object has under a key
abbrev pub list_at : List ℕ → Data → Option (List Data)
list_at key value = option_map list_of (option_and_then as_array (get key value))

-- there is a text, and it is this one
abbrev pub is_text : List ℕ → Option (List ℕ) → Bool
is_text text None = false
is_text text (Some found) = bytes_eq found text

-- an object has this text under a key
abbrev pub has_text : List ℕ → List ℕ → Data → Bool
has_text key text value = is_text text (text_at key value)

-- ## Logs

-- the value of a list of one
abbrev pub only : List Data → Option Data
only [] = None
only (value ∷ []) = Some value
only (value ∷ other ∷ values) = None

-- the run of a log, which has one
abbrev pub run_of : Data → Option Data
run_of log = option_and_then only (list_at (codes "runs") log)

-- what is told of the tool that a run is of
abbrev pub driver_of : Data → Option Data
driver_of run = option_and_then (get (codes "driver")) (get (codes "tool") run)

-- a run is one of this tool
abbrev pub is_own : Data → Bool
is_own run = is_text (codes "Cedratcleat") (option_and_then (text_at (codes "name")) (driver_of run))

-- a result that a baseline had, and that was found no more
abbrev pub is_absent : Data → Bool
is_absent result = has_text (codes "baselineState") (codes "absent") result

-- the results that a run has found
abbrev pub results_of : Data → Option (List Data)
results_of run = option_map (filter (λ result. not (is_absent result))) (list_at (codes "results") run)

-- the fingerprint of a result
abbrev pub print_of : Data → Option (List ℕ)
print_of result = option_and_then (text_at (codes "cedratcleat/v1")) (get (codes "partialFingerprints") result)

-- a fingerprint before others, where there are all
abbrev pub before : Option (List ℕ) → Option (List (List ℕ)) → Option (List (List ℕ))
before (Some print) prints = option_map (λ rest. print ∷ rest) prints
before None prints = None

-- the fingerprints of results, if each has one
abbrev pub prints_of : List Data → Option (List (List ℕ))
prints_of [] = Some []
prints_of (result ∷ results) = before (print_of result) (prints_of results)
