-- What a result becomes.
use Rattle.std.specs.Prelude.{ℕ, Bool, true, false, List, [], ◌∷◌, ◌++◌, codes, bytes_eq, Option, Some, None, if◌then◌else◌}
use Rattle.serde_json.specs.Data.{Data, null, boolean, number, string, array, object, put}
use Rattle.serde_json.specs.View.{items_of}
use Rattle.log_baselines.specs.Keys.{has_key}
use Rattle.log_baselines.specs.Suppressions.{in_source, kept_from, suppressions_of}

-- an object with another value under a key; what is no object stays as it is
abbrev pub with_member : List ℕ → Data → Data → Data
with_member key value null = null
with_member key value (boolean b) = boolean b
with_member key value (number n) = number n
with_member key value (string text) = string text
with_member key value (array values) = array values
with_member key value (object members) = object (put key value members)

-- an object with other values under a key
abbrev pub with_list : List ℕ → List Data → Data → Data
with_list key values value = with_member key (array (items_of values)) value

-- a result with its state, where there is one, and its suppressions
abbrev pub told : Option (List ℕ) → List Data → Data → Data
told None suppressions result = with_list (codes "suppressions") suppressions result
told (Some state) suppressions result =
    with_member (codes "baselineState") (string state) (with_list (codes "suppressions") suppressions result)

-- the old result with this key, of old results with their keys
abbrev pub partner : List ℕ → List (List ℕ) → List Data → Option Data
partner key (old_key ∷ old_keys) (old ∷ olds) = if bytes_eq key old_key then Some old else partner key old_keys olds
partner key _ _ = None

-- the state of a result by its partner in the old log, where there is an old log
abbrev pub state_of : Bool → Option Data → Option (List ℕ)
state_of false _ = None
state_of true None = Some (codes "new")
state_of true (Some old) = Some (codes "unchanged")

-- a result, by a remark on it and its partner
abbrev pub told_by : Bool → Option Data → Data → Data → Data
told_by compared other remark result = told (state_of compared other) (in_source remark ++ kept_from other) result

-- the results that were found, each by its key and the remark on it
abbrev pub found : Bool → List (List ℕ) → List Data → List (List ℕ) → List Data → List Data → List Data
found compared old_keys olds (key ∷ keys) (remark ∷ remarks) (result ∷ results) =
    told_by compared (partner key old_keys olds) remark result ∷ found compared old_keys olds keys remarks results
found compared old_keys olds _ _ _ = []

-- an old result that was found no more
abbrev pub told_absent : Data → Data
told_absent old = told (Some (codes "absent")) (suppressions_of old) old

-- the old results that were found no more: those whose keys are none of these
abbrev pub absents : List (List ℕ) → List (List ℕ) → List Data → List Data
absents keys (old_key ∷ old_keys) (old ∷ olds) =
    if has_key keys old_key then absents keys old_keys olds else told_absent old ∷ absents keys old_keys olds
absents keys _ _ = []
