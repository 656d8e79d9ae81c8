-- What comes out by an old log.
use Rattle.std.proofs.Common.{◌≡◌, ℕ, Bool, true, List, map, subst, string_bytes, String, Global, Bor}
use Rattle.std.specs.Prelude.{IfOk, IsTrue, Result, Ok, Err}
use Rattle.std.specs.List.{list_all}
use Rattle.serde_json.specs.Data.{Data}
use Rattle.serde_json.specs.declared.value.Value.{Value}
use Rattle.log_baselines.specs.Baselines.{IsWrittenBy, all_results}
use Rattle.log_baselines.specs.Suppressions.{is_reasoned}
use Rattle.log_baselines.specs.reading.Seen.{value_seen}

pub if_ok_by : {T E : Type 0} (P Q : T → Type 0) (r : Result T E) → IfOk r P → ((x : T) → P x → Q x) → IfOk r Q
if_ok_by P Q (Ok x) p f = f x p
if_ok_by P Q (Err e) p f = tt

-- what was passed on is the old results and keys
pub written_by_parts : (value run : Data) (keys : List (List ℕ)) (told results : List Data)
    (olds passed : List (Bor Value)) (old_keys passed_keys : List (String Global)) (text standings : List ℕ)
    (worse : Bool) → IsTrue (list_all is_reasoned (map value_seen olds)) → passed ≡ olds → passed_keys ≡ old_keys
    → IsWrittenBy value run (all_results true keys told results (map string_bytes passed_keys) (map value_seen passed))
    text standings worse
    → IsTrue (list_all is_reasoned (map value_seen olds))
    × IsWrittenBy value run (all_results true keys told results (map string_bytes old_keys) (map value_seen olds))
    text standings worse
written_by_parts value run keys told results olds passed old_keys passed_keys text standings worse reasoned same_olds same_keys written =
    let P : List (Bor Value) → Type 0 = λ o. IsWrittenBy value run (all_results true keys told results (map string_bytes passed_keys) (map value_seen o)) text standings worse in
    let Q : List (String Global) → Type 0 = λ k. IsWrittenBy value run (all_results true keys told results (map string_bytes k) (map value_seen olds)) text standings worse in
    (reasoned, subst Q same_keys (subst P same_olds written))
