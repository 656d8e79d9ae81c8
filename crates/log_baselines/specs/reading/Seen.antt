-- What the code holds, as the definitions see it.
use Rattle.std.specs.Prelude.{◌≡◌, ℕ, suc, List, [], ◌∷◌, length, map, String, string_bytes}
use Rattle.std.specs.Prelude.{Option, Some, None, option_map, bytes_eq, if◌then◌else◌}
use Rattle.std.specs.Borrow.{Bor}
use Rattle.std.specs.HashMap.{HashMap, get_by}
use Rattle.std.specs.declared.alloc.Global.{Global}
use Rattle.serde_json.specs.Data.{Data}
use Rattle.serde_json.specs.View.{view}
use Rattle.serde_json.specs.declared.value.Value.{Value}
use Rattle.log_baselines.specs.Causes.{HasNoReason, IsFlaw}
use Rattle.log_baselines.specs.declared.baselines.BaselineFail.{BaselineFail}
use Rattle.log_baselines.specs.declared.baselines.BaselineFail.TheVariants.{Refused, NoMemory}
use Rattle.log_baselines.specs.declared.baselines.Unread.{Unread}
use Rattle.log_baselines.specs.declared.baselines.Unread.TheVariants.{Flawed, NoMemory as UnreadNoMemory}
use Rattle.log_baselines.specs.declared.causes.Cause.{Cause}
use Rattle.log_baselines.specs.declared.causes.Cause.TheVariants.{New, Old, NoReason, OtherRemarks}

abbrev pub value_seen : Bor Value → Data
value_seen value = view value.now

abbrev pub text_seen : Bor (List ℕ) → List ℕ
text_seen text = text.now

-- where a key stands first
abbrev pub first_at : List ℕ → List (List ℕ) → Option ℕ
first_at key [] = None
first_at key (first ∷ keys) = if bytes_eq key first then Some 0 else option_map (λ at. suc at) (first_at key keys)

-- the map has where each key stands first
abbrev pub IsIndex : {S : Type 0} → HashMap (Bor (List ℕ)) ℕ S → List (List ℕ) → Type 0
IsIndex index keys = (key : List ℕ) → get_by (λ k. bytes_eq key k.now) index ≡ first_at key keys

-- old results with their keys, and where each key stands first
pub record AreOlds {S : Type 0} (keys : List (String Global)) (results : List (Bor Value))
    (index : HashMap (Bor (List ℕ)) ℕ S) : Type 0 where
  pub many : length keys ≡ length results
  pub indexed : IsIndex index (map string_bytes keys)

-- why there is no log, where bytes are none
abbrev pub new_fail : Unread → BaselineFail
new_fail (Flawed flaw) = Refused (New flaw)
new_fail UnreadNoMemory = NoMemory

abbrev pub old_fail : Unread → BaselineFail
old_fail (Flawed flaw) = Refused (Old flaw)
old_fail UnreadNoMemory = NoMemory

-- this is the cause for which an old log is refused
abbrev pub IsOldCause : List ℕ → Cause → Type 0
IsOldCause bytes (New flaw) = ⊥
IsOldCause bytes (Old flaw) = IsFlaw bytes flaw
IsOldCause bytes NoReason = HasNoReason bytes
IsOldCause bytes OtherRemarks = ⊥
