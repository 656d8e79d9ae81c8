-- What is wrong with a log is the cause for which it is refused.
use Rattle.std.proofs.Common.{◌≡◌, ◌∙◌, List, ℕ, Option, length, subst, refl, sym}
use Rattle.std.specs.Prelude.{Err, Result}
use Rattle.serde_json.specs.Data.{Data}
use Rattle.std.proofs.lemmas.Option.{same_Some}
use Rattle.log_baselines.specs.Causes.{AreRemarks, HasFlaw, IsCause, IsFlaw, IsLog, IsValueOf}
use Rattle.log_baselines.specs.declared.baselines.BaselineFail.TheVariants.{Refused}
use Rattle.log_baselines.specs.declared.baselines.Unread.{Unread}
use Rattle.log_baselines.specs.declared.baselines.Unread.TheVariants.{Flawed, NoMemory}
use Rattle.log_baselines.specs.declared.causes.Cause.{Cause}
use Rattle.log_baselines.specs.declared.causes.Cause.TheVariants.{New, Old, OtherRemarks}
use Rattle.log_baselines.specs.declared.causes.Flaw.{Flaw}
use Rattle.log_baselines.specs.declared.causes.Flaw.TheVariants.{Long, NotJson, NotLog, OtherTool, NoFingerprint}
use Rattle.log_baselines.specs.reading.Seen.{IsOldCause, new_fail, old_fail}

pub err_is : {T E : Type 0} (r : Result T E) (x y : E) → r ≡ Err x → r ≡ Err y → x ≡ y
err_is r x y is e = cc

flaw_of : (bytes : List ℕ) (log : Data) → IsValueOf bytes log → (flaw : Flaw) → HasFlaw log flaw → IsFlaw bytes flaw
flaw_of bytes log is Long h = absurd h
flaw_of bytes log is NotJson h = absurd h
flaw_of bytes log is NotLog h = (log, is, h)
flaw_of bytes log is OtherTool h = (log, is, h)
flaw_of bytes log is NoFingerprint h = (log, is, h)

-- of the new log
pub new_cause : (new remarks : List ℕ) (old : Option (List ℕ)) (log : Data) (unread : Unread) → IsValueOf new log
    → ((flaw : Flaw) → unread ≡ Flawed flaw → HasFlaw log flaw) → (cause : Cause) → new_fail unread ≡ Refused cause
    → IsCause new remarks old cause
new_cause new remarks old log (Flawed flaw) is flawed cause e =
    let same : New flaw ≡ cause = cc in
    subst (λ k. IsCause new remarks old k) same (flaw_of new log is flaw (flawed flaw refl))
new_cause new remarks old log NoMemory is flawed cause e = cc

-- of the old log
pub old_flaw : (bytes : List ℕ) (log : Data) (unread : Unread) → IsValueOf bytes log
    → ((flaw : Flaw) → unread ≡ Flawed flaw → HasFlaw log flaw) → (cause : Cause) → old_fail unread ≡ Refused cause
    → IsOldCause bytes cause
old_flaw bytes log (Flawed flaw) is flawed cause e =
    let same : Old flaw ≡ cause = cc in
    subst (λ k. IsOldCause bytes k) same (flaw_of bytes log is flaw (flawed flaw refl))
old_flaw bytes log NoMemory is flawed cause e = cc

-- bytes have one value
pub same_value : (bytes : List ℕ) (value other : Data) → IsValueOf bytes value → IsValueOf bytes other → other ≡ value
same_value bytes value other is too = same_Some other value (sym too.2 ∙ is.2)

-- of the remarks
pub other_remarks : (new remarks : List ℕ) (old : Option (List ℕ)) (log run : Data) (results : List Data)
    → IsValueOf new log → IsLog log run results
    → ((values : List Data) → AreRemarks remarks values → length values ≡ length results → ⊥)
    → (cause : Cause) → Refused OtherRemarks ≡ Refused cause → IsCause new remarks old cause
other_remarks new remarks old log run results is is_log none cause e =
    let same : OtherRemarks ≡ cause = cc in
    subst (λ k. IsCause new remarks old k) same (log, run, results, is, is_log, none)
