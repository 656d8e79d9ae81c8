-- What the program answers: a log by an old one, or where its results stand, or why there is no such log.
use Rattle.std.specs.Prelude.{◌≡◌, ℕ, ◌+◌, ◌⊎◌, Bool, List, [], ◌∷◌, Option, Some, None}
use Rattle.std.specs.Io.KnownBytes.{append_known}
use Rattle.log_baselines.specs.declared.causes.Cause.{Cause}
use Rattle.log_baselines.specs.Baselines.{IsBaseline}
use Rattle.log_baselines.specs.Causes.{cause_text, IsCause, longest_log}
use Rattle.program_streams.specs.Streams.{IsRead, TakesFrontOf}
use Rattle.report_baseline.specs.declared.words.Form.{Form}
use Rattle.report_baseline.specs.declared.words.Form.TheVariants.{Log, Standings}

-- the old log, where there is one: no bytes are none
abbrev pub old_of : List ℕ → Option (List ℕ)
old_of [] = None
old_of (byte ∷ bytes) = Some (byte ∷ bytes)

-- the answer in a form, and whether a result that is to be mended is new and not suppressed
abbrev pub IsAnswer : Form → List ℕ → List ℕ → List ℕ → Bool → List ℕ → Type 0
IsAnswer Log new remarks old worse text = (standings : List ℕ) × IsBaseline new remarks (old_of old) text standings worse
IsAnswer Standings new remarks old worse text = (log : List ℕ) × IsBaseline new remarks (old_of old) log text worse

-- By what three streams have left before and after a call: the new log, the remarks and the old log.
module _ (form : Form) (new_left new_left' remarks_left remarks_left' old_left old_left' : Option (List ℕ)) where
  -- these bytes were read: each to its end, or past the most that it may have
  pub record AreRead (new remarks old : List ℕ) : Type 0 where
    pub new_read : IsRead new_left new_left' (longest_log + 1) new
    pub remarks_read : IsRead remarks_left remarks_left' (longest_log + 1) remarks
    pub old_read : IsRead old_left old_left' (longest_log + 1) old

  -- the answer for what was read
  pub record IsAnswerRead (worse : Bool) (text : List ℕ) : Type 0 where
    pub new : List ℕ
    pub remarks : List ℕ
    pub old : List ℕ
    pub read : AreRead new remarks old
    pub is : IsAnswer form new remarks old worse text

  -- a stream has taken the whole answer
  pub record Shows (worse : Bool) (taken taken' : Option (List ℕ)) : Type 0 where
    pub text : List ℕ
    pub is : IsAnswerRead worse text
    pub appended : taken' ≡ append_known taken text

  -- a stream has taken a front of the answer
  pub record ShowsFront (taken taken' : Option (List ℕ)) : Type 0 where
    pub worse : Bool
    pub text : List ℕ
    pub is : IsAnswerRead worse text
    pub front : TakesFrontOf text taken taken'

  -- a stream has taken the line of the cause for which there is no answer
  pub record Tells (taken taken' : Option (List ℕ)) : Type 0 where
    pub new : List ℕ
    pub remarks : List ℕ
    pub old : List ℕ
    pub read : AreRead new remarks old
    pub cause : Cause
    pub is : IsCause new remarks (old_of old) cause
    pub appended : taken' ≡ append_known taken (cause_text cause)

  -- a stream has taken nothing, or a front of the answer
  abbrev pub ShowsNoMore : Option (List ℕ) → Option (List ℕ) → Type 0
  ShowsNoMore taken taken' = (taken' ≡ taken) ⊎ ShowsFront taken taken'
