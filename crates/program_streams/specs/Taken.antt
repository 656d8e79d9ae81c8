-- What a stream has taken of the answers to what another told.
use Rattle.std.specs.Prelude.{◌≡◌, ◌⊎◌, ℕ, List, ◌++◌, Option, IfSome}
use Rattle.std.specs.Io.KnownBytes.{append_known}
use Rattle.program_streams.specs.declared.statuses.Status.{Status}

-- the source tells that it has these bytes left, or it tells nothing
abbrev pub Told : Option (List ℕ) → List ℕ → Type 0
Told left bytes = IfSome left (λ known. known ≡ bytes)

-- What these bytes may be answered with: a status, and a text.
module _ (May : List ℕ → Status → List ℕ → Type 0) (left taken taken' : Option (List ℕ)) where
  -- the sink has taken the whole of a text that may come with the status, for the bytes of the source
  pub record Answers (status : Status) : Type 0 where
    pub bytes : List ℕ
    pub told : Told left bytes
    pub text : List ℕ
    pub may : May bytes status text
    pub appended : taken' ≡ append_known taken text

  -- the sink has taken a front of a text that may come with some status
  pub record TakesFront : Type 0 where
    pub bytes : List ℕ
    pub told : Told left bytes
    pub status : Status
    pub text : List ℕ
    pub may : May bytes status text
    pub front : List ℕ
    pub rest : List ℕ
    pub split : text ≡ front ++ rest
    pub appended : taken' ≡ append_known taken front

  -- the sink has taken nothing, or a front of such a text
  abbrev pub TakesNoMore : Type 0
  TakesNoMore = (taken' ≡ taken) ⊎ TakesFront
