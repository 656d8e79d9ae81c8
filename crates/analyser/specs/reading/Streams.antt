-- Texts that are written whole, or a front of them.
use Rattle.std.specs.Prelude.{◌≡◌, ◌⊎◌, ℕ, List, Option}
use Rattle.std.specs.Io.KnownBytes.{append_known}
use Rattle.program_streams.specs.declared.statuses.Status.{Status}
use Rattle.program_streams.specs.Streams.{TakesFrontOf}

-- What may be answered whatever the bytes of the source are: a status, and a text.
module _ (May : Status → List ℕ → Type 0) (taken taken' : Option (List ℕ)) where
  -- the sink has taken the whole of a text that may come with the status
  pub record Says (status : Status) : Type 0 where
    pub text : List ℕ
    pub may : May status text
    pub appended : taken' ≡ append_known taken text

  -- the sink has taken a front of a text that may come with some status
  pub record SaysFront : Type 0 where
    pub status : Status
    pub text : List ℕ
    pub may : May status text
    pub sent : TakesFrontOf text taken taken'

  -- the sink has taken nothing, or a front of such a text
  abbrev pub SaysNoMore : Type 0
  SaysNoMore = (taken' ≡ taken) ⊎ SaysFront
