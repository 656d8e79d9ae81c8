-- What the program answers: what stands at a place of a text that is refused there.
use Rattle.std.specs.Prelude.{◌≡◌, ◌+◌, ◌⊎◌, ℕ, List, [], Option, Some, None, length, nat_le, if◌then◌else◌}
use Rattle.std.specs.Io.KnownBytes.{append_known}
use Rattle.program_streams.specs.Streams.{IsRead, TakesFrontOf}
use Rattle.tm_terms.specs.Limits.{most_bytes}
use Rattle.tm_terms.specs.Texts.{line_of}
use Rattle.tm_terms.specs.declared.places.Place.{Place}
use Rattle.tm_terms.specs.declared.refusals.Kind.{Kind}
use Rattle.refusal_hints.specs.declared.constructs.Construct.{Construct}
use Rattle.refusal_hints.specs.Hints.{construct_at}
use Rattle.refusal_hints.specs.Sentences.{sentence_text}

-- the line of a construct; no text where none is told
abbrev pub told_text : Option Construct → List ℕ
told_text None = []
told_text (Some construct) = line_of (sentence_text construct)

-- What is told of a text that is refused at this place as this kind.
module _ (place : Place) (kind : Kind) where
  -- what stands there; nothing of a text that is no source, since it is too long
  abbrev pub hint_text : List ℕ → List ℕ
  hint_text text =
      if nat_le (length text) most_bytes then told_text (construct_at text place kind) else []

  -- By what the stream of the text has left before and after a call.
  module _ (left left' : Option (List ℕ)) where
    -- these bytes were read: to their end, or past the most that a source may have
    abbrev pub IsText : List ℕ → Type 0
    IsText text = IsRead left left' (most_bytes + 1) text

    -- a stream has taken the whole of what is told of the text that was read
    pub record Tells (taken taken' : Option (List ℕ)) : Type 0 where
      pub text : List ℕ
      pub read : IsText text
      pub appended : taken' ≡ append_known taken (hint_text text)

    -- a stream has taken a front of it
    pub record TellsFront (taken taken' : Option (List ℕ)) : Type 0 where
      pub text : List ℕ
      pub read : IsText text
      pub front : TakesFrontOf (hint_text text) taken taken'

    -- a stream has taken nothing, or a front of what is told
    abbrev pub TellsNoMore : Option (List ℕ) → Option (List ℕ) → Type 0
    TellsNoMore taken taken' = (taken' ≡ taken) ⊎ TellsFront taken taken'
