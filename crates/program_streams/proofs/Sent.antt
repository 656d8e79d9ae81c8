-- From the answer to the bytes that were read of a stream to the answer to what the stream had.
use Rattle.std.proofs.Common.{◌≡◌, ℕ, ◌+◌, ◌<◌, ◌≤◌, List, ◌++◌, length, refl, sym, ◌∙◌, ap, subst, inl, inr}
use Rattle.std.proofs.Common.{arith, length-append}
use Rattle.std.proofs.lemmas.List.{append-nil}
use Rattle.std.specs.Io.KnownBytes.{IsAtEnd, append_known, prepend_known}
use Rattle.std.specs.Prelude.{◌⊎◌, Option, Some, None}
use Rattle.program_streams.specs.declared.statuses.Status.{Status}
use Rattle.program_streams.specs.Streams.{IsReadOut, TakesFrontOf}
use Rattle.program_streams.specs.Taken.{Answers, TakesNoMore, Told}

-- what a command may answer to the bytes that it reads: where they are more than the most, a front of them decides
module _ (most : ℕ) (May : List ℕ → Status → List ℕ → Type 0)
    (longer : (bytes more : List ℕ) → most < length bytes → (status : Status) (text : List ℕ)
    → May bytes status text → May (bytes ++ more) status text) where
  -- the bytes of a source, of which at least these were read, and their answer
  pub record Known (left : Option (List ℕ)) (status : Status) (text : List ℕ) : Type 0 where
    pub bytes : List ℕ
    pub told : Told left bytes
    pub has : May bytes status text

  known_by : (bytes : List ℕ) (left' : Option (List ℕ)) (status : Status) (text : List ℕ)
      → IsAtEnd left' ⊎ (most < length bytes) → May bytes status text
      → Known (prepend_known bytes left') status text
  known_by bytes None status text e h = record { bytes = bytes; told = tt; has = h }
  known_by bytes (Some more) status text (inl e) h =
      record { bytes = bytes; told = ap (λ m. bytes ++ m) e ∙ append-nil bytes; has = h }
  known_by bytes (Some more) status text (inr long) h =
      record { bytes = bytes ++ more; told = refl; has = longer bytes more long status text h }

  pub known : (left : Option (List ℕ)) (bytes : List ℕ) (left' : Option (List ℕ)) (status : Status) (text : List ℕ)
      → left ≡ prepend_known bytes left' → IsAtEnd left' ⊎ (most < length bytes) → May bytes status text
      → Known left status text
  known left bytes left' status text e k h =
      subst (λ l. Known l status text) (sym e) (known_by bytes left' status text k h)

  -- the answer that was sent
  pub sent_whole : (left taken taken' : Option (List ℕ)) (status result : Status) (text sent : List ℕ)
      → Known left status text → sent ≡ text → result ≡ status → taken' ≡ append_known taken sent
      → Answers May left taken taken' result
  sent_whole left taken taken' status result text sent k e f h = record {
    bytes = k.bytes;
    told = k.told;
    text = text;
    may = subst (λ s. May k.bytes s text) (sym f) k.has;
    appended = h ∙ ap (append_known taken) e;
  }

  pub sent_front : (left taken taken' : Option (List ℕ)) (status : Status) (text sent : List ℕ)
      → Known left status text → sent ≡ text → TakesFrontOf sent taken taken' → TakesNoMore May left taken taken'
  sent_front left taken taken' status text sent k e f = inr (record {
    bytes = k.bytes;
    told = k.told;
    status = status;
    text = text;
    may = k.has;
    front = f.front;
    rest = f.rest;
    split = sym e ∙ f.split;
    appended = f.appended;
  })

module _ (most : ℕ) where
  read_out_by : (bytes : List ℕ) (left' : Option (List ℕ)) → IsAtEnd left' ⊎ (most < length bytes)
      → IsReadOut most (prepend_known bytes left') left'
  read_out_by bytes left' (inl e) = inl e
  read_out_by bytes None (inr long) = inl tt
  read_out_by bytes (Some more) (inr long) = inr (omega (arith, length-append bytes more))

  pub read_out : (left : Option (List ℕ)) (bytes : List ℕ) (left' : Option (List ℕ)) → left ≡ prepend_known bytes left'
      → IsAtEnd left' ⊎ (most < length bytes) → IsReadOut most left left'
  read_out left bytes left' e k = subst (λ l. IsReadOut most l left') (sym e) (read_out_by bytes left' k)

  -- what is read up to one byte more than the most is read to its end, or past the most
  pub past_limit : (n : ℕ) (left' : Option (List ℕ)) → IsAtEnd left' ⊎ (most + 1 ≤ n) → IsAtEnd left' ⊎ (most < n)
  past_limit n left' (inl h) = inl h
  past_limit n left' (inr h) = inr (omega (arith, h))
