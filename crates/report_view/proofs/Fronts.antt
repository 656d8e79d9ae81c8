-- What holds where a stream has taken nothing, or a front.
use Rattle.std.proofs.Common.{◌⊎◌, inl, inr}

-- what is known of a front holds beside nothing, too
pub in_front : {Nothing Front Known : Type 0} → (Front → Known) → Nothing ⊎ Front → Nothing ⊎ Known
in_front known (inl nothing) = inl nothing
in_front known (inr front) = inr (known front)
