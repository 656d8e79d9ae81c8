-- One piece more of a text.
use Rattle.std.proofs.Common.{◌≡◌, ℕ, List, ◌++◌, take, drop, sym, ◌∙◌, ap, append_assoc}
use Rattle.std.specs.Prelude.{Option}
use Rattle.std.specs.Io.KnownBytes.{append_known}
use Rattle.std.proofs.Math.ListN.{take-append-drop}
use Rattle.tm_io.proofs.Told.{append_known-append_known}

pub piece_written : (text part rest : List ℕ) (n : ℕ) (old mid new : Option (List ℕ)) → text ≡ part ++ rest → mid ≡ append_known old part
    → new ≡ append_known mid (take n rest) → (part' : List ℕ) × (text ≡ part' ++ drop n rest) × (new ≡ append_known old part')
piece_written text part rest n old mid new e f g = (
  part ++ take n rest,
  e ∙ ap (λ r. part ++ r) (sym (take-append-drop n rest)) ∙ sym (append_assoc part (take n rest) (drop n rest)),
  g ∙ ap (λ k. append_known k (take n rest)) f ∙ append_known-append_known part (take n rest) old,
)
