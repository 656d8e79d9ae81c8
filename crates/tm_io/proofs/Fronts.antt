-- A list that is read piece by piece.
use Rattle.std.proofs.Common.{◌≡◌, ℕ, ◌+◌, ◌≤◌, List, ◌++◌, length, take, drop, sym, ◌∙◌, ap}
use Rattle.std.proofs.lemmas.List.{drop-drop, take-append-drop, take_at, length-take-le}

-- what is left from a place on is the piece at the front of the buffer, and what is left behind that
pub next_piece : (bytes piece rest : List ℕ) (at n : ℕ) → n ≤ length (drop at bytes) → piece ≡ take n (drop at bytes) → drop at bytes ≡ take n (piece ++ rest) ++ drop (at + n) bytes
next_piece bytes piece rest at n le same =
    sym (take-append-drop n (drop at bytes))
    ∙ ap (λ (l : List ℕ). l ++ drop n (drop at bytes)) (sym same ∙ sym (take_at piece rest n (ap length same ∙ length-take-le n (drop at bytes) le)))
    ∙ ap (λ (l : List ℕ). take n (piece ++ rest) ++ l) (drop-drop n at bytes)
