-- The temporaries that hold pointers, by their marks.
use Rattle.std.proofs.Common.{◌≡◌, refl, sym, ap, ◌∙◌, ℕ, zero, suc, ◌+◌, ◌<◌, Bool, true, false, List, [], ◌∷◌}
use Rattle.std.proofs.Common.{◌≤◌, length, get_or, arith}
use Rattle.std.specs.Prelude.{◌||◌}
use Rattle.std.proofs.lemmas.Bool.{ne_eqb, eq-eqb}
use Rattle.std.proofs.lemmas.List.{get_or_default, get_or_past}
use Rattle.transfer_mem.specs.edge_actions.transfer_rows.Accesses.{is_among}
use Rattle.program_equations.specs.Programs.{marked_from}

-- no number before the first is marked
none_before : (k : ℕ) (marks : List Bool) (j : ℕ) → j < k → is_among (marked_from k marks) j ≡ false
none_before k [] j lt = refl
none_before k (true ∷ marks) j lt =
    ap (λ b. b || is_among (marked_from (suc k) marks) j) (ne_eqb j k (λ e. omega (arith, lt, e)))
    ∙ none_before (suc k) marks j (omega (arith, lt))
none_before k (false ∷ marks) j lt = none_before (suc k) marks j (omega (arith, lt))

marked_behind : (k : ℕ) (marks : List Bool) (i : ℕ) → is_among (marked_from k marks) (k + i) ≡ get_or marks i false
marked_behind k [] i = refl
marked_behind k (true ∷ marks) zero =
    ap (λ b. b || is_among (marked_from (suc k) marks) (k + 0)) (eq-eqb (k + 0) k (omega arith))
marked_behind k (true ∷ marks) (suc i) =
    ap (λ b. b || is_among (marked_from (suc k) marks) (k + suc i)) (ne_eqb (k + suc i) k (λ e. omega (arith, e)))
    ∙ (ap (is_among (marked_from (suc k) marks)) (omega arith) ∙ marked_behind (suc k) marks i)
marked_behind k (false ∷ marks) zero = none_before (suc k) marks (k + 0) (omega arith)
marked_behind k (false ∷ marks) (suc i) =
    ap (is_among (marked_from (suc k) marks)) (omega arith) ∙ marked_behind (suc k) marks i

pub marked_is : (marks : List Bool) (temp : ℕ) → is_among (marked_from 0 marks) temp ≡ get_or marks temp false
marked_is marks temp =
    ap (is_among (marked_from 0 marks)) (let e : temp ≡ 0 + temp = omega arith in e) ∙ marked_behind 0 marks temp

-- a mark that is read
pub mark_read : (marks : List Bool) (temp : ℕ) (mark : Bool) → temp < length marks → mark ≡ get_or marks temp mark
    → mark ≡ is_among (marked_from 0 marks) temp
mark_read marks temp mark lt is = is ∙ (get_or_default marks temp mark false lt ∙ sym (marked_is marks temp))

pub no_mark_read : (marks : List Bool) (temp : ℕ) → length marks ≤ temp → false ≡ is_among (marked_from 0 marks) temp
no_mark_read marks temp le = sym (get_or_past marks temp false le) ∙ sym (marked_is marks temp)
