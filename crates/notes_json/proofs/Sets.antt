-- The mutexes of a set, appended one after the other.
use Rattle.std.proofs.Common.{
  ◌≡◌,
  ◌↔◌,
  refl,
  sym,
  ap,
  ◌∙◌,
  inl,
  inr,
  ℕ,
  ◌≤◌,
  Bool,
  true,
  false,
  IsTrue,
  List,
  ◌++◌,
  arith,
}
use Rattle.std.proofs.lemmas.List.{append_assoc}
use Rattle.std.proofs.lemmas.Bool.{eq-eqb}
use Rattle.std.proofs.lemmas.Bool.Decides.{eqb_tells}
use Rattle.std.specs.Prelude.{codes, decimal}
use Rattle.std.specs.Int.{bit_at}
use Rattle.notes_json.specs.Pieces.{listed}
use Rattle.notes_json.specs.Accesses.{is_member, most_mutexes, members_below, set_text}

pub same_test : (set m : ℕ) (is : Bool) → (IsTrue is ↔ (bit_at set m ≡ 1)) → is ≡ is_member set m
same_test set m true e = sym (eq-eqb (bit_at set m) 1 (e.0 refl))
same_test set m false e =
    elim (eqb_tells (bit_at set m) 1) [ inl told ↦ (let no : false ≡ true = e.1 told.1 in cc) | inr told ↦ sym told.0 ]

is_most : (m : ℕ) → m ≤ 16 → 16 ≤ m → m ≡ most_mutexes
unfolding most_mutexes
is_most m le ge = omega (arith, le, ge)

-- all of them
pub whole_set : (set m : ℕ) (o b : List ℕ) {p q : List ℕ} → m ≤ 16 → 16 ≤ m
    → p ≡ (o ++ b) ++ listed decimal (members_below set m) → q ≡ p ++ codes "]" → q ≡ o ++ set_text b set
unfolding set_text
whole_set set m o b le ge i j =
    let members = listed decimal (members_below set m) in
    j ∙ ap (λ x. x ++ codes "]") i ∙ append_assoc (o ++ b) members (codes "]")
    ∙ append_assoc o b (members ++ codes "]")
    ∙ ap (λ n. o ++ (b ++ (listed decimal (members_below set n) ++ codes "]"))) (is_most m le ge)
