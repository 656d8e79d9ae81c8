-- The test for a pointer in a set.
use Rattle.std.specs.Prelude.{◌≡◌, ℕ, zero, suc, ◌+◌, ◌*◌, ◌≤◌, ℤ, pos, ◌+ℤ◌, Bool, true, false, ◌||◌, refl}
use Rattle.std.proofs.Common.{ap, ◌∙◌, ⊎_elim, arith}
use Rattle.std.specs.Ordering.{int_eq}
use Rattle.std.proofs.lemmas.Bool.{cases_eq, or_cases, false≢true}
use Rattle.std.proofs.lemmas.Bool.Decides.{Decides-int_eq}
use Rattle.std.proofs.lemmas.Int.{ints}
use Rattle.interfere_set.specs.strided_dom.Progression.{Progression, empty, single, row, Has}
use Rattle.interfere_set.specs.pointer_dom.Pointer.{to}
use Rattle.interfere_set.specs.pointer_dom.PointerSets.{Pointers, IsPointer, offsets_at}
use Rattle.transfer_rows.specs.Accesses.{has_step, has_number, leads}

pub or_right : (a b : Bool) → b ≡ true → (a || b) ≡ true
or_right true b h = refl
or_right false b h = h

pub or_left : (a b : Bool) → a ≡ true → (a || b) ≡ true
or_left true b h = refl
or_left false b h = absurd (false≢true h)

abbrev IsStep : ℤ → ℕ → ℕ → ℤ → Type 0
IsStep first gap more v = (k : ℕ) × ((k ≤ more) × (v ≡ first +ℤ pos (k * (gap + 1))))

step_is : (first : ℤ) (gap more : ℕ) (v : ℤ) → has_step first gap more v ≡ true → IsStep first gap more v
unfolding has_step
step_is first gap zero v h = let e = (Decides-int_eq v first).0 h in (0, (omega arith, omega (arith, ints, e)))
step_is first gap (suc more) v h = ⊎_elim
    (λ here. (suc more, (omega arith, (Decides-int_eq v (first +ℤ pos (suc more * (gap + 1)))).0 here)))
    (λ there. (let k = step_is first gap more v there in (k.0, (omega (arith, k.1.0), k.1.1))))
    (or_cases (int_eq v (first +ℤ pos (suc more * (gap + 1)))) (has_step first gap more v) h)

is_step : (first : ℤ) (gap more : ℕ) (v : ℤ) → IsStep first gap more v → has_step first gap more v ≡ true
unfolding has_step
is_step first gap zero v h = (Decides-int_eq v first).1 (at_first h.0 h.1.0 h.1.1)
  where
    at_first : (k : ℕ) → k ≤ 0 → v ≡ first +ℤ pos (k * (gap + 1)) → v ≡ first
    at_first zero le e = omega (arith, ints, e)
    at_first (suc k) le e = absurd (omega arith)
is_step first gap (suc more) v h = ⊎_elim
    (λ same. or_left _ _ ((Decides-int_eq v (first +ℤ pos (suc more * (gap + 1)))).1
    (h.1.1 ∙ ap (λ k. first +ℤ pos (k * (gap + 1))) same)))
    (λ differ. or_right _ _ (is_step first gap more v (h.0, (omega (arith, h.1.0, differ), h.1.1))))
    (cases_eq h.0 (suc more))

pub number_is : (s : Progression) (v : ℤ) → has_number s v ≡ true → Has s v
unfolding Has
number_is empty v h = absurd (false≢true h)
number_is (single w) v h = (Decides-int_eq v w).0 h
number_is (row first gap more) v h = step_is first gap (more + 1) v h

pub is_number : (s : Progression) (v : ℤ) → Has s v → has_number s v ≡ true
unfolding Has
is_number empty v h = absurd h
is_number (single w) v h = (Decides-int_eq v w).1 h
is_number (row first gap more) v h = is_step first gap (more + 1) v h

pub leads_is : (p : Pointers) (object offset : ℕ) → leads p object offset ≡ true → IsPointer p (to object offset)
leads_is p object offset h = number_is (offsets_at p object).offsets (pos offset) h

pub is_led : (p : Pointers) (object offset : ℕ) → IsPointer p (to object offset) → leads p object offset ≡ true
is_led p object offset h = is_number (offsets_at p object).offsets (pos offset) h
