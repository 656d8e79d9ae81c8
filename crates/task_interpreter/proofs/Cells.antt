-- Cells are stored one after the other.
use Rattle.std.proofs.Common.{◌≡◌, ℕ, suc, ◌+◌, ◌-◌, ◌<◌, ap, sym, ◌∙◌, List, Ok, Err, arith}
use Rattle.tm_terms.specs.declared.places.Place.{Place}
use Rattle.tm_typed.specs.TypedStatements.{GivenTree}
use Rattle.concrete_values.specs.declared.actions.Next.{Next}
use Rattle.concrete_steps.specs.NextAction.{is_given, rest_of}
use Rattle.task_interpreter.specs.declared.answers.Gave.{Gave}
use Rattle.task_interpreter.specs.reading.Direct.{Seat, set_ran, cells_ran}
use Rattle.task_interpreter.proofs.Steps.{run_ok, run_err}

module _ (s : Seat) (o : ℕ) (p : Place) where
  pub cells_next : (n k at : ℕ) (gs rest : List GivenTree) (g : Gave) → k < n → set_ran s o p k gs at ≡ Ok g → rest ≡ rest_of (is_given k gs) gs
      → cells_ran s o p (n - k) k gs at ≡ cells_ran s o p (n - (k + 1)) (k + 1) rest g.at
  cells_next n k at gs rest g lt e f =
      let more : n - k ≡ suc (n - (k + 1)) = omega (arith, lt) in
      let next : suc k ≡ k + 1 = omega arith in
      ap (λ m. cells_ran s o p m k gs at) more
      ∙ run_ok (set_ran s o p k gs at) g (λ u at1. cells_ran s o p (n - (k + 1)) (suc k) (rest_of (is_given k gs) gs) at1) e
      ∙ ap (λ i. cells_ran s o p (n - (k + 1)) i (rest_of (is_given k gs) gs) g.at) next
      ∙ ap (λ xs. cells_ran s o p (n - (k + 1)) (k + 1) xs g.at) (sym f)

  pub cells_stop : (n k at : ℕ) (gs : List GivenTree) (m : Next) → k < n → set_ran s o p k gs at ≡ Err m → cells_ran s o p (n - k) k gs at ≡ Err m
  cells_stop n k at gs m lt e =
      let more : n - k ≡ suc (n - (k + 1)) = omega (arith, lt) in
      ap (λ m. cells_ran s o p m k gs at) more
      ∙ run_err (set_ran s o p k gs at) m (λ u at1. cells_ran s o p (n - (k + 1)) (suc k) (rest_of (is_given k gs) gs) at1) e
