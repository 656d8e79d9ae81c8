-- Two tests, of the temporaries and of the cells, make one of states.
use Rattle.std.proofs.Common.{◌≡◌, ◌↔◌, ◌∙◌, Bool, false, IsTrue, sym, subst}
use Rattle.std.proofs.lemmas.Bool.{false≢true}
use Rattle.tm_lattice.specs.Tables.{IsTableBelow}
use Rattle.cell_env.specs.Cells.{IsCellBelow}
use Rattle.cell_env.specs.Temps.{IsTempBelow}
use Rattle.cell_env.specs.States.{TaskState, IsStateBelow}

module _ {V N : Type 0} (leq : V → V → Type 0) (s t u v : TaskState V N) (e : s ≡ u) (f : t ≡ v) where
  moved : (b : Bool) → (IsTrue b ↔ IsStateBelow leq s t) → IsTrue b ↔ IsStateBelow leq u v
  moved b told = subst (λ x. IsTrue b ↔ IsStateBelow leq x v) e (subst (λ x. IsTrue b ↔ IsStateBelow leq s x) f told)

  pub both_below : (b : Bool) → IsTableBelow (IsTempBelow leq) s.temps t.temps → (IsTrue b ↔ IsTableBelow (IsCellBelow leq) s.cells t.cells) → IsTrue b ↔ IsStateBelow leq u v
  both_below b temps told = moved b (λ yes. record { temps = temps; cells = told.0 yes }, λ below. told.1 below.cells)

  pub not_below : (b : Bool) → (IsTrue b ↔ IsTableBelow (IsTempBelow leq) s.temps t.temps) → b ≡ false → IsTrue b ↔ IsStateBelow leq u v
  not_below b told no_b = moved b (λ yes. absurd (false≢true (sym no_b ∙ yes)), λ below. told.1 below.temps)
