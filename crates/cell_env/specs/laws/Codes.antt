-- How states are told apart: by the tuples of their parts.
use Rattle.std.specs.Prelude.{◌≡◌, ℕ, Bool, Option, Some, None}
use Rattle.std.proofs.Common.{refl, inl, inr, ◌⊎◌}
use Rattle.std.specs.Coded.{Coded, code_by, coded_ℕ, coded_bool, coded×, coded⊎}
use Rattle.std.specs.FinMap as map
use base.Stored.{coded_unit}
use Rattle.tm_lattice.specs.Tables.{Table}
use Rattle.cell_env.specs.declared.cells.CellState.{CellState}
use Rattle.cell_env.specs.declared.temps.TempState.{TempState}
use Rattle.cell_env.specs.States.{TaskState}

abbrev option_cases : Option ℕ → Unit {0} ⊎ ℕ
option_cases None = inl tt
option_cases (Some x) = inr x

abbrev option_of : Unit {0} ⊎ ℕ → Option ℕ
option_of (inl u) = None
option_of (inr x) = Some x

pub option_back : (o : Option ℕ) → option_of (option_cases o) ≡ o
option_back None = refl
option_back (Some x) = refl

abbrev option_code : Coded (Option ℕ)
option_code = code_by (Unit {0} ⊎ ℕ) (coded⊎ coded_unit coded_ℕ) option_cases option_of option_back

abbrev temp_code : {V N : Type 0} → Coded V → Coded (TempState V N)
temp_code {V = V} code =
    code_by (V × Option ℕ) (coded× code option_code) (λ t. (t.value, t.copy))
    (λ p. record { value = p.0; copy = p.1 }) (λ _. refl)

abbrev cell_code : {V N : Type 0} → Coded V → Coded (CellState V N)
cell_code {V = V} code =
    code_by (V × (ℕ × (Bool × Bool))) (coded× code (coded× coded_ℕ (coded× coded_bool coded_bool)))
    (λ c. (c.value, (c.pending, (c.fresh, c.stored))))
    (λ p. record { value = p.0; pending = p.1.0; fresh = p.1.1.0; stored = p.1.1.1 }) (λ _. refl)

abbrev pub state_code : {V N : Type 0} → Coded V → Coded (TaskState V N)
state_code {V = V} {N = N} code =
    code_by (Table (TempState V N) × Table (CellState V N))
    (coded× (map.code coded_ℕ (temp_code code)) (map.code coded_ℕ (cell_code code)))
    (λ s. (s.temps, s.cells)) (λ p. record { temps = p.0; cells = p.1 }) (λ _. refl)
