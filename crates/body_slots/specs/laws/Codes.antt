-- How constraints of bodies are told apart: by the body over its store, the state in which it begins, and its slots;
-- and what stands at variables: by its parts.
use Rattle.std.specs.Prelude.{ℕ, Bool, List, Option, refl}
use Rattle.std.specs.Coded.{Coded, code_by, coded×, coded_ℕ, coded_bool, coded_list, coded_option}
use Rattle.std.specs.FinMap.{empty}
use Rattle.pointer_dom.specs.Values.{Values}
use Rattle.pointer_dom.specs.laws.Codes.{values_code}
use Rattle.cell_env.specs.laws.Codes.{state_code}
use Rattle.table_covers.specs.tm_lattice.Tables.{Table}
use Rattle.edge_actions.specs.transfer_rows.StateForms.{Temp, Cell, State}
use Rattle.body_systems.specs.Systems.{SystemOf}
use Rattle.body_slots.specs.Slots.{Slots, SlotSystemOf}
use Rattle.body_slots.specs.Rows.{Stand}

pub slot_system_code : Coded SystemOf → Coded Slots → Coded SlotSystemOf
slot_system_code system_code slots_code =
    code_by (SystemOf × (State × Slots)) (coded× system_code (coded× (state_code values_code) slots_code))
    (λ v. (v.system, (v.entry, v.slots))) (λ p. record { system = p.0; entry = p.1.0; slots = p.1.1 }) (λ _. refl)

temps_code : Coded (Table Temp)
temps_code =
    code_by State (state_code values_code) (λ t. record { temps = t; cells = empty }) (λ (s : State). s.temps) (λ _. refl)

cell_code : Coded Cell
cell_code =
    code_by (Values × (ℕ × (Bool × Bool))) (coded× values_code (coded× coded_ℕ (coded× coded_bool coded_bool)))
    (λ c. (c.value, (c.pending, (c.fresh, c.stored))))
    (λ p. record { value = p.0; pending = p.1.0; fresh = p.1.1.0; stored = p.1.1.1 }) (λ _. refl)

stand_code : Coded Stand
stand_code =
    code_by (Option (Table Temp) × Option Cell) (coded× (coded_option temps_code) (coded_option cell_code))
    (λ w. (w.front, w.cell)) (λ p. record { front = p.0; cell = p.1 }) (λ _. refl)

pub slot_values_code : Coded (List (Option Stand))
slot_values_code = coded_list (coded_option stand_code)
