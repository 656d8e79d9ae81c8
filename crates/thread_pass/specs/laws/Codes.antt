-- How tables of states are told apart: by the lists of their states; and what passes keep: by its parts.
use Rattle.std.specs.Prelude.{ℕ, List, Option, refl}
use Rattle.std.specs.Coded.{Coded, code_by, coded_list, coded_option, coded×, coded_ℕ}
use Rattle.pointer_dom.specs.laws.Codes.{values_code}
use Rattle.cell_env.specs.laws.Codes.{state_code}
use Rattle.interfere_set.specs.Stores.{Interferences}
use Rattle.interfere_set.specs.laws.StoreLaws.{store_code}
use Rattle.program_equality.specs.transfer_rows.StateForms.{State}
use Rattle.body_slots.specs.Slots.{Slots}
use Rattle.body_slots.specs.Rows.{Stand}
use Rattle.thread_pass.specs.Starts.{StartOf}
use Rattle.thread_pass.specs.Kept.{KeptTable}

abbrev pub table_code : Coded (List (Option State))
table_code = coded_list (coded_option (state_code values_code))

abbrev pub start_code : Coded (List (Option Slots)) → Coded (List (Option Stand)) → Coded StartOf
start_code slots_code stand_code =
    code_by (List (Option Slots) × List (Option Stand)) (coded× slots_code stand_code) (λ s. (s.slots, s.values))
    (λ p. record { slots = p.0; values = p.1 }) (λ _. refl)

abbrev pub kept_code : Coded StartOf → Coded KeptTable
kept_code begun_code =
    code_by (List (Option State) × (Interferences × (Interferences × (Option ℕ × Option StartOf))))
    (coded× table_code (coded× store_code (coded× store_code (coded× (coded_option coded_ℕ) (coded_option begun_code)))))
    (λ k. (k.table, (k.added, (k.store, (k.visits, k.start)))))
    (λ p. record { table = p.0; added = p.1.0; store = p.1.1.0; visits = p.1.1.1.0; start = p.1.1.1.1 }) (λ _. refl)
