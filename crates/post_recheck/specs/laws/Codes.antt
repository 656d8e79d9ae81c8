-- How pairs are told apart: by their tables and stores.
use Rattle.std.specs.Prelude.{List, Option, refl}
use Rattle.std.specs.Coded.{Coded, code_by, coded×, coded_list, coded_option}
use Rattle.interfere_set.specs.Stores.{Interferences}
use Rattle.interfere_set.specs.laws.StoreLaws.{store_code}
use Rattle.pointer_dom.specs.laws.Codes.{values_code}
use Rattle.cell_env.specs.laws.Codes.{state_code}
use Rattle.shared_programs.specs.transfer_rows.StateForms.{State}
use Rattle.post_recheck.specs.Pairs.{Pair}

abbrev pub pair_code : Coded Pair
pair_code =
    code_by (List (List (Option State)) × Interferences)
    (coded× (coded_list (coded_list (coded_option (state_code values_code)))) store_code) (λ s. (s.tables, s.store))
    (λ p. record { tables = p.0; store = p.1 }) (λ _. refl)
