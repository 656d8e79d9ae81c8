-- The states of tasks are made of temporaries and cells.
use Rattle.std.specs.Prelude.{◌≡◌, ℕ, Option, Some, None}
use Rattle.std.proofs.Common.{ap, ◌∙◌}
use Rattle.std.specs.FinMap.{get}
use Rattle.sparse_tables.specs.table_covers.tm_lattice.Tables.{Table, IsEntry, IsBelow}
use Rattle.sparse_tables.specs.table_covers.tm_lattice.LatticeLaws.{IsOrder}
use Rattle.sparse_tables.specs.table_covers.tm_lattice.laws.TableLaws.{same_table}
use Rattle.sparse_tables.specs.table_covers.Systems.{System}
use Rattle.transfer_rows.specs.cell_env.laws.CellLaws.{cell_order}
use Rattle.transfer_rows.specs.interfere_set.pointer_dom.Values.{IsValues, IsValuesBelow}
use Rattle.transfer_rows.specs.interfere_set.pointer_dom.laws.ValueLaws.{values_order}
use Rattle.transfer_rows.specs.StateForms.{Temp, Cell, State, IsCellForm, IsCellUnder, IsStateForm}
use Rattle.sparse_tables.specs.Sparse.{Placing, AreParts}
use Rattle.sparse_rows.specs.StateParts.{states, state_parts}

cells_order : IsOrder IsCellForm IsCellUnder
cells_order = cell_order IsValues IsValuesBelow values_order

at_transitive : (a b c : Option Cell) → IsEntry IsCellForm (λ t. ⊥) a → IsEntry IsCellForm (λ t. ⊥) b
    → IsEntry IsCellForm (λ t. ⊥) c → IsBelow IsCellUnder a b → IsBelow IsCellUnder b c → IsBelow IsCellUnder a c
at_transitive None b c a-is b-is c-is le le' = tt
at_transitive (Some u) None c a-is b-is c-is le le' = absurd le
at_transitive (Some u) (Some v) None a-is b-is c-is le le' = absurd le'
at_transitive (Some u) (Some v) (Some w) a-is b-is c-is le le' =
    cells_order.transitive u v w a-is.0 b-is.0 c-is.0 le le'

same_state : (s t : State) → s.temps ≡ t.temps → s.cells ≡ t.cells → s ≡ t
same_state s t temps cells =
    ap (λ (p : Table Temp). record { temps = p; cells = s.cells }) temps
    ∙ ap (λ (p : Table Cell). record { temps = t.temps; cells = p }) cells

pub are_parts : (suits : ℕ → State → Type 0) (sys : System State) (carry : ℕ → ℕ → Cell → Cell) (place : Placing)
    → ((n : ℕ) (s : State) → suits n s → IsStateForm s)
    → ((n : ℕ) (s : State) → suits n s → (let t = sys.outward n s in t.temps ≡ s.temps))
    → AreParts states suits sys (state_parts carry) place
are_parts suits sys carry place form rounds = record {
  front_rises = λ n s t s-fits t-fits le. le.temps;
  cell_rises = λ n s t s-fits t-fits le x. le.cells x;
  below = λ n s t s-fits t-fits temps cells. record { temps = temps; cells = cells };
  equal = λ n s t s-fits t-fits temps cells. same_state s t temps (same_table s.cells t.cells cells);
  cell_transitive = λ l m n s t u s-fits t-fits u-fits x le le'.
      at_transitive (get s.cells x) (get t.cells x) (get u.cells x)
      ((form l s s-fits).cells x) ((form m t t-fits).cells x) ((form n u u-fits).cells x) le le';
  outward_front = λ n s fits. rounds n s fits;
}
