-- The state in which a body ends has values of the types of the cells, and rises with the table; and so does the state
-- at the entry of what begins then.
use Rattle.std.specs.Prelude.{◌≡◌, ℕ, zero, suc, ◌<◌, ◌≤◌, Bool, true, false, cond, List, [], length, Option, Some}
use Rattle.std.specs.Prelude.{None, IfSome, refl}
use Rattle.std.proofs.Common.{sym, ap, subst, ◌∙◌, arith}
use Rattle.std.specs.FinMap.{get}
use Rattle.region_cells.specs.tm_lattice.Tables.{IsBelow, joined_at}
use Rattle.region_cells.specs.tm_lattice.laws.TableLaws.{get-joined_table}
use Rattle.region_cells.specs.tm_laid.Layouts.{LaidTree, abstract_at}
use Rattle.edge_filters.specs.pointer_dom.Values.{Values, IsValuesBelow, joined_values, no_value}
use Rattle.edge_filters.specs.pointer_dom.laws.ValueLaws.{values_nothing}
use Rattle.edge_filters.specs.cell_env.Cells.{joined_cell}
use Rattle.edge_filters.specs.cell_env.States.{joined_state}
use Rattle.edge_filters.specs.transfer_rows.StateForms.{Cell, State, own_value, own_of, IsStateForm, IsCellUnder}
use Rattle.edge_filters.specs.transfer_rows.StateForms.{IsStateUnder}
use Rattle.task_equations.specs.typed_values.laws.TypeLaws.{none_of_type, joined_of_type}
use Rattle.region_cells.specs.flow_graph.Graphs.{Edges}
use Rattle.task_equations.specs.mutex_configs.declared.nodes.ConfiguredNode.{ConfiguredNode}
use Rattle.task_equations.specs.table_covers.Solutions.{NodeTable}
use Rattle.task_equations.specs.state_fits.Fits.{FitsCell, FitsPlace}
use Rattle.task_equations.specs.state_fits.laws.PlacesFit.{states_order, states_join}
use Rattle.program_equations.specs.Entries.{is_end, ended_below, ended_in, later_state}
use Rattle.program_equations.specs.laws.EntryStates.{IsTyped, typed_is, entry_fits, entry_rises}

module _ (laid : LaidTree) where
  -- ## States of which one cell after another has values of its type

  -- a state, and the own value of each cell is of its type
  pub record IsEnding (s : State) : Type 0 where
    pub form : IsStateForm s
    pub cells : (x : ℕ) → IsTyped laid x (own_of s x)

  own_typed : (task x : ℕ) (a : Option Cell) → FitsCell laid task x a → IsTyped laid x (own_value a)
  own_typed task x None h = let a = abstract_at laid x in none_of_type laid a.scalar
  own_typed task x (Some c) h = h.1.value

  -- what fits a place has such values
  pub place_ends : (task : ℕ) (Holds : ℕ → Values → Type 0) (live : List ℕ) (s : State)
      → FitsPlace laid task Holds live s → IsEnding s
  place_ends task Holds live s fits = record {
    form = fits.form;
    cells = λ x. own_typed task x (get s.cells x) (fits.cells x);
  }

  join_own : (x : ℕ) (a b : Option Cell) → IsTyped laid x (own_value a) → IsTyped laid x (own_value b)
      → IsTyped laid x (own_value (joined_at (joined_cell joined_values) a b))
  join_own x None b h k = k
  join_own x (Some c) None h k = h
  join_own x (Some c) (Some d) h k = let a = abstract_at laid x in joined_of_type laid a.scalar c.value d.value h k

  join_ends : (s t : State) → IsEnding s → IsEnding t → IsEnding (joined_state joined_values s t)
  join_ends s t h k = record {
    form = states_join.value s t h.form k.form;
    cells = λ x. subst (λ a. IsTyped laid x (own_value a))
        (sym (get-joined_table (joined_cell joined_values) s.cells t.cells x))
        (join_own x (get s.cells x) (get t.cells x) (h.cells x) (k.cells x));
  }

  abbrev join : Option State → Option State → Option State
  join a b = joined_at (joined_state joined_values) a b

  abbrev Ends : Option State → Type 0
  Ends a = IfSome a IsEnding

  abbrev Below : Option State → Option State → Type 0
  Below a b = IsBelow IsStateUnder a b

  both_end : (a b : Option State) → Ends a → Ends b → Ends (join a b)
  both_end None b h k = k
  both_end (Some s) None h k = h
  both_end (Some s) (Some t) h k = join_ends s t h k

  both_rise : (a b a' b' : Option State) → Ends a → Ends b → Ends a' → Ends b' → Below a a' → Below b b'
      → Below (join a b) (join a' b')
  both_rise None None a' b' h k h' k' le le' = tt
  both_rise None (Some t) a' None h k h' k' le le' = absurd le'
  both_rise None (Some t) None (Some t') h k h' k' le le' = le'
  both_rise None (Some t) (Some s') (Some t') h k h' k' le le' =
      states_order.transitive t t' (joined_state joined_values s' t') k.form k'.form
      (states_join.value s' t' h'.form k'.form) le' (states_join.right s' t' h'.form k'.form)
  both_rise (Some s) None None b' h k h' k' le le' = absurd le
  both_rise (Some s) None (Some s') None h k h' k' le le' = le
  both_rise (Some s) None (Some s') (Some t') h k h' k' le le' =
      states_order.transitive s s' (joined_state joined_values s' t') h.form h'.form
      (states_join.value s' t' h'.form k'.form) le (states_join.left s' t' h'.form k'.form)
  both_rise (Some s) (Some t) None b' h k h' k' le le' = absurd le
  both_rise (Some s) (Some t) (Some s') None h k h' k' le le' = absurd le'
  both_rise (Some s) (Some t) (Some s') (Some t') h k h' k' le le' =
      let z = joined_state joined_values s' t' in
      let z-is = states_join.value s' t' h'.form k'.form in
      states_join.least s t z h.form k.form z-is
      (states_order.transitive s s' z h.form h'.form z-is le (states_join.left s' t' h'.form k'.form))
      (states_order.transitive t t' z k.form k'.form z-is le' (states_join.right s' t' h'.form k'.form))

  -- ## The end of a body

  module _ (graph : Edges) (nodes : List ConfiguredNode) where
    abbrev AreEndings : NodeTable State → Type 0
    AreEndings table = (n : ℕ) → n < length nodes → Ends (table n)

    ends_by : (table : NodeTable State) (n : ℕ) → Ends (ended_below graph nodes table n) → Ends (table n) → (b : Bool)
        → Ends (cond b (join (ended_below graph nodes table n) (table n)) (ended_below graph nodes table n))
    ends_by table n before here true = both_end (ended_below graph nodes table n) (table n) before here
    ends_by table n before here false = before

    ends_below : (table : NodeTable State) → AreEndings table → (k : ℕ) → k ≤ length nodes
        → Ends (ended_below graph nodes table k)
    ends_below table each zero le = tt
    ends_below table each (suc n) le =
        ends_by table n (ends_below table each n (omega arith)) (each n (omega arith)) (is_end graph nodes n)

    rises_by : (table table' : NodeTable State) (n : ℕ) → Ends (ended_below graph nodes table n) → Ends (table n)
        → Ends (ended_below graph nodes table' n) → Ends (table' n)
        → Below (ended_below graph nodes table n) (ended_below graph nodes table' n) → Below (table n) (table' n)
        → (b : Bool) → Below
        (cond b (join (ended_below graph nodes table n) (table n)) (ended_below graph nodes table n))
        (cond b (join (ended_below graph nodes table' n) (table' n)) (ended_below graph nodes table' n))
    rises_by table table' n h k h' k' before here true =
        both_rise (ended_below graph nodes table n) (table n) (ended_below graph nodes table' n) (table' n) h k h' k'
        before here
    rises_by table table' n h k h' k' before here false = before

    rises_below : (table table' : NodeTable State) → AreEndings table → AreEndings table'
        → ((n : ℕ) → n < length nodes → Below (table n) (table' n)) → (k : ℕ) → k ≤ length nodes
        → Below (ended_below graph nodes table k) (ended_below graph nodes table' k)
    rises_below table table' each each' rises zero le = tt
    rises_below table table' each each' rises (suc n) le =
        rises_by table table' n (ends_below table each n (omega arith)) (each n (omega arith))
        (ends_below table' each' n (omega arith)) (each' n (omega arith))
        (rises_below table table' each each' rises n (omega arith)) (rises n (omega arith)) (is_end graph nodes n)

    same_below : (table table' : NodeTable State) → ((n : ℕ) → n < length nodes → table n ≡ table' n) → (k : ℕ)
        → k ≤ length nodes → ended_below graph nodes table k ≡ ended_below graph nodes table' k
    same_below table table' same zero le = refl
    same_below table table' same (suc n) le =
        ap (λ z. cond (is_end graph nodes n) (join z (table n)) z) (same_below table table' same n (omega arith))
        ∙ ap (λ z. cond (is_end graph nodes n) (join (ended_below graph nodes table' n) z)
        (ended_below graph nodes table' n)) (same n (omega arith))

    -- the state in which a body ends
    pub end_is : (table : NodeTable State) → AreEndings table → Ends (ended_in graph nodes table)
    end_is table each = ends_below table each (length nodes) (omega arith)

    -- more in a table gives more at the end
    pub end_rises : (table table' : NodeTable State) → AreEndings table → AreEndings table'
        → ((n : ℕ) → n < length nodes → Below (table n) (table' n))
        → Below (ended_in graph nodes table) (ended_in graph nodes table')
    end_rises table table' each each' rises = rises_below table table' each each' rises (length nodes) (omega arith)

    -- tables that agree at the nodes end alike
    pub end_agrees : (table table' : NodeTable State) → ((n : ℕ) → n < length nodes → table n ≡ table' n)
        → ended_in graph nodes table ≡ ended_in graph nodes table'
    end_agrees table table' same = same_below table table' same (length nodes) (omega arith)

  -- ## What begins then

  module _ (task : ℕ) where
    pub later_fits : (Holds : ℕ → Values → Type 0) (a : Option State) → Ends a
        → IfSome (later_state laid task a) (FitsPlace laid task Holds [])
    later_fits Holds None h = tt
    later_fits Holds (Some s) h = entry_fits laid task (own_of s) (λ x is. h.cells x) Holds

    own_rises : (x : ℕ) (a b : Option Cell) → IsTyped laid x (own_value b) → IsBelow IsCellUnder a b
        → IsValuesBelow (own_value a) (own_value b)
    own_rises x None b h le =
        let a = abstract_at laid x in
        values_nothing.below no_value (own_value b) (typed_is laid x no_value (none_of_type laid a.scalar))
        (typed_is laid x (own_value b) h) refl
    own_rises x (Some c) None h le = absurd le
    own_rises x (Some c) (Some d) h le = le.value

    pub later_rises : (a b : Option State) → Ends b → Below a b
        → Below (later_state laid task a) (later_state laid task b)
    later_rises None b h le = tt
    later_rises (Some s) None h le = absurd le
    later_rises (Some s) (Some t) h le = entry_rises laid task (own_of s) (own_of t)
        (λ x is. own_rises x (get s.cells x) (get t.cells x) (h.cells x) (le.cells x))
