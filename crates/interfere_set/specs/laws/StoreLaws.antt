-- Stores are a lattice, entry by entry, and have heights.
use Rattle.std.specs.Prelude.{◌≡◌, ℕ, ◌≤◌, List, ℤ, refl}
use Rattle.std.proofs.Common.{arith}
use Rattle.std.specs.Coded.{Coded, code_by, coded_ℕ, coded×}
use Rattle.std.specs.FinMap as map
use Rattle.tm_lattice.specs.Heights.{IsHeight, table_height}
use Rattle.tm_lattice.specs.LatticeLaws.{IsOrder, IsJoin, IsClosure, IsLeastNothing}
use Rattle.tm_lattice.specs.Tables.{Table, IsTable, IsTableBelow, joined_table, rounded_table}
use Rattle.tm_lattice.specs.laws.TableHeights.{table_heights}
use Rattle.tm_lattice.specs.laws.TableLaws.{table_order, table_join, table_closure, table_nothing}
use Rattle.pointer_dom.specs.Values.{Values, IsValues, IsValuesBelow, joined_values, rounded_values, no_value}
use Rattle.pointer_dom.specs.laws.Codes.{values_code}
use Rattle.pointer_dom.specs.laws.ValueLaws.{values_order, values_join, values_closure, values_nothing}
use Rattle.interfere_set.specs.Stores.{Nested, Interferences, HasNoEntry, IsNested, IsNestedBelow, IsStore}
use Rattle.interfere_set.specs.Stores.{IsStoreBelow, joined_nested, joined_store, rounded_nested, rounded_store}
use Rattle.interfere_set.specs.Stores.{store_height}

abbrev nested_code : Coded Nested
nested_code = map.code coded_ℕ (map.code coded_ℕ (map.code coded_ℕ values_code))

abbrev pub store_code : Coded Interferences
store_code =
    code_by (Nested × Nested) (coded× nested_code nested_code) (λ s. (s.weak, s.sync))
    (λ p. record { weak = p.0; sync = p.1 }) (λ _. refl)

abbrev AnyMarks : List ℤ → Type 0
AnyMarks marks = Unit {0}

abbrev IsCells : Table Values → Type 0
IsCells t = IsTable IsValues (λ v. v ≡ no_value) t

abbrev IsSets : Table (Table Values) → Type 0
IsSets t = IsTable IsCells HasNoEntry t

abbrev BelowCells : Table Values → Table Values → Type 0
BelowCells s t = IsTableBelow IsValuesBelow s t

abbrev BelowSets : Table (Table Values) → Table (Table Values) → Type 0
BelowSets s t = IsTableBelow BelowCells s t

abbrev join_cells : Table Values → Table Values → Table Values
join_cells = joined_table joined_values

abbrev join_sets : Table (Table Values) → Table (Table Values) → Table (Table Values)
join_sets = joined_table join_cells

abbrev round_cells : List ℤ → Table Values → Table Values
round_cells marks = rounded_table (rounded_values marks)

abbrev round_sets : List ℤ → Table (Table Values) → Table (Table Values)
round_sets marks = rounded_table (round_cells marks)

abbrev NoValue : Values → Type 0
NoValue v = v ≡ no_value

cells_order : IsOrder IsCells BelowCells
cells_order = table_order IsValues AnyMarks IsValuesBelow joined_values rounded_values NoValue values_order
    values_join values_closure values_nothing

cells_join : IsJoin IsCells BelowCells join_cells
cells_join = table_join IsValues AnyMarks IsValuesBelow joined_values rounded_values NoValue values_order values_join
    values_closure values_nothing

cells_closure : IsClosure IsCells AnyMarks BelowCells round_cells
cells_closure = table_closure IsValues AnyMarks IsValuesBelow joined_values rounded_values NoValue values_order
    values_join values_closure values_nothing

cells_nothing : IsLeastNothing IsCells AnyMarks BelowCells round_cells HasNoEntry
cells_nothing = table_nothing IsValues AnyMarks IsValuesBelow joined_values rounded_values NoValue values_order
    values_join values_closure values_nothing

sets_order : IsOrder IsSets BelowSets
sets_order = table_order IsCells AnyMarks BelowCells join_cells round_cells HasNoEntry cells_order cells_join
    cells_closure cells_nothing

sets_join : IsJoin IsSets BelowSets join_sets
sets_join = table_join IsCells AnyMarks BelowCells join_cells round_cells HasNoEntry cells_order cells_join
    cells_closure cells_nothing

sets_closure : IsClosure IsSets AnyMarks BelowSets round_sets
sets_closure = table_closure IsCells AnyMarks BelowCells join_cells round_cells HasNoEntry cells_order cells_join
    cells_closure cells_nothing

sets_nothing : IsLeastNothing IsSets AnyMarks BelowSets round_sets HasNoEntry
sets_nothing = table_nothing IsCells AnyMarks BelowCells join_cells round_cells HasNoEntry cells_order cells_join
    cells_closure cells_nothing

nested_order : IsOrder IsNested IsNestedBelow
nested_order = table_order IsSets AnyMarks BelowSets join_sets round_sets HasNoEntry sets_order sets_join sets_closure
    sets_nothing

nested_join : IsJoin IsNested IsNestedBelow joined_nested
nested_join = table_join IsSets AnyMarks BelowSets join_sets round_sets HasNoEntry sets_order sets_join sets_closure
    sets_nothing

nested_closure : IsClosure IsNested AnyMarks IsNestedBelow rounded_nested
nested_closure = table_closure IsSets AnyMarks BelowSets join_sets round_sets HasNoEntry sets_order sets_join
    sets_closure sets_nothing

nested_nothing : IsLeastNothing IsNested AnyMarks IsNestedBelow rounded_nested HasNoEntry
nested_nothing = table_nothing IsSets AnyMarks BelowSets join_sets round_sets HasNoEntry sets_order sets_join
    sets_closure sets_nothing

pub store_order : IsOrder IsStore IsStoreBelow
store_order = record {
  reflexive = λ s s-is. record {
    weak = nested_order.reflexive s.weak s-is.weak;
    sync = nested_order.reflexive s.sync s-is.sync;
  };
  transitive = λ s t u s-is t-is u-is p q. record {
    weak = nested_order.transitive s.weak t.weak u.weak s-is.weak t-is.weak u-is.weak p.weak q.weak;
    sync = nested_order.transitive s.sync t.sync u.sync s-is.sync t-is.sync u-is.sync p.sync q.sync;
  };
  antisymmetric = λ s t s-is t-is p q.
      let a = nested_order.antisymmetric s.weak t.weak s-is.weak t-is.weak p.weak q.weak in
      let b = nested_order.antisymmetric s.sync t.sync s-is.sync t-is.sync p.sync q.sync in
      λ i. record { weak = a i; sync = b i };
}

pub store_join : IsJoin IsStore IsStoreBelow joined_store
store_join = record {
  value = λ s t s-is t-is. record {
    weak = nested_join.value s.weak t.weak s-is.weak t-is.weak;
    sync = nested_join.value s.sync t.sync s-is.sync t-is.sync;
  };
  left = λ s t s-is t-is. record {
    weak = nested_join.left s.weak t.weak s-is.weak t-is.weak;
    sync = nested_join.left s.sync t.sync s-is.sync t-is.sync;
  };
  right = λ s t s-is t-is. record {
    weak = nested_join.right s.weak t.weak s-is.weak t-is.weak;
    sync = nested_join.right s.sync t.sync s-is.sync t-is.sync;
  };
  least = λ s t u s-is t-is u-is p q. record {
    weak = nested_join.least s.weak t.weak u.weak s-is.weak t-is.weak u-is.weak p.weak q.weak;
    sync = nested_join.least s.sync t.sync u.sync s-is.sync t-is.sync u-is.sync p.sync q.sync;
  };
}

pub store_closure : IsClosure IsStore AnyMarks IsStoreBelow rounded_store
store_closure = record {
  value = λ marks s m s-is. record {
    weak = nested_closure.value marks s.weak m s-is.weak;
    sync = nested_closure.value marks s.sync m s-is.sync;
  };
  extensive = λ marks s m s-is. record {
    weak = nested_closure.extensive marks s.weak m s-is.weak;
    sync = nested_closure.extensive marks s.sync m s-is.sync;
  };
  monotone = λ marks s t m s-is t-is p. record {
    weak = nested_closure.monotone marks s.weak t.weak m s-is.weak t-is.weak p.weak;
    sync = nested_closure.monotone marks s.sync t.sync m s-is.sync t-is.sync p.sync;
  };
  idempotent = λ marks s m s-is.
      let a = nested_closure.idempotent marks s.weak m s-is.weak in
      let b = nested_closure.idempotent marks s.sync m s-is.sync in
      λ i. record { weak = a i; sync = b i };
}

-- no entry at all
abbrev pub HasNoInterference : Interferences → Type 0
HasNoInterference s = HasNoEntry s.weak × HasNoEntry s.sync

pub store_nothing : IsLeastNothing IsStore AnyMarks IsStoreBelow rounded_store HasNoInterference
store_nothing = record {
  below = λ s t s-is t-is none. record {
    weak = nested_nothing.below s.weak t.weak s-is.weak t-is.weak none.0;
    sync = nested_nothing.below s.sync t.sync s-is.sync t-is.sync none.1;
  };
  rounding = λ marks s m s-is none. (
    nested_nothing.rounding marks s.weak m s-is.weak none.0,
    nested_nothing.rounding marks s.sync m s-is.sync none.1,
  );
}

module _ (height : Values → ℕ) (heights : IsHeight IsValues IsValuesBelow height) where
  nested_heights : IsHeight IsNested IsNestedBelow (table_height (table_height (table_height height)))
  nested_heights =
      table_heights IsSets BelowSets HasNoEntry (table_height (table_height height))
      (table_heights IsCells BelowCells HasNoEntry (table_height height)
      (table_heights IsValues IsValuesBelow NoValue height heights))

  -- a store's height rises where the store does
  pub store_heights : IsHeight IsStore IsStoreBelow (store_height height)
  store_heights = record {
    climbs = λ s t s-is t-is p.
        let a = nested_heights.climbs s.weak t.weak s-is.weak t-is.weak p.weak in
        let b = nested_heights.climbs s.sync t.sync s-is.sync t-is.sync p.sync in
        omega arith;
    strictly = λ s t s-is t-is p flat.
        let a = nested_heights.climbs s.weak t.weak s-is.weak t-is.weak p.weak in
        let b = nested_heights.climbs s.sync t.sync s-is.sync t-is.sync p.sync in
        let a' : s.weak ≡ t.weak = nested_heights.strictly s.weak t.weak s-is.weak t-is.weak p.weak (omega arith) in
        let b' : s.sync ≡ t.sync = nested_heights.strictly s.sync t.sync s-is.sync t-is.sync p.sync (omega arith) in
        λ i. record { weak = a' i; sync = b' i };
  }
