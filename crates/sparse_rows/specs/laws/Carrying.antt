-- What an operation makes of a cell by itself is a cell, and rises with it.
use Rattle.std.specs.Prelude.{ℕ, true, false, cond}
use Rattle.transfer_rows.specs.interfere_set.pointer_dom.Values.{Values, IsValues, IsValuesBelow, no_value}
use Rattle.transfer_rows.specs.interfere_set.pointer_dom.Values.{joined_values}
use Rattle.transfer_rows.specs.interfere_set.pointer_dom.laws.ValueLaws.{values_order, values_join}
use Rattle.transfer_rows.specs.interfere_set.Stores.{Interferences, IsStore, handed}
use Rattle.transfer_rows.specs.interfere_set.laws.Joins.{none_is}
use Rattle.transfer_rows.specs.interfere_set.laws.Hearing.{handed_is, cond_is}
use Rattle.transfer_rows.specs.StateForms.{Cell, IsCellForm, IsCellUnder}
use Rattle.transfer_rows.specs.Actions.{Around, Action, skips, gives, refines, loads, loads_any, stores, clears}
use Rattle.transfer_rows.specs.Actions.{locks, unlocks, yields, probes}
use Rattle.transfer_rows.specs.Rows.{aged, released, taken}
use Rattle.transfer_rows.proofs.Steps.{without_rises}
use Rattle.sparse_rows.specs.Carried.{carried_by}

joined_rises : (v w u : Values) → IsValues v → IsValues w → IsValues u → IsValuesBelow v w
    → IsValuesBelow (joined_values v u) (joined_values w u)
joined_rises v w u v-is w-is u-is le =
    let j-is = values_join.value w u w-is u-is in
    values_join.least v u (joined_values w u) v-is u-is j-is
    (values_order.transitive v w (joined_values w u) v-is w-is j-is le (values_join.left w u w-is u-is))
    (values_join.right w u w-is u-is)

module _ (around : Around) (store : Interferences) (store_is : IsStore store) where
  -- what the others left in a shared cell under a mutex
  abbrev left_there : ℕ → ℕ → Values
  left_there m x = cond (around.is_shared x) (handed around.reader.task m x store) no_value

  left_is : (m x : ℕ) → IsValues (left_there m x)
  left_is m x = cond_is (around.is_shared x) (handed around.reader.task m x store) no_value
      (handed_is around.reader.task m x store store_is.sync) none_is

  taken_is : (m x : ℕ) (c : Cell) → IsCellForm c → IsCellForm (taken around store m x c)
  taken_is m x c is = values_join.value c.value (left_there m x) is (left_is m x)

  taken_rises : (m x : ℕ) (c d : Cell) → IsCellForm c → IsCellForm d → IsCellUnder c d
      → IsCellUnder (taken around store m x c) (taken around store m x d)
  taken_rises m x c d c-is d-is le = record {
    value = joined_rises c.value d.value (left_there m x) c-is d-is (left_is m x) le.value;
    pending = le.pending;
    fresh = le.fresh;
    stored = le.stored;
  }

  aged_rises : (c d : Cell) → IsCellUnder c d → IsCellUnder (aged c) (aged d)
  aged_rises c d le = record { value = le.value; pending = le.pending; fresh = λ h. h; stored = le.stored }

  released_rises : (m : ℕ) (c d : Cell) → IsCellUnder c d → IsCellUnder (released m c) (released m d)
  released_rises m c d le = record {
    value = le.value;
    pending = without_rises around c.pending d.pending m le.pending;
    fresh = le.fresh;
    stored = le.stored;
  }

  pub carried_is : (action : Action) (x : ℕ) (c : Cell) → IsCellForm c
      → IsCellForm (carried_by around action store x c)
  unfolding carried_by
  carried_is skips x c is = is
  carried_is (gives target calculation) x c is = is
  carried_is (refines filter) x c is = is
  carried_is (loads spots target address) x c is = is
  carried_is (loads_any spots target address range) x c is = is
  carried_is (stores spots address source) x c is = is
  carried_is (clears cleared) x c is = is
  carried_is (locks m) x c is = taken_is m x c is
  carried_is (unlocks m) x c is = is
  carried_is yields x c is = is
  carried_is (probes m target true) x c is = is
  carried_is (probes m target false) x c is = taken_is m x c is

  pub carried_rises : (action : Action) (x : ℕ) (c d : Cell) → IsCellForm c → IsCellForm d → IsCellUnder c d
      → IsCellUnder (carried_by around action store x c) (carried_by around action store x d)
  unfolding carried_by
  carried_rises skips x c d c-is d-is le = le
  carried_rises (gives target calculation) x c d c-is d-is le = le
  carried_rises (refines filter) x c d c-is d-is le = le
  carried_rises (loads spots target address) x c d c-is d-is le = le
  carried_rises (loads_any spots target address range) x c d c-is d-is le = le
  carried_rises (stores spots address source) x c d c-is d-is le = le
  carried_rises (clears cleared) x c d c-is d-is le = le
  carried_rises (locks m) x c d c-is d-is le =
      aged_rises (taken around store m x c) (taken around store m x d) (taken_rises m x c d c-is d-is le)
  carried_rises (unlocks m) x c d c-is d-is le = released_rises m c d le
  carried_rises yields x c d c-is d-is le = aged_rises c d le
  carried_rises (probes m target true) x c d c-is d-is le = le
  carried_rises (probes m target false) x c d c-is d-is le = taken_rises m x c d c-is d-is le
