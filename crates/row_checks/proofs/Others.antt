-- What edges make of a cell that do not change cells one by one.
use Rattle.std.specs.Prelude.{◌≡◌, ℕ, Bool, refl}
use Rattle.tm_laid.specs.tm_terms.declared.places.Place.{Place}
use Rattle.tm_laid.specs.Layouts.{LaidTree}
use Rattle.flow_graph.specs.declared.operations.Operation.{Operation}
use Rattle.flow_graph.specs.declared.operations.Operation.TheVariants as Op
use Rattle.sparse_rows.specs.transfer_rows.interfere_set.Stores.{Interferences}
use Rattle.sparse_rows.specs.transfer_rows.StateForms.{Cell}
use Rattle.sparse_rows.specs.transfer_rows.Actions.{Around}
use Rattle.sparse_rows.specs.Carried.{carried_by}
use Rattle.edge_actions.specs.Edges.{action_of}

module _ (around : Around) (laid : LaidTree) (task : ℕ) (pointers answer : Bool) (store : Interferences) (x : ℕ)
    (c : Cell) where
  pub others_leave : (op : Operation)
      → ((mutex : ℕ) (place : Place) → op ≡ Op.Lock mutex place → ⊥)
      → ((mutex : ℕ) (place : Place) → op ≡ Op.Unlock mutex place → ⊥)
      → (op ≡ Op.Yield → ⊥)
      → ((to mutex : ℕ) (place : Place) → op ≡ Op.Probe to mutex place → ⊥)
      → carried_by around (action_of laid task pointers answer op) store x c ≡ c
  unfolding carried_by
  others_leave (Op.Lock mutex place) lock unlock yields probe = absurd (lock mutex place refl)
  others_leave (Op.Unlock mutex place) lock unlock yields probe = absurd (unlock mutex place refl)
  others_leave Op.Yield lock unlock yields probe = absurd (yields refl)
  others_leave (Op.Probe to mutex place) lock unlock yields probe = absurd (probe to mutex place refl)
  others_leave op lock unlock yields probe = refl
