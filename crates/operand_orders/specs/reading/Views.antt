-- A body as the code reads it: the copies of each edge, and the states that they leave.
use Rattle.std.specs.Prelude.{◌≡◌, ◌↔◌, ◌⊎◌, ℕ, ◌<◌, List, length, Contains, Option, Some, None, slice_get}
use Rattle.std.specs.declared.vec.Vec.{Vec}
use Rattle.tm_laid.specs.Layouts.{laid_tree}
use Rattle.mutex_configs.specs.declared.nodes.EdgeCopy.{EdgeCopy}
use Rattle.post_recheck.specs.transfer_rows.StateForms.{State}
use Rattle.post_recheck.specs.table_covers.Solutions.{at}
use Rattle.operand_orders.specs.declared.views.BodyView.{BodyView}
use Rattle.operand_orders.specs.Reached.{SolvedBody}
use Rattle.access_races.specs.reading.Ways.{list_at, HasOne}

-- the body that is read
abbrev pub solved : BodyView → SolvedBody
solved view = record {
  laid = laid_tree view.laid.now;
  number = view.number;
  edges = view.edges.now;
  copies = view.copies.now;
  table = at view.table.now;
  store = view.store.now;
  origins = view.origins.now;
}

-- ## Copies

-- the copy with this number is one of the edge
pub record IsCopyOf (copies : List EdgeCopy) (edge number : ℕ) : Type 0 where
  pub copy : EdgeCopy
  pub is : slice_get copies number ≡ Some copy
  pub of : copy.edge ≡ edge

-- exactly the numbers of the copies of the edge
abbrev pub AreCopiesOf : List EdgeCopy → ℕ → List ℕ → Type 0
AreCopiesOf copies edge numbers = (k : ℕ) → Contains numbers k ↔ IsCopyOf copies edge k

-- for each of so many edges
pub record AreCopiesBy {A : Type 0} (copies : List EdgeCopy) (most : ℕ) (lists : List (Vec ℕ A)) : Type 0 where
  pub count : length lists ≡ most
  pub each : (edge : ℕ) → edge < most → AreCopiesOf copies edge (list_at lists edge)

-- The numbers of copies stand by the edges, and each copy is one of an edge that there is.
pub record IsIndexed (view : BodyView) : Type 0 where
  pub by_edge : AreCopiesBy view.copies.now (length view.edges.now) view.by_edge.now
  pub below : (k : ℕ) (copy : EdgeCopy) → slice_get view.copies.now k ≡ Some copy → copy.edge < length view.edges.now

-- ## States

-- the state of the node that a copy leaves
abbrev pub state_from : SolvedBody → Option EdgeCopy → Option State
state_from b None = None
state_from b (Some copy) = b.table copy.from

abbrev pub state_at : SolvedBody → ℕ → Option State
state_at b k = state_from b (slice_get b.copies k)

-- one of these copies leaves a node with the state
abbrev pub IsStateIn : SolvedBody → List ℕ → State → Type 0
IsStateIn b numbers s = HasOne (λ (k : ℕ). state_at b k ≡ Some s) numbers

-- ## Going through the copies

-- the number stands behind those of an edge, if there is such a list
pub record IsNumberAdded {A : Type 0} (old : List (Vec ℕ A)) (edge number : ℕ) (new : List (Vec ℕ A)) : Type 0 where
  pub count : length new ≡ length old
  pub added : (e : ℕ) → e < length old → (k : ℕ) → Contains (list_at new e) k
      ↔ (Contains (list_at old e) k ⊎ ((e ≡ edge) × (k ≡ number)))
