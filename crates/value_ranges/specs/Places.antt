-- Places that some run may reach, and dead ones.
--
-- In `int x; int y; __task(1) void t(void) { x = __input(0, 9); if (x > 20) y = 1; }` no state stands before the store
-- to `y`: the branch is never taken. So its place is dead.
use Rattle.std.specs.Prelude.{◌≡◌, ◌↔◌, ℕ, ◌<◌, List, length, Contains}
use Rattle.tm_terms.specs.declared.places.Place.{Place}
use Rattle.flow_graph.specs.declared.graphs.Edge.{Edge}
use Rattle.flow_graph.specs.declared.operations.Operation.{Operation}
use Rattle.flow_graph.specs.declared.operations.Operation.TheVariants as Op
use Rattle.program_reports.specs.post_recheck.transfer_rows.StateForms.{State}
use Rattle.program_reports.specs.post_recheck.table_covers.Solutions.{NodeTable}
use Rattle.program_reports.specs.post_recheck.program_equations.Programs.{ProgramBodies, body_at}
use Rattle.program_reports.specs.Reports.{operation_in, IsReachedIn}
use Rattle.place_lists.specs.Order.{AreInOrder}

-- an operation that reads, writes, locks or unlocks stands at the place
abbrev pub ReachesAt : Operation → Place → Type 0
ReachesAt (Op.Load to address scalar q) place = q ≡ place
ReachesAt (Op.LoadAny to address scalar q) place = q ≡ place
ReachesAt (Op.Store address value scalar into q) place = q ≡ place
ReachesAt (Op.Lock mutex q) place = q ≡ place
ReachesAt (Op.Unlock mutex q) place = q ≡ place
ReachesAt operation place = ⊥

-- Such an operation of a body stands at the place. Where no configured node is at the node that it leaves, it has no
-- copy: it is listed all the same.
pub record IsListedPlace (p : ProgramBodies) (place : Place) : Type 0 where
  pub body : ℕ
  pub within : body < length p.bodies
  pub edge : Edge
  pub among : (let b = body_at p body in Contains b.edges edge)
  pub stands : ReachesAt edge.op place

module _ (p : ProgramBodies) (tables : ℕ → NodeTable State) where
  -- a copy of such an operation of a body stands at the place, and leaves a node that has a state
  pub record IsReachedPlace (body : ℕ) (place : Place) : Type 0 where
    pub copy : ℕ
    pub state : State
    pub reached : IsReachedIn p tables body copy state
    pub stands : ReachesAt (operation_in p body copy) place

  -- such an operation of a body stands at the place, and no copy of one leaves a node that has a state
  pub record IsDead (place : Place) : Type 0 where
    pub listed : IsListedPlace p place
    pub never : (body : ℕ) → IsReachedPlace body place → ⊥

  -- exactly the dead places, in order and without repeats
  pub record AreDead (places : List Place) : Type 0 where
    pub sorted : AreInOrder places
    pub exact : (place : Place) → Contains places place ↔ IsDead place
