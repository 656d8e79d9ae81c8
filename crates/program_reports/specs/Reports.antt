-- The report of the tables of a program and a store: what they do not exclude.
use Rattle.std.specs.Prelude.{◌≡◌, ◌↔◌, ◌⊎◌, ℕ, ◌<◌, true, List, length, Contains, get_or, Option, Some, None}
use Rattle.tm_cint.specs.declared.Class.{Class}
use Rattle.tm_cint.specs.declared.Class.TheVariants.{Race}
use Rattle.tm_terms.specs.declared.alarms.Alarm.{Alarm}
use Rattle.tm_terms.specs.declared.places.Place.{Place}
use Rattle.tm_terms.specs.Alarms.{IsStrictlySorted}
use Rattle.flow_graph.specs.declared.operations.Operation.{Operation}
use Rattle.flow_graph.specs.declared.operations.Operation.TheVariants as Op
use Rattle.mutex_configs.specs.declared.nodes.ConfiguredNode.{ConfiguredNode}
use Rattle.mutex_configs.specs.declared.nodes.EdgeCopy.{EdgeCopy}
use Rattle.interfere_set.specs.Stores.{are_apart}
use Rattle.post_recheck.specs.transfer_rows.StateForms.{State}
use Rattle.post_recheck.specs.transfer_rows.Reports.{targets_of, IsListed}
use Rattle.post_recheck.specs.table_covers.Solutions.{NodeTable}
use Rattle.post_recheck.specs.task_equations.Bodies.{edge_of, node_at, copy_at}
use Rattle.post_recheck.specs.task_equations.Equations.{action_along, around_along}
use Rattle.post_recheck.specs.program_equations.Programs.{ProgramBodies, body_at}

-- ## Operations

-- where an operation stands in the source, if an error or an access may stand there
unfoldable pub place_of : Operation → Option Place
place_of (Op.Un to operator of from place) = Some place
place_of (Op.Bin to operator of left right place) = Some place
place_of (Op.Index to from length cells by place) = Some place
place_of (Op.Move to from cells minus by place) = Some place
place_of (Op.Deref to from target path place) = Some place
place_of (Op.Load to address scalar place) = Some place
place_of (Op.LoadAny to address scalar place) = Some place
place_of (Op.Store address value scalar into place) = Some place
place_of (Op.Usable pointer place) = Some place
place_of (Op.Lock mutex place) = Some place
place_of (Op.Unlock mutex place) = Some place
place_of (Op.Probe to mutex place) = Some place
place_of operation = None

-- the operation writes the cells that it reaches
abbrev pub IsWriting : Operation → Type 0
IsWriting (Op.Store address value scalar into place) = Unit {0}
IsWriting operation = ⊥

module _ (p : ProgramBodies) where
  abbrev pub priority_at : ℕ → ℕ
  priority_at t = get_or p.priorities t 0

  -- the copy of an edge, by the number of its body and its own, and the node that it leaves
  abbrev pub copy_in : ℕ → ℕ → EdgeCopy
  copy_in t k = copy_at (body_at p t) k

  abbrev pub left_in : ℕ → ℕ → ConfiguredNode
  left_in t k = (let c = copy_in t k in node_at (body_at p t) c.from)

  abbrev pub operation_in : ℕ → ℕ → Operation
  operation_in t k = (let e = edge_of (body_at p t) (copy_in t k) in e.op)

  module _ (tables : ℕ → NodeTable State) where
    -- the copy leaves a node that is reached, in this state
    pub record IsReachedIn (t k : ℕ) (s : State) : Type 0 where
      pub body : t < length p.bodies
      pub copy : (let b = body_at p t in k < length b.copies)
      pub state : (let c = copy_in t k in tables t c.from ≡ Some s)

    -- ## Errors

    -- a copy that leaves a reached node does not exclude the class, and stands at the place
    pub record IsFaulty (place : Place) (class : Class) : Type 0 where
      pub body : ℕ
      pub copy : ℕ
      pub state : State
      pub reached : IsReachedIn body copy state
      pub listed : (let b = body_at p body in let c = copy_in body copy in
          IsListed (around_along b c) (action_along b c) state class)
      pub placed : place_of (operation_in body copy) ≡ Some place

    -- ## Races

    -- a copy of a task's edge that leaves a reached node reaches the abstract cell
    pub record IsAccess (t k cell : ℕ) : Type 0 where
      pub task : t < p.tasks
      pub state : State
      pub reached : IsReachedIn t k state
      pub target : Contains (targets_of (action_along (body_at p t) (copy_in t k)) state) cell

    -- Where the first task is less urgent than the second, no mutex that the first holds was found free by the second:
    -- while the second has not waited since, the first cannot take it.
    abbrev pub IsUnhindered : ℕ → ℕ → ℕ → ℕ → Type 0
    IsUnhindered t k u l = priority_at t < priority_at u
        → (let q = left_in t k in let r = left_in u l in are_apart q.held r.found ≡ true)

    -- two accesses of different tasks reach one cell, with no mutex that both hold; one of them writes
    pub record AreRacing (t k u l : ℕ) : Type 0 where
      pub tasks : t ≡ u → ⊥
      pub cell : ℕ
      pub one : IsAccess t k cell
      pub other : IsAccess u l cell
      pub writes : IsWriting (operation_in t k) ⊎ IsWriting (operation_in u l)
      pub apart : (let q = left_in t k in let r = left_in u l in are_apart q.held r.held ≡ true)
      pub forth : IsUnhindered t k u l
      pub back : IsUnhindered u l t k

    -- one of two racing accesses stands at the place
    pub record IsRacing (place : Place) : Type 0 where
      pub body : ℕ
      pub copy : ℕ
      pub other_body : ℕ
      pub other_copy : ℕ
      pub racing : AreRacing body copy other_body other_copy
      pub placed : place_of (operation_in body copy) ≡ Some place

    -- ## Reports

    pub data IsAlarm : Alarm → Type 0 where
      faulty : {place : Place} {class : Class} → IsFaulty place class
          → IsAlarm (record { place = place; class = class })
      racing : {place : Place} → IsRacing place → IsAlarm (record { place = place; class = Race })

    -- exactly the alarms of the tables, in order and without repeats
    pub record IsReport (alarms : List Alarm) : Type 0 where
      pub sorted : IsStrictlySorted alarms
      pub exact : (a : Alarm) → Contains alarms a ↔ IsAlarm a
