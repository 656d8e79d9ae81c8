-- The edges of a body with the states of their copies in the table of a solution.
use Rattle.std.specs.Prelude.{◌≡◌, ℕ, ◌≤◌, ◌<◌, true, List, get_or, Contains, Some, slice_get}
use Rattle.tm_typed.specs.declared.types.Scalar.{Scalar}
use Rattle.tm_laid.specs.Layouts.{LaidTree, is_shared, abstract_at}
use Rattle.interfere_set.specs.Stores.{Interferences}
use Rattle.flow_graph.specs.declared.operations.Operation.{Operation}
use Rattle.flow_graph.specs.declared.operations.Operation.TheVariants as Op
use Rattle.flow_graph.specs.declared.graphs.Edge.{Edge}
use Rattle.mutex_configs.specs.declared.nodes.EdgeCopy.{EdgeCopy}
use Rattle.edge_actions.specs.Layouts.{spots_of}
use Rattle.post_recheck.specs.transfer_rows.StateForms.{State, value_of}
use Rattle.post_recheck.specs.transfer_rows.Accesses.{targets_at}
use Rattle.post_recheck.specs.table_covers.Solutions.{NodeTable}
use Rattle.post_recheck.specs.task_equations.Bodies.{no_edge}
use Rattle.post_recheck.specs.program_equations.Programs.{ProgramBodies, body_at}
use Rattle.path_origins.specs.declared.origins.Form.TheVariants as Forms
use Rattle.path_origins.specs.declared.origins.Span.{Span}
use Rattle.path_origins.specs.declared.origins.Life.{Life}
use Rattle.edge_origins.specs.declared.origins.EdgeOrigin.{EdgeOrigin}
use Rattle.edge_origins.specs.declared.origins.BodyOrigins.{BodyOrigins}

-- A body of a program: its number, edges and copies of edges, the state of each node in a solution, the store of the
-- solution, and what is noted of its edges.
pub record SolvedBody : Type 0 where
  pub laid : LaidTree
  pub number : ℕ
  pub edges : List Edge
  pub copies : List EdgeCopy
  pub table : NodeTable State
  pub store : Interferences
  pub origins : BodyOrigins

-- a body of a program, whose source is laid out so, with the tables and the store of a solution
abbrev pub solved_body : LaidTree → ProgramBodies → (ℕ → NodeTable State) → Interferences → ℕ → BodyOrigins → SolvedBody
solved_body laid p tables store t origins = (let b = body_at p t in record {
  laid = laid;
  number = t;
  edges = b.edges;
  copies = b.copies;
  table = tables t;
  store = store;
  origins = origins;
})

-- an edge is one of a span
pub record IsWithin (edge : ℕ) (span : Span) : Type 0 where
  pub first : span.first ≤ edge
  pub end : edge < span.end

module _ (b : SolvedBody) where
  -- the operation of an edge
  abbrev pub operation_at : ℕ → Operation
  operation_at edge = (let e = get_or b.edges edge no_edge in e.op)

  -- where an edge comes from, if it is noted
  abbrev pub origin_at : ℕ → EdgeOrigin
  origin_at edge = (let o = b.origins in get_or o.edges.items edge (record {
    path = 0;
    place = record { line = 0; col = 0 };
    form = Forms.Skip;
  }))

  -- an edge has this operation and this state: one of its copies leaves a node with it
  pub record HasState (edge : ℕ) (op : Operation) (s : State) : Type 0 where
    pub number : ℕ
    pub copy : EdgeCopy
    pub is : slice_get b.copies number ≡ Some copy
    pub of : copy.edge ≡ edge
    pub state : b.table copy.from ≡ Some s
    pub operation : operation_at edge ≡ op

  -- the edge is reached
  pub record IsReached (edge : ℕ) : Type 0 where
    pub state : State
    pub has : HasState edge (operation_at edge) state

  -- the abstract cells that the body reaches by an address
  abbrev pub targets : Scalar → ℕ → State → List ℕ
  targets scalar address s =
      (let v = value_of s address in targets_at (spots_of b.laid b.number scalar) v.pointers)

  -- an edge loads the cell, or stores it, in one of its states
  pub data Loads (edge cell : ℕ) : Type 0 where
    by_load : {to address : ℕ} {scalar : _} {place : _} (s : State)
        → HasState edge (Op.Load to address scalar place) s → Contains (targets scalar address s) cell
        → Loads edge cell
    by_any : {to address : ℕ} {scalar : _} {place : _} (s : State)
        → HasState edge (Op.LoadAny to address scalar place) s → Contains (targets scalar address s) cell
        → Loads edge cell

  pub data Stores (edge cell : ℕ) : Type 0 where
    by_store : {address value : ℕ} {scalar into : _} {place : _} (s : State)
        → HasState edge (Op.Store address value scalar into place) s
        → Contains (targets scalar address s) cell → Stores edge cell

  -- an object is open at an edge: it is of static storage, or the edge is in the scope of its declaration (C99 6.2.1p4)
  pub data IsOpen (edge object : ℕ) : Type 0 where
    static : is_shared b.laid object ≡ true → IsOpen edge object
    declared : (life : Life) → (let o = b.origins in Contains o.lives.items life) → life.object ≡ object
        → IsWithin edge life.scope → IsOpen edge object

  -- an abstract cell is of static storage
  abbrev pub IsStatic : ℕ → Type 0
  IsStatic cell = (let a = abstract_at b.laid cell in is_shared b.laid a.object ≡ true)
