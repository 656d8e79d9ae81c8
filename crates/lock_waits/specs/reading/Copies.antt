-- The requests of the copies of a task's edges, as the code reads them from lists.
use Rattle.std.specs.Prelude.{◌≡◌, ℕ, ◌<◌, cond, List, length, get_or, Option, Some, None}
use Rattle.flow_graph.specs.declared.graphs.Edge.{Edge}
use Rattle.flow_graph.specs.declared.operations.Operation.{Operation}
use Rattle.flow_graph.specs.declared.operations.Operation.TheVariants as Op
use Rattle.mutex_configs.specs.declared.nodes.ConfiguredNode.{ConfiguredNode}
use Rattle.mutex_configs.specs.declared.nodes.EdgeCopy.{EdgeCopy}
use Rattle.mutex_configs.specs.Nodes.{entry_node}
use Rattle.mutex_configs.specs.Sets.{has}
use Rattle.request_circles.specs.declared.requests.Request.{Request}
use Rattle.program_reports.specs.post_recheck.transfer_rows.StateForms.{State}
use Rattle.program_reports.specs.post_recheck.table_covers.Solutions.{at}
use Rattle.program_reports.specs.post_recheck.task_equations.Bodies.{no_edge, no_copy}
use Rattle.lock_waits.specs.declared.copies.TaskParts.{TaskParts}

-- the request of an operation of a task at a node where it holds these mutexes
unfoldable pub asked_by : Operation → ℕ → ℕ → Option Request
asked_by (Op.Lock mutex place) task held =
    cond (has held mutex) None (Some (record { task = task; held = held; mutex = mutex; place = place }))
asked_by operation task held = None

-- it counts where the node that is left has a state
abbrev pub where_reached : Option State → Option Request → Option Request
where_reached None asked = None
where_reached (Some s) asked = asked

abbrev pub copy_in : List EdgeCopy → ℕ → EdgeCopy
copy_in copies k = get_or copies k no_copy

module _ (task : ℕ) (edges : List Edge) (nodes : List ConfiguredNode) (copies : List EdgeCopy)
    (table : List (Option State)) where
  -- the request of a copy
  abbrev pub asked_at : ℕ → Option Request
  asked_at k =
      let c = copy_in copies k in
      let e = get_or edges c.edge no_edge in
      let q = get_or nodes c.from entry_node in where_reached (at table c.from) (asked_by e.op task q.held)

  -- one of the first copies makes the request
  pub record IsAskedBelow (n : ℕ) (r : Request) : Type 0 where
    pub copy : ℕ
    pub below : copy < n
    pub asked : asked_at copy ≡ Some r

-- each copy is of an edge, from a node, for which the table has a state or none
pub record AreInRange (parts : TaskParts) : Type 0 where
  pub edges : (k : ℕ) → k < length parts.copies.now
      → (let c = copy_in parts.copies.now k in c.edge < length parts.edges.now)
  pub nodes : (k : ℕ) → k < length parts.copies.now
      → (let c = copy_in parts.copies.now k in c.from < length parts.nodes.now)
  pub count : length parts.table.now ≡ length parts.nodes.now
