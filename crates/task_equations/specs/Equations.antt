-- The equations of a body over a store: nodes are the nodes of its configured graph, and links the copies of its edges.
use Rattle.std.specs.Prelude.{ℕ, ℤ, ◌==◌, Bool, false, cond, List, [], ◌∷◌, length, map, is_some, unwrap_or}
use Rattle.std.specs.Prelude.{Option, Some, None}
use Rattle.mutex_configs.specs.flow_graph.declared.operations.Test.TheVariants as Tests
use Rattle.mutex_configs.specs.flow_graph.declared.operations.Operation.{Operation}
use Rattle.mutex_configs.specs.flow_graph.declared.operations.Operation.TheVariants as Op
use Rattle.mutex_configs.specs.graph_facts.declared.regions.Head.{Head}
use Rattle.mutex_configs.specs.declared.nodes.EdgeCopy.{EdgeCopy}
use Rattle.state_fits.specs.pointer_dom.Values.{rounded_values}
use Rattle.state_fits.specs.cell_env.States.{rounded_state_at, state_height}
use Rattle.state_fits.specs.interfere_set.Stores.{Interferences, reader_of}
use Rattle.state_fits.specs.transfer_rows.StateForms.{State}
use Rattle.state_fits.specs.transfer_rows.Actions.{Action, Around}
use Rattle.state_fits.specs.transfer_rows.Accesses.{is_among}
use Rattle.state_fits.specs.transfer_rows.Rows.{after}
use Rattle.state_fits.specs.transfer_rows.Contributions.{added}
use Rattle.state_fits.specs.edge_actions.Layouts.{is_shared_cell, is_smashed_cell}
use Rattle.state_fits.specs.edge_actions.Edges.{action_of}
use Rattle.table_covers.specs.declared.links.Link.{Link}
use Rattle.table_covers.specs.Systems.{System}
use Rattle.task_equations.specs.Bodies.{Body, edge_of, node_at, copy_at, live_at}
use Rattle.state_fits.specs.value_heights.Heights.{value_height}
use Rattle.state_fits.specs.Tops.{top_state}

-- ## Copies

-- a test for truth, of a temporary that holds pointers
unfoldable pub tests_pointer : List ℕ → Operation → Bool
tests_pointer pointers (Op.Assume (Tests.Truth holds value)) = is_among pointers value
tests_pointer pointers op = false

-- a copy of an edge as an action, and the task at the node that it leaves
abbrev pub action_along : Body → EdgeCopy → Action
action_along b c =
    let e = edge_of b c in action_of b.laid b.task (tests_pointer b.pointers e.op) c.answer e.op

abbrev pub around_along : Body → EdgeCopy → Around
around_along b c =
    let q = node_at b c.from in
    let e = edge_of b c in record {
      reader = reader_of b.task q.held q.found b.priorities;
      is_shared = is_shared_cell b.laid;
      is_smashed = is_smashed_cell b.laid;
      is_live = is_among (live_at b e.to);
    }

-- a copy that leads nowhere brings no state
abbrev pub led : Option ℕ → Option State → Option State
led None s = None
led (Some n) s = s

abbrev pub after_along : Body → Interferences → EdgeCopy → State → Option State
after_along b store c s = led c.to (after (around_along b c) (action_along b c) s store)

abbrev pub added_along : Body → EdgeCopy → State → Interferences
added_along b c s = added (around_along b c) (action_along b c) s

-- a copy that leads nowhere stands as a link to its own node
abbrev pub link_of : EdgeCopy → Link
link_of c = record { from = c.from; to = unwrap_or c.to c.from }

-- ## Heads

-- the cells that are rounded at a place: those written in the region of the head there; none where there is no head
abbrev pub cells_rounded : List Head → List (List ℕ) → ℕ → Option (List ℕ)
cells_rounded [] lists place = None
cells_rounded (h ∷ hs) [] place = None
cells_rounded (h ∷ hs) (cells ∷ lists) place = cond (h.node == place) (Some cells) (cells_rounded hs lists place)

abbrev pub rounded_at : List ℤ → Option (List ℕ) → State → State
rounded_at marks None s = s
rounded_at marks (Some cells) s = rounded_state_at (rounded_values marks) cells s

abbrev pub cells_at : Body → ℕ → Option (List ℕ)
cells_at b n = let q = node_at b n in cells_rounded b.heads b.written q.place

-- ## The system

-- the equations of a body that begins in this state, or not at all, over a store
abbrev pub equations_of : Body → Option State → Interferences → System State
equations_of b entry store = record {
  node_count = length b.nodes;
  links = map link_of b.copies;
  after = λ k s. after_along b store (copy_at b k) s;
  entry = entry;
  outward = λ n s. rounded_at b.marks (cells_at b n) s;
  heads = λ n. is_some (cells_at b n);
  height = state_height value_height;
  limit = λ n. (let q = node_at b n in state_height value_height (top_state b.laid (live_at b q.place)));
}
