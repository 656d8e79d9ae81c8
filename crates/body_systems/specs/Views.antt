-- The view of a copy of an edge.
use Rattle.std.specs.Prelude.{◌≡◌}
use Rattle.transfer_mem.specs.edge_actions.declared.views.EdgeView.{EdgeView}
use Rattle.mutex_configs.specs.declared.nodes.EdgeCopy.{EdgeCopy}
use Rattle.task_equations.specs.Bodies.{edge_of, node_at, live_at}
use Rattle.task_equations.specs.Equations.{tests_pointer}
use Rattle.body_systems.specs.Systems.{SystemOf, body_of}

-- the edge of the copy, the task at the node that it leaves, and what is live where the edge leads
pub record IsViewOf (v : SystemOf) (c : EdgeCopy) (view : EdgeView) : Type 0 where
  pub operation : (let e = edge_of (body_of v) c in view.operation ≡ e.op)
  pub task : view.task ≡ v.task
  pub held : (let q = node_at (body_of v) c.from in view.held ≡ q.held)
  pub found : (let q = node_at (body_of v) c.from in view.found ≡ q.found)
  pub tests : (let b = body_of v in let e = edge_of b c in view.tests_pointer ≡ tests_pointer b.pointers e.op)
  pub answer : view.answer ≡ c.answer
  pub laid : view.laid.now ≡ v.laid
  pub priorities : view.priorities.now ≡ v.priorities
  pub live : (let e = edge_of (body_of v) c in view.live.now ≡ live_at (body_of v) e.to)
