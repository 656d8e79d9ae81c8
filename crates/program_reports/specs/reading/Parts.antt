-- What is read of a body.
use Rattle.std.specs.Prelude.{◌≡◌, ℕ, ◌<◌, List, length, get_or, Option, None, IfSome}
use Rattle.post_recheck.specs.transfer_rows.StateForms.{State}
use Rattle.post_recheck.specs.task_equations.Bodies.{Body, copy_at}
use Rattle.post_recheck.specs.task_equations.Premises.{IsCopyOf}
use Rattle.post_recheck.specs.program_equations.Systems.{FitsBody}
use Rattle.program_reports.specs.declared.copies.BodyParts.{BodyParts}

-- the edges, nodes, copies, number and priority of the body
pub record ArePartsOf (b : Body) (parts : BodyParts) : Type 0 where
  pub edges : parts.edges.now ≡ b.edges
  pub nodes : parts.nodes.now ≡ b.nodes
  pub copies : parts.copies.now ≡ b.copies
  pub number : parts.number ≡ b.task
  pub priority : parts.priority ≡ get_or b.priorities b.task 0
  pub each : (k : ℕ) → k < length b.copies → IsCopyOf b (copy_at b k)

-- the table has a state or none for each node, which fits there
pub record FitsTable (b : Body) (table : List (Option State)) : Type 0 where
  pub count : length table ≡ length b.nodes
  pub fits : (n : ℕ) → n < length table → IfSome (get_or table n None) (FitsBody b n)
