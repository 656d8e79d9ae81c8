-- The operands of a copy of an edge, and what is wrong with the pointers among them.
use Rattle.std.specs.Prelude.{◌≡◌, ℕ, ◌<◌, List, [], length, map, get_or, Option, Some, None}
use Rattle.flow_graph.specs.Operations.{used}
use Rattle.interfere_set.specs.pointer_dom.Values.{Values, joined_values, no_value}
use Rattle.program_reports.specs.post_recheck.transfer_rows.StateForms.{State, value_of}
use Rattle.program_reports.specs.post_recheck.table_covers.Solutions.{NodeTable}
use Rattle.program_reports.specs.post_recheck.task_equations.Bodies.{Body, copy_at}
use Rattle.program_reports.specs.post_recheck.program_equations.Programs.{ProgramBodies, body_at}
use Rattle.program_reports.specs.reading.Found.{operation_at}
use Rattle.alarm_contexts.specs.declared.exits.Context.{Context}
use Rattle.alarm_contexts.specs.declared.flaws.ObjectFlaw.{ObjectFlaw}
use Rattle.alarm_contexts.specs.Flaws.{HasFlaw}

-- the values of temporaries; none where there is no state
abbrev pub values_in : Option State → List ℕ → List Values
values_in None temps = []
values_in (Some s) temps = map (value_of s) temps

-- of those that the operation of a copy uses, at the node that it leaves
abbrev pub operands_at : Body → NodeTable State → ℕ → List Values
operands_at b table k = (let c = copy_at b k in values_in (table c.from) (used (operation_at b k)))

module _ (p : ProgramBodies) (tables : ℕ → NodeTable State) where
  abbrev pub operands_of : Context → List Values
  operands_of x = operands_at (body_at p x.exit.body) (tables x.exit.body) x.exit.copy

  abbrev pub IsFlawed : Context → ObjectFlaw → Type 0
  IsFlawed x f = HasFlaw p.laid (operation_at (body_at p x.exit.body) x.exit.copy) (operands_of x) f

-- operands joined, where there is none as nothing
pub record AreJoined (one other : List Values) (n : ℕ) (both : List Values) : Type 0 where
  pub count : length both ≡ n
  pub each : (role : ℕ) → role < n
      → get_or both role no_value ≡ joined_values (get_or one role no_value) (get_or other role no_value)
