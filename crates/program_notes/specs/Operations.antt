-- The operations of alarms.
use Rattle.std.specs.Prelude.{get_or, slice_get, Option, Some, None}
use Rattle.flow_graph.specs.declared.operations.Operation.{Operation}
use Rattle.flow_graph.specs.declared.operations.Operation.TheVariants as Op
use Rattle.post_recheck.specs.program_equations.Programs.{ProgramBodies, body_at}
use Rattle.post_recheck.specs.task_equations.Bodies.{no_edge}
use Rattle.alarm_contexts.specs.declared.alarm_context.ContextEdge.{ContextEdge}
use Rattle.alarm_contexts.specs.declared.alarm_context.AlarmContexts.{AlarmContexts}

-- the operation of an edge of a body
abbrev pub operation_along : ProgramBodies → Option ContextEdge → Operation
operation_along p None = Op.Skip
operation_along p (Some e) = (let edge = get_or (body_at p e.body).edges e.edge no_edge in edge.op)

-- The operation of an alarm: that of the first of its edges. All of them stand at one place, which is of one operation
-- of the source.
abbrev pub operation_of : ProgramBodies → AlarmContexts → Operation
operation_of p a = operation_along p (slice_get a.edges.items 0)
