use Rattle.std.proofs.Common.{◌<◌, [], length, arith, subst}
use Rattle.tm_laid.specs.Layouts.{laid_tree}
use Rattle.flow_graph.specs.declared.graphs.Graph.{Graph}
use Rattle.graph_positions.specs.RunsAfter.{IsRunAfter}
use Rattle.concrete_worlds.proofs.Running.{started_more}
use Rattle.concrete_worlds.proofs.task_runs.start_runs.Goals as goal

pub loop-task-preserved : goal.loop-task-preserved
loop-task-preserved c =
    let within : c.loop-task.task < length c.args.graphs.now =
    (let t = c.loop-task-test.true in let e = c.count_of_tasks-task-end.ensures in let m = c.requires.graphs.count in omega (arith, t, e, m)) in
    started_more (laid_tree c.args.laid.now) c.args.graphs.now c.loop-task.task c.loop-task.runs.items c.push.new.self.items c.in_ok-start.field-0 c.index-graphs-task.result within
    c.in_ok-push.ensures.items
    (subst (λ (g : Graph). IsRunAfter (laid_tree c.args.laid.now) g.edges.items g.nodes [] c.in_ok-start.field-0) c.index-graphs-task.is c.in_ok-start.ensures)
    c.loop-task.invariant
