use Rattle.std.proofs.Common.{◌<◌, length, map, vec_items, arith}
use Rattle.concrete_steps.specs.Worlds.{next_at}
use Rattle.concrete_worlds.proofs.Running.{next_is}
use Rattle.concrete_worlds.proofs.worlds.World.next_of.Goals as goal

pub returns-then-task-len : goal.returns-then-task-len
unfolding next_at
returns-then-task-len c =
    let w = c.args.self.now in
    let lt : c.args.task < length w.runs.items = (let h = c.if-task-len.true in let e = c.len.ensures in let d = w.runs.ok.0 in omega (arith, h, e, d)) in
    next_is w.laid.now w.graphs.now (map vec_items w.answers.items) w.runs.items c.requires c.args.task c.index.result.now lt c.index.ensures
