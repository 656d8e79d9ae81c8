use Rattle.std.proofs.Common.{arith}
use Rattle.concrete_worlds.proofs.Lists.{same_one, room_here, room_nowhere, on_ok}
use Rattle.concrete_worlds.proofs.worlds.reserve_at.Goals as goal

pub returns-in-Some-clause-same : goal.returns-in-Some-clause-same
returns-in-Some-clause-same c = same_one c.args.lists.now.items c.args.task c.in-Some.list.now c.reserve_one.new.list c.in-Some.ensures.value c.reserve_one.ensures.same

pub returns-in-Some-clause-room : goal.returns-in-Some-clause-room
returns-in-Some-clause-room c = on_ok c.reserve_one.result (λ h. room_here c.args.lists.now.items c.args.task c.reserve_one.new.list h) c.reserve_one.ensures.room

pub returns-in-None-clause-room : goal.returns-in-None-clause-room
returns-in-None-clause-room c =
    room_nowhere c.args.lists.now.items c.args.task
    (λ lt. let d = c.args.lists.now.ok.0 in let clash = c.in-None.ensures.variant.1 (omega (arith, lt, d)) in absurd cc)
