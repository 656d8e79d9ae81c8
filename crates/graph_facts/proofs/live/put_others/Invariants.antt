use Rattle.std.proofs.Common.{take}
use Rattle.graph_facts.specs.reading.Live.{HasPut, IsBehind}
use Rattle.graph_facts.proofs.live.put_others.Given as goal

abbrev pub invariant-loop-temporary : goal.invariant-loop-temporary
invariant-loop-temporary l = HasPut (IsBehind l.operation (take l.temporary-index l.temporaries)) l.initial.list.items l.list.items
