-- Memories of runs, as the code holds them.
use Rattle.std.specs.Prelude.{List, get_or}
use Rattle.concrete_values.specs.declared.values.Value.{Value}
use Rattle.concrete_values.specs.Values.{nothing}
use Rattle.flow_graph.specs.Operations.{Temps}
use Rattle.flow_graph.specs.Runs.{Memory}
use Rattle.graph_positions.specs.declared.positions.Position.{Position}

-- temporaries by their numbers; those behind the last hold nothing
abbrev pub temps_of : List Value → Temps
temps_of values = λ t. get_or values t nothing

-- and nodes were seen by no answer behind the last
abbrev pub memory_of : Position → Memory
memory_of p = record { temps = temps_of p.temporaries.items; used = p.used; seen = λ n. get_or p.seen.items n 0 }
