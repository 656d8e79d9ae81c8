-- Edges as the code places them, one behind the other.
use Rattle.std.specs.Prelude.{◌++◌}
use Rattle.flow_graph.specs.Graphs.{Edges}
use Rattle.body_builder.specs.lowering.Built.{Building}

-- edges behind the others
abbrev pub with_edges : Edges → Building → Building
with_edges es b = record { edges = b.edges ++ es; node = b.node; nodes = b.nodes; temps = b.temps }
