-- Which edges look into the store of interferences, and which add to it.
use Rattle.std.specs.Prelude.{◌≡◌, Bool, true, false, List, map, get_or}
use Rattle.flow_graph.specs.declared.operations.Operation.{Operation}
use Rattle.flow_graph.specs.declared.operations.Operation.TheVariants as Op
use Rattle.flow_graph.specs.Graphs.{Edges}
use Rattle.mutex_configs.specs.declared.nodes.EdgeCopy.{EdgeCopy}
use Rattle.program_equality.specs.task_equations.Bodies.{Body, no_edge}

-- what the operation brings depends on the store: a load sees what others wrote, and a lock, or a probe that finds a
-- mutex free, takes over what they left under it
unfoldable pub reads_store : Operation → Bool
reads_store (Op.Load to address scalar place) = true
reads_store (Op.Lock mutex place) = true
reads_store (Op.Probe to mutex place) = true
reads_store op = false

-- the operation adds to the store: a store adds to weak entries, an unlock to sync entries
unfoldable pub adds_to_store : Operation → Bool
adds_to_store (Op.Store address value scalar into place) = true
adds_to_store (Op.Unlock mutex place) = true
adds_to_store op = false

-- so it is of a copy of an edge
abbrev pub reads_along : Edges → EdgeCopy → Bool
reads_along edges c = let e = get_or edges c.edge no_edge in reads_store e.op

abbrev pub adds_along : Edges → EdgeCopy → Bool
adds_along edges c = let e = get_or edges c.edge no_edge in adds_to_store e.op

-- of each copy of a body's edges whether it looks into the store, and whether it adds to it
pub record AreUses (b : Body) (reads adds : List Bool) : Type 0 where
  pub readers : reads ≡ map (reads_along b.edges) b.copies
  pub adders : adds ≡ map (adds_along b.edges) b.copies
