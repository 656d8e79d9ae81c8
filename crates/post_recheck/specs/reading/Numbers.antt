-- The numbers of edges that are not covered.
use Rattle.std.specs.Prelude.{ℕ, suc, ◌<◌, List, length, get_or}
use Rattle.flow_graph.specs.Graphs.{Edges}
use Rattle.mutex_configs.specs.declared.nodes.EdgeCopy.{EdgeCopy}
use Rattle.table_covers.specs.declared.covers.Uncovered.{Uncovered}
use Rattle.table_covers.specs.declared.covers.Uncovered.TheVariants.{Entry as the_entry}
use Rattle.table_covers.specs.declared.covers.Uncovered.TheVariants.{Edge as the_edge}
use Rattle.shared_programs.specs.task_equations.Bodies.{no_copy}

-- counted from 1, and 0 stands for the entry
abbrev pub number_in : List EdgeCopy → Uncovered → ℕ
number_in copies the_entry = 0
number_in copies (the_edge k) = let c = get_or copies k no_copy in suc c.edge

-- there is such a copy, and its edge
abbrev pub IsNumberedIn : Edges → List EdgeCopy → Uncovered → Type 0
IsNumberedIn graph copies the_entry = Unit {0}
IsNumberedIn graph copies (the_edge k) =
    (k < length copies) × (let c = get_or copies k no_copy in c.edge < length graph)
