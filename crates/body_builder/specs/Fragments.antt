-- Fragments of graphs, in which the bodies of calls are left out.
use Rattle.std.specs.Prelude.{◌≡◌, ℕ, List, [], ◌∷◌, ◌++◌, Option, Some, slice_get}
use Rattle.tm_laid.specs.declared.layouts.Laid.{Laid}
use Rattle.tm_laid.specs.Layouts.{LaidTree, laid_tree}
use Rattle.flow_graph.specs.Graphs.{Edges}
use Rattle.lowering.specs.Built.{Building, AfterPart, Forked, Sites, function_end, sites_of, path_piece}
use Rattle.body_builder.specs.declared.fragments.Call.{Call}
use Rattle.body_builder.specs.declared.fragments.Item.{Item}
use Rattle.body_builder.specs.declared.fragments.Item.TheVariants as Items
use Rattle.body_builder.specs.declared.fragments.Fragment.{Fragment}
use Rattle.body_builder.specs.declared.fragments.Size.{Size}

-- a program as plain data
unfoldable pub tree_in : Laid → LaidTree
tree_in laid = laid_tree laid

-- nothing is built, where so many nodes and temporaries stand before
abbrev pub starting : ℕ → ℕ → ℕ → Building
starting node nodes temps = record { edges = []; node = node; nodes = nodes; temps = temps }

-- the edges of the body that stands in the place of a call
unfoldable pub called_edges : LaidTree → Call → Edges
called_edges laid c = (path_piece function_end laid c.depth c.path (starting c.node c.nodes c.temps)).at.edges

-- the edges for which items stand
abbrev pub edges_of : LaidTree → List Item → Edges
edges_of laid [] = []
edges_of laid (Items.Edge e ∷ is) = e ∷ edges_of laid is
edges_of laid (Items.Call c ∷ is) = called_edges laid c ++ edges_of laid is

-- what a fragment stands for
unfoldable pub so_far : LaidTree → Fragment → Building
so_far laid f = record { edges = edges_of laid f.items.items; node = f.node; nodes = f.nodes; temps = f.temps }

-- a call stands behind the other items, and its body has these sizes
unfoldable pub with_call : LaidTree → Call → ℕ → ℕ → ℕ → Building → Building
with_call laid c node nodes temps b = record {
  edges = b.edges ++ called_edges laid c;
  node = node;
  nodes = nodes;
  temps = temps;
}

-- a part is built, and this is the temporary of its value
abbrev pub IsPart : AfterPart → Building → Option ℕ → Type 0
IsPart x b t = (b ≡ x.at) × (t ≡ x.temp)

-- a fork is built, and this is the node of its other way
abbrev pub IsForked : Forked → Building → ℕ → Type 0
IsForked o b other = (b ≡ o.at) × (other ≡ o.other)

-- how many nodes and temporaries the body of a call path makes, where nothing stands before, and the temporary of its
-- value
abbrev pub IsSize : LaidTree → ℕ → Size → Type 0
IsSize laid path s =
    ((path_piece function_end laid s.depth path (starting 0 0 0)).at.nodes ≡ s.nodes)
    × ((path_piece function_end laid s.depth path (starting 0 0 0)).at.temps ≡ s.temps)
    × ((path_piece function_end laid s.depth path (starting 0 0 0)).temp ≡ s.result)

-- so far as they are known, these are the sizes of call paths
abbrev pub AreSizes : LaidTree → List (Option Size) → Type 0
AreSizes laid sizes = (path : ℕ) (s : Size) → slice_get sizes path ≡ Some (Some s) → IsSize laid path s

-- the bodies of the calls on a path, below which chains of calls are at most so long
unfoldable pub calls_on : LaidTree → ℕ → ℕ → Sites
calls_on laid depth path = sites_of laid (path_piece function_end laid depth) path
