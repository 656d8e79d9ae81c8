-- What a body keeps of which the equations are solved.
use Rattle.std.specs.Prelude.{◌≡◌, ℕ, ◌<◌, true, List, length, get_or, Option, Some, None}
use Rattle.mutex_configs.specs.flow_graph.Operations.{given}
use Rattle.mutex_configs.specs.declared.nodes.EdgeCopy.{EdgeCopy}
use Rattle.state_fits.specs.cell_env.Cells.{IsWithin}
use Rattle.state_fits.specs.transfer_rows.StateForms.{State}
use Rattle.state_fits.specs.transfer_rows.Accesses.{is_among}
use Rattle.state_fits.specs.typed_values.Types.{HaveEnds}
use Rattle.state_fits.specs.temporary_types.Sorts.{Sort, FitsSorts}
use Rattle.state_fits.specs.temporary_types.Settled.{AreSettled}
use Rattle.state_fits.specs.temporary_extents.Extents.{extents_in}
use Rattle.state_fits.specs.Typed.{SpotsAgree, NamesObjects}
use Rattle.state_fits.specs.Kinds.{InExtents}
use Rattle.state_fits.specs.Fits.{file_set, SpotsSeen, FitsPlace}
use Rattle.task_equations.specs.Bodies.{Body, no_edge, edge_of, node_at, copy_at, live_at}
use Rattle.task_equations.specs.Equations.{cells_at}

-- a copy is of an edge, from a node at the place that the edge leaves, and to one at the place to which it leads
pub record IsCopyOf (b : Body) (c : EdgeCopy) : Type 0 where
  pub edge : c.edge < length b.edges
  pub from : c.from < length b.nodes
  pub leaves : (let q = node_at b c.from in let e = edge_of b c in q.place ≡ e.from)
  pub to : (n : ℕ) → c.to ≡ Some n → n < length b.nodes
  pub leads : (n : ℕ) → c.to ≡ Some n → (let q = node_at b n in let e = edge_of b c in q.place ≡ e.to)

-- The body is configured, and rounded at heads alone, of which the entry is none; it holds mutexes of the file;
-- accesses reach cells of their types that it sees; its operations fit the sorts of temporaries, and no edge gives a
-- temporary anew that was copied; and what is live at a place is so before each edge to it that does not give it.
pub record IsBody (b : Body) (sorts : List Sort) : Type 0 where
  pub some : 0 < length b.nodes
  pub copies : (k : ℕ) → k < length b.copies → IsCopyOf b (copy_at b k)
  pub held : (n : ℕ) → n < length b.nodes → (let q = node_at b n in IsWithin q.held (file_set b.laid))
  pub entry : cells_at b 0 ≡ None
  pub marks : HaveEnds b.marks
  pub spots : SpotsAgree b.laid b.task
  pub seen : SpotsSeen b.laid b.task
  pub operations : (k : ℕ) → k < length b.edges → (let e = get_or b.edges k no_edge in FitsSorts b.laid sorts e.op)
  pub objects : (k : ℕ) → k < length b.edges → (let e = get_or b.edges k no_edge in NamesObjects b.laid e.op)
  pub settled : AreSettled b.edges
  pub flow : (k : ℕ) → k < length b.edges → (t : ℕ)
      → (let e = get_or b.edges k no_edge in is_among (live_at b e.to) t ≡ true)
      → (let e = get_or b.edges k no_edge in given e.op ≡ Some t → ⊥)
      → (let e = get_or b.edges k no_edge in is_among (live_at b e.from) t ≡ true)

-- The state fits a node of the body: each temporary that is live at its place has a value within its extent, no other
-- has any, and copies are of cells that the body sees; each cell that it sees, static or its own, has a value of its
-- type, and no other has any.
abbrev pub FitsBody : Body → ℕ → State → Type 0
FitsBody b n s =
    let q = node_at b n in FitsPlace b.laid b.task (InExtents b.laid (extents_in b.edges)) (live_at b q.place) s
