-- The extents of the temporaries of a body lie within their sorts, and its operations are closed; so what fits a node
-- is of the types of its temporaries.
use Rattle.std.specs.Prelude.{◌≡◌, ℕ, zero, suc, ◌<◌, List, [], ◌∷◌, length, get_or, Option, Some, None, IfSome, refl}
use Rattle.std.proofs.Common.{inl, inr, arith}
use Rattle.std.proofs.lemmas.List.Elements.{All-from_get_or}
use Rattle.std.specs.FinMap.{get}
use Rattle.mutex_configs.specs.flow_graph.declared.graphs.Edge.{Edge}
use Rattle.mutex_configs.specs.flow_graph.declared.operations.Operation.{Operation}
use Rattle.mutex_configs.specs.flow_graph.Operations.{given}
use Rattle.mutex_configs.specs.flow_graph.Graphs.{Edges, Among}
use Rattle.state_fits.specs.transfer_rows.StateForms.{Temp, State}
use Rattle.state_fits.specs.temporary_types.Sorts.{Sort, FitsSorts, AreSorts, types_of}
use Rattle.state_fits.specs.temporary_extents.Extents.{extents_in}
use Rattle.state_fits.proofs.low.temporary_extents.Typed.{typed}
use Rattle.state_fits.proofs.low.temporary_extents.Closed.{closed}
use Rattle.state_fits.specs.Fits.{FitsTemp, FitsPlace}
use Rattle.state_fits.specs.Kinds.{OfTypes, InExtents, AreInSorts, GivesWithin, IsClosedAt}
use Rattle.task_equations.specs.Bodies.{Body, no_edge, node_at, live_at}
use Rattle.task_equations.specs.Premises.{IsBody, FitsBody}

among_at : (graph : Edges) (k : ℕ) (d : Edge) → k < length graph → Among (get_or graph k d) graph
among_at [] k d lt = absurd (omega (arith, lt))
among_at (e ∷ graph) zero d lt = inl refl
among_at (e ∷ graph) (suc k) d lt = inr (among_at graph k d (omega (arith, lt)))

module _ (b : Body) (sorts : List Sort) (is : IsBody b sorts) where
  all_fit : AreSorts b.laid sorts b.edges
  all_fit = All-from_get_or (λ (e : Edge). FitsSorts b.laid sorts e.op) b.edges no_edge is.operations

  -- what lies within extents is of the types of temporaries
  pub in_sorts : AreInSorts b.laid sorts (extents_in b.edges)
  in_sorts = typed b.laid sorts b.edges all_fit

  closed_by : (op : Operation) (o : Option ℕ)
      → ((t : ℕ) → o ≡ Some t → GivesWithin b.laid (extents_in b.edges) op (Some t))
      → GivesWithin b.laid (extents_in b.edges) op o
  closed_by op None h = tt
  closed_by op (Some t) h = h t refl

  -- what each operation gives lies within the extent of the temporary that it gives
  pub are_closed : (k : ℕ) → k < length b.edges
      → (let e = get_or b.edges k no_edge in IsClosedAt b.laid (extents_in b.edges) e.op)
  are_closed k lt =
      let e = get_or b.edges k no_edge in
      closed_by e.op (given e.op)
      (λ t q. closed b.laid sorts b.edges all_fit is.settled e (among_at b.edges k no_edge lt) t q)

  pub temp_typed : (live : List ℕ) (t : ℕ) (a : Option Temp) → FitsTemp (InExtents b.laid (extents_in b.edges)) live t a
      → FitsTemp (OfTypes b.laid (types_of sorts)) live t a
  temp_typed live t None h = h
  temp_typed live t (Some e) h = (h.0, in_sorts t e.value h.1)

  pub place_typed : (live : List ℕ) (s : State)
      → FitsPlace b.laid b.task (InExtents b.laid (extents_in b.edges)) live s
      → FitsPlace b.laid b.task (OfTypes b.laid (types_of sorts)) live s
  place_typed live s h = record {
    form = h.form;
    temps = λ t. temp_typed live t (get s.temps t) (h.temps t);
    copies = h.copies;
    cells = h.cells;
  }

  -- the state fits a node, where temporaries have values of the types of their sorts
  pub node_typed : (n : ℕ) (s : State) → FitsBody b n s
      → (let q = node_at b n in FitsPlace b.laid b.task (OfTypes b.laid (types_of sorts)) (live_at b q.place) s)
  node_typed n s h = let q = node_at b n in place_typed (live_at b q.place) s h
