-- The bodies of a file that is typed and laid out keep what the equations ask of each.
use Rattle.std.specs.Prelude.{◌≡◌, ◌≢◌, ℕ, zero, suc, ◌<◌, ◌≤◌, ◌⊎◌, ℤ, List, [], ◌∷◌, length, get_or, All, Contains}
use Rattle.std.specs.Prelude.{Ok}
use Rattle.std.specs.Prelude.{refl}
use Rattle.std.proofs.Common.{sym, ap, subst, ◌∙◌, inl, inr, arith}
use Rattle.std.proofs.lemmas.Bool.{cases_lt}
use Rattle.std.proofs.lemmas.Int.{ints}
use Rattle.thresholds.specs.strided_dom.Progression.{IsInReach}
use Rattle.thresholds.proofs.low.tm_cint.Wide.{wide}
use Rattle.layout_laws.specs.tm_typed.declared.types.Scalar.{Scalar}
use Rattle.layout_laws.specs.tm_laid.declared.scales.Scale.{Scale}
use Rattle.layout_laws.specs.tm_laid.Layouts.{LaidTree}
use Rattle.graph_builder.specs.flow_graph.declared.graphs.Edge.{Edge}
use Rattle.graph_builder.specs.flow_graph.declared.graphs.Graph.{Graph}
use Rattle.graph_builder.specs.flow_graph.declared.operations.Test.{Test}
use Rattle.graph_builder.specs.flow_graph.declared.operations.Test.TheVariants as Tests
use Rattle.graph_builder.specs.flow_graph.declared.operations.Operation.{Operation}
use Rattle.graph_builder.specs.flow_graph.declared.operations.Operation.TheVariants as Op
use Rattle.graph_builder.specs.flow_graph.Graphs.{Edges, IsLive}
use Rattle.graph_builder.specs.concrete_values.declared.values.Pointer.{Pointer}
use Rattle.graph_builder.specs.concrete_values.declared.values.Pointer.TheVariants as Pointers
use Rattle.graph_builder.specs.concrete_values.declared.values.Value.{Value}
use Rattle.graph_builder.specs.concrete_values.declared.values.Value.TheVariants as Constant
use Rattle.operation_laws.specs.graph_facts.Live.{AreLive}
use Rattle.graph_builder.specs.lowering.Built.{graph_of}
use Rattle.graph_builder.specs.Lowered.{IsGraphOf, AreGraphs}
use Rattle.operation_laws.specs.mutex_configs.declared.nodes.ConfiguredNode.{ConfiguredNode}
use Rattle.operation_laws.specs.mutex_configs.declared.nodes.ConfiguredGraph.{ConfiguredGraph}
use Rattle.operation_laws.specs.mutex_configs.Nodes.{AreNodes, IsConfigured}
use Rattle.operation_laws.specs.mutex_configs.Programs.{AreConfigured, IsAnswer}
use Rattle.program_systems.specs.transfer_rows.Actions.{Spot}
use Rattle.program_systems.specs.transfer_rows.Meanings.{IsSpotOf}
use Rattle.program_systems.specs.edge_actions.Layouts.{spots_of}
use Rattle.program_systems.specs.edge_filters.Tests.{IsTestable}
use Rattle.program_systems.specs.typed_values.Types.{HaveEnds}
use Rattle.operation_laws.specs.temporary_types.Sorts.{Sort, FitsSorts, AreSorts}
use Rattle.program_systems.specs.state_fits.Fits.{SpotsSeen}
use Rattle.program_systems.specs.state_fits.Typed.{PointsToObject, NamesObject, NamesObjects, SpotsAgree}
use Rattle.operation_laws.specs.typed_file_laws.Lawful.{IsNumber}
use Rattle.operation_laws.specs.lowering_laws.LaidFiles.{IsLaidFile}
use Rattle.operation_laws.specs.lowering_laws.Operations.{PointsNowhere, IsPlainValue, HasPlainConstant, IsPlainTest}
use Rattle.operation_laws.specs.lowering_laws.Operations.{HasPlainTest}
use Rattle.operation_laws.proofs.low.lowering_laws.Ranges.{leads_on}
use Rattle.operation_laws.proofs.low.lowering_laws.GraphLaws.{none_live}
use Rattle.operation_laws.proofs.low.lowering_laws.Configured.{configurable}
use Rattle.operation_laws.proofs.low.lowering_laws.TableGraphs.{constants_of_file, tests_of_file}
use Rattle.operation_laws.specs.temporary_types.Settled.{AreSettled}
use Rattle.operation_laws.proofs.FileSorts.{file_sorts}
use Rattle.program_systems.specs.task_equations.Bodies.{Body, no_edge, node_at, live_at}
use Rattle.program_systems.specs.task_equations.Premises.{IsBody}
use Rattle.program_systems.specs.task_equations.Configured.{NeverReturns, IsTypedBody}
use Rattle.program_systems.proofs.low.task_equations.PlacesOfBodies.{entry_first}
use Rattle.program_systems.proofs.low.task_equations.ConfiguredBodies.{configured_body}
use Rattle.program_systems.specs.program_equations.Readings.{read_layout}
use Rattle.program_systems.specs.program_equations.Programs.{ProgramBodies, body_at, IsBodyIn, IsNumbered, IsProgramOf}
use Rattle.program_systems.specs.program_equations.Programs.{IsTested}
use Rattle.program_systems.specs.program_equations.Programs.{IsBodyAt}
use Rattle.program_systems.specs.program_equations.laws.ReadAlike.{spots_read, sorts_read, agree_read, seen_read}
use Rattle.program_laws.proofs.LaidCells.{cells_agree, cells_seen}

-- ## Operations

module _ (laid : LaidTree) where
  pointer_names : (p : Pointer) → PointsNowhere p → PointsToObject laid p
  pointer_names Pointers.Null h = tt
  pointer_names Pointers.Invalid h = tt
  pointer_names (Pointers.To object offset) h = absurd h

  value_names : (v : Value) → IsPlainValue v → NamesObject laid v
  value_names (Constant.Number n) h = tt
  value_names (Constant.Pointer p) h = pointer_names p h

  -- a constant leads to no object that there is not
  names : (op : Operation) → HasPlainConstant op → NamesObjects laid op
  names Op.Skip h = tt
  names (Op.Const to value) h = value_names value h
  names (Op.Copy to from) h = tt
  names (Op.Un to operator of from place) h = tt
  names (Op.Bin to operator of left right place) h = tt
  names (Op.BinPointers to equal left right) h = tt
  names (Op.Convert to was of from) h = tt
  names (Op.Base to object) h = tt
  names (Op.Offset to from cells) h = tt
  names (Op.Index to from count cells by place) h = tt
  names (Op.Move to from cells minus by place) h = tt
  names (Op.Deref to from target path place) h = tt
  names (Op.Load to address scalar place) h = tt
  names (Op.LoadAny to address scalar place) h = tt
  names (Op.Store address value scalar into place) h = tt
  names (Op.Any to low high) h = tt
  names (Op.Clear object) h = tt
  names (Op.Usable pointer place) h = tt
  names (Op.Assume test) h = tt
  names (Op.Lock mutex place) h = tt
  names (Op.Unlock mutex place) h = tt
  names Op.Yield h = tt
  names (Op.Probe to mutex place) h = tt

-- a number of an integer type is in the reach of strided sets
reached : (z : ℤ) → IsNumber z → IsInReach z
reached z h =
    let w = wide h.type z h.within in
    let low = w.at_least in
    let high = w.at_most in
    record { low = omega (arith, ints, low); high = omega (arith, ints, high) }

testable : (test : Test) → IsPlainTest test → IsTestable test
testable (Tests.Numbers operator of left right) h = h
testable (Tests.Pointers equal left right) h = tt
testable (Tests.Truth holds value) h = tt
testable (Tests.Case holds label value) h = reached label h

tested : (op : Operation) → HasPlainTest op → IsTested op
tested Op.Skip h = tt
tested (Op.Const to value) h = tt
tested (Op.Copy to from) h = tt
tested (Op.Un to operator of from place) h = tt
tested (Op.Bin to operator of left right place) h = tt
tested (Op.BinPointers to equal left right) h = tt
tested (Op.Convert to was of from) h = tt
tested (Op.Base to object) h = tt
tested (Op.Offset to from cells) h = tt
tested (Op.Index to from count cells by place) h = tt
tested (Op.Move to from cells minus by place) h = tt
tested (Op.Deref to from target path place) h = tt
tested (Op.Load to address scalar place) h = tt
tested (Op.LoadAny to address scalar place) h = tt
tested (Op.Store address value scalar into place) h = tt
tested (Op.Any to low high) h = tt
tested (Op.Clear object) h = tt
tested (Op.Usable pointer place) h = tt
tested (Op.Assume test) h = testable test h
tested (Op.Lock mutex place) h = tt
tested (Op.Unlock mutex place) h = tt
tested Op.Yield h = tt
tested (Op.Probe to mutex place) h = tt

-- ## Lists

none_there : (xs : List ℕ) → ((t : ℕ) → Contains xs t → ⊥) → xs ≡ []
none_there [] h = refl
none_there (x ∷ xs) h = absurd (h x (0, (let z : 0 < suc (length xs) = omega (arith) in z), refl))

pub configured_at : (scale : Scale) (gs : List Graph) (cs : List ConfiguredGraph) → AreConfigured scale gs cs
    → (t : ℕ) → t < length gs → (g : Graph) (c : ConfiguredGraph)
    → IsConfigured (let x : Graph = get_or gs t g in x.edges.items) (get_or cs t c)
configured_at scale [] cs h t lt g c = absurd (omega (arith, lt))
configured_at scale (x ∷ gs) [] h t lt g c = absurd h
configured_at scale (x ∷ gs) (y ∷ cs) h zero lt g c = h.0
configured_at scale (x ∷ gs) (y ∷ cs) h (suc t) lt g c = configured_at scale gs cs h.2 t (omega (arith, lt)) g c

as_many : (scale : Scale) (gs : List Graph) (cs : List ConfiguredGraph) → AreConfigured scale gs cs
    → length gs ≡ length cs
as_many scale [] [] h = refl
as_many scale [] (y ∷ cs) h = absurd h
as_many scale (x ∷ gs) [] h = absurd h
as_many scale (x ∷ gs) (y ∷ cs) h = ap suc (as_many scale gs cs h.2)

-- an element of a list that has one with this number
element : {A : Type 0} (xs : List A) (t : ℕ) → t < length xs → A
element [] t lt = absurd (omega (arith, lt))
element (x ∷ xs) t lt = x

-- ## Sorts

module _ (laid : LaidTree) (is : IsLaidFile laid) where
  sorts_by : (t : ℕ) → (t < length laid.bodies) ⊎ (length laid.bodies ≤ t) → List Sort
  sorts_by t (inl lt) = let h = file_sorts laid is t lt in let own = h.0 in own.sorts
  sorts_by t (inr ge) = []

  -- the sorts of the temporaries of a body; none where there is no body
  pub sorts_at : ℕ → List Sort
  sorts_at t = sorts_by t (cases_lt t (length laid.bodies))

  fit_by : (t : ℕ) (c : (t < length laid.bodies) ⊎ (length laid.bodies ≤ t)) → t < length laid.bodies
      → AreSorts laid (sorts_by t c) (graph_of laid t)
  unfolding sorts_by
  fit_by t (inl lt) there = let h = file_sorts laid is t lt in let own = h.0 in own.fit
  fit_by t (inr ge) there = absurd (omega (arith, ge, there))

  sorts_fit : (t : ℕ) → t < length laid.bodies → AreSorts laid (sorts_at t) (graph_of laid t)
  unfolding sorts_at
  sorts_fit t lt = fit_by t (cases_lt t (length laid.bodies)) lt

  -- ## Bodies

  module _ (graphs : List Graph) (configured : List ConfiguredGraph) (marks : List ℤ) (scale : Scale)
      (are : AreGraphs scale laid graphs) (answer : IsAnswer scale laid graphs (Ok configured)) (ends : HaveEnds marks)
      (p : ProgramBodies) (of : IsProgramOf laid graphs configured marks p) (t : ℕ) (lt : t < length p.bodies) where
    abbrev b : Body
    b = body_at p t

    in_graphs : t < length graphs
    in_graphs = let count = of.count in omega (arith, lt, count)

    in_bodies : t < length laid.bodies
    in_bodies = let count = are.count in let own = in_graphs in omega (arith, count, own)

    in_configured : t < length configured
    in_configured =
        let many = as_many scale graphs configured answer.0 in
        let own = in_graphs in
        omega (arith, many, own)

    abbrev graph : Graph
    graph = get_or graphs t (element graphs t in_graphs)

    abbrev nodes : ConfiguredGraph
    nodes = get_or configured t (element configured t in_configured)

    graph_is : IsGraphOf laid t graph
    graph_is = are.each t (element graphs t in_graphs) in_graphs

    nodes_are : IsConfigured graph.edges.items nodes
    nodes_are = configured_at scale graphs configured answer.0 t in_graphs (element graphs t in_graphs)
        (element configured t in_configured)

    body_in : IsBodyIn laid graph nodes b
    body_in = of.bodies t (element graphs t in_graphs) (element configured t in_configured) lt

    numbered : IsNumbered p t b
    numbered = of.numbered t lt

    laid_is : b.laid ≡ read_layout laid
    laid_is = (let n = numbered in n.laid) ∙ of.laid

    edges_are : b.edges ≡ graph_of laid t
    edges_are = (let i = body_in in i.edges) ∙ (let g = graph_is in g.edges)

    -- what is said of all operations of the graph is said of those of the body
    of_edges : (P : Operation → Type 0) → All (λ (e : Edge). P e.op) (graph_of laid t) → (k : ℕ) → k < length b.edges
        → P (get_or b.edges k no_edge).op
    of_edges P h k = subst (λ (es : Edges). k < length es → P (get_or es k no_edge).op) (sym edges_are) (h k no_edge)

    typed : IsTypedBody b (sorts_at t)
    typed = record {
      marks = subst HaveEnds (sym ((let n = numbered in n.marks) ∙ of.marks)) ends;
      spots =
          subst (λ l. SpotsAgree l b.task) (sym laid_is)
          (agree_read laid b.task (cells_agree laid is b.task));
      seen = subst (λ l. SpotsSeen l b.task) (sym laid_is) (seen_read laid b.task (cells_seen laid is b.task));
      operations =
          subst (λ l. (k : ℕ) → k < length b.edges → FitsSorts l (sorts_at t) (get_or b.edges k no_edge).op)
          (sym laid_is)
          (λ k le. sorts_read laid (sorts_at t) (get_or b.edges k no_edge).op
          (of_edges (λ op. FitsSorts laid (sorts_at t) op) (sorts_fit t in_bodies) k le));
      objects = λ k le. names b.laid (get_or b.edges k no_edge).op
          (of_edges HasPlainConstant (constants_of_file laid is t) k le);
      settled = subst AreSettled (sym edges_are) (file_sorts laid is t in_bodies).2;
    }

    never : NeverReturns graph
    never =
        let g = graph_is in
        subst (λ (es : Edges). All (λ (e : Edge). e.to ≢ 0) es) (sym g.edges)
        (λ k d le at. (let some = leads_on laid t k d le in omega (arith, some, at)))

    body_is : IsBody b (sorts_at t)
    body_is =
        let g = graph_is in
        let i = body_in in
        configured_body graph nodes b (sorts_at t) (configurable laid is t graph g.edges g.nodes) never nodes_are
        (record { edges = i.edges; nodes = i.nodes; copies = i.copies; live = i.live; heads = i.heads }) typed

    entry_is : (let q = node_at b 0 in q.place ≡ 0)
    entry_is =
        let i = body_in in
        let c = nodes_are in
        ap (λ (q : ConfiguredNode). q.place)
        (entry_first graph.edges.items b.nodes (subst (AreNodes graph.edges.items) (sym i.nodes) c.nodes)).1

    -- nothing is live at the entry
    begins_is : live_at b 0 ≡ []
    begins_is =
        let i = body_in in
        let g = graph_is in
        let live : AreLive graph.edges.items graph.nodes b.live = i.live in
        let own = configurable laid is t graph g.edges g.nodes in
        none_there (live_at b 0) (λ temp there.
        none_live laid is t temp in_bodies
        (subst (λ (es : Edges). IsLive es temp 0) g.edges ((live.live 0 own.entry temp).0 there)))

    pub body_kept : IsBodyAt p t (sorts_at t)
    body_kept = record {
      body = body_is;
      numbered = numbered;
      entry = entry_is;
      begins = begins_is;
      tests = λ k le. tested (get_or b.edges k no_edge).op (of_edges HasPlainTest (tests_of_file laid is t) k le);
      within =
          subst (λ l. (scalar : Scalar) (spot : Spot) → IsSpotOf (spots_of l t scalar) spot
          → spot.cell < length l.abstract_cells) (sym of.laid)
          (λ scalar spot there.
          (let seen = cells_seen laid is t scalar spot
          (subst (λ spots. IsSpotOf spots spot) (spots_read laid t scalar) there) in seen.cell));
    }
