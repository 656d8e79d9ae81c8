-- The places that are found are the dead ones.
use Rattle.std.proofs.Common.{◌≡◌, ℕ, ◌<◌, ◌≤◌, sym, subst, ◌∙◌, List, [], ◌∷◌, length, get_or, arith}
use Rattle.std.proofs.lemmas.List.{get_or-map, get_or_default}
use Rattle.tm_terms.specs.declared.places.Place.{Place}
use Rattle.flow_graph.specs.declared.graphs.Edge.{Edge}
use Rattle.flow_graph.specs.declared.graphs.Graph.{Graph}
use Rattle.flow_graph.specs.Graphs.{Edges}
use Rattle.mutex_configs.specs.declared.nodes.ConfiguredGraph.{ConfiguredGraph}
use Rattle.mutex_configs.specs.declared.nodes.EdgeCopy.{EdgeCopy}
use Rattle.mutex_configs.specs.declared.programs.Program.{Program}
use Rattle.program_reports.specs.post_recheck.task_equations.Bodies.{no_edge}
use Rattle.program_reports.specs.post_recheck.program_equations.Programs.{ProgramBodies, body_at, IsProgram}
use Rattle.program_reports.specs.post_recheck.program_equations.Solutions.{table_at, tables_of}
use Rattle.program_reports.specs.post_recheck.program_systems.Analysable.{IsAnalysable}
use Rattle.program_reports.specs.post_recheck.program_systems.ProgramFacts.{AllFacts, AreProgramFacts, program_with}
use Rattle.program_reports.proofs.low.program_systems.Bodies.{is_program, is_program_of, body_count}
use Rattle.program_reports.specs.post_recheck.Pairs.{Pair, FitsPair}
use Rattle.value_ranges.specs.Places.{ReachesAt, IsReachedPlace, IsListedPlace, AreDead}
use Rattle.value_ranges.specs.reading.Reached.{edges_at, copies_at, IsOfEdges, IsOfGraphs, IsOfCopies, IsOfTables}
use Rattle.value_ranges.specs.reading.Reached.{AreCopiesIn, AreCopiesOf, AreDeadIn}

some_element : {X : Type 0} (xs : List X) (i : ℕ) → i < length xs → X
some_element [] i lt = absurd (omega (arith, lt))
some_element (x ∷ xs) i lt = x

module _ (program : Program) (facts : AllFacts) (analysable : IsAnalysable program)
    (computed : AreProgramFacts program facts) (pair : Pair) (fits : FitsPair (program_with program facts) pair) where
  abbrev p : ProgramBodies
  p = program_with program facts

  abbrev graphs : List Graph
  graphs = program.graphs.graphs.items

  abbrev configured : List ConfiguredGraph
  configured = program.configured.items

  is : IsProgram p
  is = is_program program facts analysable computed

  count : length p.bodies ≡ length graphs
  count = body_count program facts analysable computed

  in_graphs : (t : ℕ) → t < length p.bodies → t < length graphs
  in_graphs t lt = subst (λ n. t < n) count lt

  in_configured : (t : ℕ) → t < length p.bodies → t < length configured
  in_configured t lt = subst (λ n. t < n) (count ∙ sym analysable.count) lt

  in_bodies : (t : ℕ) → t < length graphs → t < length p.bodies
  in_bodies t lt = subst (λ n. t < n) (sym count) lt

  edges_are : (t : ℕ) → t < length p.bodies → (let b = body_at p t in b.edges ≡ edges_at graphs t)
  edges_are t lt =
      let g = some_element graphs t (in_graphs t lt) in
      let c = some_element configured t (in_configured t lt) in
      let all = is_program_of program facts analysable computed in
      (all.bodies t g c lt).edges ∙ sym (get_or-map (λ (x : Graph). x.edges.items) graphs t g [] (in_graphs t lt))

  copies_are : (t : ℕ) → t < length p.bodies → (let b = body_at p t in b.copies ≡ copies_at configured t)
  copies_are t lt =
      let g = some_element graphs t (in_graphs t lt) in
      let c = some_element configured t (in_configured t lt) in
      let all = is_program_of program facts analysable computed in
      (all.bodies t g c lt).copies
      ∙ sym (get_or-map (λ (x : ConfiguredGraph). x.copies.items) configured t c [] (in_configured t lt))

  -- ## Copies

  copies_in : (t : ℕ) → t < length p.bodies
      → (let b = body_at p t in AreCopiesIn b.edges b.copies (table_at pair.tables t))
  copies_in t lt = λ k d within.
      let b = body_at p t in
      let C = λ (c : EdgeCopy). (c.edge < length b.edges) × (c.from < length (table_at pair.tables t)) in
      let one = (is.each t lt).body.copies k within in
      let nodes = fits.nodes t lt in
      let from = one.from in
      let there : C (get_or b.copies k _) = (one.edge, omega (arith, nodes, from)) in
      subst C (get_or_default b.copies k _ d within) there

  pub copies_of : AreCopiesOf graphs configured pair.tables
  copies_of = record {
    graphs_count = (let c = fits.count in omega (arith, c, count));
    configured_count = (let c = fits.count in let a = analysable.count in omega (arith, c, count, a));
    each = λ t within.
        let lt : t < length p.bodies = (let c = fits.count in omega (arith, within, c)) in
        subst (λ (es : Edges). AreCopiesIn es (copies_at configured t) (table_at pair.tables t)) (edges_are t lt)
        (subst (λ (cs : List EdgeCopy). (let b = body_at p t in AreCopiesIn b.edges cs (table_at pair.tables t)))
        (copies_are t lt) (copies_in t lt));
  }

  -- each table has a graph
  pub few_tables : (n : ℕ) → n ≡ length pair.tables → n ≤ length graphs
  few_tables n n-is = let c = fits.count in omega (arith, c, count, n-is)

  -- ## Listed places

  listed_from : (place : Place) → IsOfGraphs graphs (length graphs) place → IsListedPlace p place
  listed_from place h =
      let t = h.0 in
      let lt = in_bodies t h.1 in
      let b = body_at p t in
      let here : IsOfEdges b.edges (length b.edges) place =
      subst (λ (es : Edges). IsOfEdges es (length es) place) (sym (edges_are t lt)) h.2 in
      let k = here.0 in
      let e = get_or b.edges k no_edge in record {
        body = t;
        within = lt;
        edge = e;
        among = (k, here.1, get_or_default b.edges k e no_edge here.1);
        stands = here.2;
      }

  listed_in : (place : Place) → IsListedPlace p place → IsOfGraphs graphs (length graphs) place
  listed_in place h =
      let t = h.body in
      let b = body_at p t in
      let k = h.among.0 in
      let e : get_or b.edges k no_edge ≡ h.edge = get_or_default b.edges k no_edge h.edge h.among.1 ∙ h.among.2 in
      let here : IsOfEdges b.edges (length b.edges) place =
      (k, h.among.1, subst (λ (x : Edge). ReachesAt x.op place) (sym e) h.stands) in (
        t,
        in_graphs t h.within,
        subst (λ (es : Edges). IsOfEdges es (length es) place) (edges_are t h.within) here,
      )

  -- ## Reached places

  abbrev OfBody : ℕ → Place → Type 0
  OfBody t place = (let b = body_at p t in IsOfCopies b.edges b.copies (table_at pair.tables t) (length b.copies) place)

  abbrev OfTable : ℕ → Place → Type 0
  OfTable t place = (let copies = copies_at configured t in
      IsOfCopies (edges_at graphs t) copies (table_at pair.tables t) (length copies) place)

  to_table : (t : ℕ) (place : Place) → t < length p.bodies → OfBody t place → OfTable t place
  to_table t place lt h =
      subst (λ (es : Edges). (let copies = copies_at configured t in
      IsOfCopies es copies (table_at pair.tables t) (length copies) place)) (edges_are t lt)
      (subst (λ (cs : List EdgeCopy). (let b = body_at p t in
      IsOfCopies b.edges cs (table_at pair.tables t) (length cs) place)) (copies_are t lt) h)

  to_body : (t : ℕ) (place : Place) → t < length p.bodies → OfTable t place → OfBody t place
  to_body t place lt h =
      subst (λ (cs : List EdgeCopy). (let b = body_at p t in
      IsOfCopies b.edges cs (table_at pair.tables t) (length cs) place)) (sym (copies_are t lt))
      (subst (λ (es : Edges). (let copies = copies_at configured t in
      IsOfCopies es copies (table_at pair.tables t) (length copies) place)) (sym (edges_are t lt)) h)

  reached_from : (n : ℕ) (place : Place) → n ≡ length pair.tables → IsOfTables graphs configured pair.tables n place
      → (body : ℕ) × IsReachedPlace p (tables_of pair.tables) body place
  reached_from n place n-is h =
      let t = h.0 in
      let lt : t < length p.bodies = (let c = fits.count in let l = h.1 in omega (arith, c, l, n-is)) in
      let here = to_body t place lt h.2 in (
        t,
        record {
          copy = here.0;
          state = here.2.state;
          reached = record { body = lt; copy = here.1; state = here.2.is };
          stands = here.2.stands;
        },
      )

  reached_in : (n : ℕ) (place : Place) → n ≡ length pair.tables → (body : ℕ)
      → IsReachedPlace p (tables_of pair.tables) body place → IsOfTables graphs configured pair.tables n place
  reached_in n place n-is body h =
      let lt = h.reached.body in
      let here : OfBody body place =
      (h.copy, h.reached.copy, record { state = h.state; is = h.reached.state; stands = h.stands }) in
      (body, (let c = fits.count in omega (arith, c, lt, n-is)), to_table body place lt here)

  pub are_dead : (n : ℕ) → n ≡ length pair.tables → (dead : List Place)
      → AreDeadIn graphs configured pair.tables n dead → AreDead p (tables_of pair.tables) dead
  are_dead n n-is dead h = record {
    sorted = h.sorted;
    exact = λ place. (
      λ c. let both = (h.exact place).0 c in record {
        listed = listed_from place both.0;
        never = λ body r. both.1 (reached_in n place n-is body r);
      },
      λ d. (h.exact place).1 (
        listed_in place d.listed,
        λ r. let there = reached_from n place n-is r in d.never there.0 there.1,
      ),
    );
  }
