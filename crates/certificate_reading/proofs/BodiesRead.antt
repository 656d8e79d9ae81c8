-- Tables of bodies, by what is known of each.
use Rattle.std.proofs.Common.{◌≡◌, refl, sym, ap, subst, ◌∙◌, ℕ, suc, ◌+◌, ◌<◌, ◌≤◌, List, [], ◌∷◌, ◌++◌, length}
use Rattle.std.proofs.Common.{get_or}
use Rattle.std.proofs.Common.{Option, Some, None, inl, inr, arith}
use Rattle.std.specs.Prelude.{IfSome}
use Rattle.std.specs.List.{AllPairs}
use Rattle.std.specs.declared.vec.Vec.{Vec}
use Rattle.std.proofs.lemmas.Bool.{cases_lt}
use Rattle.std.proofs.lemmas.List.{get_or_past}
use Rattle.std.proofs.lemmas.List.Kept.{AllPairs-from_increasing}
use Rattle.post_recheck.specs.Pairs.{lists_of}
use Rattle.transfer_rows.specs.StateForms.{State}
use Rattle.tm_laid.specs.Layouts.{LaidTree, laid_tree}
use Rattle.flow_graph.specs.Graphs.{Edges}
use Rattle.flow_graph.specs.declared.graphs.Graph.{Graph}
use Rattle.mutex_configs.specs.graph_facts.Live.{AreLive}
use Rattle.mutex_configs.specs.declared.nodes.ConfiguredGraph.{ConfiguredGraph}
use Rattle.mutex_configs.specs.declared.programs.Program.{Program}
use Rattle.mutex_configs.specs.Nodes.{entry_node}
use Rattle.body_systems.specs.Facts.{Facts}
use Rattle.post_recheck.specs.task_equations.Bodies.{Body}
use Rattle.mutex_configs.specs.declared.nodes.ConfiguredNode.{ConfiguredNode}
use Rattle.post_recheck.specs.state_fits.Fits.{FitsPlace}
use Rattle.post_recheck.specs.state_fits.Kinds.{InExtents}
use Rattle.temporary_extents.specs.declared.extents.Extent.{Extent}
use Rattle.temporary_extents.specs.Extents.{extents_in}
use Rattle.post_recheck.specs.program_equations.Programs.{ProgramBodies, body_at}
use Rattle.post_recheck.specs.program_equations.Systems.{FitsBody}
use Rattle.post_recheck.specs.program_systems.Analysable.{IsAnalysable}
use Rattle.post_recheck.specs.program_systems.ReadPrograms.{body_from}
use Rattle.post_recheck.specs.program_systems.ProgramFacts.{AllFacts, AreProgramFacts, program_with, read_with}
use Rattle.post_recheck.specs.program_systems.ProgramFacts.{read_body}
use Rattle.post_recheck.proofs.low.program_systems.Bodies.{body_count, body_is, is_program}
use Rattle.certificate_texts.specs.TableLines.{node_lines_of}
use Rattle.certificate_reading.specs.Series.{AllFit, IsRowIn, HasNoRow}
use Rattle.certificate_reading.specs.Tables.{EndsNode, EndsTable, EndsAnyTable, FitsNode, FitsNodes, FitsTable}
use Rattle.certificate_reading.specs.Tables.{lines_of_table}
use Rattle.certificate_reading.specs.Tables.{FitsBodyTable, IsReadTable, IsReadNode}
use Rattle.certificate_reading.specs.reading.Shapes.{RiseFrom}
use Rattle.certificate_reading.proofs.SameLayouts.{place_read, place_laid}
use Rattle.certificate_reading.proofs.TablesRead.{row_same, stuck_same}

-- ## Live temporaries

rising_behind : (k : ℕ) (xs : List ℕ) → AllPairs (λ m n. m < n) (k ∷ xs) → RiseFrom (k + 1) xs
rising_behind k [] h = tt
rising_behind k (x ∷ xs) h = (
  (let l : k < x = h 0 1 0 (omega arith) (omega arith) in omega (arith, l)),
  rising_behind x xs (λ i j d l m. h (suc i) (suc j) d (omega (arith, l)) (omega (arith, m))),
)

rising_pairs : (xs : List ℕ) → AllPairs (λ m n. m < n) xs → RiseFrom 0 xs
rising_pairs [] h = tt
rising_pairs (x ∷ xs) h = (omega arith, rising_behind x xs h)

-- those of each place rise
pub live_rises : (g : Edges) (nodes : ℕ) (lists : List (List ℕ)) → AreLive g nodes lists → (place : ℕ)
    → RiseFrom 0 (get_or lists place [])
live_rises g nodes lists live place = elim (cases_lt place nodes) [
  | inl lt ↦ rising_pairs (get_or lists place []) (AllPairs-from_increasing (get_or lists place []) (live.rising place lt))
  | inr past ↦
      let count = live.node_count in
      subst (RiseFrom 0) (sym (get_or_past lists place [] (omega (arith, count, past)))) tt
]

-- ## Bodies

mapped : {V : Type 0} (P Q : V → Type 0) → ((x : V) → P x → Q x) → (o : Option V) → IfSome o P → IfSome o Q
mapped P Q f None h = h
mapped P Q f (Some x) h = f x h

module _ (A B : ℕ → State → Type 0) (to : (n : ℕ) (s : State) → A n s → B n s) where
  nodes_fit : (k : ℕ) (table : List (Option State)) → AllFit node_lines_of (FitsNode A) EndsNode EndsTable k table
      → AllFit node_lines_of (FitsNode B) EndsNode EndsTable k table
  nodes_fit k [] h = tt
  nodes_fit k (o ∷ table) h = (mapped (A k) (B k) (to k) o h.0, nodes_fit (k + 1) table h.1)

module _ (program : Program) (facts : AllFacts) (analysable : IsAnalysable program)
    (are : AreProgramFacts program facts) where
  abbrev p : ProgramBodies
  p = program_with program facts

  abbrev laid : LaidTree
  laid = laid_tree program.laid

  pub cells_few : length program.laid.abstract_cells.items ≤ 65536
  cells_few = let few = (is_program program facts analysable are).few in omega (arith, few)

  module _ (t : ℕ) (lt : t < length p.bodies) (g : Graph) (c : ConfiguredGraph) (f : Facts)
      (g-is : g ≡ get_or program.graphs.graphs.items t g) (c-is : c ≡ get_or program.configured.items t c)
      (f-is : f ≡ get_or facts.bodies t f) where
    -- what is known of it has its live temporaries
    pub live_here : AreLive g.edges.items g.nodes f.live
    live_here =
        let graphs = program.graphs.graphs.items in
        let there : t < length facts.bodies =
        subst (λ n. t < n) (body_count program facts analysable are ∙ sym are.count) lt in
        let live = (are.each t g c f there).live in
        subst (λ (x : Graph). AreLive x.edges.items x.nodes f.live) (sym g-is)
        (subst (λ (x : Facts). let y = get_or graphs t g in AreLive y.edges.items y.nodes x.live) (sym f-is) live)

    abbrev here : Body
    here = body_from (read_with program facts) t (read_body g c f)

    body_here : body_at p t ≡ here
    body_here =
        body_is program facts analysable are t g c f lt
        ∙ (ap (λ x. body_from (read_with program facts) t (read_body x (get_or program.configured.items t c)
        (get_or facts.bodies t f))) (sym g-is)
        ∙ (ap (λ x. body_from (read_with program facts) t (read_body g x (get_or facts.bodies t f))) (sym c-is)
        ∙ ap (λ x. body_from (read_with program facts) t (read_body g c x)) (sym f-is)))

    abbrev Known : ℕ → State → Type 0
    Known = FitsNodes laid t (extents_in g.edges.items) c.nodes.keys f.live

    abbrev Here : ℕ → State → Type 0
    Here = FitsBody (body_at p t)

    to_body : (n : ℕ) (s : State) → Known n s → Here n s
    to_body n s h =
        let q = get_or c.nodes.keys n entry_node in
        subst (λ b. FitsBody b n s) (sym body_here)
        (place_read laid t (extents_in g.edges.items) (get_or f.live q.place []) s h)

    from_body : (n : ℕ) (s : State) → Here n s → Known n s
    from_body n s h =
        let q = get_or c.nodes.keys n entry_node in
        place_laid laid t (extents_in g.edges.items) (get_or f.live q.place []) s
        (subst (λ b. FitsBody b n s) body_here h)

    count_is : (let b = body_at p t in length b.nodes ≡ length c.nodes.keys)
    count_is = ap (λ (b : Body). length b.nodes) body_here

    abbrev KnownTable : ℕ → List (Option State) → Type 0
    KnownTable k table = FitsTable Known (length c.nodes.keys) table

    to_table : (table : List (Option State)) → KnownTable t table → FitsBodyTable p t table
    to_table table h = (h.0 ∙ sym count_is, nodes_fit Known Here to_body 0 table h.1)

    from_table : (table : List (Option State)) → FitsBodyTable p t table → KnownTable t table
    from_table table h = (h.0 ∙ count_is, nodes_fit Here Known from_body 0 table h.1)

    pub body_row : (old new : List ℕ) (table : List (Option State))
        → IsRowIn lines_of_table KnownTable EndsAnyTable EndsTable t old table new
        → IsRowIn lines_of_table (FitsBodyTable p) EndsAnyTable EndsTable t old table new
    body_row old new table h =
        row_same lines_of_table KnownTable (FitsBodyTable p) EndsAnyTable EndsTable t old table new to_table from_table h

    pub body_stuck : (old : List ℕ) → HasNoRow lines_of_table KnownTable EndsAnyTable EndsTable t old
        → HasNoRow lines_of_table (FitsBodyTable p) EndsAnyTable EndsTable t old
    body_stuck old h =
        stuck_same lines_of_table KnownTable (FitsBodyTable p) EndsAnyTable EndsTable t old from_table h

    pub read_table : (old new : List ℕ) (found : Option (List (Option State)))
        → IsReadTable KnownTable t old found new → IsReadTable (FitsBodyTable p) t old found new
    read_table old new None h = body_stuck old h
    read_table old new (Some table) h = body_row old new table h

-- ## Lists of tables

module _ {A : Type 0} where
  pub lists_length : (ts : List (Vec (Option State) A)) → length (lists_of ts) ≡ length ts
  lists_length [] = refl
  lists_length (t ∷ ts) = ap suc (lists_length ts)

  lists_append : (ts : List (Vec (Option State) A)) (t : Vec (Option State) A)
      → lists_of (ts ++ t ∷ []) ≡ lists_of ts ++ t.items ∷ []
  lists_append [] t = refl
  lists_append (x ∷ ts) t = ap (λ ls. x.items ∷ ls) (lists_append ts t)

  pub lists_more : (ts now : List (Vec (Option State) A)) (t : Vec (Option State) A) → now ≡ ts ++ t ∷ []
      → lists_of now ≡ lists_of ts ++ t.items ∷ []
  lists_more ts now t is = ap lists_of is ∙ lists_append ts t

-- ## Nodes, by what is known of them

module _ (laid : LaidTree) (body n : ℕ) (extents given : List Extent) (live : List ℕ) (nodes : List ConfiguredNode)
    (lives : List (List ℕ)) (extents-are : extents ≡ given)
    (live-is : (let q = get_or nodes n entry_node in live ≡ get_or lives q.place [])) where
  abbrev AtNode : ℕ → State → Type 0
  AtNode m = FitsPlace laid body (InExtents laid extents) live

  abbrev AtNodes : ℕ → State → Type 0
  AtNodes = FitsNodes laid body given nodes lives

  to_nodes : (s : State) → AtNode n s → AtNodes n s
  to_nodes s h =
      subst (λ l. FitsPlace laid body (InExtents laid given) l s) live-is
      (subst (λ x. FitsPlace laid body (InExtents laid x) live s) extents-are h)

  from_nodes : (s : State) → AtNodes n s → AtNode n s
  from_nodes s h =
      subst (λ x. FitsPlace laid body (InExtents laid x) live s) (sym extents-are)
      (subst (λ l. FitsPlace laid body (InExtents laid given) l s) (sym live-is) h)

  pub read_node : (old new : List ℕ) (found : Option (Option State)) → IsReadNode AtNode n old found new
      → IsReadNode AtNodes n old found new
  read_node old new None h =
      stuck_same node_lines_of (FitsNode AtNode) (FitsNode AtNodes) EndsNode EndsTable n old
      (λ y. mapped (AtNodes n) (AtNode n) from_nodes y) h
  read_node old new (Some at) h =
      row_same node_lines_of (FitsNode AtNode) (FitsNode AtNodes) EndsNode EndsTable n old at new
      (λ y. mapped (AtNode n) (AtNodes n) to_nodes y) (λ y. mapped (AtNodes n) (AtNode n) from_nodes y) h
