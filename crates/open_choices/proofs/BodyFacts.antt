-- The bodies of a program as they are read, and the counts by which their pointers are moved.
use Rattle.std.proofs.Common.{◌≡◌, ℕ, ◌<◌, ◌≤◌, refl, sym, ap, subst, ◌∙◌, List, [], ◌∷◌, zero, suc, length, get_or}
use Rattle.std.proofs.Common.{arith}
use Rattle.std.proofs.Common.{Option, Some, None, IfSome}
use Rattle.std.specs.Prelude.{slice_get}
use Rattle.std.specs.FinMap.{get}
use Rattle.tm_cint.specs.declared.operators.BinOp.{BinOp}
use Rattle.tm_cint.specs.declared.operators.BinOp.TheVariants as Ops
use Rattle.tm_terms.specs.declared.places.Place.{Place}
use Rattle.tm_laid.specs.Layouts.{LaidTree, laid_tree}
use Rattle.interfere_set.specs.Stores.{Interferences}
use Rattle.flow_graph.specs.declared.operations.Operation.{Operation}
use Rattle.flow_graph.specs.declared.operations.Operation.TheVariants as Op
use Rattle.flow_graph.specs.declared.operations.Into.{Into}
use Rattle.flow_graph.specs.declared.operations.Into.TheVariants as Intos
use Rattle.flow_graph.specs.declared.operations.Test.{Test}
use Rattle.flow_graph.specs.declared.operations.Test.TheVariants as Tests
use Rattle.tm_typed.specs.declared.types.Scalar.{Scalar}
use Rattle.flow_graph.specs.declared.graphs.Graph.{Graph}
use Rattle.flow_graph.specs.declared.graphs.Edge.{Edge}
use Rattle.mutex_configs.specs.declared.nodes.ConfiguredGraph.{ConfiguredGraph}
use Rattle.mutex_configs.specs.declared.nodes.EdgeCopy.{EdgeCopy}
use Rattle.mutex_configs.specs.declared.programs.Program.{Program}
use Rattle.post_recheck.specs.transfer_rows.StateForms.{State}
use Rattle.post_recheck.specs.table_covers.Solutions.{NodeTable, at}
use Rattle.post_recheck.specs.task_equations.Bodies.{Body, no_copy, copy_at, live_at, node_at}
use Rattle.post_recheck.specs.task_equations.Premises.{IsBody, IsCopyOf}
use Rattle.post_recheck.specs.task_equations.laws.Extents.{temp_typed}
use Rattle.post_recheck.specs.temporary_types.Sorts.{Sort, FitsSorts}
use Rattle.post_recheck.specs.body_systems.laws.Applicable.{temps_operable}
use Rattle.post_recheck.specs.program_equations.Programs.{ProgramBodies, body_at, IsProgram, IsTested}
use Rattle.post_recheck.specs.program_equations.Solutions.{table_at, tables_of}
use Rattle.post_recheck.specs.program_equations.Systems.{FitsBody}
use Rattle.post_recheck.specs.program_systems.Analysable.{IsAnalysable}
use Rattle.post_recheck.specs.program_systems.ProgramFacts.{AllFacts, AreProgramFacts, program_with}
use Rattle.post_recheck.proofs.low.program_systems.Bodies.{is_program, is_program_of, body_count}
use Rattle.post_recheck.specs.Pairs.{Pair, FitsPair}
use Rattle.edge_origins.specs.declared.origins.BodyOrigins.{BodyOrigins}
use Rattle.operand_orders.specs.Reached.{SolvedBody, solved_body, operation_at, HasState}
use Rattle.open_choices.specs.declared.looks.Look.{Look}
use Rattle.open_choices.specs.reading.Looks.{look_of, store_of, bin_of, test_of}
use Rattle.open_choices.specs.reading.Found.{IsCounted, AreCounted}

-- an element that a list has at a number
pub within : {X : Type 0} (xs : List X) (k : ℕ) (x : X) → slice_get xs k ≡ Some x → k < length xs
within {X} [] k x e = absurd (let f : ◌≡◌ {A = Option X} None (Some x) = e in cc)
within {X} (y ∷ xs) zero x e = omega arith
within {X} (y ∷ xs) (suc k) x e = let lt = within xs k x e in omega (arith, lt)

pub stands : {X : Type 0} (xs : List X) (k : ℕ) (x d : X) → slice_get xs k ≡ Some x → get_or xs k d ≡ x
stands {X} [] k x d e = absurd (let f : ◌≡◌ {A = Option X} None (Some x) = e in cc)
stands {X} (y ∷ xs) zero x d e = (let f : ◌≡◌ {A = Option X} (Some y) (Some x) = e in cc)
stands {X} (y ∷ xs) (suc k) x d e = stands xs k x d e

-- ## Counts

module _ (s : State) where
  store_counted : (into : Into) (address : ℕ) (scalar : Scalar) (place : Place)
      → IsCounted s (store_of into address scalar place)
  store_counted Intos.Pointed address scalar place = tt
  store_counted (Intos.Object object) address scalar place = tt

  bin_counted : (operator : BinOp) (left : ℕ) (place : Place) → IsCounted s (bin_of operator left place)
  bin_counted Ops.Shr left place = tt
  bin_counted operator left place = tt

  test_counted : (test : Test) → IsCounted s (test_of test)
  test_counted (Tests.Pointers equal left right) = tt
  test_counted test = tt

  module _ (b : Body) (n : ℕ) (sorts : List Sort) (is : IsBody b sorts) (fits : FitsBody b n s) where
    counted : (op : Operation) → FitsSorts b.laid sorts op → IsTested op → IsCounted s (look_of op)
    counted (Op.Move to source cells minus by place) h k =
        let q = node_at b n in
        temps_operable b.laid sorts (live_at b q.place) s
        (λ t. temp_typed b sorts is (live_at b q.place) t (get s.temps t) (fits.temps t))
        (Op.Move to source cells minus by place) h k
    counted (Op.Load to address scalar place) h k = tt
    counted (Op.LoadAny to address scalar place) h k = tt
    counted (Op.Store address value scalar into place) h k = store_counted into address scalar place
    counted (Op.Convert to was of source) h k = tt
    counted (Op.Bin to operator of left right place) h k = bin_counted operator left place
    counted (Op.Deref to source target path place) h k = tt
    counted (Op.Usable pointer place) h k = tt
    counted (Op.BinPointers to equal left right) h k = tt
    counted (Op.Assume test) h k = test_counted test
    counted op h k = tt

-- ## A body with its table

module _ (p : ProgramBodies) (is : IsProgram p) (pair : Pair) (fits : FitsPair p pair) (t : ℕ)
    (lt : t < length p.bodies) (laid : LaidTree) (store : Interferences) (origins : BodyOrigins) where
  abbrev body : Body
  body = body_at p t

  abbrev solution : SolvedBody
  solution = solved_body laid p (tables_of pair.tables) store t origins

  copy_of : (k : ℕ) (copy : EdgeCopy) → slice_get body.copies k ≡ Some copy → IsCopyOf body copy
  copy_of k copy e =
      subst (IsCopyOf body) (stands body.copies k copy no_copy e)
      ((is.each t lt).body.copies k (within body.copies k copy e))

  pub below : (k : ℕ) (copy : EdgeCopy) → slice_get solution.copies k ≡ Some copy → copy.edge < length solution.edges
  below k copy e = (copy_of k copy e).edge

  state_fits : (n : ℕ) (s : State) → n < length body.nodes → at (table_at pair.tables t) n ≡ Some s → FitsBody body n s
  state_fits n s small e =
      subst (λ o. IfSome o (FitsBody body n)) e
      (fits.states t n lt (subst (λ m. n < m) (sym (fits.nodes t lt)) small))

  pub are_counted : AreCounted solution
  are_counted = record {
    each = λ edge s has.
        let copy = has.copy in
        let of = copy_of has.number copy has.is in
        let small = subst (λ n. n < length body.edges) has.of of.edge in
        counted s body copy.from (is.sorts t) (is.each t lt).body
        (state_fits copy.from s of.from has.state) (operation_at solution edge)
        ((is.each t lt).body.operations edge small) ((is.each t lt).tests edge small);
  }

  -- what is read is this
  pub same_body : (edges : List Edge) (copies : List EdgeCopy) (table : List (Option State)) → edges ≡ body.edges
      → copies ≡ body.copies → table ≡ table_at pair.tables t → ◌≡◌ {A = SolvedBody} (record {
        laid = laid;
        number = t;
        edges = edges;
        copies = copies;
        table = at table;
        store = store;
        origins = origins;
      }) solution
  same_body edges copies table es cs ts = λ i. record {
    laid = laid;
    number = t;
    edges = es i;
    copies = cs i;
    table = at (ts i);
    store = store;
    origins = origins;
  }

  -- the program has no more cells than their limit
  pub few_cells : length p.laid.cells ≤ 65536
  few_cells = is.few_cells

-- ## A body of a program

module _ (program : Program) (facts : AllFacts) (analysable : IsAnalysable program)
    (computed : AreProgramFacts program facts) (t : ℕ)
    (lt : t < (let p = program_with program facts in length p.bodies)) where
  pub edges_read : (g : Graph) → g ≡ get_or program.graphs.graphs.items t g → (c : ConfiguredGraph)
      → (let b = body_at (program_with program facts) t in g.edges.items ≡ b.edges)
  edges_read g g-is c =
      let read = (is_program_of program facts analysable computed).bodies t g c lt in
      ap (λ (x : Graph). x.edges.items) g-is ∙ sym read.edges

  pub copies_read : (g : Graph) (c : ConfiguredGraph) → c ≡ get_or program.configured.items t c
      → (let b = body_at (program_with program facts) t in c.copies.items ≡ b.copies)
  copies_read g c c-is =
      let read = (is_program_of program facts analysable computed).bodies t g c lt in
      ap (λ (x : ConfiguredGraph). x.copies.items) c-is ∙ sym read.copies
