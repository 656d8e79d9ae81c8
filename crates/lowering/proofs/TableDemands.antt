-- The operations of the table meet what is asked, where the typed trees do.
use Rattle.std.proofs.Common.{◌≡◌, refl, ℕ, zero, suc, Bool, true, false, List, [], ◌∷◌}
use Rattle.std.specs.Prelude.{if◌then◌else◌, All, pos, Option, Some, None}
use Rattle.std.proofs.lemmas.List.Elements.{All-head, All-tail}
use Rattle.concrete_steps.specs.tm_cint.declared.int_types.IntType.{IntType}
use Rattle.concrete_steps.specs.tm_cint.declared.operators.BinOp.{BinOp}
use Rattle.concrete_steps.specs.tm_terms.declared.places.Place.{Place}
use Rattle.concrete_steps.specs.tm_typed.declared.types.Scalar.{Scalar}
use Rattle.concrete_steps.specs.tm_typed.declared.types.Scalar.TheVariants as Scalars
use Rattle.concrete_steps.specs.tm_typed.declared.scopes.ObjectNumber.TheVariants.{Local}
use Rattle.concrete_steps.specs.tm_typed.TypedTrees.{RvalueTree, a_constant, a_folded, a_null, a_load, an_address}
use Rattle.concrete_steps.specs.tm_typed.TypedTrees.{a_structure}
use Rattle.concrete_steps.specs.tm_typed.TypedTrees.{the_same, a_unary, a_binary, a_comparison_of_pointers, a_move}
use Rattle.concrete_steps.specs.tm_typed.TypedTrees.{a_not, an_and}
use Rattle.concrete_steps.specs.tm_typed.TypedTrees.{an_or, a_choice, an_assignment, a_compound, a_compound_move}
use Rattle.concrete_steps.specs.tm_typed.TypedTrees.{a_unit_step}
use Rattle.concrete_steps.specs.tm_typed.TypedTrees.{a_pointer_step, a_function_call, an_input_value, a_probe, a_comma}
use Rattle.concrete_steps.specs.tm_typed.TypedTrees.{a_conversion}
use Rattle.concrete_steps.specs.tm_typed.TypedTrees.{a_discard, LvalueTree, an_object, an_element, a_pointed_element}
use Rattle.concrete_steps.specs.tm_typed.TypedTrees.{a_pointed}
use Rattle.concrete_steps.specs.tm_typed.TypedTrees.{an_arrow, a_part, RvalueTrees, no_rvalues, and_rvalue}
use Rattle.concrete_steps.specs.tm_typed.TypedTrees.{lvalue_place}
use Rattle.concrete_steps.specs.tm_typed.TypedStatements.{GivenTree, LocalInitialiserTree, LocalTree, TypedTree}
use Rattle.concrete_steps.specs.tm_typed.TypedStatements.{evaluates, declares}
use Rattle.concrete_steps.specs.tm_typed.TypedStatements.{runs_block, branches, branches_else, loops_while, loops_do}
use Rattle.concrete_steps.specs.tm_typed.TypedStatements.{loops_for}
use Rattle.concrete_steps.specs.tm_typed.TypedStatements.{selects, breaks, continues, returns, locks, unlocks, yields}
use Rattle.concrete_steps.specs.tm_typed.TypedStatements.{TypedTrees}
use Rattle.concrete_steps.specs.tm_typed.TypedStatements.{no_statements, and_statement, TypedCase, a_label}
use Rattle.concrete_steps.specs.tm_typed.TypedStatements.{a_default_label}
use Rattle.concrete_steps.specs.tm_typed.TypedStatements.{a_labelled_step, TypedCases, no_typed_cases, and_typed_case}
use Rattle.concrete_steps.specs.tm_typed.Rules.{is_comparison}
use Rattle.concrete_steps.specs.tm_laid.Layouts.{LaidTree, object_of, object_at}
use Rattle.concrete_steps.specs.Places.{rvalue_place, is_pointer_scalar, gives_pointer}
use Rattle.concrete_steps.specs.NextAction.{scalar_at, is_given, rest_of}
use Rattle.flow_graph.specs.declared.operations.Into.{Into}
use Rattle.lowering.specs.Steps.{Steps, no_more, Code, Fork, Inputs, Parts}
use Rattle.lowering.specs.Table as Table
use Rattle.lowering.proofs.Demands.{Demands, Meets, AreUsual, StepsMeet, InputsMeet, CodeMeets, ForkMeets, MaybeFork}
use Rattle.lowering.proofs.Demands.{MaybeCode, PlanMeets, PartsMeet, Asks, LvalueAsks, AllAsk, MayAsk, CellsAsk}
use Rattle.lowering.proofs.Demands.{LocalAsks, StatementAsks, StatementsAsk, CaseAsks, CasesAsk}

module _ (d : Demands) (usual : AreUsual d) (S : ℕ → Type 0) where
  record CodesMeet (x : Table.Codes) : Type 0 where
    pub value : CodeMeets d S x.value
    pub bare : CodeMeets d S x.bare
    pub fork : ForkMeets d S x.fork

  convert_meets : (c : Table.Conversion) (v : ℕ) (rest : Steps) → StepsMeet d S rest
      → StepsMeet d S (Table.convert_then c v rest)
  convert_meets None v rest h = h
  convert_meets (Some c) v rest h = (tt, h)

  valued_meets : (pointer : Bool) (p : Place) (c : Code) → CodeMeets d S c → CodesMeet (Table.valued pointer p c)
  valued_meets false p c h = record { value = h; bare = h; fork = ((h, tt), tt) }
  valued_meets true p c h = record { value = h; bare = h; fork = ((h, (tt, tt)), tt) }

  decided_meets : (f : Fork) → ForkMeets d S f → CodesMeet (Table.decided f)
  decided_meets f h = record { value = (h, tt); bare = (h, tt); fork = h }

  binary_meets : (comparison : Bool) (op : BinOp) (t : IntType) (p : Place) (l : Code) (cl : Table.Conversion)
      (r : Code) (cr : Table.Conversion)
      → is_comparison op ≡ comparison → CodeMeets d S l → CodeMeets d S r
      → CodesMeet (Table.binary_codes comparison op t p l cl r cr)
  binary_meets true op t p l cl r cr is hl hr =
      let b : CodeMeets d S (Table.binary_code op t p l cl r cr) =
      (hl, (hr, convert_meets cl 0 _ (convert_meets cr 1 _ (tt, tt)))) in
      record {
        value = b;
        bare = b;
        fork = ((hl, (hr, convert_meets cl 0 _ (convert_meets cr 1 _ tt))), usual.comparison op is);
      }
  binary_meets false op t p l cl r cr is hl hr =
      valued_meets false p _ (hl, (hr, convert_meets cl 0 _ (convert_meets cr 1 _ (tt, tt))))

  move_meets : (minus : Bool) (cells : ℕ) (first : Bool) (p : Place) (e i : Code) → CodeMeets d S e → CodeMeets d S i
      → CodeMeets d S (Table.move_code minus cells first p e i)
  move_meets minus cells false p e i he hi = (he, (hi, (tt, tt)))
  move_meets minus cells true p e i he hi = (hi, (he, (tt, tt)))

  loading_meets : (volatile : Bool) (s : Scalar) (a : ℕ) (p : Place) → Meets d (Table.loading volatile s a p)
  loading_meets false s a p = tt
  loading_meets true s a p = tt

  choice_meets : (has : Bool) (f : Fork) (x y : Code) → ForkMeets d S f → CodeMeets d S x → CodeMeets d S y
      → CodeMeets d S (Table.choice_code has f x y)
  choice_meets true f x y hf hx hy = ((hf, hx, hy), tt)
  choice_meets false f x y hf hx hy = ((hf, hx, hy), tt)

  comma_meets : (has : Bool) (l r : Code) → CodeMeets d S l → CodeMeets d S r → CodeMeets d S (Table.comma_code has l r)
  comma_meets true l r hl hr = (hl, (hr, tt))
  comma_meets false l r hl hr = (hl, (hr, tt))

  changed_meet : (cx cy back : Table.Conversion) (op : BinOp) (cell of : IntType) (into : Into) (p : Place)
      → StepsMeet d S (Table.changed_steps cx cy back op cell of into p)
  changed_meet cx cy back op cell of into p =
      convert_meets cx 1 _ (convert_meets cy 2 _ (tt, convert_meets back _ _ (tt, tt)))

  call_meets : (has : Bool) (site : ℕ) (p : Place) (es : Inputs) → S site → InputsMeet d S es
      → CodeMeets d S (Table.call_code has site p es)
  call_meets true site p es i h = ((i, h), tt)
  call_meets false site p es i h = ((i, h), tt)

  bare_meets : (same : Bool) (e c : Code) → CodeMeets d S e → CodeMeets d S c → CodeMeets d S (if same then e else c)
  bare_meets true e c he hc = he
  bare_meets false e c he hc = hc

  module _ (laid : LaidTree) (path : ℕ) (L : ℕ → Type 0) where
    mutual
      codes_meet : (e : RvalueTree) → Asks d S L e → CodesMeet (Table.codes laid path e)
      codes_meet (a_constant t z p) h = valued_meets false p _ (usual.number z, tt)
      codes_meet (a_folded z e) h =
          record { value = (usual.number z, tt); bare = (usual.number z, tt); fork = (codes_meet e h).fork }
      codes_meet (a_null p) h = valued_meets true p _ (usual.null, tt)
      codes_meet (a_load s volatile l) h = valued_meets (is_pointer_scalar s) (lvalue_place l) _
          (address_meets l h, (loading_meets volatile s 0 (lvalue_place l), tt))
      codes_meet (an_address l p) h = valued_meets true p _ (address_meets l h)
      codes_meet (a_structure l) h = valued_meets false (lvalue_place l) _ (address_meets l h, tt)
      codes_meet (the_same e p) h = valued_meets (gives_pointer laid e) p _ (codes_meet e h).value
      codes_meet (a_unary o t e p) h = valued_meets false p _ ((codes_meet e h.1).value, (h.0, tt))
      codes_meet (a_binary op t l r p) h = binary_meets (is_comparison op) op t p _ (Table.implied l) _
          (Table.implied r) refl (codes_meet l h.0).bare (codes_meet r h.1).bare
      codes_meet (a_comparison_of_pointers equal l r p) h =
          let l' = (codes_meet l h.0).value in
          let r' = (codes_meet r h.1).value in
          record {
            value = (l', (r', (tt, (tt, (tt, tt)))));
            bare = (l', (r', (tt, (tt, (tt, tt)))));
            fork = ((l', (r', (tt, (tt, tt)))), tt);
          }
      codes_meet (a_move minus cells first e i p) h = valued_meets true p _
          (move_meets minus cells first p _ _ (codes_meet e h.0).value (codes_meet i h.1).value)
      codes_meet (a_not e p) h = decided_meets _ (codes_meet e h).fork
      codes_meet (an_and l r p) h = decided_meets _ ((codes_meet l h.0).fork, (codes_meet r h.1).fork)
      codes_meet (an_or l r p) h = decided_meets _ ((codes_meet l h.0).fork, (codes_meet r h.1).fork)
      codes_meet (a_choice c x y p) h = valued_meets (gives_pointer laid x) p _
          (choice_meets (Table.has_value laid path x) _ _ _ (codes_meet c h.0).fork (codes_meet x h.1).value
          (codes_meet y h.2).value)
      codes_meet (an_assignment s l e p) h = valued_meets (is_pointer_scalar s) p _
          (address_meets l h.0, ((codes_meet e h.1).value, (tt, tt)))
      codes_meet (a_compound op cell of volatile l e p) h = valued_meets false p _ (
        address_meets l h.0,
        (
          loading_meets volatile (Scalars.Int cell) 0 (lvalue_place l),
          (
            (codes_meet e h.1).bare,
            changed_meet (Table.conversion cell of) (Table.implied e) (Table.conversion of cell) op cell of
                (Table.into laid path l) p,
          ),
        ),
      )
      codes_meet (a_compound_move minus cells class l e p) h =
          valued_meets true p _ (address_meets l h.0, (tt, ((codes_meet e h.1).value, (tt, (tt, tt)))))
      codes_meet (a_unit_step s cell of volatile l p) h = valued_meets false p _ (
        address_meets l h,
        (
          loading_meets volatile (Scalars.Int cell) 0 (lvalue_place l),
          (usual.number (pos 1), changed_meet _ _ _ _ cell of (Table.into laid path l) p),
        ),
      )
      codes_meet (a_pointer_step s cells class l p) h =
          valued_meets true p _ (address_meets l h, (tt, (usual.number (pos 1), (tt, (tt, tt)))))
      codes_meet (a_function_call f site es p) h = valued_meets (gives_pointer laid (a_function_call f site es p)) p _
          (call_meets (Table.call_has_value laid path site) site p _ h.0 (inputs_meet es h.1))
      codes_meet (an_input_value low high p) h = valued_meets false p _ (tt, tt)
      codes_meet (a_probe m p) h = valued_meets false p _ (h, tt)
      codes_meet (a_comma l r p) h = valued_meets (gives_pointer laid r) p _
          (comma_meets (Table.has_value laid path r) _ _ (codes_meet l h.0).value (codes_meet r h.1).value)
      codes_meet (a_conversion from to e p) h =
          let c : CodeMeets d S (Table.converted_code (Table.conversion from to) (Table.codes laid path e).value)
          = ((codes_meet e h).value, convert_meets (Table.conversion from to) 0 no_more tt) in
          record {
            value = c;
            bare = bare_meets (Table.is_same_place p (rvalue_place e)) _ _ (codes_meet e h).value c;
            fork = ((c, tt), tt);
          }
      codes_meet (a_discard e p) h = valued_meets false p _ ((codes_meet e h).value, tt)

      address_meets : (l : LvalueTree) → LvalueAsks d S L l → CodeMeets d S (Table.address_code laid path l)
      address_meets (an_object o p) h = (tt, tt)
      address_meets (an_element l i n c p) h = (address_meets l h.0, ((codes_meet i h.1).value, (tt, tt)))
      address_meets (a_pointed_element e i c t p) h =
          ((codes_meet e h.0).value, ((codes_meet i h.1).value, (tt, (tt, tt))))
      address_meets (a_pointed e t p) h = ((codes_meet e h).value, (tt, tt))
      address_meets (an_arrow e t c p) h = ((codes_meet e h).value, (tt, (tt, tt)))
      address_meets (a_part l c p) h = (address_meets l h, (tt, tt))

      inputs_meet : (es : RvalueTrees) → AllAsk d S L es → InputsMeet d S (Table.inputs laid path es)
      inputs_meet no_rvalues h = tt
      inputs_meet (and_rvalue e es) h = ((codes_meet e h.0).value, inputs_meet es h.1)

    nothing_meets : (s : Scalar) → CodeMeets d S (Table.nothing_stored laid path s)
    nothing_meets (Scalars.Int t) = (usual.number (pos 0), tt)
    nothing_meets (Scalars.Pointer class) = (usual.null, tt)

    abbrev GivenAsks : GivenTree → Type 0
    GivenAsks g = Asks d S L g.value

    cell_value_meets : (s : Scalar) (given : Bool) (gs : List GivenTree) → All GivenAsks gs
        → CodeMeets d S (Table.cell_value laid path s given gs)
    cell_value_meets s true (g ∷ gs) h = (codes_meet g.value (All-head GivenAsks g gs h)).value
    cell_value_meets s true [] h = nothing_meets s
    cell_value_meets s false gs h = nothing_meets s

    cell_meets : (alone : Bool) (o : ℕ) (p : Place) (k : ℕ) (s : Scalar) (e : Code) → CodeMeets d S e
        → CodeMeets d S (Table.cell_code laid path alone o p k s e)
    cell_meets true o p k s e h = (tt, (h, (tt, tt)))
    cell_meets false o p k s e h = (tt, (tt, (h, (tt, tt))))

    rest_asks : (given : Bool) (gs : List GivenTree) → All GivenAsks gs → All GivenAsks (rest_of given gs)
    rest_asks true [] h = h
    rest_asks true (g ∷ gs) h = All-tail GivenAsks g gs h
    rest_asks false gs h = h

    cells_meet : (o : ℕ) (p : Place) (n k : ℕ) (gs : List GivenTree) → All GivenAsks gs → (rest : Steps)
        → StepsMeet d S rest → StepsMeet d S (Table.cells_stored laid path o p n k gs rest)
    cells_meet o p zero k gs g rest h = h
    cells_meet o p (suc n) k gs g rest h = (
      cell_meets (Table.is_alone laid path o k) o p k (scalar_at laid o k) _
          (cell_value_meets (scalar_at laid o k) (is_given k gs) gs g),
      cells_meet o p n (suc k) (rest_of (is_given k gs) gs) (rest_asks (is_given k gs) gs g) rest h,
    )

    initialised_meets : (o : ℕ) (i : Option LocalInitialiserTree) → CellsAsk d S L i → (rest : Steps)
        → StepsMeet d S rest → StepsMeet d S (Table.initialised laid path o i rest)
    initialised_meets o None g rest h = h
    initialised_meets o (Some i) g rest h = cells_meet o i.place (object_at laid o).cells 0 i.given g rest h

    effect_meets : (e : Option RvalueTree) → MayAsk d S L e → StepsMeet d S (Table.effect_steps laid path e)
    effect_meets None h = tt
    effect_meets (Some e) h = ((codes_meet e h).value, tt)

    fork_meets : (e : Option RvalueTree) → MayAsk d S L e → MaybeFork d S (Table.optional_fork laid path e)
    fork_meets None h = tt
    fork_meets (Some e) h = (codes_meet e h).fork

    code_meets : (e : Option RvalueTree) → MayAsk d S L e → MaybeCode d S (Table.optional_code laid path e)
    code_meets None h = tt
    code_meets (Some e) h = (codes_meet e h).value

    -- where the local objects of the path may be cleared
    module _ (local : (k : ℕ) → L k → d.clears (object_of laid path (Local k))) where
      locals_meet : (ls : List LocalTree) → All (LocalAsks d S L) ls → StepsMeet d S (Table.locals_steps laid path ls)
      locals_meet [] h = tt
      locals_meet (l ∷ ls) h =
          let is : LocalAsks d S L l = All-head (LocalAsks d S L) l ls h in (
            local l.object is.0,
            initialised_meets (object_of laid path (Local l.object)) l.initialiser is.1 _
                (locals_meet ls (All-tail (LocalAsks d S L) l ls h)),
          )

      mutual
        plan_meets : (s : TypedTree) → StatementAsks d S L s → PlanMeets d S (Table.plan laid path s)
        plan_meets (evaluates e) h = effect_meets e h
        plan_meets (declares ls) h = locals_meet ls h
        plan_meets (runs_block ss) h = plans_meet ss h
        plan_meets (branches c s) h = ((codes_meet c h.0).fork, plan_meets s h.1, tt)
        plan_meets (branches_else c s r) h = ((codes_meet c h.0).fork, plan_meets s h.1, plan_meets r h.2)
        plan_meets (loops_while c s) h = ((codes_meet c h.0).fork, plan_meets s h.1)
        plan_meets (loops_do s c) h = (plan_meets s h.0, (codes_meet c h.1).fork)
        plan_meets (loops_for first c step s) h =
            (plan_meets first h.0, (fork_meets c h.1, effect_meets step h.2, plan_meets s h.3))
        plan_meets (selects t e cs) h = ((codes_meet e h.0).value, parts_meet cs h.1)
        plan_meets breaks h = tt
        plan_meets continues h = tt
        plan_meets (returns e) h = code_meets e h
        plan_meets (locks m p) h = (h, tt)
        plan_meets (unlocks m p) h = (h, tt)
        plan_meets yields h = (tt, tt)

        pub plans_meet : (ss : TypedTrees) → StatementsAsk d S L ss → PlanMeets d S (Table.plans laid path ss)
        plans_meet no_statements h = tt
        plans_meet (and_statement s ss) h = (plan_meets s h.0, plans_meet ss h.1)

        part_meets : (c : TypedCase) → CaseAsks d S L c → (rest : Parts) → PartsMeet d S rest
            → PartsMeet d S (Table.part_then laid path c rest)
        part_meets (a_label z p) h rest r = (h, r)
        part_meets (a_default_label p) h rest r = r
        part_meets (a_labelled_step s) h rest r = (plan_meets s h, r)

        parts_meet : (cs : TypedCases) → CasesAsk d S L cs → PartsMeet d S (Table.parts laid path cs)
        parts_meet no_typed_cases h = tt
        parts_meet (and_typed_case c cs) h = part_meets c h.0 _ (parts_meet cs h.1)
