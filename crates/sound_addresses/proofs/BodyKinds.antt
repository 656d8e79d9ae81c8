-- The graphs of whole bodies keep kinds: calls store their arguments and go on in the body that is called, on the path
-- where the call leads.
use Rattle.std.proofs.Common.{◌≡◌, refl, sym, subst, ◌∙◌, ℕ, suc, ◌<◌, ◌≤◌, inl, inr, true, false, List}
use Rattle.std.proofs.Common.{[], ◌∷◌, ◌++◌, ap, arith, length, Option, Some, None, slice_get}
use Rattle.std.specs.Prelude.{All, Ok}
use Rattle.std.proofs.lemmas.Bool.{cases_lt}
use Rattle.std.proofs.lemmas.Option.{none-some}
use Rattle.std.proofs.lemmas.List.{get_or_past}
use Rattle.std.proofs.lemmas.List.Elements.{All-get_or}
use Rattle.operation_laws.specs.tm_terms.declared.places.Place.{Place}
use Rattle.operation_laws.specs.tm_terms.declared.refusals.Limit.TheVariants as Limits
use Rattle.operation_laws.specs.tm_typed.declared.types.CType.{CType}
use Rattle.operation_laws.specs.tm_typed.declared.types.CType.TheVariants as Types
use Rattle.operation_laws.specs.tm_typed.declared.scopes.ObjectNumber.TheVariants as Objects
use Rattle.operation_laws.specs.tm_typed.CallGraph.{calls_in}
use Rattle.operation_laws.specs.tm_typed.Functions.{TypedBodyTree}
use Rattle.operation_laws.specs.tm_typed.Files.{TypedFunctionTree, no_typed_function, TypedFileTree}
use Rattle.operation_laws.specs.tm_laid.Paths.{bodies_of}
use Rattle.operation_laws.specs.tm_laid.Layable.{IsLayable}
use Rattle.operation_laws.specs.tm_laid.declared.scales.Scale.{Scale}
use Rattle.operation_laws.specs.tm_laid.declared.scales.Scale.TheVariants as Scales
use Rattle.operation_laws.specs.tm_laid.Layouts.{LaidTree, layout_of, first_path, callee, object_of, is_exceeded}
use Rattle.operation_laws.specs.tm_laid.Layouts.{laid_out}
use Rattle.operation_laws.specs.cell_layout.Laws.{GoesOnBy}
use Rattle.operation_laws.proofs.low.cell_layout.PathCalls.{calls_lead}
use Rattle.operation_laws.specs.concrete_steps.Places.{result_type}
use Rattle.operation_laws.specs.concrete_steps.NextAction.{scalar_at, function_at}
use Rattle.operation_laws.specs.typed_file_laws.Mentions.{StatementsMention}
use Rattle.operation_laws.specs.typed_file_laws.TypedBodies.{IsBodyOf}
use Rattle.operation_laws.specs.typed_file_laws.Sites.{is_defined_object, function_of_file, is_defined_function}
use Rattle.operation_laws.specs.flow_graph.declared.graphs.Edge.{Edge}
use Rattle.operation_laws.specs.flow_graph.declared.operations.Into.TheVariants as Intos
use Rattle.operation_laws.specs.flow_graph.declared.operations.Operation.{Operation}
use Rattle.operation_laws.specs.flow_graph.declared.operations.Operation.TheVariants as Op
use Rattle.operation_laws.specs.flow_graph.Graphs.{Edges, Among}
use Rattle.operation_laws.specs.lowering.Table.{plans}
use Rattle.operation_laws.specs.lowering.Built.{Building, place, place_new}
use Rattle.operation_laws.specs.lowering.Built.{stores_piece}
use Rattle.operation_laws.specs.lowering.Built.{entry, built, graph_of}
use Rattle.operation_laws.specs.next_action_laws.Actions.{IsBodyPath}
use Rattle.operation_laws.proofs.low.next_action_laws.PathPlaces.{first_of}
use Rattle.operation_laws.proofs.BuiltSteps.{Known, known, Built}
use Rattle.operation_laws.proofs.BuiltBodies.{IsFree, Falls, Enters, graph_built}
use Rattle.sound_runs.specs.Addresses.{Kind, address_of, anything, HasKinds, KeepsKinds}
use Rattle.sound_addresses.proofs.StepKinds.{Calls, PlanFits, kinded}
use Rattle.sound_addresses.proofs.BuiltKinds.{KindsAre, AllFit, Leads, sayings, dull_placed, dull_given, gives_new}
use Rattle.sound_addresses.proofs.BuiltKinds.{kept}
use Rattle.sound_addresses.proofs.StatementKinds.{plans_fit}
use Rattle.sound_addresses.proofs.PathStages.{L, function_on, from_length, sizes, stage}

module _ (laid : LaidTree) (body : ℕ) where
  -- a function that ends without `return`
  falls_by : (t : CType) → Falls (kinded laid body) (sayings laid body) laid t (Some anything)
  falls_by (Types.Int t) = λ ss n. dull_given laid body ss _ anything refl (λ r. tt) (λ r. refl)
  falls_by (Types.Pointer q) = λ ss n. dull_given laid body ss _ anything refl (λ r. tt) (λ r. refl)
  falls_by _ = tt

  -- arguments
  stores_built : (path : ℕ) (pl : Place) (k : ℕ) (ts : List ℕ) (p : Known Kind) (ss : List Kind) (b : Building)
      → Leads laid body p (known ss b)
      → Built (kinded laid body) (sayings laid body) p (stores_piece laid path k ts pl b)
  stores_built path pl k [] p ss b f = record { natures = ss; leads = f }
  stores_built path pl k (t ∷ ts) p ss b f =
      let o : ℕ = object_of laid path (Objects.Local k) in
      let more : List Kind = ss ++ anything ∷ [] in
      let base : ℕ → Operation = λ x. Op.Base x o in
      let b1 : Building = place_new base b in
      let op : Operation = Op.Store b.temps t (scalar_at laid o 0) (Intos.Object o) pl in
      stores_built path pl (suc k) ts p more (place op b1)
      (dull_placed laid body p more b1 op tt refl
      (gives_new laid body p ss b base anything (dull_given laid body ss base anything refl (λ x. tt) (λ x. refl)) f).0)

  called : (o : Option Kind) (site : ℕ) (C : ℕ → Type 0) (ins : List Kind) → Calls C site ins o
      → C site × IsFree (kinded laid body) (sayings laid body) laid o
  called None site C ins h = (h, tt)
  called (Some (address_of n)) site C ins h = absurd (cc)
  called (Some anything) site C ins h = (h.0, tt)

  -- ## Kinds of all temporaries

  abbrev kind_by : Option Kind → Kind
  kind_by None = anything
  kind_by (Some k) = k

  kinds_are : (ks : List Kind) → KindsAre ks (λ t. kind_by (slice_get ks t))
  kinds_are ks t k e = ap kind_by e

  edges_keep : (ks : List Kind) (kinds : ℕ → Kind) → KindsAre ks kinds → (g : Edges) → AllFit laid body ks g
      → (e : Edge) → Among e g → KeepsKinds laid body kinds e.op
  edges_keep ks kinds are [] h e a = absurd a
  edges_keep ks kinds are (x ∷ g) h e (inl same) =
      subst (λ (z : Edge). KeepsKinds laid body kinds z.op) same (h.0 kinds are)
  edges_keep ks kinds are (x ∷ g) h e (inr more) = edges_keep ks kinds are g h.1 e more

  kinds_of : (ks : List Kind) (g : Edges) → AllFit laid body ks g → HasKinds laid body g
  kinds_of ks g h = record {
    kinds = λ t. kind_by (slice_get ks t);
    keeps = λ e a. edges_keep ks (λ t. kind_by (slice_get ks t)) (kinds_are ks) g h e a;
  }

module _ (file : TypedFileTree) (order : List ℕ) (h : IsLayable file order)
    (within : is_exceeded Scales.Large file Limits.Cells ≡ false) (body : ℕ)
    (formed : All (λ (f : TypedFunctionTree). IsBodyOf file f f.body) file.functions)
    (sites : (k : ℕ) (b : TypedBodyTree) → (function_of_file file k).body ≡ Some b
    → StatementsMention (is_defined_object file) (calls_in file.calls k) b.statements
    × All (λ g. is_defined_function file g ≡ true) (calls_in file.calls k)) where
  abbrev X : LaidTree
  X = L file order h within body

  abbrev on : ℕ → ℕ
  on path = function_on file order h within body path

  module _ (scale : Scale) (out : laid_out scale file ≡ Ok X) (few : length X.objects ≤ 4294967296) where
    -- the function is one of the file
    there : (f : ℕ) (b : TypedBodyTree) → (function_of_file file f).body ≡ Some b → f < length file.functions
    there f b e = elim (cases_lt f (length file.functions)) [
      | inl lt ↦ lt
      | inr ge ↦ absurd (none-some b
          (sym (ap (λ (x : TypedFunctionTree). x.body) (get_or_past file.functions f no_typed_function ge)) ∙ e))
    ]

    abbrev Call : ℕ → ℕ → Type 0
    Call path site = site < length (calls_in file.calls (on path))

    enters : (depth path : ℕ) → IsBodyPath X body path → (b : TypedBodyTree)
        → (function_of_file file (on path)).body ≡ Some b → (site : ℕ) (ins : List Kind) (o : Option Kind)
        → Calls (Call path) site ins o
        → Enters (kinded X body) (sayings X body) X (IsBodyPath X body) (λ path. Some anything) (callee X path site)
        ins o
    unfolding layout_of
    enters depth path u b e site ins o k =
        let c = called X body o site (Call path) ins k in
        let goes : GoesOnBy file (layout_of file) path site = calls_lead file order h path site u.within c.0 in
        record {
          on = record { within = goes.within; same = goes.body ∙ u.same };
          stores = λ p ss ts pl x f a. stores_built X body (callee X path site) pl 0 ts p ss x f;
          value = inl c.1;
        }

    fit : (depth path : ℕ) → IsBodyPath X body path → (b : TypedBodyTree)
        → (function_of_file file (on path)).body ≡ Some b
        → PlanFits X body (Call path) (plans X path b.statements)
    fit depth path u b e =
        let F : TypedFunctionTree = function_of_file file (on path) in
        let ok : IsBodyOf file F (Some b) =
        subst (λ (y : Option TypedBodyTree). IsBodyOf file F y) e
        (All-get_or (λ (y : TypedFunctionTree). IsBodyOf file y y.body) file.functions (on path) no_typed_function
        (there (on path) b e) formed) in
        plans_fit X body path b.locals (is_defined_object file) (calls_in file.calls (on path))
        (stage file order h within body scale out few path u b e) (sizes file order h within body path u b e)
        (from_length X) F.result b.statements ok (sites (on path) b e).0

    pub graph_kinds : body < length (bodies_of file) → HasKinds X body (graph_of X body)
    graph_kinds lt =
        let first = first_of file body lt in
        let u : IsBodyPath X body (first_path X body) = record { within = first.0; same = first.1 } in
        let y : Built (kinded X body) (sayings X body) (known [] entry) (built X body) =
        graph_built (kinded X body) (sayings X body) X (kept X body) (λ depth. IsBodyPath X body)
        (λ path. Calls (Call path)) (λ path. Some anything)
        (record {
          invalid = anything;
          gives = λ ss n. dull_given X body ss _ anything refl (λ r. tt) (λ r. refl);
          deepest = λ path u b e. tt;
          enters = enters;
          fit = fit;
          falls = λ path b e. falls_by X body (result_type X (function_at X path));
        }) (record { grows = λ t k e. e; each = refl; fit = tt; later = omega arith }) body u in
        let f : Leads X body (known [] entry) (known y.natures (built X body)) = y.leads in
        kinds_of X body y.natures (graph_of X body) f.fit
