-- Whole bodies have sorts: calls store their arguments and go on in the body that is called, on the path where the call
-- leads.
use Rattle.std.proofs.Common.{◌≡◌, refl, ap, sym, subst, ◌∙◌, ℕ, suc, ◌+◌, ◌<◌, ◌≤◌, inl, inr, true, false}
use Rattle.std.proofs.Common.{List, [], ◌∷◌, ◌++◌, length, map, get_or, Option, Some, None, slice_get, arith}
use Rattle.std.specs.Prelude.{is_some, option_map, All, Contains}
use Rattle.std.proofs.lemmas.Bool.{false≢true, cases_lt}
use Rattle.std.proofs.lemmas.Option.{none-some, same_Some, slice_get-get_or, slice_get-map, slice_get_within}
use Rattle.std.proofs.lemmas.Option.{get_or_from_slice_get}
use Rattle.std.proofs.lemmas.List.{get_or_past}
use Rattle.std.proofs.lemmas.List.Elements.{All-get_or, All-contains}
use Rattle.temporary_types.specs.tm_terms.declared.places.Place.{Place}
use Rattle.temporary_types.specs.tm_terms.declared.refusals.Limit.TheVariants as Limits
use Rattle.temporary_types.specs.tm_typed.declared.types.CType.{CType}
use Rattle.temporary_types.specs.tm_typed.declared.types.CType.TheVariants as Types
use Rattle.temporary_types.specs.tm_typed.declared.types.Scalar.{Scalar}
use Rattle.temporary_types.specs.tm_typed.declared.scopes.ObjectNumber.{ObjectNumber}
use Rattle.temporary_types.specs.tm_typed.declared.scopes.ObjectNumber.TheVariants as Objects
use Rattle.temporary_types.specs.tm_typed.declared.files.LocalEntry.{LocalEntry}
use Rattle.temporary_types.specs.tm_typed.Scopes.{Scope, Function, ctype_of}
use Rattle.temporary_types.specs.tm_typed.CallGraph.{calls_in}
use Rattle.temporary_types.specs.tm_typed.Functions.{TypedBodyTree}
use Rattle.temporary_types.specs.tm_typed.Files.{TypedFunctionTree, no_typed_function, TypedFileTree}
use Rattle.temporary_types.specs.tm_laid.Paths.{bodies_of, locals_in, locals_of, paths_of}
use Rattle.temporary_types.specs.tm_laid.Layable.{IsLayable}
use Rattle.temporary_types.specs.tm_laid.Layouts.{LaidTree, layout_along, layout_of, path_at, first_path, callee}
use Rattle.temporary_types.specs.tm_laid.Layouts.{object_of}
use Rattle.temporary_types.specs.tm_laid.declared.scales.Scale.TheVariants as Scales
use Rattle.temporary_types.specs.tm_laid.Layouts.{is_exceeded}
use Rattle.next_action_laws.specs.cell_layout.Laws.{GoesOnBy}
use Rattle.next_action_laws.proofs.low.cell_layout.PathCalls.{calls_lead}
use Rattle.next_action_laws.specs.concrete_steps.Places.{result_type}
use Rattle.next_action_laws.specs.concrete_steps.NextAction.{scalar_at}
use Rattle.next_action_laws.specs.typed_file_laws.Lawful.{object_type}
use Rattle.next_action_laws.specs.typed_file_laws.Mentions.{StatementsMention}
use Rattle.next_action_laws.specs.typed_file_laws.TypedBodies.{called, file_context, IsBodyOf}
use Rattle.next_action_laws.specs.typed_file_laws.Sites.{is_defined_object, function_of_file, is_defined_function}
use Rattle.temporary_types.specs.flow_graph.declared.operations.Into.TheVariants as Intos
use Rattle.temporary_types.specs.flow_graph.declared.operations.Operation.{Operation}
use Rattle.temporary_types.specs.flow_graph.declared.operations.Operation.TheVariants as Op
use Rattle.temporary_types.specs.Sorts.{Sort, pointers, sort_of_scalar, Within, AreSorts}
use Rattle.temporary_types.specs.Settled.{AreSettled}
use Rattle.lowering_laws.specs.lowering.Table.{plans}
use Rattle.lowering_laws.specs.lowering.Built.{Building, place, place_new}
use Rattle.lowering_laws.specs.lowering.Built.{stores_piece}
use Rattle.lowering_laws.specs.lowering.Built.{entry, built, graph_of}
use Rattle.next_action_laws.specs.Actions.{IsBodyPath, IsCell, IsPlace}
use Rattle.next_action_laws.specs.Regular.{HasScalar, AreParameters, AreRegularBodies}
use Rattle.next_action_laws.proofs.GivenValues.{low_in, high_in}
use Rattle.next_action_laws.proofs.PathPlaces.{first_of, depth_of, depth_falls, depth_below}
use Rattle.next_action_laws.proofs.WholeBodies.{local_place, static_place, scalar_there, given_there}
use Rattle.lowering_laws.proofs.Lowered.{calls_stand}
use Rattle.operation_laws.proofs.Growing.{grows_same, grows_end}
use Rattle.operation_laws.proofs.Following.{Follows, none_follows}
use Rattle.operation_laws.proofs.Settling.{none_settles}
use Rattle.operation_laws.proofs.StepSorts.{sorted, PlanFits}
use Rattle.operation_laws.proofs.BuiltSteps.{Known, known, AreTemps, temps_by, Built}
use Rattle.operation_laws.proofs.BuiltBodies.{Falls, Enters, AreBodies, graph_built}
use Rattle.operation_laws.proofs.BuiltSorts.{Leads, sayings, all_listed, again, gives_new, kept}
use Rattle.operation_laws.proofs.ExpressionSorts.{IsNamed, AreGiven, result_sort, IsStage}
use Rattle.operation_laws.proofs.StatementSorts.{plans_fit}

-- nothing is built yet
none_built : (laid : LaidTree) → Leads laid (known [] entry) (known [] entry)
none_built laid = record {
  grows = grows_same [];
  each = refl;
  fit = tt;
  follows = none_follows;
  settles = none_settles;
  later = omega arith;
  kept = λ t lt n. n;
}

-- a function that ends without `return`
falls_by : (laid : LaidTree) (t : CType) → Falls (sorted laid) (sayings laid) laid t (result_sort t)
falls_by laid (Types.Int t) = λ ss n r.
    record { given = refl; works = tt; gives = (low_in t, high_in t); sources = λ u e. absurd (none-some u e) }
falls_by laid (Types.Pointer q) = λ ss n r.
    record { given = refl; works = tt; gives = tt; sources = λ u e. absurd (none-some u e) }
falls_by laid _ = tt

module _ (file : TypedFileTree) (order : List ℕ) (h : IsLayable file order)
    (within : is_exceeded Scales.Large file Limits.Cells ≡ false) (body : ℕ) (few : length file.mutexes ≤ 16)
    (formed : All (λ (f : TypedFunctionTree). IsBodyOf file f f.body) file.functions)
    (sites : (k : ℕ) (b : TypedBodyTree) → (function_of_file file k).body ≡ Some b
    → StatementsMention (is_defined_object file) (calls_in file.calls k) b.statements
    × All (λ g. is_defined_function file g ≡ true) (calls_in file.calls k)) (regular : AreRegularBodies file) where
  abbrev pub L : LaidTree
  L = layout_along file (paths_of file)

  abbrev function_on : ℕ → ℕ
  function_on path = (path_at L path).function

  abbrev scope : Scope
  scope = (file_context file []).scope

  -- the function is one of the file
  there : (f : ℕ) (b : TypedBodyTree) → (function_of_file file f).body ≡ Some b → f < length file.functions
  there f b e = elim (cases_lt f (length file.functions)) [
    | inl lt ↦ lt
    | inr ge ↦ absurd (none-some b
        (sym (ap (λ (x : TypedFunctionTree). x.body) (get_or_past file.functions f no_typed_function ge)) ∙ e))
  ]

  -- what a call at a site takes and gives
  abbrev Call : ℕ → ℕ → List Sort → Option Sort → Type 0
  Call path site ins o = (f : ℕ) × (g : Function) × (slice_get (calls_in file.calls (function_on path)) site ≡ Some f)
      × (slice_get (map called file.functions) f ≡ Some g) × AreGiven scope g.parameters ins
      × (o ≡ result_sort (ctype_of scope g.result))

  -- ## Arguments

  stores_built : (c : ℕ) → IsBodyPath L body c → (pl : Place) (k : ℕ) (ns : List ℕ) (ls : List LocalEntry)
      (ins : List Sort) (ts : List ℕ)
      → ((i : ℕ) (l : LocalEntry) → slice_get ls i ≡ Some l
      → slice_get (locals_of file (function_on c)) (k + i) ≡ Some l)
      → AreParameters scope ns ls → AreGiven scope ns ins → (p : Known Sort) (ss : List Sort) (b : Building)
      → Leads L p (known ss b) → AreTemps (sorted L) (sayings L) ss p.temps ts ins
      → Built (sorted L) (sayings L) p (stores_piece L c k ts pl b)
  stores_built c u pl k ns ls [] [] at' q g p ss b f a = record { natures = ss; leads = f }
  stores_built c u pl k ns ls [] (t ∷ ts) at' q g p ss b f a = absurd a
  stores_built c u pl k ns ls (s ∷ ins) [] at' q g p ss b f a = absurd a
  stores_built c u pl k [] ls (s ∷ ins) (t ∷ ts) at' q g p ss b f a = absurd g
  stores_built c u pl k (n ∷ ns) [] (s ∷ ins) (t ∷ ts) at' q g p ss b f a = absurd q
  stores_built c u pl k (n ∷ ns) (l ∷ ls) (s ∷ ins) (t ∷ ts) at' q g p ss b f a =
      let o : ℕ = object_of L c (Objects.Local k) in
      let z : k + 0 ≡ k = omega arith in
      let is : slice_get (locals_of file (function_on c)) k ≡ Some l =
      ap (slice_get (locals_of file (function_on c))) (sym z) ∙ at' 0 l refl in
      let place' : IsPlace L body o 0 l.of.number =
      (local_place file order h within body c u k l.of.number
      (ap (option_map (λ (y : LocalEntry). y.of.number)) is)).0 in
      let cell : IsCell L body o 0 g.0 = scalar_there file order h within body o 0 l.of.number g.0 place' (q.0 ∙ g.1) in
      let more : List Sort = ss ++ pointers ∷ [] in
      let b1 : Building = place_new (λ x. Op.Base x o) b in
      let x = gives_new L p ss b (λ x. Op.Base x o) pointers (λ x. record {
        given = refl;
        works = place'.object;
        gives = tt;
        sources = λ y e. absurd (none-some y e);
      }) f in
      let op : Operation = Op.Store b.temps t (scalar_at L o 0) (Intos.Object o) pl in
      let fits : Within s (sort_of_scalar (scalar_at L o 0)) =
      subst (λ (x : Scalar). Within s (sort_of_scalar x)) (sym cell.scalar) g.2 in
      let f2 : Leads L p (known more (place op b1)) =
      again L p more b1 op x.0
      (((pointers, x.1.sort, tt), (s, grows_end ss pointers t s a.0.0, fits), place'.object), tt)
      (λ t' e. absurd (none-some t' e)) (λ t' e. absurd (none-some t' e)) in
      stores_built c u pl (suc k) ns ls ins ts
      (λ i y e. let x : k + suc i ≡ suc k + i = omega arith in ap (slice_get (locals_of file (function_on c))) (sym x)
      ∙ at' (suc i) y e) q.1 g.3 p more (place op b1) f2
      (temps_by (sorted L) (sayings L) ss more p.temps p.temps (λ t' v e. (grows_end ss pointers t' v e.0, e.1)) ts ins
      a.1)

  -- ## Bodies on their paths

  abbrev result_on : ℕ → Option Sort
  result_on path = result_sort (result_type L (function_of_file file (function_on path)))

  -- a path of the body, whose calls are so deep
  abbrev On : ℕ → ℕ → Type 0
  On depth path = IsBodyPath L body path × ((b : TypedBodyTree)
      → (function_of_file file (function_on path)).body ≡ Some b → depth_of file order (function_on path) < depth)

  enters : (depth path : ℕ) → On (suc depth) path → (b : TypedBodyTree)
      → (function_of_file file (function_on path)).body ≡ Some b → (site : ℕ) (ins : List Sort) (o : Option Sort)
      → Call path site ins o → Enters (sorted L) (sayings L) L (On depth) result_on (callee L path site) ins o
  unfolding layout_of
  enters depth path u b e site ins o k =
      let calls : List ℕ = calls_in file.calls (function_on path) in
      let f : ℕ = k.0 in
      let lt : site < length calls = slice_get_within calls site f k.2 in
      let c : ℕ = callee L path site in
      let goes : GoesOnBy file (layout_of file) path site = calls_lead file order h path site u.0.within lt in
      let is : function_on c ≡ f = goes.function ∙ get_or_from_slice_get calls site f 0 k.2 in
      let own : IsBodyPath L body c = record { within = goes.within; same = goes.body ∙ u.0.same } in
      let has : Contains calls f = (site, lt, contained) in
      let defined : is_defined_function file f ≡ true =
      All-contains (λ y. is_defined_function file y ≡ true) calls f (sites (function_on path) b e).1 has in
      by_body (function_of_file file f).body refl defined c is own has
    where
      contained : get_or (calls_in file.calls (function_on path)) site k.0 ≡ k.0
      contained = get_or_from_slice_get (calls_in file.calls (function_on path)) site k.0 k.0 k.2

      by_body : (m : Option TypedBodyTree) → (function_of_file file k.0).body ≡ m → is_some m ≡ true → (c : ℕ)
          → function_on c ≡ k.0 → IsBodyPath L body c → Contains (calls_in file.calls (function_on path)) k.0
          → Enters (sorted L) (sayings L) L (On depth) result_on c ins o
      by_body None q d c is own has = absurd (false≢true d)
      by_body (Some b') q d c is own has =
          let f : ℕ = k.0 in
          let g : Function = k.1 in
          let F : TypedFunctionTree = function_of_file file f in
          let lf = there f b' q in
          let same : called F ≡ g =
          same_Some (called F) g (sym
          (slice_get-map called file.functions f
          ∙ ap (option_map called) (slice_get-get_or file.functions f no_typed_function lf)) ∙ k.3) in
          let falls = depth_falls file order h (function_on path) f lf has in
          let deep : depth_of file order (function_on path) < suc depth = u.1 b e in
          let r = regular f b' q in
          let own_locals : locals_of file (function_on c) ≡ b'.locals = ap (λ y. locals_of file y) is
          ∙ ap locals_in q in
          let gives : result_on c ≡ o =
          ap (λ z. result_sort (result_type L (function_of_file file z))) is
          ∙ (ap (λ (z : Function). result_sort (ctype_of scope z.result)) same ∙ sym k.5) in
          record {
            on = (own, λ d' e'. subst (λ z. depth_of file order z < depth) (sym is) (omega (arith, falls, deep)));
            stores = λ p ss ts pl x l a. stores_built c own pl 0 g.parameters b'.locals ins ts
                (λ i y z. let w : 0 + i ≡ i = omega arith in ap (slice_get (locals_of file (function_on c))) w
                ∙ ap (λ ls. slice_get ls i) own_locals ∙ z)
                (subst (λ (y : Function). AreParameters scope y.parameters b'.locals) same r.parameters) k.4 p ss x l a;
            value = inr (b', ap (λ z. (function_of_file file z).body) is ∙ q, gives);
          }

  -- what is known on a path
  locals_are : (path : ℕ) (b : TypedBodyTree) → (function_of_file file (function_on path)).body ≡ Some b → (k : ℕ)
      → option_map (λ (o : LocalEntry). o.of.number) (slice_get (locals_of file (function_on path)) k)
      ≡ option_map (λ (o : LocalEntry). o.of.number) (slice_get b.locals k)
  locals_are path b e k = ap (λ x. option_map (λ (o : LocalEntry). o.of.number) (slice_get (locals_in x) k)) e

  stage : (path : ℕ) → IsBodyPath L body path → (b : TypedBodyTree)
      → (function_of_file file (function_on path)).body ≡ Some b
      → IsStage L path b.locals (is_defined_object file) (calls_in file.calls (function_on path)) (Call path)
  unfolding layout_of
  stage path u b e = record {
    objects = named;
    few = few;
    called = calls_stand file order h path u.within b.locals;
    takes = λ site f g ins s k a. (f, g, s, k, a, refl);
  }
    where
      named : (x : ObjectNumber) (n : ℕ) → object_type file.statics b.locals x ≡ Some n
          → IsNamed (is_defined_object file) x → object_of L path x < length L.objects
      named (Objects.Static k) n q d =
          let y : IsPlace L body (object_of L path (Objects.Static k)) 0 n =
          static_place file order h within body k n q d path in
          y.object
      named (Objects.Local k) n q d =
          let y : IsPlace L body (object_of L path (Objects.Local k)) 0 n =
          (local_place file order h within body path u k n (locals_are path b e k ∙ q)).0 in
          y.object

  cells : (path : ℕ) → IsBodyPath L body path → (b : TypedBodyTree)
      → (function_of_file file (function_on path)).body ≡ Some b → (x n c : ℕ) (s : Scalar)
      → object_type file.statics b.locals (Objects.Local x) ≡ Some n → HasScalar scope n c s
      → scalar_at L (object_of L path (Objects.Local x)) c ≡ s
  cells path u b e x n c s q hs =
      let y : IsCell L body (object_of L path (Objects.Local x)) c s =
      given_there file order h within body (object_of L path (Objects.Local x)) n c s
      (local_place file order h within body path u x n (locals_are path b e x ∙ q)).0 hs in
      y.scalar

  fit : (depth path : ℕ) → On (suc depth) path → (b : TypedBodyTree)
      → (function_of_file file (function_on path)).body ≡ Some b
      → PlanFits L (Call path) (result_on path) (plans L path b.statements)
  fit depth path u b e =
      let fn : ℕ = function_on path in
      let F : TypedFunctionTree = function_of_file file fn in
      let ok : IsBodyOf file F (Some b) =
      subst (λ (y : Option TypedBodyTree). IsBodyOf file F y) e
      (All-get_or (λ (y : TypedFunctionTree). IsBodyOf file y y.body) file.functions fn no_typed_function
      (there fn b e) formed) in
      plans_fit L path b.locals (is_defined_object file) (calls_in file.calls fn) (Call path) (stage path u.0 b e)
      (cells path u.0 b e) F.result false false b.statements ok (sites fn b e).0 (regular fn b e).statements

  bodies : AreBodies (sorted L) (sayings L) L On Call result_on
  bodies = record {
    invalid = pointers;
    gives = λ ss n r. record { given = refl; works = tt; gives = tt; sources = λ u e. absurd (none-some u e) };
    deepest = λ path u b e. let lt = u.1 b e in absurd (omega (arith, lt));
    enters = enters;
    fit = fit;
    falls = λ path b e. falls_by L (result_type L (function_of_file file (function_on path)));
  }

  pub graph_sorts : body < length (bodies_of file)
      → (sorts : List Sort) × (length sorts ≡ (built L body).temps) × AreSorts L sorts (graph_of L body)
      × Follows (built L body).temps (graph_of L body) × AreSettled (graph_of L body)
  graph_sorts lt =
      let first = first_of file body lt in
      let path : ℕ = first_path L body in
      let u : IsBodyPath L body path = record { within = first.0; same = first.1 } in
      let y : Built (sorted L) (sayings L) (known [] entry) (built L body) =
      graph_built (sorted L) (sayings L) L (kept L) On Call result_on bodies (none_built L) body
      (u, λ b e. depth_below file order (function_on path) (there (function_on path) b e)) in
      let f : Leads L (known [] entry) (known y.natures (built L body)) = y.leads in
      (y.natures, f.each, all_listed L y.natures (graph_of L body) f.fit, f.follows, f.settles.settled)
