-- What is asked of operations holds of each edge of the graphs of a file that is typed and laid out.
use Rattle.std.proofs.Common.{◌≡◌, sym, ap, subst, ◌∙◌, inl, inr, ℕ, ◌<◌, List, length}
use Rattle.std.specs.Prelude.{ℤ, All, slice_get, option_map, Option, Some}
use Rattle.std.proofs.lemmas.Bool.{cases_lt}
use Rattle.std.proofs.lemmas.Option.{none-some, slice_get_within}
use Rattle.std.proofs.lemmas.List.{get_or_past}
use Rattle.std.proofs.lemmas.List.Elements.{All-get_or}
use Rattle.call_graph.specs.tm_cint.declared.int_types.IntType.{IntType}
use Rattle.call_graph.specs.tm_typed.declared.expressions.Unary.{Unary}
use Rattle.call_graph.specs.tm_typed.declared.scopes.ObjectNumber.TheVariants.{Local}
use Rattle.call_graph.specs.tm_typed.declared.files.LocalEntry.{LocalEntry}
use Rattle.call_graph.specs.tm_typed.CallGraph.{calls_in}
use Rattle.call_graph.specs.tm_typed.Functions.{TypedBodyTree}
use Rattle.call_graph.specs.tm_typed.Files.{TypedFunctionTree, no_typed_function, TypedFileTree}
use Rattle.cell_layout.specs.tm_laid.Paths.{locals_in, locals_of}
use Rattle.cell_layout.specs.tm_laid.Layouts.{LaidTree, first_path, callee, object_of, path_at, layout_of}
use Rattle.lowering.specs.concrete_steps.NextAction.{function_at}
use Rattle.lowering.specs.flow_graph.declared.graphs.Edge.{Edge}
use Rattle.lowering.specs.flow_graph.Graphs.{Among}
use Rattle.lowering.specs.Built.{graph_of}
use Rattle.lowering.proofs.Demands.{Demands, Meets, AreUsual, StatementsAsk}
use Rattle.lowering.proofs.GraphDemands.{graph_meets}
use Rattle.typed_file_laws.specs.Lawful.{IsNumber}
use Rattle.typed_file_laws.specs.Mentions.{WorksIn, StatementsMention}
use Rattle.typed_file_laws.specs.Sites.{is_defined_object, function_of_file}
use Rattle.typed_file_laws.specs.TypedBodies.{file_context, IsBodyOf}
use Rattle.typed_file_laws.proofs.MentionFiles.{sites_stand}
use Rattle.typed_file_laws.proofs.TypedBodies.{bodies_are_well_formed}
use Rattle.lowering_laws.specs.LaidFiles.{IsLaidFile}
use Rattle.lowering_laws.proofs.Placed.{IsPlacedIn, IsPlacedBody, IsPlacedFunction}
use Rattle.lowering_laws.proofs.Founded.{bodies_placed}
use Rattle.lowering_laws.proofs.Lowered.{is_layout}
use Rattle.lowering_laws.proofs.TypedDemands.{statements_asked}

-- the number of the type of a local object of a call path
abbrev pub local_type : LaidTree → ℕ → ℕ → Option ℕ
local_type laid path k = option_map (λ (o : LocalEntry). o.of.number)
    (slice_get (locals_of laid.file (path_at laid path).function) k)

abbrev pub calls_of : LaidTree → ℕ → List ℕ
calls_of laid path = calls_in laid.file.calls (path_at laid path).function

-- What is asked holds of what typing lets through on these call paths, which lead to each other by calls.
pub record HoldsOn (laid : LaidTree) (d : Demands) (On : ℕ → Type 0) : Type 0 where
  pub unary : (o : Unary) (t : IntType) → WorksIn o t → d.unary o t
  pub label : (z : ℤ) → IsNumber z → d.label z
  pub mutex : (m : ℕ) → m < length laid.file.mutexes → d.mutex m
  pub goes : (path site : ℕ) → On path → site < length (calls_of laid path) → On (callee laid path site)
  pub local : (path k n : ℕ) → On path → local_type laid path k ≡ Some n → d.clears (object_of laid path (Local k))

-- what typing has seen to in the functions of a file
record AreSeenTo (file : TypedFileTree) : Type 0 where
  typed : All (λ f. IsBodyOf file f f.body) file.functions
  placed : All IsPlacedFunction file.functions
  sites : (k : ℕ) (b : TypedBodyTree) → (function_of_file file k).body ≡ Some b
      → StatementsMention (is_defined_object file) (calls_in file.calls k) b.statements

layout_file : (file : TypedFileTree) (laid : LaidTree) → layout_of file ≡ laid → file ≡ laid.file
unfolding layout_of
layout_file file laid e = ap (λ (x : LaidTree). x.file) e

pub file_is : (laid : LaidTree) (h : IsLaidFile laid) → h.file ≡ laid.file
file_is laid h = layout_file h.file laid (is_layout h.scale h.file laid h.answered)

seen_to : (laid : LaidTree) → IsLaidFile laid → AreSeenTo laid.file
seen_to laid h = subst AreSeenTo (file_is laid h) (record {
  typed = bodies_are_well_formed h.main h.items h.file h.typed;
  placed = bodies_placed h.main h.items h.file h.typed;
  sites = λ k b q. (sites_stand h.main h.items h.file h.typed k b q).0;
})

module _ (laid : LaidTree) (seen : AreSeenTo laid.file) (d : Demands) (On : ℕ → Type 0) (on : HoldsOn laid d On) where
  abbrev IsSite : ℕ → ℕ → Type 0
  IsSite path site = site < length (calls_of laid path)

  abbrev IsLocal : ℕ → ℕ → Type 0
  IsLocal path k = (n : ℕ) × (local_type laid path k ≡ Some n)

  -- a function with a body is one of the file
  there : (f : ℕ) (b : TypedBodyTree) → (function_of_file laid.file f).body ≡ Some b → f < length laid.file.functions
  there f b e = elim (cases_lt f (length laid.file.functions)) [
    | inl l ↦ l
    | inr past ↦ absurd (none-some b (sym (ap (λ (y : TypedFunctionTree). y.body)
        (get_or_past laid.file.functions f no_typed_function past)) ∙ e))
  ]

  bodies_ask : (path : ℕ) → On path → (b : TypedBodyTree) → (function_at laid path).body ≡ Some b
      → StatementsAsk d (IsSite path) (IsLocal path) b.statements
  bodies_ask path is b e =
      let f : ℕ = (path_at laid path).function in
      let x : TypedFunctionTree = function_of_file laid.file f in
      let typed : IsBodyOf laid.file x (Some b) = subst (IsBodyOf laid.file x) e
      (All-get_or (λ (y : TypedFunctionTree). IsBodyOf laid.file y y.body) laid.file.functions f no_typed_function
      (there f b e) seen.typed) in
      let placed : IsPlacedBody b = subst IsPlacedIn e
      (All-get_or IsPlacedFunction laid.file.functions f no_typed_function (there f b e) seen.placed) in
      statements_asked d (IsSite path) (IsLocal path) (file_context laid.file b.locals) (is_defined_object laid.file)
      (calls_of laid path)
      (record {
        unary = on.unary;
        label = on.label;
        mutex = on.mutex;
        site = λ s g q. slice_get_within (calls_of laid path) s g q;
        local = λ k n q.
            (n, ap (λ z. option_map (λ (o : LocalEntry). o.of.number) (slice_get (locals_in z) k)) e ∙ q);
      })
      x.result b.statements typed (seen.sites f b e) placed.labels placed.firsts

-- The law of induction: what usually holds, and of what typing lets through, holds of each edge.
pub edges_meet : (laid : LaidTree) → IsLaidFile laid → (d : Demands) → AreUsual d → (On : ℕ → Type 0)
    → HoldsOn laid d On → (body : ℕ) → On (first_path laid body) → (e : Edge) → Among e (graph_of laid body)
    → Meets d e.op
edges_meet laid h d usual On on body first e a =
    let seen : AreSeenTo laid.file = seen_to laid h in
    graph_meets d usual laid On (λ path site. site < length (calls_of laid path))
    (λ path k. (n : ℕ) × (local_type laid path k ≡ Some n)) on.goes (λ path k is l. on.local path k l.0 is l.1)
    (λ path is b q. bodies_ask laid seen d On on path is b q) body first e a
