-- A typed file that is laid out can be lowered.
use Rattle.std.proofs.Common.{◌≡◌, refl, sym, ap, subst, ◌∙◌, inl, inr, ℕ, zero, suc, ◌<◌, false, List, []}
use Rattle.std.proofs.Common.{◌∷◌, length, get_or}
use Rattle.std.specs.Prelude.{All, map, find, slice_get, Option, Some, None, Ok}
use Rattle.std.proofs.lemmas.Bool.{cases_lt}
use Rattle.std.proofs.lemmas.Option.{none-some, same_Some, slice_get_within, get_or_from_slice_get}
use Rattle.std.proofs.lemmas.List.{get_or_past}
use Rattle.std.proofs.lemmas.List.Elements.{All-get_or}
use Rattle.call_graph.specs.tm_terms.declared.refusals.Limit.{Limit}
use Rattle.call_graph.specs.tm_terms.declared.tokens.Name.{Name}
use Rattle.call_graph.specs.tm_trees.FileTrees.{ItemTree}
use Rattle.call_graph.specs.tm_typed.declared.files.LocalEntry.{LocalEntry}
use Rattle.call_graph.specs.tm_typed.Scopes.{Function}
use Rattle.call_graph.specs.tm_typed.CallGraph.{calls_in}
use Rattle.call_graph.specs.tm_typed.StatementRules.{in_body}
use Rattle.call_graph.specs.tm_typed.Functions.{TypedBodyTree}
use Rattle.call_graph.specs.tm_typed.Files.{TypedFunctionTree, no_typed_function, TypedFileTree, IsTyped}
use Rattle.call_graph.specs.tm_typed.WellTyped.{OnAnswer}
use Rattle.cell_layout.specs.tm_laid.declared.scales.Scale.{Scale}
use Rattle.cell_layout.specs.tm_laid.Paths.{bodies_of}
use Rattle.cell_layout.specs.tm_laid.TypeCells.{entry_of}
use Rattle.cell_layout.specs.tm_laid.Layouts.{LaidTree, layout_of, unless_beyond, is_exceeded, laid_limits, laid_out}
use Rattle.cell_layout.specs.tm_laid.Layouts.{path_at}
use Rattle.cell_layout.specs.tm_laid.Layouts.{callee}
use Rattle.cell_layout.specs.tm_laid.Layable.{IsLayable}
use Rattle.typed_file_laws.proofs.low.typing_laws.Steps.{from_answer}
use Rattle.typed_file_laws.specs.TypedBodies.{called, file_context, IsBodyOf}
use Rattle.typed_file_laws.specs.Mentions.{StatementsMention}
use Rattle.typed_file_laws.specs.Sites.{is_defined_object, function_of_file}
use Rattle.typed_file_laws.proofs.TypedBodies.{bodies_are_well_formed}
use Rattle.typed_file_laws.proofs.MentionFiles.{sites_stand}
use Rattle.cell_layout.specs.Laws.{GoesOnBy}
use Rattle.cell_layout.proofs.PathCalls.{calls_lead}
use Rattle.lowering.specs.concrete_steps.Places.{result_type}
use Rattle.lowering.specs.Table.{is_value_type}
use Rattle.lowering.specs.Lowerable.{IsBody, IsLowerable}
use Rattle.lowering_laws.specs.LaidFiles.{IsLaidFile}
use Rattle.lowering_laws.proofs.Placed.{IsPlacedIn, IsPlacedFunction}
use Rattle.lowering_laws.proofs.Founded.{file_layable, bodies_placed}
use Rattle.lowering_laws.proofs.PathNumbers.{first_below, callee_below}
use Rattle.lowering_laws.proofs.Operands.{AreCalled}
use Rattle.lowering_laws.proofs.Statements.{statements}

-- ## The layout of a file

abbrev IsLayout : TypedFileTree → LaidTree → Type 0
IsLayout file laid = layout_of file ≡ laid

unless_layout : (file : TypedFileTree) (o : Option Limit) → OnAnswer (IsLayout file) (unless_beyond file o)
unless_layout file None = refl
unless_layout file (Some l) = tt

pub is_layout : (scale : Scale) (file : TypedFileTree) (laid : LaidTree) → laid_out scale file ≡ Ok laid
    → layout_of file ≡ laid
is_layout scale file laid e =
    from_answer (IsLayout file) (laid_out scale file) laid
    (unless_layout file (find (is_exceeded scale file) laid_limits)) e

-- ## Calls

called_result : (fs : List TypedFunctionTree) (f : ℕ) (g : Function) → slice_get (map called fs) f ≡ Some g
    → (get_or fs f no_typed_function).result ≡ g.result
called_result [] f g e = absurd (none-some g e)
called_result (x ∷ xs) zero g e = ap (λ (y : Function). y.result) (same_Some (called x) g e)
called_result (x ∷ xs) (suc f) g e = called_result xs f g e

module _ (file : TypedFileTree) (order : List ℕ) (layable : IsLayable file order) (path : ℕ)
    (there : path < length (layout_of file).paths) where
  abbrev laid : LaidTree
  laid = layout_of file

  abbrev function' : ℕ
  function' = (path_at laid path).function

  abbrev calls : List ℕ
  calls = calls_in file.calls function'

  pub calls_stand : (locals : List LocalEntry) → AreCalled laid path (file_context file locals) calls
  unfolding layout_of
  calls_stand locals = record {
    call = λ site f g e q.
        let go : GoesOnBy file laid path site = calls_lead file order layable path site there
        (slice_get_within calls site f e) in
        let is : (path_at laid (callee laid path site)).function ≡ f =
        go.function ∙ get_or_from_slice_get calls site f 0 e in
        ap (λ (k : ℕ). is_value_type (entry_of file (get_or file.functions k no_typed_function).result).ctype) is
        ∙ ap (λ (n : ℕ). is_value_type (entry_of file n).ctype) (called_result file.functions f g q);
  }

  -- ## Bodies

  Mentioned : Option TypedBodyTree → Type 0
  Mentioned None = Unit {0}
  Mentioned (Some body) = StatementsMention (is_defined_object file) calls body.statements

  body_lowerable : (x : TypedFunctionTree) (body : Option TypedBodyTree) → IsBodyOf file x body → IsPlacedIn body
      → Mentioned body → IsBody laid path (is_value_type (result_type laid x)) body
  unfolding layout_of Mentioned
  body_lowerable x None h p m = tt
  body_lowerable x (Some body) h p m =
      statements laid path (file_context file body.locals) x.result (is_defined_object file) calls
      (calls_stand body.locals) (in_body p.result) false false refl refl body.statements h m p.jumps p.labels p.firsts

  abbrev IsLowerableBody : TypedFunctionTree → Type 0
  IsLowerableBody x = IsBody laid path (is_value_type (result_type laid x)) x.body

  mentioned : (body : Option TypedBodyTree) → ((b : TypedBodyTree) → body ≡ Some b
      → StatementsMention (is_defined_object file) calls b.statements) → Mentioned body
  unfolding Mentioned
  mentioned None f = tt
  mentioned (Some body) f = f body refl

  pub path_lowerable : All (λ f. IsBodyOf file f f.body) file.functions → All IsPlacedFunction file.functions
      → ((b : TypedBodyTree) → (function_of_file file function').body ≡ Some b
      → StatementsMention (is_defined_object file) calls b.statements)
      → IsLowerableBody (get_or file.functions function' no_typed_function)
  path_lowerable h p m = elim (cases_lt function' (length file.functions)) [
    | inl l ↦
        let x : TypedFunctionTree = get_or file.functions function' no_typed_function in
        body_lowerable x x.body
        (All-get_or (λ (f : TypedFunctionTree). IsBodyOf file f f.body) file.functions function' no_typed_function l h)
        (All-get_or IsPlacedFunction file.functions function' no_typed_function l p)
        (mentioned x.body m)
    | inr past ↦ subst IsLowerableBody (sym (get_or_past file.functions function' no_typed_function past)) tt
  ]

-- ## Files

layout_lowerable : (main : Option Name) (items : List ItemTree) (file : TypedFileTree) → IsTyped main items (Ok file)
    → 0 < length (bodies_of file) → IsLowerable (layout_of file)
unfolding layout_of
layout_lowerable main items file e some =
    let o = file_layable main items file e in record {
      first = first_below file some;
      inside = callee_below file some;
      bodies = λ path there.
          path_lowerable file o.0 o.1 path there (bodies_are_well_formed main items file e)
          (bodies_placed main items file e)
          (λ b q. (sites_stand main items file e (path_at (layout_of file) path).function b q).0);
    }

layout_with_bodies : (main : Option Name) (items : List ItemTree) (file : TypedFileTree) → IsTyped main items (Ok file)
    → 0 < length (layout_of file).bodies → IsLowerable (layout_of file)
unfolding layout_of
layout_with_bodies main items file e some = layout_lowerable main items file e some

pub lowerable : (laid : LaidTree) → IsLaidFile laid → 0 < length laid.bodies → IsLowerable laid
lowerable laid h =
    subst (λ (x : LaidTree). 0 < length x.bodies → IsLowerable x) (is_layout h.scale h.file laid h.answered)
    (layout_with_bodies h.main h.items h.file h.typed)
