-- What is known behind each station of a source.
use Rattle.std.specs.Prelude.{◌≡◌, ℕ, ◌<◌, ◌≤◌, ◌^◌, List, [], length, All, Option, Some, None, IfOk, IfSome}
use Rattle.std.specs.Prelude.{Result, Ok, Err}
use Rattle.std.specs.declared.alloc.Global.{Global}
use Rattle.std.proofs.Common.{refl, sym, ap, subst, ◌∙◌, arith}
use Rattle.tm_terms.specs.declared.refusals.Fail.{Fail}
use Rattle.tm_terms.specs.declared.refusals.Fail.TheVariants as Fails
use Rattle.tm_terms.specs.declared.refusals.Limit.{Limit}
use Rattle.tm_terms.specs.declared.refusals.Refusal.{Refusal}
use Rattle.tm_terms.specs.declared.tokens.Name.{Name}
use Rattle.tm_terms.specs.declared.tokens.Token.{Token}
use Rattle.tm_terms.specs.Limits.{most_bytes}
use Rattle.tm_terms.specs.Spelling.{answer_of as lexed_answer}
use Rattle.tm_trees.specs.FileTrees.{ItemTree}
use Rattle.tm_trees.specs.Parsing.{Parses}
use Rattle.tm_trees.specs.Parsing.{answer_of as parsed_answer}
use Rattle.tm_laid.specs.tm_typed.declared.files.TypedFile.{TypedFile}
use Rattle.tm_laid.specs.tm_typed.Files.{TypedFileTree, IsTyped}
use Rattle.tm_laid.specs.tm_typed.TypedFiles.{typed_file_tree}
use Rattle.tm_laid.specs.declared.layouts.Laid.{Laid}
use Rattle.tm_laid.specs.declared.scales.Scale.{Scale}
use Rattle.tm_laid.specs.declared.scales.Scale.TheVariants as Scales
use Rattle.tm_laid.specs.Layable.{IsLayable}
use Rattle.tm_laid.specs.Layouts.{LaidTree, laid_tree, layout_of, unless_beyond, laid_out}
use Rattle.tm_laid.specs.Layouts.{answer_of as laid_answer}
use Rattle.c_typing.specs.call_graph.Graphs.{lists}
use Rattle.c_typing.specs.call_graph.Orders.{IsWholeOrder}
use Rattle.program_graphs.proofs.low.typed_file_laws.Layable.{comes, are_layable}
use Rattle.c_typing.specs.Views.{answer_of as typed_answer}
use Rattle.program_graphs.specs.lowering_laws.LaidFiles.{IsLaidFile}
use Rattle.mutex_configs.specs.declared.programs.Program.{Program}
use Rattle.program_graphs.specs.Prepared.{answer_of, IsPrepared}
use Rattle.thresholds.specs.Thresholds.{numbers_of, AreThresholds}
use Rattle.program_laws.specs.program_equations.Programs.{ProgramBodies, IsProgramOf}
use Rattle.source_programs.specs.LaidSources.{longest_on, LexesOn, main_in, TypesAs, IsLaidSourceOn}
use Rattle.source_programs.specs.Sources.{IsAcceptedOn, IsRefusedOn}
use Rattle.source_programs.specs.Sources.{IfRefused, source_limit}
use Rattle.source_programs.specs.Sources.{too_long, not_lexed, not_parsed, not_typed, not_laid, not_prepared}

-- ## Lengths

-- no scale allows more bytes than the lexis reads
pub short_enough : (scale : Scale) (n : ℕ) → n ≤ longest_on scale → n ≤ most_bytes
short_enough Scales.Usual n short = omega (arith, short)
short_enough Scales.Large n short = omega (arith, short)

-- ## Refusals of stations

-- a source that is too long
pub long_refused : (scale : Scale) (bytes : List ℕ) → longest_on scale < length bytes → (fail : Fail)
    → fail ≡ Fails.Refused source_limit → IfRefused {A = Program} (Err fail) (IsRefusedOn scale bytes)
long_refused scale bytes long fail e =
    subst (λ (f : Fail). IfRefused {A = Program} (Err f) (IsRefusedOn scale bytes)) (sym e) (too_long long)

module _ (scale : Scale) (bytes : List ℕ) (short : length bytes ≤ longest_on scale) where
  pub lexing_refused : (fail : Fail) → IfSome (lexed_answer {A = Global} (Err fail)) (λ answer. LexesOn scale bytes answer)
      → IfRefused {A = Program} (Err fail) (IsRefusedOn scale bytes)
  lexing_refused (Fails.Refused r) told = not_lexed short told
  lexing_refused Fails.NoMemory told = tt

  module _ (tokens : List Token) (lexed : LexesOn scale bytes (Ok tokens)) where
    pub parsing_refused : (fail : Fail) → IfSome (parsed_answer (Err fail)) (λ answer. Parses tokens answer)
        → IfRefused {A = Program} (Err fail) (IsRefusedOn scale bytes)
    parsing_refused (Fails.Refused r) told = not_parsed short lexed told
    parsing_refused Fails.NoMemory told = tt

    module _ (main : Option Name) (is : main ≡ main_in bytes tokens) (items : List ItemTree)
        (parsed : Parses tokens (Ok items)) where
      types_as : (answer : Result TypedFileTree Refusal) → IsTyped main items answer
          → TypesAs (main_in bytes tokens) tokens answer
      types_as answer told = record {
        items = items;
        parsed = parsed;
        typed = subst (λ m. IsTyped m items answer) is told;
      }

      pub typing_refused : (fail : Fail) → IfSome (typed_answer (Err fail)) (λ answer. IsTyped main items answer)
          → IfRefused {A = Program} (Err fail) (IsRefusedOn scale bytes)
      typing_refused (Fails.Refused r) told = not_typed short lexed (types_as (Err r) told)
      typing_refused Fails.NoMemory told = tt

      module _ (file : TypedFileTree) (typed : IsTyped main items (Ok file)) where
        pub layout_refused : (fail : Fail) → IfSome (laid_answer (Err fail)) (λ answer. laid_out scale file ≡ answer)
            → IfRefused {A = Program} (Err fail) (IsRefusedOn scale bytes)
        layout_refused (Fails.Refused r) told = not_laid short lexed (types_as (Ok file) typed) told
        layout_refused Fails.NoMemory told = tt

        pub laid_source : (laid : LaidTree) → laid_out scale file ≡ Ok laid → IsLaidSourceOn scale bytes laid
        laid_source laid e = record {
          short = short;
          tokens = tokens;
          lexed = lexed;
          file = file;
          typed = types_as (Ok file) typed;
          answered = e;
        }

-- ## Files and layouts

-- a typed file can be laid out in its own order
pub layable : (main : Option Name) (items : List ItemTree) (t : TypedFile) → IsTyped main items (Ok (typed_file_tree t))
    → IsWholeOrder (lists t.calls.items) t.order.items → IsLayable (typed_file_tree t) t.order.items
layable main items t e o =
    let c = comes main items (typed_file_tree t) e in
    let same =
    ap (λ (f : TypedFileTree). length f.functions) c.is ∙ sym c.lawful.graph
    ∙ sym (ap (λ (f : TypedFileTree). length f.calls) c.is) in
    are_layable main items (typed_file_tree t) t.order.items e o.callees_first
    (subst (λ (n : ℕ). All (λ f. f < n) t.order.items) (sym same) o.within)
    (λ f h. o.whole f (subst (λ (n : ℕ). f < n) same h))

pub laid_file : (scale : Scale) (main : Option Name) (items : List ItemTree) (file : TypedFileTree) (laid : LaidTree)
    → IsTyped main items (Ok file) → laid_out scale file ≡ Ok laid → IsLaidFile laid
laid_file scale main items file laid typed e =
    record { main = main; items = items; file = file; typed = typed; scale = scale; answered = e }

-- the file of the layout of a file is that file
file_of_layout : (file : TypedFileTree) → (let l = layout_of file in l.file) ≡ file
unfolding layout_of
file_of_layout file = refl

ok_same : {A : Type 0} {x y : A} → (let a : Result A Refusal = Ok x in let b : Result A Refusal = Ok y in a ≡ b) → x ≡ y
ok_same e = cc

pub err_is_ok : {A : Type 0} {x : A} {r : Refusal}
    → (let a : Result A Refusal = Err r in let b : Result A Refusal = Ok x in a ≡ b) → ⊥
err_is_ok e = cc

layout_kept_by : (file : TypedFileTree) (limit : Option Limit) (laid : LaidTree) → unless_beyond file limit ≡ Ok laid
    → laid ≡ layout_of file
layout_kept_by file None laid e = sym (ok_same e)
layout_kept_by file (Some limit) laid e = absurd (err_is_ok e)

-- what is laid out on a scale is the layout of its file
pub layout_kept : (scale : Scale) (file : TypedFileTree) (laid : LaidTree) → laid_out scale file ≡ Ok laid
    → laid ≡ layout_of file
layout_kept scale file laid e = layout_kept_by file _ laid e

pub file_kept : (scale : Scale) (file : TypedFileTree) (laid : LaidTree) → laid_out scale file ≡ Ok laid
    → laid.file ≡ file
file_kept scale file laid e =
    ap (λ (l : LaidTree). l.file) (layout_kept scale file laid e) ∙ file_of_layout file

-- a layout keeps the order of its file
pub order_kept : (scale : Scale) (t : TypedFile) (laid : Laid)
    → laid_out scale (typed_file_tree t) ≡ Ok (laid_tree laid) → laid.file.order.items ≡ t.order.items
    → IsWholeOrder (lists t.calls.items) t.order.items
    → IsWholeOrder (lists laid.file.calls.items) laid.file.order.items
order_kept scale t laid e f o =
    let same : typed_file_tree laid.file ≡ typed_file_tree t = file_kept scale (typed_file_tree t) (laid_tree laid) e in
    let calls : lists laid.file.calls.items ≡ lists t.calls.items = ap (λ (file : TypedFileTree). file.calls) same in
    subst (λ (order : List ℕ). IsWholeOrder (lists laid.file.calls.items) order) (sym f)
    (subst (λ (graph : List (List ℕ)). IsWholeOrder graph t.order.items) (sym calls) o)

-- ## Programs

module _ (scale : Scale) (bytes : List ℕ) (laid : Laid) (source : IsLaidSourceOn scale bytes (laid_tree laid)) where
  pub program_accepted : (given : List ℕ) (result : Result Program Fail)
      → IsPrepared scale (laid_tree laid) (answer_of result)
      → IfOk result (λ p. laid_tree p.laid ≡ laid_tree laid)
      → IfOk result (λ p. AreThresholds
      (numbers_of laid.file.lengths.items laid.file.constants.items laid.file.labels.items given) p.marks)
      → IfOk result (λ program. (p : ProgramBodies)
      → IsProgramOf (laid_tree program.laid) program.graphs.graphs.items program.configured.items program.marks p
      → IsAcceptedOn scale given bytes p)
  program_accepted given (Ok program) prepared same marks = λ p of. record {
    laid = laid_tree laid;
    source = source;
    graphed = record { graphs = program.graphs.graphs.items; configured = program.configured.items };
    prepared = prepared;
    thresholds = program.marks;
    are = marks;
    is =
        subst (λ l. IsProgramOf l program.graphs.graphs.items program.configured.items program.marks p) same of;
  }
  program_accepted given (Err fail) prepared same marks = tt

  pub program_refused : (result : Result Program Fail) → IsPrepared scale (laid_tree laid) (answer_of result)
      → IfRefused result (IsRefusedOn scale bytes)
  program_refused (Ok program) prepared = tt
  program_refused (Err (Fails.Refused r)) prepared = not_prepared source prepared
  program_refused (Err Fails.NoMemory) prepared = tt

-- the program of a layout has its objects
pub objects_kept : (laid : Laid) (result : Result Program Fail)
    → IfOk result (λ p. laid_tree p.laid ≡ laid_tree laid) → length laid.objects.items ≤ 2 ^ 32
    → IfOk result (λ p. length p.laid.objects.items ≤ 2 ^ 32)
objects_kept laid (Ok p) same few = subst (λ (l : LaidTree). length l.objects ≤ 2 ^ 32) (sym same) few
objects_kept laid (Err f) same few = tt

-- and it is that of the source, with its graphs
pub source_kept : (scale : Scale) (bytes : List ℕ) (laid : Laid) → IsLaidSourceOn scale bytes (laid_tree laid)
    → (result : Result Program Fail) → IfOk result (λ p. laid_tree p.laid ≡ laid_tree laid)
    → IfOk result (λ p. IsLaidSourceOn scale bytes (laid_tree p.laid))
source_kept scale bytes laid source (Ok p) same = subst (λ (l : LaidTree). IsLaidSourceOn scale bytes l) (sym same) source
source_kept scale bytes laid source (Err f) same = tt

pub prepared_kept : (scale : Scale) (laid : Laid) (result : Result Program Fail)
    → IsPrepared scale (laid_tree laid) (answer_of result) → IfOk result (λ p. laid_tree p.laid ≡ laid_tree laid)
    → IfOk result (λ p. IsPrepared scale (laid_tree p.laid) (answer_of (Ok p)))
prepared_kept scale laid (Ok p) prepared same =
    subst (λ (l : LaidTree). IsPrepared scale l (answer_of (Ok p))) (sym same) prepared
prepared_kept scale laid (Err f) prepared same = tt
