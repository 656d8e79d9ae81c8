-- A source is refused, or has a program.
use Rattle.std.specs.Prelude.{◌≡◌, ◌⊎◌, ℕ, ◌<◌, ◌≤◌, List, [], length, Result, Ok, Err}
use Rattle.std.proofs.Common.{refl, inl, inr}
use Rattle.std.proofs.lemmas.Bool.{cases_lt}
use Rattle.tm_terms.specs.declared.refusals.Limit.TheVariants as Limits
use Rattle.tm_terms.specs.declared.refusals.Refusal.{Refusal}
use Rattle.tm_terms.specs.declared.tokens.Token.{Token}
use Rattle.tm_trees.specs.FileTrees.{ItemTree}
use Rattle.tm_trees.specs.Parsing.{Parses}
use Rattle.tm_laid.specs.tm_typed.Files.{TypedFileTree, IsTyped}
use Rattle.tm_laid.specs.declared.scales.Scale.{Scale}
use Rattle.tm_laid.specs.Scales.{number_on}
use Rattle.tm_laid.specs.Layouts.{LaidTree, beyond, laid_out}
use Rattle.program_graphs.specs.Prepared.{Graphed}
use Rattle.configured_laws.specs.Laws.{IsProgram, IsBeyond}
use Rattle.configured_laws.proofs.SomePrograms.{some_program}
use Rattle.program_laws.specs.program_equations.Programs.{ProgramBodies}
use Rattle.c_lexer.proofs.TotalLemmas.{some_answer as some_lexing}
use Rattle.c_parser.proofs.FileAnswers.{answered as some_file}
use Rattle.c_typing.proofs.low.typing_laws.SomeAnswer.{some_answer as some_typing}
use Rattle.source_programs.specs.LaidSources.{longest_on, LexesOn, main_in, TypesAs, IsLaidSourceOn}
use Rattle.source_programs.specs.Sources.{IsAcceptedOn, source_limit, IsRefusedOn}
use Rattle.source_programs.specs.Sources.{too_long, not_lexed, not_parsed, not_typed, not_laid, not_prepared}
use Rattle.source_programs.specs.Laws.{AreInReach, HasProgram, SomeSource}
use Rattle.source_programs.proofs.SomeThresholds.{some_thresholds}
use Rattle.source_programs.proofs.SomeBodies.{some_bodies}

abbrev Answered : Scale → List ℕ → Type 0
Answered scale bytes = HasProgram scale bytes ⊎ ((r : Refusal) × IsRefusedOn scale bytes r)

-- ## Layouts

module _ (scale : Scale) (bytes : List ℕ) (laid : LaidTree) (source : IsLaidSourceOn scale bytes laid) where
  -- a prepared source is accepted
  accepted : (p : Graphed) → IsProgram scale laid p → AreInReach laid.file.lengths
      → (q : ProgramBodies) × IsAcceptedOn scale [] bytes q
  accepted p prepared short =
      let marks = some_thresholds laid.file.lengths laid.file.constants laid.file.labels short in
      let bodies = some_bodies scale laid p.graphs p.configured prepared.1.0 marks.0 in (
        bodies.0,
        record {
          laid = laid;
          source = source;
          graphed = p;
          prepared = prepared;
          thresholds = marks.0;
          are = marks.1;
          is = bodies.1;
        },
      )

  of_layout : ((p : Graphed) × IsProgram scale laid p)
      ⊎ (IsBeyond scale laid (beyond Limits.Nodes) ⊎ IsBeyond scale laid (beyond Limits.Work)) → Answered scale bytes
  of_layout (inl (p, prepared)) = inl (record {
    laid = laid;
    source = source;
    graphed = p;
    prepared = prepared;
    accepted = accepted p prepared;
  })
  of_layout (inr (inl nodes)) = inr (beyond Limits.Nodes, not_prepared source nodes)
  of_layout (inr (inr work)) = inr (beyond Limits.Work, not_prepared source work)

-- ## Sources

module _ (scale : Scale) (bytes : List ℕ) (short : length bytes ≤ longest_on scale) where
  module _ (tokens : List Token) (lexed : LexesOn scale bytes (Ok tokens)) where
    of_file : (file : TypedFileTree) → TypesAs (main_in bytes tokens) tokens (Ok file)
        → (answer : Result LaidTree Refusal) → laid_out scale file ≡ answer → Answered scale bytes
    of_file file t (Ok laid) e =
        let source : IsLaidSourceOn scale bytes laid = record {
          short = short;
          tokens = tokens;
          lexed = lexed;
          file = file;
          typed = t;
          answered = e;
        } in
        of_layout scale bytes laid source (some_program scale laid (record {
          main = main_in bytes tokens;
          items = t.items;
          file = file;
          typed = t.typed;
          scale = scale;
          answered = e;
        }))
    of_file file t (Err refusal) e = inr (refusal, not_laid short lexed t e)

    of_typed : (items : List ItemTree) → Parses tokens (Ok items) → (answer : Result TypedFileTree Refusal)
        → IsTyped (main_in bytes tokens) items answer → Answered scale bytes
    of_typed items p (Ok file) t =
        of_file file (record { items = items; parsed = p; typed = t }) (laid_out scale file) refl
    of_typed items p (Err refusal) t =
        inr (refusal, not_typed short lexed (record { items = items; parsed = p; typed = t }))

    of_parsed : (answer : Result (List ItemTree) Refusal) → Parses tokens answer → Answered scale bytes
    of_parsed (Ok items) p =
        let t = some_typing (main_in bytes tokens) items in
        of_typed items p t.0 t.1
    of_parsed (Err refusal) p = inr (refusal, not_parsed short lexed p)

  of_lexed : (answer : Result (List Token) Refusal) → LexesOn scale bytes answer → Answered scale bytes
  of_lexed (Ok tokens) lexed =
      let p = some_file tokens in
      of_parsed tokens lexed p.0 p.1
  of_lexed (Err refusal) lexed = inr (refusal, not_lexed short lexed)

pub some_source : SomeSource
some_source scale bytes = by_length (cases_lt (longest_on scale) (length bytes))
  where
    by_length : (longest_on scale < length bytes) ⊎ (length bytes ≤ longest_on scale) → Answered scale bytes
    by_length (inl long) = inr (source_limit, too_long long)
    by_length (inr short) =
        let lexing = some_lexing bytes (number_on scale Limits.Tokens) in
        of_lexed scale bytes short lexing.0 lexing.1
