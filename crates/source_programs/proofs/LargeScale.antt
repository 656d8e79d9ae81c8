-- The large scale accepts what the limits of the commands accept.
use Rattle.std.specs.Prelude.{◌≡◌, ℕ, ◌≤◌, Bool, true, false, cond, List, [], ◌∷◌, find, Option, Some, None, Ok}
use Rattle.std.proofs.Common.{refl, sym, ap, subst, ◌∙◌, arith}
use Rattle.std.proofs.lemmas.Bool.{ltb-false, le-ltb}
use Rattle.tm_terms.specs.declared.refusals.Limit.{Limit}
use Rattle.tm_terms.specs.declared.refusals.Limit.TheVariants as Limits
use Rattle.tm_terms.specs.Limits.{limit_number}
use Rattle.tm_laid.specs.tm_typed.Files.{TypedFileTree}
use Rattle.tm_laid.specs.declared.scales.Scale.TheVariants as Scales
use Rattle.tm_laid.specs.Scales.{large_number, number_on}
use Rattle.tm_laid.specs.Layouts.{LaidTree, laid_count, laid_limits, is_exceeded, unless_beyond, laid_out}
use Rattle.mutex_configs.specs.flow_graph.declared.graphs.Graph.{Graph}
use Rattle.mutex_configs.specs.declared.nodes.ConfiguredGraph.{ConfiguredGraph}
use Rattle.mutex_configs.specs.Programs.{AreConfigured}
use Rattle.program_graphs.specs.graph_builder.Lowered.{AreGraphs}
use Rattle.program_graphs.specs.Prepared.{Graphed, IsPrepared}
use Rattle.program_laws.specs.program_equations.Programs.{ProgramBodies}
use Rattle.c_lexer.proofs.AnswerLemmas.{lexes_more}
use Rattle.source_programs.specs.LaidSources.{IsLaidSourceOn}
use Rattle.source_programs.specs.Sources.{IsAcceptedOn}
use Rattle.source_programs.specs.Laws.{LargeAcceptsMore}
use Rattle.source_programs.proofs.Stations.{err_is_ok}

-- ## Limits

-- each limit of the large scale is at least that of the commands
at_least : (limit : Limit) → limit_number limit ≤ large_number limit
at_least Limits.Source = (let z : 1048576 ≤ 16777216 = omega arith in z)
at_least Limits.Tokens = (let z : 200000 ≤ 4000000 = omega arith in z)
at_least Limits.Tasks = (let z : 32 ≤ 32 = omega arith in z)
at_least Limits.Mutexes = (let z : 16 ≤ 16 = omega arith in z)
at_least Limits.Paths = (let z : 4096 ≤ 65536 = omega arith in z)
at_least Limits.Cells = (let z : 65536 ≤ 65536 = omega arith in z)
at_least Limits.Abstract = (let z : 4096 ≤ 65536 = omega arith in z)
at_least Limits.Nodes = (let z : 20000 ≤ 200000 = omega arith in z)
at_least Limits.Work = (let z : 8000000 ≤ 12800000000 = omega arith in z)

not_exceeded : (file : TypedFileTree) (limit : Limit) → is_exceeded Scales.Usual file limit ≡ false
    → is_exceeded Scales.Large file limit ≡ false
not_exceeded file limit e =
    let few : laid_count file limit ≤ limit_number limit = ltb-false (limit_number limit) (laid_count file limit) e in
    let more = at_least limit in
    le-ltb (large_number limit) (laid_count file limit) (omega (arith, few, more))

-- ## Layouts

some_is_none : {A : Type 0} {x : A} → Some x ≡ None → ⊥
some_is_none e = cc

module _ (test other : Limit → Bool) (less : (limit : Limit) → test limit ≡ false → other limit ≡ false) where
  found_next : (limit : Limit) (found next : Option Limit) → (found ≡ None → next ≡ None)
      → cond (test limit) (Some limit) found ≡ None → cond (other limit) (Some limit) next ≡ None
  found_next limit found next rest e = by (test limit) refl e
    where
      by : (b : Bool) → b ≡ test limit → cond b (Some limit) found ≡ None
          → cond (other limit) (Some limit) next ≡ None
      by true f g = absurd (some_is_none g)
      by false f g = subst (λ (b : Bool). cond b (Some limit) next ≡ None) (sym (less limit (sym f))) (rest g)

  -- where a test finds nothing, nor does one that holds of less
  none_found : (limits : List Limit) → find test limits ≡ None → find other limits ≡ None
  none_found [] e = refl
  none_found (limit ∷ limits) e =
      found_next limit (find test limits) (find other limits) (none_found limits) e

none_beyond : (file : TypedFileTree) (limit : Option Limit) (laid : LaidTree) → unless_beyond file limit ≡ Ok laid
    → limit ≡ None
none_beyond file None laid e = refl
none_beyond file (Some limit) laid e = absurd (err_is_ok e)

large_layout : (file : TypedFileTree) (laid : LaidTree) → laid_out Scales.Usual file ≡ Ok laid
    → laid_out Scales.Large file ≡ Ok laid
large_layout file laid e =
    let found : find (is_exceeded Scales.Usual file) laid_limits ≡ None = none_beyond file _ laid e in
    let none : find (is_exceeded Scales.Large file) laid_limits ≡ None =
    none_found (is_exceeded Scales.Usual file) (is_exceeded Scales.Large file) (not_exceeded file) laid_limits found in
    ap (unless_beyond file) none ∙ sym (ap (unless_beyond file) found) ∙ e

large_source : (bytes : List ℕ) (laid : LaidTree) → IsLaidSourceOn Scales.Usual bytes laid
    → IsLaidSourceOn Scales.Large bytes laid
large_source bytes laid source = record {
  short = (let short = source.short in omega (arith, short));
  tokens = source.tokens;
  lexed = lexes_more bytes 200000 4000000 source.tokens (omega arith) source.lexed;
  file = source.file;
  typed = source.typed;
  answered = large_layout source.file laid source.answered;
}

-- ## Graphs

large_graphs : (laid : LaidTree) (graphs : List Graph) → AreGraphs Scales.Usual laid graphs
    → AreGraphs Scales.Large laid graphs
large_graphs laid graphs are = record {
  count = are.count;
  each = are.each;
  few = λ body lt. (let few = are.few body lt in omega (arith, few));
}

large_configured : (graphs : List Graph) (configured : List ConfiguredGraph)
    → AreConfigured Scales.Usual graphs configured → AreConfigured Scales.Large graphs configured
large_configured [] [] are = tt
large_configured [] (c ∷ cs) are = absurd are
large_configured (g ∷ gs) [] are = absurd are
large_configured (g ∷ gs) (c ∷ cs) are =
    let few = are.1 in
    (are.0, omega (arith, few), large_configured gs cs are.2)

large_prepared : (laid : LaidTree) (graphed : Graphed) → IsPrepared Scales.Usual laid (Ok graphed)
    → IsPrepared Scales.Large laid (Ok graphed)
large_prepared laid graphed prepared =
    let work = prepared.1.1 in (
      large_graphs laid graphed.graphs prepared.0,
      (large_configured graphed.graphs graphed.configured prepared.1.0, omega (arith, work)),
    )

-- ## Sources

pub large_accepts_more : LargeAcceptsMore
large_accepts_more given bytes p accepted = record {
  laid = accepted.laid;
  source = large_source bytes accepted.laid accepted.source;
  graphed = accepted.graphed;
  prepared = large_prepared accepted.laid accepted.graphed accepted.prepared;
  thresholds = accepted.thresholds;
  are = accepted.are;
  is = accepted.is;
}
