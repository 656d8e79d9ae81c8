-- Sources: which are accepted, as which program, and which are refused.
use Rattle.std.specs.Prelude.{ℕ, ◌<◌, ◌≤◌, ℤ, List, length, Some, Result, Ok, Err, ◌≡◌}
use Rattle.tm_terms.specs.declared.refusals.Fail.{Fail}
use Rattle.tm_terms.specs.declared.refusals.Fail.TheVariants as Fails
use Rattle.tm_terms.specs.declared.refusals.Kind.TheVariants as Kinds
use Rattle.tm_terms.specs.declared.refusals.Limit.TheVariants as Limits
use Rattle.tm_terms.specs.declared.refusals.Refusal.{Refusal}
use Rattle.tm_terms.specs.declared.tokens.Token.{Token}
use Rattle.tm_trees.specs.Parsing.{Parses}
use Rattle.tm_laid.specs.tm_typed.Files.{TypedFileTree}
use Rattle.tm_laid.specs.declared.scales.Scale.{Scale}
use Rattle.tm_laid.specs.declared.scales.Scale.TheVariants as Scales
use Rattle.tm_laid.specs.Layouts.{LaidTree, laid_out}
use Rattle.source_programs.specs.LaidSources.{longest_on, LexesOn, main_in, TypesAs, IsLaidSourceOn}
use Rattle.program_graphs.specs.Prepared.{Graphed, IsPrepared}
use Rattle.thresholds.specs.Thresholds.{numbers_of, AreThresholds}
use Rattle.program_laws.specs.program_equations.Programs.{ProgramBodies, IsProgramOf}

-- ## Sources that are accepted

-- With these numbers, given by a user, these bytes are a source of this program: that of a layout, of the graphs of its
-- bodies with their configured graphs, within the limits of a scale, and of the thresholds that its text and the
-- numbers give.
pub record IsAcceptedOn (scale : Scale) (given bytes : List ℕ) (p : ProgramBodies) : Type 0 where
  pub laid : LaidTree
  pub source : IsLaidSourceOn scale bytes laid
  pub graphed : Graphed
  pub prepared : IsPrepared scale laid (Ok graphed)
  pub thresholds : List ℤ
  pub are : AreThresholds (numbers_of laid.file.lengths laid.file.constants laid.file.labels given) thresholds
  pub is : IsProgramOf laid graphed.graphs graphed.configured thresholds p

-- they are one within the limits of the commands
abbrev pub IsAccepted : List ℕ → List ℕ → ProgramBodies → Type 0
IsAccepted = IsAcceptedOn Scales.Usual

-- ## Sources that are refused

abbrev pub source_limit : Refusal
source_limit = record { kind = Kinds.Limit; place = record { line = 0; col = 0 }; limit = Some Limits.Source }

-- Why these bytes are refused on a scale: they are too many; or else the lexis refuses them; or else the grammar their
-- tokens; or else typing their file; or else that exceeds a limit of layouts; or else its graphs exceed a limit.
pub data IsRefusedOn (scale : Scale) (bytes : List ℕ) : Refusal → Type 0 where
  too_long : longest_on scale < length bytes → IsRefusedOn scale bytes source_limit
  not_lexed : {refusal : Refusal} → length bytes ≤ longest_on scale → LexesOn scale bytes (Err refusal)
      → IsRefusedOn scale bytes refusal
  not_parsed : {tokens : List Token} {refusal : Refusal} → length bytes ≤ longest_on scale → LexesOn scale bytes (Ok tokens)
      → Parses tokens (Err refusal) → IsRefusedOn scale bytes refusal
  not_typed : {tokens : List Token} {refusal : Refusal} → length bytes ≤ longest_on scale → LexesOn scale bytes (Ok tokens)
      → TypesAs (main_in bytes tokens) tokens (Err refusal) → IsRefusedOn scale bytes refusal
  not_laid : {tokens : List Token} {file : TypedFileTree} {refusal : Refusal} → length bytes ≤ longest_on scale
      → LexesOn scale bytes (Ok tokens) → TypesAs (main_in bytes tokens) tokens (Ok file) → laid_out scale file ≡ Err refusal
      → IsRefusedOn scale bytes refusal
  not_prepared : {laid : LaidTree} {refusal : Refusal} → IsLaidSourceOn scale bytes laid
      → IsPrepared scale laid (Err (Fails.Refused refusal)) → IsRefusedOn scale bytes refusal

-- they are refused within the limits of the commands
abbrev pub IsRefused : List ℕ → Refusal → Type 0
IsRefused = IsRefusedOn Scales.Usual

-- where the answer is a refusal, this holds of it
abbrev pub IfRefused : {A : Type 0} → Result A Fail → (Refusal → Type 0) → Type 0
IfRefused (Ok a) P = Unit {0}
IfRefused (Err (Fails.Refused r)) P = P r
IfRefused (Err Fails.NoMemory) P = Unit {0}
