-- Each source has one answer.
use Rattle.std.specs.Prelude.{◌≡◌, ◌⊎◌, ℕ, ℤ, pos, List, [], All, Ok}
use Rattle.tm_terms.specs.declared.places.Place.{Place}
use Rattle.tm_terms.specs.declared.refusals.Refusal.{Refusal}
use Rattle.tm_trees.specs.Parsing.{syntax_error}
use Rattle.tm_laid.specs.declared.scales.Scale.{Scale}
use Rattle.tm_laid.specs.declared.scales.Scale.TheVariants as Scales
use Rattle.tm_laid.specs.Layouts.{LaidTree}
use Rattle.mutex_configs.specs.flow_graph.declared.graphs.Graph.{Graph}
use Rattle.mutex_configs.specs.declared.nodes.ConfiguredGraph.{ConfiguredGraph}
use Rattle.thresholds.specs.strided_dom.Progression.{IsInReach}
use Rattle.program_graphs.specs.Prepared.{Graphed, IsPrepared}
use Rattle.program_laws.specs.program_equations.Programs.{ProgramBodies, IsProgramOf}
use Rattle.source_programs.specs.LaidSources.{IsLaidSourceOn}
use Rattle.source_programs.specs.Sources.{IsAcceptedOn, IsRefusedOn}

-- a layout, graphs, their configured graphs and thresholds are those of one program
abbrev pub ProgramsAreOne : Type 0
ProgramsAreOne =
    (laid : LaidTree) (graphs : List Graph) (configured : List ConfiguredGraph) (thresholds : List ℤ)
    (p q : ProgramBodies) → IsProgramOf laid graphs configured thresholds p
    → IsProgramOf laid graphs configured thresholds q → p ≡ q

-- no source is accepted and refused on a scale, whatever numbers are given
abbrev pub NoneIsBoth : Type 0
NoneIsBoth =
    (scale : Scale) (given bytes : List ℕ) (p : ProgramBodies) (r : Refusal) → IsAcceptedOn scale given bytes p
    → IsRefusedOn scale bytes r → ⊥

-- with the same numbers given, an accepted source is one program, on whatever scales it is accepted
abbrev pub OneProgram : Type 0
OneProgram =
    (scale other : Scale) (given bytes : List ℕ) (p q : ProgramBodies) → IsAcceptedOn scale given bytes p
    → IsAcceptedOn other given bytes q → p ≡ q

-- what is accepted within the limits of the commands is accepted on the large scale
abbrev pub LargeAcceptsMore : Type 0
LargeAcceptsMore =
    (given bytes : List ℕ) (p : ProgramBodies) → IsAcceptedOn Scales.Usual given bytes p
    → IsAcceptedOn Scales.Large given bytes p

-- both are syntax errors, at any two places
abbrev pub AreSyntaxErrors : Refusal → Refusal → Type 0
AreSyntaxErrors r s = (p : Place) × (q : Place) × (r ≡ syntax_error p) × (s ≡ syntax_error q)

-- a source that is refused on a scale has one refusal, but for the place of a syntax error
abbrev pub OneRefusal : Type 0
OneRefusal =
    (scale : Scale) (bytes : List ℕ) (r s : Refusal) → IsRefusedOn scale bytes r → IsRefusedOn scale bytes s
    → (r ≡ s) ⊎ AreSyntaxErrors r s

-- lengths of arrays are in the reach of strided sets
abbrev pub AreInReach : List ℕ → Type 0
AreInReach lengths = All (λ n. IsInReach (pos n)) lengths

-- These bytes are a source of a typed file, whose layout has a program on a scale: graphs with their configured graphs.
-- And where the lengths of its arrays are in the reach of strided sets, they are accepted with no number given.
pub record HasProgram (scale : Scale) (bytes : List ℕ) : Type 0 where
  pub laid : LaidTree
  pub source : IsLaidSourceOn scale bytes laid
  pub graphed : Graphed
  pub prepared : IsPrepared scale laid (Ok graphed)
  pub accepted : AreInReach laid.file.lengths → (p : ProgramBodies) × IsAcceptedOn scale [] bytes p

-- on each scale each source is refused, or has a program
abbrev pub SomeSource : Type 0
SomeSource = (scale : Scale) (bytes : List ℕ) → HasProgram scale bytes ⊎ ((r : Refusal) × IsRefusedOn scale bytes r)
