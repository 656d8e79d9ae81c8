-- What the code tells of the least solution of a source is what the source is answered, on each scale.
use Rattle.std.proofs.Common.{◌≡◌, ◌∙◌, ap}
use Rattle.std.specs.Prelude.{ℕ, ◌≤◌, ◌^◌, List, [], ◌++◌, length}
use Rattle.std.specs.List.{flat_map}
use Rattle.solution_lines.specs.SolutionTexts.{dead_text}
use Rattle.program_solutions.specs.tm_laid.declared.scales.Scale.{Scale}
use Rattle.program_solutions.specs.tm_laid.declared.scales.Scale.TheVariants as Scales
use Rattle.program_solutions.specs.tm_laid.Layouts.{LaidTree}
use Rattle.program_solutions.specs.program_equations.Programs.{ProgramBodies, IsProgram}
use Rattle.program_solutions.specs.program_equations.Readings.{read_layout}
use Rattle.program_solutions.specs.post_recheck.Pairs.{Pair}
use Rattle.program_solutions.specs.LeastReports.{IsLeastPair}
use Rattle.certificate_check.specs.source_programs.Sources.{IsAcceptedOn, IsAccepted}
use Rattle.certificate_check.proofs.low.source_programs.Accepted.{accepted_is_program}
use Rattle.certificate_check.proofs.low.sound_core.Rings.{ring_listed}
use Rattle.certificate_check.proofs.low.sound_core.Within.{within}
use Rattle.certificate_check.proofs.low.sound_core.Reached.{never_listed}
use Rattle.program_streams.specs.declared.statuses.Status.{Status}
use Rattle.source_findings.specs.Findings.{HasFinding, SolvesOn, TellsWaitsOn, TellsRangesOn}
use Rattle.source_findings.specs.Tellings.{TellsOf, TellsWaitsOf, TellsRangesOf, bounds_line_of}
use Rattle.source_findings.specs.declared.findings.Finding.{Finding}
use Rattle.source_findings.specs.declared.findings.Finding.TheVariants.{Waits, Ranges}
use Rattle.source_findings.proofs.Solved.{found}
use Rattle.certificate_check.proofs.Sourced.{comes_from}

module _ (scale : Scale) (bytes : List ℕ) (p : ProgramBodies) (a : IsAcceptedOn scale [] bytes p)
    (few : length a.laid.objects ≤ 2 ^ 32) (pair : Pair) (least : IsLeastPair p pair) where
  solves : SolvesOn scale bytes
  solves = record { program = p; accepted = a; pair = pair; least = least }

  is : IsProgram p
  is = accepted_is_program scale [] bytes p a

  pub waits_told : (status : Status) (text : List ℕ) → TellsWaitsOf p pair status text
      → TellsWaitsOn scale bytes status text
  unfolding solves
  waits_told status text t = record {
    places = t.places;
    finds = record {
      solves = solves;
      are = t.are;
      rings = λ w reached tasks ring. ring_listed a.laid p (comes_from scale [] bytes p a) is few pair.tables
          pair.store least.solution t.places t.are w reached tasks ring;
    };
    comes = t.comes;
    is = t.is;
  }

  pub ranges_told : (status : Status) (text : List ℕ) → TellsRangesOf p bytes pair status text
      → TellsRangesOn scale bytes status text
  unfolding solves
  ranges_told status text t =
      let of = a.is in
      let same : p.laid ≡ read_layout a.laid = of.laid in
      record {
        bounds = t.bounds;
        dead = t.dead;
        finds = record {
          solves = solves;
          ranges = t.ranges;
          places = t.places;
          within = λ w reached object cell n h. within a.laid p (comes_from scale [] bytes p a) is few pair.tables
              pair.store least.solution t.bounds t.ranges w reached object cell n h;
          nowhere = λ w reached place has body may acts. never_listed a.laid p (comes_from scale [] bytes p a) is few
              pair.tables pair.store least.solution w reached t.dead t.places place has body may acts;
        };
        comes = t.comes;
        is = t.is
            ∙ ap (λ (l : LaidTree). flat_map (bounds_line_of bytes l.objects) t.bounds ++ dead_text t.dead) same;
      }

module _ (bytes : List ℕ) (p : ProgramBodies) (a : IsAccepted [] bytes p) (few : length a.laid.objects ≤ 2 ^ 32)
    (pair : Pair) (least : IsLeastPair p pair) where
  pub told : (f : Finding) (status : Status) (text : List ℕ) → TellsOf f p bytes pair status text
      → HasFinding f bytes status text
  told Waits status text t =
      found Waits bytes status text (waits_told Scales.Usual bytes p a few pair least status text t)
  told Ranges status text t =
      found Ranges bytes status text (ranges_told Scales.Usual bytes p a few pair least status text t)
