-- What the code finds of what is told of a program, before it is known of which source the program is.
use Rattle.std.specs.Prelude.{◌≡◌, ℕ, List}
use Rattle.mutex_configs.specs.tm_laid.Layouts.{laid_tree}
use Rattle.mutex_configs.specs.declared.programs.Program.{Program}
use Rattle.program_reports.specs.program_equations.Programs.{ProgramBodies, IsProgramOf}
use Rattle.program_reports.specs.program_equations.Solutions.{tables_of, IsPair, IsUncoveredAt, IsUncoveredStore}
use Rattle.program_reports.specs.post_recheck.Pairs.{Pair, FitsPair}
use Rattle.program_reports.specs.Reports.{IsReport}
use Rattle.certificate_texts.specs.certificate_words.Words.{lines_text}
use Rattle.certificate_texts.specs.Sizes.{HasSmallNumbers}
use Rattle.certificate_texts.specs.Certificates.{pair_lines}
use Rattle.certificate_check.specs.declared.verdicts.Verdict.{Verdict}
use Rattle.certificate_check.specs.declared.verdicts.Verdict.TheVariants.{TooLong, NoCertificate, Refused, Uncovered}
use Rattle.certificate_check.specs.declared.verdicts.Verdict.TheVariants.{UncoveredStore, Certified}

-- the verdict on tables and a store that fit the program
abbrev pub IsPairVerdict : ProgramBodies → Pair → Verdict → Type 0
IsPairVerdict p pair TooLong = ⊥
IsPairVerdict p pair NoCertificate = ⊥
IsPairVerdict p pair (Refused refusal) = ⊥
IsPairVerdict p pair (Uncovered body edge) = IsUncoveredAt p pair.tables pair.store body edge
IsPairVerdict p pair UncoveredStore = IsUncoveredStore p pair.tables pair.store
IsPairVerdict p pair (Certified report) =
    IsPair p pair.tables pair.store × IsReport p (tables_of pair.tables) report.alarms.items

-- What is told tells nothing that fits the program, or a pair that does, on which this is the verdict.
pub data IsVerdictOn (p : ProgramBodies) (told : List ℕ) : Verdict → Type 0 where
  unread : ((pair : Pair) → FitsPair p pair → told ≡ lines_text (pair_lines pair) → ⊥)
      → IsVerdictOn p told NoCertificate
  read : (pair : Pair) (verdict : Verdict) → FitsPair p pair → told ≡ lines_text (pair_lines pair)
      → IsPairVerdict p pair verdict → IsVerdictOn p told verdict

-- the same of a program as code holds it
pub record IsToldVerdict (program : Program) (told : List ℕ) (verdict : Verdict) : Type 0 where
  pub bodies : ProgramBodies
  pub small : HasSmallNumbers bodies
  pub of : IsProgramOf (laid_tree program.laid) program.graphs.graphs.items program.configured.items program.marks
      bodies
  pub is : IsVerdictOn bodies told verdict
