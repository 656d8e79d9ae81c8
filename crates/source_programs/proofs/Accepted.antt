-- The program of a source: its layout is that of a typed file, and it keeps what its equations ask.
use Rattle.std.specs.Prelude.{ℕ, List}
use Rattle.tm_laid.specs.declared.scales.Scale.{Scale}
use Rattle.program_graphs.specs.lowering_laws.LaidFiles.{IsLaidFile}
use Rattle.thresholds.specs.Thresholds.{numbers_of}
use Rattle.program_laws.specs.program_equations.Programs.{ProgramBodies, IsProgram}
use Rattle.program_laws.proofs.LaidPrograms.{program_kept}
use Rattle.source_programs.specs.LaidSources.{main_in}
use Rattle.source_programs.specs.Sources.{IsAcceptedOn}

module _ (scale : Scale) (given bytes : List ℕ) (p : ProgramBodies) where
  pub accepted_is_laid : (a : IsAcceptedOn scale given bytes p) → IsLaidFile a.laid
  accepted_is_laid a =
      let source = a.source in
      let typed = source.typed in
      record {
        main = main_in bytes source.tokens;
        items = typed.items;
        file = source.file;
        typed = typed.typed;
        scale = scale;
        answered = source.answered;
      }

  pub accepted_is_program : IsAcceptedOn scale given bytes p → IsProgram p
  accepted_is_program a =
      program_kept a.laid (accepted_is_laid a) a.graphed.graphs a.graphed.configured scale a.prepared.0 a.prepared.1
      (numbers_of a.laid.file.lengths a.laid.file.constants a.laid.file.labels given) a.thresholds a.are p a.is
