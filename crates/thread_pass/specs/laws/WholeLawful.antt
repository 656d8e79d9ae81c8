-- A program as plain data is lawful as a whole where it is as its bodies.
use Rattle.std.specs.Prelude.{ℤ, List}
use Rattle.tm_lattice.specs.declared.passers.Passer as passer
use Rattle.interfere_set.specs.Stores.{Interferences, no_interference}
use Rattle.table_covers.specs.Whole as whole
use Rattle.program_equality.specs.program_equations.Programs.{ProgramBodies, IsProgram}
use Rattle.program_equality.specs.program_equations.Systems.{states, stores, FitsProgram, pass_of, IsSection}
use Rattle.program_equality.specs.program_equations.Systems.{IsSectionBelow}
use Rattle.program_equality.specs.program_equations.Systems.{least_section, least_local}
use Rattle.program_equality.specs.program_equations.Solutions.{node_count, links_in, after_in, entry_in, outward_in}
use Rattle.program_equality.specs.program_equations.Solutions.{heads_in, suits_in}
use Rattle.program_equality.specs.program_equations.Solutions.{height_of, limit_in, added_in}
use Rattle.program_equality.specs.program_equations.laws.Lawful.{program_is_lawful}
use Rattle.program_systems.specs.ReadPrograms.{ReadProgram, program_of}

-- programs as plain data, whose tasks pass over one store
abbrev pub read_passing : passer.Ghosts ReadProgram Interferences (List ℤ)
read_passing = record {
  is_program = λ p. IsProgram (program_of p);
  task_count = λ p. p.tasks;
  marks_of = λ p. p.marks;
  least = λ p. no_interference;
  passed = λ p. pass_of (program_of p);
  fits = λ p. FitsProgram (program_of p);
}

module _ (r : ReadProgram) (is : IsProgram (program_of r)) where
  abbrev p : ProgramBodies
  p = program_of r

  pub whole_is_lawful : whole.IsWholeLawful states (node_count p) (links_in p) (after_in p) (entry_in p) (outward_in p)
      (heads_in p) (suits_in p) (height_of p) (limit_in p) (added_in p) stores read_passing r (IsSectionBelow p)
      (IsSection p) (least_section p) (least_local p)
  whole_is_lawful =
      let law = program_is_lawful p is in
      record {
        system = law.system;
        after_rises = law.after_rises;
        added_fits = law.added_fits;
        added_rises = law.added_rises;
        begins = law.begins;
        first = law.first;
        entry_rises = law.entry_rises;
        least = law.least;
        passes = λ t s lt fits. (let one = law.passes t s lt fits in record {
          fits = one.fits;
          holds = one.holds;
          least = one.least;
        });
      }
