-- The laws, of the lemmas.
use Rattle.std.specs.Prelude.{◌<◌, length, get_or}
use Rattle.std.proofs.Common.{refl, arith}
use Rattle.program_reports.specs.program_equations.Programs.{ProgramBodies, IsProgram}
use Rattle.program_reports.specs.program_equations.Solutions.{tables_of as lists_of, table_at}
use Rattle.program_shape.specs.tm_soundness.Numbered.{TaskOf}
use Rattle.program_shape.specs.Shape.{number_of}
use Rattle.sound_tables.specs.Laws.{ShapesAreLawful, PairsCover, ListedAreAlarms}
use Rattle.sound_tables.proofs.Alarms.{listed_alarm, race_alarm}
use Rattle.sound_tables.proofs.Shaped.{is_shaped}
use Rattle.sound_tables.proofs.Pairs.{number_below, number_same, tasks_covered, section_covered}

pub in_bodies : (p : ProgramBodies) → IsProgram p → (i : TaskOf p.tasks) → number_of p.tasks i < length p.bodies
in_bodies p is i = let a = number_below p.tasks i in let b = is.tasks in omega (arith, a, b)

pub shapes_lawful : ShapesAreLawful
shapes_lawful p is f = (
  is_shaped p p.tasks (number_of p.tasks) (λ t. get_or p.priorities t 0) f.cells
      (λ i. f.graphs (number_of p.tasks i) (in_bodies p is i)) (number_same p.tasks),
  λ has. is_shaped p 1 (λ i. p.tasks) (λ t. 0) f.cells (λ i. f.graphs p.tasks has) (λ i k e. refl),
)

pub pairs_cover : PairsCover
pairs_cover p is f tables store pair = (
  tasks_covered p is (table_at tables p.tasks) (lists_of tables) store pair.solves
      (λ i. f.graphs (number_of p.tasks i) (in_bodies p is i)) f.cells
      (λ i. f.means (number_of p.tasks i) (in_bodies p is i)),
  λ has. section_covered p is has (lists_of tables) (let s = pair.solves in s.begins has) (f.graphs p.tasks has)
      f.cells (f.means p.tasks has),
)

pub listed_alarms : ListedAreAlarms
listed_alarms p is f tables store = record {
  classes = λ e class place h placed.
      listed_alarm p is p.tasks (number_of p.tasks) (λ t. get_or p.priorities t 0) (in_bodies p is)
      (λ i. f.graphs (number_of p.tasks i) (in_bodies p is i)) tables e class place h.state h.is h.holds placed;
  section = λ has e class place h placed.
      listed_alarm p is 1 (λ i. p.tasks) (λ t. 0) (λ i. has) (λ i. f.graphs p.tasks has) tables e class place h.state
      h.is h.holds placed;
  races = λ e g r place placed.
      race_alarm p is (λ i. f.graphs (number_of p.tasks i) (in_bodies p is i)) tables store e g r place placed;
}
