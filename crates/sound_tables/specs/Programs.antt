-- Programs of bodies as the soundness theorem reads them.
use Rattle.std.specs.Prelude.{ℕ, get_or}
use Rattle.program_shape.specs.tm_soundness.Numbered.{TaskOf}
use Rattle.program_shape.specs.Shape.{Parts, number_of, section_parts}
use Rattle.program_reports.specs.program_equations.Programs.{ProgramBodies, body_at}

-- some bodies of a program, by their numbers, which run together with these priorities
abbrev pub part_of : ProgramBodies → (n : ℕ) → (TaskOf n → ℕ) → (ℕ → ℕ) → Parts
part_of p n number rank = record {
  laid = p.laid;
  tasks = n;
  number = number;
  rank = rank;
  graph = λ t. (let b = body_at p t in b.edges);
}

-- the tasks
abbrev pub parts_of : ProgramBodies → Parts
parts_of p = part_of p p.tasks (number_of p.tasks) (λ t. get_or p.priorities t 0)

-- the initial section, which runs alone before them: its body has the number of tasks
abbrev pub section_alone : ProgramBodies → Parts
section_alone p = section_parts (parts_of p) p.tasks
