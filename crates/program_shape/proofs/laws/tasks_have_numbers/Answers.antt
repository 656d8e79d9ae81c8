use Rattle.std.proofs.Common.{ℕ, ◌<◌, ◌≡◌}
use Rattle.tm_soundness.specs.Numbered.{TaskOf}
use Rattle.program_shape.specs.Shape.{number_of}
use Rattle.program_shape.proofs.TaskNumbers.{number_below, one_number, IsNumbered, task_with}
use Rattle.program_shape.proofs.laws.tasks_have_numbers.Goals as goal

task_of : (n k : ℕ) → k < n → (i : TaskOf n) × (number_of n i ≡ k)
task_of n k lt = let h : IsNumbered n k = task_with n k lt in (h.task, h.is)

pub returns : goal.returns
returns c = record { below = number_below; one = one_number; all = task_of }
