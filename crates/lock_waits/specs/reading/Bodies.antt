-- The requests of the first tasks.
use Rattle.std.specs.Prelude.{ℕ, ◌<◌, List, length, Option}
use Rattle.request_circles.specs.declared.requests.Request.{Request}
use Rattle.program_reports.specs.post_recheck.transfer_rows.StateForms.{State}
use Rattle.program_reports.specs.post_recheck.program_equations.Programs.{ProgramBodies, body_at}
use Rattle.program_reports.specs.post_recheck.program_equations.Solutions.{table_at}
use Rattle.lock_waits.specs.reading.Copies.{IsAskedBelow}

module _ (p : ProgramBodies) (tables : List (List (Option State))) where
  -- a task makes the request
  abbrev pub IsAskedOf : ℕ → Request → Type 0
  IsAskedOf t r = (let b = body_at p t in
      IsAskedBelow t b.edges b.nodes b.copies (table_at tables t) (length b.copies) r)

  -- one of the first tasks does
  pub record IsAskedUpTo (n : ℕ) (r : Request) : Type 0 where
    pub task : ℕ
    pub below : task < n
    pub asked : IsAskedOf task r
