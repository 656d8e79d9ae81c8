-- Numbers that code holds.
use Rattle.std.specs.Prelude.{◌≡◌, ℕ, ◌<◌, ◌^◌, true, length}
use Rattle.tm_laid.specs.Layouts.{object_at}
use Rattle.post_recheck.specs.transfer_rows.Accesses.{is_among}
use Rattle.post_recheck.specs.task_equations.Bodies.{live_at}
use Rattle.post_recheck.specs.program_equations.Programs.{ProgramBodies, body_at}

-- the bodies of a program, their nodes and their live temporaries, its objects and the cells of each have numbers below
-- 2^64
pub record HasSmallNumbers (p : ProgramBodies) : Type 0 where
  pub bodies : length p.bodies < 2 ^ 64
  pub nodes : (t : ℕ) → t < length p.bodies → (let b = body_at p t in length b.nodes < 2 ^ 64)
  pub live : (t place temp : ℕ) → t < length p.bodies → is_among (live_at (body_at p t) place) temp ≡ true
      → temp < 2 ^ 64
  pub objects : length p.laid.objects < 2 ^ 64
  pub cells : (object : ℕ) → (let o = object_at p.laid object in o.cells < 2 ^ 64)
