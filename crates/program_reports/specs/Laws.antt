-- Tables that agree.
use Rattle.std.specs.Prelude.{◌≡◌, ℕ, ◌<◌, length}
use Rattle.post_recheck.specs.transfer_rows.StateForms.{State}
use Rattle.post_recheck.specs.table_covers.Solutions.{NodeTable}
use Rattle.post_recheck.specs.program_equations.Programs.{ProgramBodies, body_at}

-- at each node of each body
abbrev pub Agree : ProgramBodies → (ℕ → NodeTable State) → (ℕ → NodeTable State) → Type 0
Agree p one other = (t n : ℕ) → t < length p.bodies → (let b = body_at p t in n < length b.nodes)
    → one t n ≡ other t n
