-- What the edges of a body make of cells that they carry.
use Rattle.std.specs.Prelude.{ℕ}
use Rattle.sparse_rows.specs.transfer_rows.interfere_set.Stores.{Interferences}
use Rattle.sparse_rows.specs.transfer_rows.StateForms.{Cell}
use Rattle.sparse_rows.specs.Carried.{carry_of}
use Rattle.task_equations.specs.Bodies.{Body, copy_at}
use Rattle.task_equations.specs.Equations.{action_along, around_along}

-- each edge what its action makes of a cell over the store
abbrev pub carry_along : Body → Interferences → ℕ → ℕ → Cell → Cell
carry_along b store = carry_of (λ e. around_along b (copy_at b e)) (λ e. action_along b (copy_at b e)) store
