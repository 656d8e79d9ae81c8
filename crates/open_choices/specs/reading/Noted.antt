-- What a body leaves open of which something is noted.
use Rattle.std.specs.Prelude.{◌≡◌, ℕ, List, Some, slice_get}
use Rattle.tm_laid.specs.Layouts.{LaidTree}
use Rattle.interfere_set.specs.Stores.{Interferences}
use Rattle.post_recheck.specs.transfer_rows.StateForms.{State}
use Rattle.post_recheck.specs.table_covers.Solutions.{NodeTable}
use Rattle.post_recheck.specs.program_equations.Programs.{ProgramBodies}
use Rattle.edge_origins.specs.declared.origins.BodyOrigins.{BodyOrigins}
use Rattle.text_choices.specs.declared.kinds.Choice.{Choice}
use Rattle.operand_orders.specs.Reached.{solved_body}
use Rattle.open_choices.specs.Choices.{IsOfBody}

pub record IsOfNoted (laid : LaidTree) (p : ProgramBodies) (tables : ℕ → NodeTable State) (store : Interferences)
    (origins : List BodyOrigins) (body : ℕ) (c : Choice) : Type 0 where
  pub noted : BodyOrigins
  pub there : slice_get origins body ≡ Some noted
  pub opens : IsOfBody (solved_body laid p tables store body noted) c
