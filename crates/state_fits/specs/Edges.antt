-- Edges that fit: between places with their live temporaries.
use Rattle.std.specs.Prelude.{◌≡◌, ℕ, true, List, Some}
use Rattle.temporary_types.specs.tm_laid.Layouts.{LaidTree}
use Rattle.temporary_types.specs.flow_graph.declared.operations.Operation.{Operation}
use Rattle.temporary_types.specs.flow_graph.Operations.{given}
use Rattle.edge_actions.specs.cell_env.Cells.{IsWithin}
use Rattle.edge_actions.specs.transfer_rows.Actions.{Around}
use Rattle.edge_actions.specs.transfer_rows.Accesses.{is_among}
use Rattle.edge_actions.specs.Layouts.{is_shared_cell}
use Rattle.temporary_types.specs.Sorts.{Sort, FitsSorts}
use Rattle.state_fits.specs.Fits.{file_set, SpotsSeen}
use Rattle.state_fits.specs.Typed.{SpotsAgree, NamesObjects}

-- An edge of a body leads from a place where some temporaries are live to one where others are: its operation fits the
-- sorts of temporaries; what is live where it leads is live before, or is what it gives; the task holds mutexes of the
-- file; and the shared cells are those of the layout.
pub record FitsEdge (laid : LaidTree) (task : ℕ) (sorts : List Sort) (around : Around) (op : Operation)
    (live live' : List ℕ) : Type 0 where
  pub operation : FitsSorts laid sorts op
  pub objects : NamesObjects laid op
  pub spots : SpotsAgree laid task
  pub seen : SpotsSeen laid task
  pub held : IsWithin around.reader.held (file_set laid)
  pub shares : (x : ℕ) → around.is_shared x ≡ is_shared_cell laid x
  pub arrives : (t : ℕ) → around.is_live t ≡ is_among live' t
  pub flow : (t : ℕ) → is_among live' t ≡ true → (given op ≡ Some t → ⊥) → is_among live t ≡ true
