-- Which copies end.
use Rattle.std.specs.Prelude.{ℕ, ◌+◌, ◌&&◌, nat_le, nat_lt, Bool, true, false}
use Rattle.calculations.specs.transfer_rows.Accesses.{is_among}
use Rattle.edge_effects.specs.declared.temps.Ending.{Ending}
use Rattle.edge_effects.specs.declared.temps.Ending.TheVariants.{Nowhere, Everywhere, Among, Between}

-- copies of the cell end
abbrev pub is_ended : Ending → ℕ → Bool
is_ended Nowhere cell = false
is_ended Everywhere cell = true
is_ended (Among cells) cell = is_among cells.now cell
is_ended (Between first count) cell = nat_le first cell && nat_lt cell (first + count)
