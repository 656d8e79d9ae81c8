use Rattle.std.proofs.Common.{take}
use Rattle.calculations.specs.transfer_rows.Rows.{dropped}
use Rattle.edge_effects.specs.Endings.{is_ended}
use Rattle.edge_effects.proofs.LiveTemps.{Keeps}
use Rattle.edge_effects.proofs.temps.live_temps.Given as goal

abbrev pub invariant-loop-temp : goal.invariant-loop-temp
invariant-loop-temp l = Keeps (dropped (is_ended l.ending) l.state.temps) (take l.temp-index l.live) l.temps
