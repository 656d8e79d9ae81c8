use Rattle.std.proofs.Common.{◌≡◌}
use Rattle.least_assignments.specs.Constraints.{at}
use Rattle.front_constraints.specs.Rules.{seen_at}
use Rattle.body_slots.specs.Slots.{sparse_of}
use Rattle.body_slots.specs.reading.Small.{put_over, AreThere}
use Rattle.body_slots.proofs.systems.SlotSystem.with_seen.Given as goal

abbrev pub invariant-loop-cell : goal.invariant-loop-cell
invariant-loop-cell l =
    let sys = sparse_of l.self in
    (l.cells ≡ put_over (seen_at sys l.edge (at l.values)) l.fn.before (sys.looked l.edge) l.cell-index)
    × AreThere (seen_at sys l.edge (at l.values)) (sys.looked l.edge) l.cell-index
