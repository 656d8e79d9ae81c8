use Rattle.std.proofs.Common.{subst, refl, set, false, length}
use Rattle.least_assignments.specs.Constraints.{at}
use Rattle.least_assignments.specs.reading.WorkLists.{IsRise, HoldsBelow}
use Rattle.least_assignments.proofs.Steps as steps
use Rattle.least_assignments.proofs.work_list.step.Goals as goal

pub returns : goal.returns
returns g c =
    let met = g.met.C.Value.Lattice g.world.𝓛 g.world.𝓜 g.world.𝓡 ((λ s x. x), (λ x. x), (λ x. x), λ x. x) in
    let law = g.met.C.ConstraintSystem.lawful c.args.system.now c.requires.system in
    let allowed = rw c.in-Some.is at c.in_ok-brought.ensures.refused in
    let brought = rw c.in-Some.is at c.in_ok-brought.ensures.brought in
    let xs = c.args.values.now in
    let all = c.in-Some.brought.items in
    let cleared = set c.args.pending.now c.args.constraint false in
    steps.stepped g.C.Value.Lattice (g.C.ConstraintSystem.fits c.args.system.now) (g.C.ConstraintSystem.allows c.args.system.now) (g.C.ConstraintSystem.system_of c.args.system.now) met.order law
    xs c.bring_all.new.values c.args.pending.now c.bring_all.new.pending c.args.constraint all
    c.requires.variables c.requires.constraints c.requires.constraint c.requires.pending c.requires.round c.requires.done
    allowed brought
    (subst (λ ts. IsRise g.C.Value.Lattice (g.C.ConstraintSystem.fits c.args.system.now) (g.C.ConstraintSystem.allows c.args.system.now) (g.C.ConstraintSystem.system_of c.args.system.now)
    (HoldsBelow g.C.Value.Lattice (g.C.ConstraintSystem.fits c.args.system.now) (g.C.ConstraintSystem.allows c.args.system.now) (g.C.ConstraintSystem.system_of c.args.system.now) (length ts) ts (at all)) xs cleared c.bring_all.new.values c.bring_all.new.pending)
    c.targets.ensures (c.in_ok-bring_all.ensures refl))
