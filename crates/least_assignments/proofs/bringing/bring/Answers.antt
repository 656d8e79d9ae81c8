use Rattle.std.proofs.Common.{sym, subst, refl}
use Rattle.least_assignments.specs.reading.WorkLists.{IsRise, HoldsAt}
use Rattle.least_assignments.proofs.Rises as rises
use Rattle.least_assignments.proofs.bringing.bring.Goals as goal

pub returns-then-rose : goal.returns-then-rose
returns-then-rose g c = λ ok.
    let met = g.met.C.Value.Lattice g.world.𝓛 g.world.𝓜 g.world.𝓡 ((λ s x. x), (λ x. x), (λ x. x), λ x. x) in
    let law = g.met.C.ConstraintSystem.lawful c.args.system.now c.requires.system in
    let rose = rw c.if-rose.true at c.in_ok-rose.ensures in
    subst (λ ys. IsRise g.C.Value.Lattice (g.C.ConstraintSystem.fits c.args.system.now) (g.C.ConstraintSystem.allows c.args.system.now) (g.C.ConstraintSystem.system_of c.args.system.now)
    (HoldsAt g.C.Value.Lattice (g.C.ConstraintSystem.fits c.args.system.now) (g.C.ConstraintSystem.allows c.args.system.now) (g.C.ConstraintSystem.system_of c.args.system.now) c.args.variable c.args.value) c.args.values.now c.args.pending.now ys c.mark.new.pending) (sym rose.1)
    (rises.risen g.C.Value.Lattice (g.C.ConstraintSystem.fits c.args.system.now) (g.C.ConstraintSystem.allows c.args.system.now) (g.C.ConstraintSystem.system_of c.args.system.now) met.order met.join_laws law
    c.args.values.now c.args.pending.now c.mark.new.pending c.args.variable c.args.value c.readers.result.now
    c.requires.variables c.requires.variable c.requires.round c.requires.fits rose.0 c.mark.auto.pending
    c.readers.ensures.all (c.in_ok-mark.ensures.marked refl) c.in_ok-mark.ensures.others)

pub returns : goal.returns
returns g c = λ ok.
    let met = g.met.C.Value.Lattice g.world.𝓛 g.world.𝓜 g.world.𝓡 ((λ s x. x), (λ x. x), (λ x. x), λ x. x) in
    let law = g.met.C.ConstraintSystem.lawful c.args.system.now c.requires.system in
    let rose = rw c.if-rose.false at c.in_ok-rose.ensures in
    subst (λ ys. IsRise g.C.Value.Lattice (g.C.ConstraintSystem.fits c.args.system.now) (g.C.ConstraintSystem.allows c.args.system.now) (g.C.ConstraintSystem.system_of c.args.system.now)
    (HoldsAt g.C.Value.Lattice (g.C.ConstraintSystem.fits c.args.system.now) (g.C.ConstraintSystem.allows c.args.system.now) (g.C.ConstraintSystem.system_of c.args.system.now) c.args.variable c.args.value) c.args.values.now c.args.pending.now ys c.args.pending.now) (sym rose.0)
    (rises.unmoved g.C.Value.Lattice (g.C.ConstraintSystem.fits c.args.system.now) (g.C.ConstraintSystem.allows c.args.system.now) (g.C.ConstraintSystem.system_of c.args.system.now) met.order met.join_laws law
    (HoldsAt g.C.Value.Lattice (g.C.ConstraintSystem.fits c.args.system.now) (g.C.ConstraintSystem.allows c.args.system.now) (g.C.ConstraintSystem.system_of c.args.system.now) c.args.variable c.args.value) c.args.values.now c.args.pending.now c.requires.round rose.1)
