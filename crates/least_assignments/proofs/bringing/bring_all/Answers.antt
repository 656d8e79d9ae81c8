use Rattle.std.proofs.Common.{◌≡◌, ◌≢◌, ℕ, ◌+◌, ◌<◌, ◌≤◌, None, length, get_or, sym, subst, ◌∙◌, refl, arith}
use Rattle.std.proofs.lemmas.List.{get_or_default, get_or-set_other, length-set}
use Rattle.least_assignments.specs.Constraints.{at}
use Rattle.least_assignments.specs.reading.WorkLists.{IsRise, HoldsBelow}
use Rattle.least_assignments.proofs.Rises as rises
use Rattle.least_assignments.proofs.bringing.bring_all.Goals as goal
use Rattle.least_assignments.proofs.bringing.bring_all.Goals.{in-Some+in_ok-bring, in_default}

pub loop-j-preserved : goal.loop-j-preserved
loop-j-preserved g c =
    let met = g.met.C.Value.Lattice g.world.𝓛 g.world.𝓜 g.world.𝓡 ((λ s x. x), (λ x. x), (λ x. x), λ x. x) in
    let law = g.met.C.ConstraintSystem.lawful c.args.system.now c.requires.system in
    let j : ℕ = c.loop-j.j in
    let items = c.loop-j.brought.items in
    let first = c.args.brought.items in
    let targets = c.args.targets.now in
    let xs = c.args.values.now in
    let pending = c.args.pending.now in
    let within : j < length items = omega (arith, c.loop-j-test.true, c.requires.count, c.loop-j.invariant.1) in
    let le : j ≤ j = omega arith in
    let given : c.take.result ≡ get_or first j None =
    c.take.ensures.value ∙ c.index_mut.ensures.value ∙ sym (get_or_default items j None c.index_mut.result.now within)
    ∙ c.loop-j.invariant.2 j le in
    let rise : IsRise g.C.Value.Lattice (g.C.ConstraintSystem.fits c.args.system.now) (g.C.ConstraintSystem.allows c.args.system.now) (g.C.ConstraintSystem.system_of c.args.system.now)
    (HoldsBelow g.C.Value.Lattice (g.C.ConstraintSystem.fits c.args.system.now) (g.C.ConstraintSystem.allows c.args.system.now) (g.C.ConstraintSystem.system_of c.args.system.now) (j + 1) targets (at first)) xs pending c.match-take.values c.match-take.pending =
    elim c.match-take.branch [
      | in-Some+in_ok-bring w ↦
          subst (λ zs. IsRise g.C.Value.Lattice (g.C.ConstraintSystem.fits c.args.system.now) (g.C.ConstraintSystem.allows c.args.system.now) (g.C.ConstraintSystem.system_of c.args.system.now) (HoldsBelow g.C.Value.Lattice (g.C.ConstraintSystem.fits c.args.system.now) (g.C.ConstraintSystem.allows c.args.system.now) (g.C.ConstraintSystem.system_of c.args.system.now) (j + 1) targets (at first)) xs pending zs c.match-take.pending) (sym w.values-is)
          (subst (λ q. IsRise g.C.Value.Lattice (g.C.ConstraintSystem.fits c.args.system.now) (g.C.ConstraintSystem.allows c.args.system.now) (g.C.ConstraintSystem.system_of c.args.system.now) (HoldsBelow g.C.Value.Lattice (g.C.ConstraintSystem.fits c.args.system.now) (g.C.ConstraintSystem.allows c.args.system.now) (g.C.ConstraintSystem.system_of c.args.system.now) (j + 1) targets (at first)) xs pending w.bring.new.values q) (sym w.pending-is)
          (rises.brought g.C.Value.Lattice (g.C.ConstraintSystem.fits c.args.system.now) (g.C.ConstraintSystem.allows c.args.system.now) (g.C.ConstraintSystem.system_of c.args.system.now) met.order met.join_laws law targets (at first) c.requires.within c.requires.fits j
          w.in-Some.value xs c.loop-j.values w.bring.new.values pending c.loop-j.pending w.bring.new.pending c.loop-j-test.true
          (sym given ∙ w.in-Some.is) c.requires.round c.loop-j.invariant.0 (w.in_ok-bring.ensures refl)))
      | in_default w ↦
          subst (λ zs. IsRise g.C.Value.Lattice (g.C.ConstraintSystem.fits c.args.system.now) (g.C.ConstraintSystem.allows c.args.system.now) (g.C.ConstraintSystem.system_of c.args.system.now) (HoldsBelow g.C.Value.Lattice (g.C.ConstraintSystem.fits c.args.system.now) (g.C.ConstraintSystem.allows c.args.system.now) (g.C.ConstraintSystem.system_of c.args.system.now) (j + 1) targets (at first)) xs pending zs c.match-take.pending) (sym w.values-is)
          (subst (λ q. IsRise g.C.Value.Lattice (g.C.ConstraintSystem.fits c.args.system.now) (g.C.ConstraintSystem.allows c.args.system.now) (g.C.ConstraintSystem.system_of c.args.system.now) (HoldsBelow g.C.Value.Lattice (g.C.ConstraintSystem.fits c.args.system.now) (g.C.ConstraintSystem.allows c.args.system.now) (g.C.ConstraintSystem.system_of c.args.system.now) (j + 1) targets (at first)) xs pending c.loop-j.values q) (sym w.pending-is)
          (rises.passed g.C.Value.Lattice (g.C.ConstraintSystem.fits c.args.system.now) (g.C.ConstraintSystem.allows c.args.system.now) (g.C.ConstraintSystem.system_of c.args.system.now) met.order met.join_laws law targets (at first) c.requires.within c.requires.fits j
          xs c.loop-j.values pending c.loop-j.pending (sym given ∙ w.in_default.is) c.loop-j.invariant.0))
    ] in (
      rise,
      length-set items j c.take.new.self ∙ c.loop-j.invariant.1,
      λ n above.
          let differ : n ≢ j = omega (arith, above) in
          let later : j ≤ n = omega (arith, above) in
          get_or-set_other items j n c.take.new.self None differ ∙ c.loop-j.invariant.2 n later,
    )
