use Rattle.std.proofs.Common.{◌<◌, sym, subst, ◌∙◌}
use Rattle.least_assignments.specs.Constraints.{at}
use Rattle.least_assignments.proofs.Options as options
use Rattle.least_assignments.proofs.work_list.run.Goals as goal

pub returns-clause-closed : goal.returns-clause-closed
returns-clause-closed g c = λ settled.
    let none = rw c.in_default.is at c.next_pending.ensures in
    let len = c.loop-constraint.auto.pending ∙ c.requires.constraints in
    record {
      round = c.loop-constraint.invariant.0;
      met = λ k lt. (c.loop-constraint.invariant.1 k lt (none k (subst (λ n. k < n) (sym len) lt))).met;
    }

pub loop-constraint-preserved : goal.loop-constraint-preserved
loop-constraint-preserved g c =
    let met = g.met.C.Value.Lattice g.world.𝓛 g.world.𝓜 g.world.𝓡 ((λ s x. x), (λ x. x), (λ x. x), λ x. x) in
    let law = g.met.C.ConstraintSystem.lawful c.args.system.now c.requires.system in
    let step = rw c.if-not-is_applied.false at c.in_ok-is_applied.ensures in
    let first = c.args.values.now in
    let before = c.loop-constraint.values in
    let later = c.step.new.values in (
      step.round,
      step.done,
      (λ i lt.
          options.transitive g.C.Value.Lattice (g.C.ConstraintSystem.fits c.args.system.now)
          (g.C.ConstraintSystem.allows c.args.system.now) (g.C.ConstraintSystem.system_of c.args.system.now) met.order law i
          (at first i) (at before i) (at later i) (c.requires.round.fits i lt) (c.loop-constraint.invariant.0.fits i lt)
          (step.round.fits i lt) (c.loop-constraint.invariant.2 i lt) (step.risen i lt)),
      (λ other closed under.
          step.least other closed (c.loop-constraint.invariant.3 other closed under)),
    )
