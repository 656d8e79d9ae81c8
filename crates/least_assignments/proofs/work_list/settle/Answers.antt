use Rattle.std.proofs.Common.{◌∙◌, List, Option, length, ap, subst, sym, arith}
use Rattle.least_assignments.specs.Constraints.{at, IsPointwiseBelow}
use Rattle.least_assignments.specs.Solutions.{IsClosed, AreAllowed, IsLeastAbove, IsRefused}
use Rattle.least_assignments.proofs.Everywhere.{written_back}
use Rattle.least_assignments.proofs.work_list.settle.Goals as goal

pub run-requires-clause-variables : goal.run-requires-clause-variables
run-requires-clause-variables g c κs within = ap length c.deref_mut.ensures.value ∙ c.requires.variables

pub run-requires-clause-constraints : goal.run-requires-clause-constraints
run-requires-clause-constraints g c κs within = ap length c.deref_mut-2.ensures.value ∙ c.requires.constraints

pub run-requires-clause-round : goal.run-requires-clause-round
run-requires-clause-round g c κs within = rw c.deref_mut.ensures.value c.requires.round

pub run-requires-clause-done : goal.run-requires-clause-done
run-requires-clause-done g c κs within = rw (c.deref_mut.ensures.value, c.deref_mut-2.ensures.value) c.requires.done

pub returns-then-is_settled-clause-variables : goal.returns-then-is_settled-clause-variables
returns-then-is_settled-clause-variables g c =
    let same = written_back c.args.values.len c.args.values.items c.run.new.values
    (c.run.auto.values ∙ ap length c.deref_mut.ensures.value) (omega (arith, c.args.values.ok.0)) in
    ap length same ∙ c.run.auto.values ∙ ap length c.deref_mut.ensures.value

pub returns-then-is_settled-clause-closed : goal.returns-then-is_settled-clause-closed
returns-then-is_settled-clause-closed g c =
    let same = written_back c.args.values.len c.args.values.items c.run.new.values
    (c.run.auto.values ∙ ap length c.deref_mut.ensures.value) (omega (arith, c.args.values.ok.0)) in
    subst (λ (xs : List (Option g.row.C-Value.Denot)). IsClosed g.C.Value.Lattice (g.C.ConstraintSystem.fits c.args.system.now) (g.C.ConstraintSystem.allows c.args.system.now)
    (g.C.ConstraintSystem.system_of c.args.system.now) (at xs))
    (sym same)
    (c.in_ok-is_settled.ensures.closed c.if-is_settled.true)

pub returns-then-is_settled-clause-allowed : goal.returns-then-is_settled-clause-allowed
returns-then-is_settled-clause-allowed g c =
    let same = written_back c.args.values.len c.args.values.items c.run.new.values
    (c.run.auto.values ∙ ap length c.deref_mut.ensures.value) (omega (arith, c.args.values.ok.0)) in
    subst (λ (xs : List (Option g.row.C-Value.Denot)). AreAllowed g.C.Value.Lattice (g.C.ConstraintSystem.fits c.args.system.now) (g.C.ConstraintSystem.allows c.args.system.now)
    (g.C.ConstraintSystem.system_of c.args.system.now) (at xs))
    (sym same)
    (c.in_ok-is_settled.ensures.allowed c.if-is_settled.true)

pub returns-then-is_settled-clause-risen : goal.returns-then-is_settled-clause-risen
returns-then-is_settled-clause-risen g c =
    let same = written_back c.args.values.len c.args.values.items c.run.new.values
    (c.run.auto.values ∙ ap length c.deref_mut.ensures.value) (omega (arith, c.args.values.ok.0)) in
    subst (λ (xs : List (Option g.row.C-Value.Denot)). IsPointwiseBelow (g.C.ConstraintSystem.system_of c.args.system.now) g.C.Value.Lattice.leq
    (at c.args.values.items) (at xs))
    (sym same)
    (subst (λ (xs : List (Option g.row.C-Value.Denot)). IsPointwiseBelow (g.C.ConstraintSystem.system_of c.args.system.now) g.C.Value.Lattice.leq
    (at xs) (at c.run.new.values)) c.deref_mut.ensures.value (c.in_ok-is_settled.ensures.risen c.if-is_settled.true))

pub returns-then-is_settled-clause-least : goal.returns-then-is_settled-clause-least
returns-then-is_settled-clause-least g c =
    let same = written_back c.args.values.len c.args.values.items c.run.new.values
    (c.run.auto.values ∙ ap length c.deref_mut.ensures.value) (omega (arith, c.args.values.ok.0)) in
    subst (λ (xs : List (Option g.row.C-Value.Denot)). IsLeastAbove g.C.Value.Lattice (g.C.ConstraintSystem.fits c.args.system.now) (g.C.ConstraintSystem.allows c.args.system.now)
    (g.C.ConstraintSystem.system_of c.args.system.now)
    (at c.args.values.items) (at xs))
    (sym same)
    (subst (λ (xs : List (Option g.row.C-Value.Denot)). IsLeastAbove g.C.Value.Lattice (g.C.ConstraintSystem.fits c.args.system.now) (g.C.ConstraintSystem.allows c.args.system.now)
    (g.C.ConstraintSystem.system_of c.args.system.now) (at xs)
    (at c.run.new.values)) c.deref_mut.ensures.value (c.in_ok-is_settled.ensures.least c.if-is_settled.true))

pub returns-clause-refused : goal.returns-clause-refused
returns-clause-refused g c = λ none.
    subst (λ (xs : List (Option g.row.C-Value.Denot)). IsRefused g.C.Value.Lattice (g.C.ConstraintSystem.fits c.args.system.now) (g.C.ConstraintSystem.allows c.args.system.now)
    (g.C.ConstraintSystem.system_of c.args.system.now) (at xs))
    c.deref_mut.ensures.value (c.in_ok-is_settled.ensures.refused c.if-is_settled.false)
