use Rattle.std.proofs.Common.{false, set, sym, subst, ◌∙◌}
use Rattle.std.proofs.lemmas.List.{length-set}
use Rattle.table_covers.specs.Solutions.{at}
use Rattle.least_tables.specs.Settling.{IsVisit}
use Rattle.least_tables.specs.reading.WorkLists.{IsStep, AreFollowed}
use Rattle.least_tables.proofs.Following as following
use Rattle.least_tables.proofs.Steps as steps
use Rattle.least_tables.proofs.Visits as visits
use Rattle.least_tables.proofs.work_list.step.Goals as goal

pub returns-in_default-clause-step : goal.returns-in_default-clause-step
returns-in_default-clause-step g c = λ ok.
    let met = g.met.E.State.Lattice g.world.𝓛 g.world.𝓜 g.world.𝓡 ((λ s x. x), (λ x. x), (λ x. x), λ x. x) in
    let law = g.met.E.Equations.lawful c.args.system.now c.requires.system in
    steps.cleared g.E.State.Lattice (g.E.Equations.fits c.args.system.now) (g.E.Equations.system_of c.args.system.now) met.order met.join_laws law c.args.table.now c.args.pending.now c.args.edge c.requires.edges c.requires.edge c.requires.pending c.requires.started c.requires.met
    (steps.no_state g.E.State.Lattice (g.E.Equations.fits c.args.system.now) (g.E.Equations.system_of c.args.system.now) met.order met.join_laws law c.args.leaving.now.links.now c.args.table.now c.args.edge c.index-table-link.result c.requires.links c.requires.edge c.requires.nodes c.in_default.is)

pub returns-in_default-2-clause-step : goal.returns-in_default-2-clause-step
returns-in_default-2-clause-step g c = λ ok.
    let met = g.met.E.State.Lattice g.world.𝓛 g.world.𝓜 g.world.𝓡 ((λ s x. x), (λ x. x), (λ x. x), λ x. x) in
    let law = g.met.E.Equations.lawful c.args.system.now c.requires.system in
    let is = steps.along_is g.E.State.Lattice (g.E.Equations.fits c.args.system.now) (g.E.Equations.system_of c.args.system.now) met.order met.join_laws law c.args.leaving.now.links.now c.args.table.now c.args.edge c.index-table-link.result c.in-Some.state c.in_ok-brought.field-0 c.requires.links c.requires.edge c.requires.nodes c.in-Some.is c.in_ok-brought.ensures in
    steps.cleared g.E.State.Lattice (g.E.Equations.fits c.args.system.now) (g.E.Equations.system_of c.args.system.now) met.order met.join_laws law c.args.table.now c.args.pending.now c.args.edge c.requires.edges c.requires.edge c.requires.pending c.requires.started c.requires.met
    (steps.no_after g.E.State.Lattice (g.E.Equations.fits c.args.system.now) (g.E.Equations.system_of c.args.system.now) met.order met.join_laws law c.args.table.now c.args.edge c.in_ok-brought.field-0 is c.in_default-2.is)

pub returns-then-raised-clause-step : goal.returns-then-raised-clause-step
returns-then-raised-clause-step g c = λ ok.
    let met = g.met.E.State.Lattice g.world.𝓛 g.world.𝓜 g.world.𝓡 ((λ s x. x), (λ x. x), (λ x. x), λ x. x) in
    let law = g.met.E.Equations.lawful c.args.system.now c.requires.system in
    let is = steps.along_is g.E.State.Lattice (g.E.Equations.fits c.args.system.now) (g.E.Equations.system_of c.args.system.now) met.order met.join_laws law c.args.leaving.now.links.now c.args.table.now c.args.edge c.index-table-link.result c.in-Some.state c.in_ok-brought.field-0 c.requires.links c.requires.edge c.requires.nodes c.in-Some.is c.in_ok-brought.ensures in
    let rose = rw c.if-raised.true at c.in_ok-raised.ensures.rose in
    steps.raised_along g.E.State.Lattice (g.E.Equations.fits c.args.system.now) (g.E.Equations.system_of c.args.system.now) met.order met.join_laws law c.args.leaving.now.links.now c.args.table.now c.bring.new.table c.args.pending.now c.mark.new.pending c.args.edge c.in_ok-brought.field-0 c.in-Some-2.brought
    c.requires.links c.requires.nodes c.requires.edges (let len = c.mark.auto.pending in let len' = length-set c.args.pending.now c.args.edge false in len ∙ len' ∙ c.requires.edges) c.requires.edge c.requires.started c.requires.met is c.in-Some-2.is rose.0 rose.1 c.mark.ensures.marked c.mark.ensures.others

pub returns-clause-step : goal.returns-clause-step
returns-clause-step g c = λ ok.
    let met = g.met.E.State.Lattice g.world.𝓛 g.world.𝓜 g.world.𝓡 ((λ s x. x), (λ x. x), (λ x. x), λ x. x) in
    let law = g.met.E.Equations.lawful c.args.system.now c.requires.system in
    let is = steps.along_is g.E.State.Lattice (g.E.Equations.fits c.args.system.now) (g.E.Equations.system_of c.args.system.now) met.order met.join_laws law c.args.leaving.now.links.now c.args.table.now c.args.edge c.index-table-link.result c.in-Some.state c.in_ok-brought.field-0 c.requires.links c.requires.edge c.requires.nodes c.in-Some.is c.in_ok-brought.ensures in
    let rose = rw c.if-raised.false at c.in_ok-raised.ensures.rose in
    subst (λ t. IsStep g.E.State.Lattice (g.E.Equations.fits c.args.system.now) (g.E.Equations.system_of c.args.system.now) c.args.table.now c.args.pending.now t (set c.args.pending.now c.args.edge false)) (sym rose.0)
    (steps.cleared g.E.State.Lattice (g.E.Equations.fits c.args.system.now) (g.E.Equations.system_of c.args.system.now) met.order met.join_laws law c.args.table.now c.args.pending.now c.args.edge c.requires.edges c.requires.edge c.requires.pending c.requires.started c.requires.met
    (steps.nothing_new g.E.State.Lattice (g.E.Equations.fits c.args.system.now) (g.E.Equations.system_of c.args.system.now) met.order met.join_laws law c.args.leaving.now.links.now c.args.table.now c.args.edge c.in_ok-brought.field-0 c.in-Some-2.brought c.requires.links is c.in-Some-2.is rose.1))

pub bring-requires-clause-follows : goal.bring-requires-clause-follows
bring-requires-clause-follows g c κs within = λ noted.
    let met = g.met.E.State.Lattice g.world.𝓛 g.world.𝓜 g.world.𝓡 ((λ s x. x), (λ x. x), (λ x. x), λ x. x) in
    let law = g.met.E.Equations.lawful c.args.system.now c.requires.system in
    let is = steps.along_is g.E.State.Lattice (g.E.Equations.fits c.args.system.now) (g.E.Equations.system_of c.args.system.now) met.order met.join_laws law c.args.leaving.now.links.now c.args.table.now c.args.edge c.index-table-link.result c.in-Some.state c.in_ok-brought.field-0 c.requires.links c.requires.edge c.requires.nodes c.in-Some.is c.in_ok-brought.ensures in
    following.follows_here g.E.State.Lattice (g.E.Equations.fits c.args.system.now) (g.E.Equations.system_of c.args.system.now) met.order met.join_laws law c.args.leaving.now.links.now c.args.table.now c.args.followed.now c.args.edge c.in_ok-brought.field-0 c.in-Some-2.brought c.requires.links c.requires.edge c.requires.followed (c.is_noted-follows.ensures noted) is c.in-Some-2.is

pub returns-then-raised-clause-followed : goal.returns-then-raised-clause-followed
returns-then-raised-clause-followed g c = λ ok.
    let met = g.met.E.State.Lattice g.world.𝓛 g.world.𝓜 g.world.𝓡 ((λ s x. x), (λ x. x), (λ x. x), λ x. x) in
    let law = g.met.E.Equations.lawful c.args.system.now c.requires.system in
    let is = steps.along_is g.E.State.Lattice (g.E.Equations.fits c.args.system.now) (g.E.Equations.system_of c.args.system.now) met.order met.join_laws law c.args.leaving.now.links.now c.args.table.now c.args.edge c.index-table-link.result c.in-Some.state c.in_ok-brought.field-0 c.requires.links c.requires.edge c.requires.nodes c.in-Some.is c.in_ok-brought.ensures in
    let rose = rw c.if-raised.true at c.in_ok-raised.ensures.rose in
    following.noted_along g.E.State.Lattice (g.E.Equations.fits c.args.system.now) (g.E.Equations.system_of c.args.system.now) met.order met.join_laws law c.args.leaving.now.links.now c.args.table.now c.bring.new.table c.args.followed.now c.args.edge c.in_ok-brought.field-0 c.in-Some-2.brought c.in_ok-raised.raised.is_taken c.note.result
    c.requires.links c.requires.nodes c.requires.edge c.requires.started is c.in-Some-2.is c.requires.notes c.requires.followed c.note.ensures rose.0 rose.1 c.in_ok-raised.ensures.taken

pub returns-clause-followed : goal.returns-clause-followed
returns-clause-followed g c = λ ok.
    let rose = rw c.if-raised.false at c.in_ok-raised.ensures.rose in
    subst (λ t. AreFollowed g.E.State.Lattice (g.E.Equations.fits c.args.system.now) (g.E.Equations.system_of c.args.system.now) (at t) c.args.followed.now) (sym rose.0) c.requires.followed

pub returns-in_default-2-clause-visits : goal.returns-in_default-2-clause-visits
returns-in_default-2-clause-visits g c = λ ok before so_far.
    let met = g.met.E.State.Lattice g.world.𝓛 g.world.𝓜 g.world.𝓡 ((λ s x. x), (λ x. x), (λ x. x), λ x. x) in
    let law = g.met.E.Equations.lawful c.args.system.now c.requires.system in
    let is = steps.along_is g.E.State.Lattice (g.E.Equations.fits c.args.system.now) (g.E.Equations.system_of c.args.system.now) met.order met.join_laws law c.args.leaving.now.links.now c.args.table.now c.args.edge c.index-table-link.result c.in-Some.state c.in_ok-brought.field-0 c.requires.links c.requires.edge c.requires.nodes c.in-Some.is c.in_ok-brought.ensures in
    visits.one_more g.E.State.Lattice (g.E.Equations.fits c.args.system.now) (g.E.Equations.system_of c.args.system.now) c.args.visits.now _ before (at c.args.table.now) (at c.args.table.now) c.saturating_add.ensures
    (visits.met_visit g.E.State.Lattice (g.E.Equations.fits c.args.system.now) (g.E.Equations.system_of c.args.system.now) met.order met.join_laws law (at c.args.table.now) c.args.edge c.requires.edge c.requires.started
    (steps.no_after g.E.State.Lattice (g.E.Equations.fits c.args.system.now) (g.E.Equations.system_of c.args.system.now) met.order met.join_laws law c.args.table.now c.args.edge c.in_ok-brought.field-0 is c.in_default-2.is)) so_far

pub returns-then-raised-clause-visits : goal.returns-then-raised-clause-visits
returns-then-raised-clause-visits g c = λ ok before so_far.
    let met = g.met.E.State.Lattice g.world.𝓛 g.world.𝓜 g.world.𝓡 ((λ s x. x), (λ x. x), (λ x. x), λ x. x) in
    let law = g.met.E.Equations.lawful c.args.system.now c.requires.system in
    let is = steps.along_is g.E.State.Lattice (g.E.Equations.fits c.args.system.now) (g.E.Equations.system_of c.args.system.now) met.order met.join_laws law c.args.leaving.now.links.now c.args.table.now c.args.edge c.index-table-link.result c.in-Some.state c.in_ok-brought.field-0 c.requires.links c.requires.edge c.requires.nodes c.in-Some.is c.in_ok-brought.ensures in
    let rose = rw c.if-raised.true at c.in_ok-raised.ensures.rose in
    visits.one_more g.E.State.Lattice (g.E.Equations.fits c.args.system.now) (g.E.Equations.system_of c.args.system.now) c.args.visits.now _ before (at c.args.table.now) (at c.bring.new.table) c.saturating_add.ensures
    (visits.raised_along g.E.State.Lattice (g.E.Equations.fits c.args.system.now) (g.E.Equations.system_of c.args.system.now) met.order met.join_laws law c.args.leaving.now.links.now c.args.table.now c.bring.new.table c.args.edge c.in_ok-brought.field-0 c.in-Some-2.brought
    c.requires.links c.requires.nodes c.requires.edge is c.in-Some-2.is rose.1) so_far

pub returns-clause-visits : goal.returns-clause-visits
returns-clause-visits g c = λ ok before so_far.
    let met = g.met.E.State.Lattice g.world.𝓛 g.world.𝓜 g.world.𝓡 ((λ s x. x), (λ x. x), (λ x. x), λ x. x) in
    let law = g.met.E.Equations.lawful c.args.system.now c.requires.system in
    let is = steps.along_is g.E.State.Lattice (g.E.Equations.fits c.args.system.now) (g.E.Equations.system_of c.args.system.now) met.order met.join_laws law c.args.leaving.now.links.now c.args.table.now c.args.edge c.index-table-link.result c.in-Some.state c.in_ok-brought.field-0 c.requires.links c.requires.edge c.requires.nodes c.in-Some.is c.in_ok-brought.ensures in
    let rose = rw c.if-raised.false at c.in_ok-raised.ensures.rose in
    visits.one_more g.E.State.Lattice (g.E.Equations.fits c.args.system.now) (g.E.Equations.system_of c.args.system.now) c.args.visits.now _ before (at c.args.table.now) (at c.bring.new.table) c.saturating_add.ensures
    (subst (λ t. IsVisit g.E.State.Lattice (g.E.Equations.fits c.args.system.now) (g.E.Equations.system_of c.args.system.now) (at c.args.table.now) (at t)) (sym rose.0)
    (visits.met_visit g.E.State.Lattice (g.E.Equations.fits c.args.system.now) (g.E.Equations.system_of c.args.system.now) met.order met.join_laws law (at c.args.table.now) c.args.edge c.requires.edge c.requires.started
    (steps.nothing_new g.E.State.Lattice (g.E.Equations.fits c.args.system.now) (g.E.Equations.system_of c.args.system.now) met.order met.join_laws law c.args.leaving.now.links.now c.args.table.now c.args.edge c.in_ok-brought.field-0 c.in-Some-2.brought c.requires.links is c.in-Some-2.is rose.1))) so_far
