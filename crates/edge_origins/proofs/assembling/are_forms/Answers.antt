use Rattle.std.proofs.Common.{◌≤◌, ◌<◌, length, refl, arith}
use Rattle.std.proofs.lemmas.Bool.{false≢true}
use Rattle.flow_graph.specs.declared.operations.Operation.TheVariants as Op
use Rattle.flow_graph.specs.declared.graphs.Edge.{Edge}
use Rattle.path_origins.specs.declared.origins.Form.TheVariants as Forms
use Rattle.edge_origins.specs.declared.origins.EdgeOrigin.{EdgeOrigin}
use Rattle.edge_origins.specs.Bodies.{of_none}
use Rattle.edge_origins.proofs.FormPairs.{of_next, of_all, of_at, as_many}
use Rattle.edge_origins.proofs.assembling.are_forms.Goals as goal

pub returns-then-edges-origins : goal.returns-then-edges-origins
returns-then-edges-origins c = (λ e. absurd (false≢true e), λ all. absurd (c.if-edges-origins.true (as_many all)))

pub returns-then-not-has_form : goal.returns-then-not-has_form
returns-then-not-has_form c =
    let edge : Edge = record { from = 0; to = 0; op = Op.Skip } in
    let origin : EdgeOrigin = record { path = 0; place = record { line = 0; col = 0 }; form = Forms.Skip } in
    let below : c.loop-number.number < length c.args.edges.now = omega arith in (
      λ e. absurd (false≢true e),
      λ all. c.if-not-has_form.ensures.1 (of_at all c.loop-number.number edge origin below),
    )

pub loop-number-init : goal.loop-number-init
loop-number-init c = of_none

pub loop-number-preserved : goal.loop-number-preserved
loop-number-preserved c =
    let edge : Edge = record { from = 0; to = 0; op = Op.Skip } in
    let origin : EdgeOrigin = record { path = 0; place = record { line = 0; col = 0 }; form = Forms.Skip } in
    let below : c.loop-number.number < length c.args.edges.now = omega arith in
    of_next c.args.edges.now c.args.origins.now c.loop-number.number edge origin below c.loop-number-test.true
    c.loop-number.invariant (c.if-not-has_form.ensures.0 refl)

pub returns : goal.returns
returns c =
    let edges : length c.args.edges.now ≤ c.loop-number.number = omega arith in
    let origins : length c.args.origins.now ≤ c.loop-number.number = omega arith in
    let all = of_all c.args.edges.now c.args.origins.now c.loop-number.number edges origins c.loop-number.invariant in
    (λ _. all, λ _. refl)
