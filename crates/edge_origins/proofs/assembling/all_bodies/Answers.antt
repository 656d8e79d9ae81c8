use Rattle.std.proofs.Common.{◌≤◌, List, length, subst, arith}
use Rattle.std.proofs.lemmas.List.{take_all}
use Rattle.tm_laid.specs.Layouts.{laid_tree}
use Rattle.flow_graph.specs.declared.graphs.Graph.{Graph}
use Rattle.edge_origins.specs.reading.Gathered.{AreAssembled}
use Rattle.edge_origins.proofs.Assembled.{assembled_next}
use Rattle.edge_origins.proofs.assembling.all_bodies.Goals as goal

pub loop-body-preserved : goal.loop-body-preserved
loop-body-preserved c =
    assembled_next (laid_tree c.args.laid.now) c.args.notes.now c.args.graphs.now c.loop-body.body
    c.index-graphs-body.result c.loop-body.bodies.items c.push.new.self.items c.in_ok-body_origins.field-0
    c.loop-body-test.true c.index-graphs-body.is c.loop-body.invariant c.in_ok-body_origins.ensures
    c.in_ok-push.ensures.items

pub returns : goal.returns
returns c =
    let graphs = c.args.graphs.now in
    let le : length graphs ≤ c.loop-body.body = omega arith in
    let P : List Graph → Type 0 =
    λ l. AreAssembled (laid_tree c.args.laid.now) c.args.notes.now 0 l c.loop-body.bodies.items in
    subst P (take_all c.loop-body.body graphs le) c.loop-body.invariant
