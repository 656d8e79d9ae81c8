use Rattle.std.proofs.Common.{◌<◌, ◌≤◌, length, subst, arith}
use Rattle.std.proofs.lemmas.List.{take_all}
use Rattle.flow_graph.specs.Graphs.{Edges}
use Rattle.graph_positions.specs.Positions.{IsWide}
use Rattle.graph_positions.proofs.Entry.{wide_more}
use Rattle.graph_positions.proofs.temporaries.count_of_temporaries.Goals as goal

pub loop-number-preserved : goal.loop-number-preserved
loop-number-preserved c =
    let edges : Edges = c.args.graph.now.edges.items in
    let lt : c.loop-number.number < length edges = (let a = c.loop-number-test.true in let b = c.len-number-end.ensures in let d = c.args.graph.now.edges.ok.0 in omega (arith, a, b, d)) in
    wide_more edges c.loop-number.number c.loop-number.count c.with_given-count.result c.index.result.now c.given.result lt c.index.ensures c.given.ensures c.with_given-count.ensures.kept
    c.with_given-count.ensures.given c.loop-number.invariant

pub returns : goal.returns
returns c =
    let edges : Edges = c.args.graph.now.edges.items in
    let le : length edges ≤ c.loop-number.number = (let a = c.loop-number-test.false in let b = c.len-number-end.ensures in let d = c.args.graph.now.edges.ok.0 in omega (arith, a, b, d)) in
    subst (λ (g : Edges). IsWide g c.loop-number.count) (take_all c.loop-number.number edges le) c.loop-number.invariant
