use Rattle.std.proofs.Common.{◌<◌, ◌+◌, subst, sym, arith, ◌∙◌, get_or, length}
use Rattle.std.proofs.lemmas.List.{get_or_default}
use Rattle.mutex_configs.specs.flow_graph.declared.graphs.Graph.{Graph}
use Rattle.mutex_configs.specs.declared.nodes.ConfiguredGraph.{ConfiguredGraph}
use Rattle.mutex_configs.specs.tm_laid.Layouts.{laid_tree}
use Rattle.entry_states.specs.body_systems.Facts.{AreFactsOf}
use Rattle.program_systems.proofs.FactsInOrder.{AreFirst, one_more}
use Rattle.program_systems.proofs.facts.facts_of_bodies.Goals as goal

pub loop-number-preserved : goal.loop-number-preserved
loop-number-preserved c =
    let laid = laid_tree c.args.program.now.laid in
    let gs = c.args.program.now.graphs.graphs.items in
    let cs = c.args.program.now.configured.items in
    let n = c.loop-number.number in
    let x = c.in_ok-facts.facts in
    let within : n < length gs = omega (arith, c.loop-number-test.true, c.loop-number.auto.number-end, c.len-number-end.ensures) in
    let within' : n < length cs = omega (arith, within, c.requires.count) in
    subst (λ fs. AreFirst laid gs cs (n + 1) fs) (sym c.in_ok-push.ensures.items)
    (one_more laid gs cs n c.loop-number.bodies.items x c.loop-number.invariant (λ g c'.
    subst (λ (y : Graph). AreFactsOf laid y (get_or cs n c') x)
    (c.index.ensures ∙ get_or_default gs n c.index.result.now g within)
    (subst (λ (y : ConfiguredGraph). AreFactsOf laid c.index.result.now y x)
    (c.index-in-loop-number.ensures ∙ get_or_default cs n c.index-in-loop-number.result.now c' within')
    c.in_ok-facts.ensures)))
