use Rattle.std.proofs.Common.{ap, subst, sym, arith, length, option_map, All, ◌≤◌, List}
use Rattle.mutex_configs.specs.declared.nodes.ConfiguredGraph.{ConfiguredGraph}
use Rattle.mutex_configs.specs.reading.Configuring.{AreAll}
use Rattle.mutex_configs.proofs.Whole.{same_length, all_small}
use Rattle.mutex_configs.proofs.programs.within_limits.Goals as goal

pub is_within_work-requires-clause-nodes : goal.is_within_work-requires-clause-nodes
is_within_work-requires-clause-nodes c =
    let s = subst (λ o. AreAll c.args.scale c.args.graphs.now (option_map (λ v. v.items) o)) c.in-Some.is c.in_ok-configured.ensures in
    subst (λ (cs : List ConfiguredGraph). All (λ (g : ConfiguredGraph). length g.nodes.keys ≤ 200000) cs) (sym c.deref.ensures.value)
    (all_small c.args.scale c.args.graphs.now c.in-Some.configured.items s)

pub is_within_work-requires-clause-bodies : goal.is_within_work-requires-clause-bodies
is_within_work-requires-clause-bodies c =
    let s = subst (λ o. AreAll c.args.scale c.args.graphs.now (option_map (λ v. v.items) o)) c.in-Some.is c.in_ok-configured.ensures in
    let a = same_length c.args.scale c.args.graphs.now c.in-Some.configured.items s in
    let b = ap length c.deref.ensures.value in
    let d = c.requires.bodies in
    omega (arith, a, b, d)
