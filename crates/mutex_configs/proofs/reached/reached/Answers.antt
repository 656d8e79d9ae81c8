use Rattle.std.proofs.Common.{subst, arith, option_map}
use Rattle.mutex_configs.specs.reading.Searches.{IsEnded}
use Rattle.mutex_configs.proofs.Searching.{differ}
use Rattle.mutex_configs.proofs.Ordered.{in_order, all_nodes}
use Rattle.mutex_configs.proofs.reached.reached.Goals as goal

pub returns-in-Ok : goal.returns-in-Ok
returns-in-Ok c =
    let s = subst (λ o. IsEnded c.args.graph.now c.args.most (option_map (λ n. n.keys) o)) c.in-Some.is c.in_ok-nodes.ensures in
    let a = c.len.ensures.len in
    let b = c.in-Ok.ensures.reordered.1 in
    let d = c.if-len-most.false in (
      all_nodes c.args.graph.now.edges.items c.in-Some.nodes.keys c.sort.new.self.keys s.0 c.in-Ok.ensures.reordered.0
          (in_order c.sort.new.self.keys c.in-Ok.ensures.sorted (differ c.sort.new.self.keys c.in-Ok.ensures.unique)),
      omega (arith, a, b, d),
    )
