use Rattle.std.proofs.Common.{◌*◌, ◌^◌, ◌<◌, sym, subst, ℕ, Bool}
use Rattle.graph_facts.specs.Lists.{numbers}
use Rattle.graph_facts.proofs.Sweeps.{live_none, left, left_falls, total_bound, ended}
use Rattle.graph_facts.proofs.live.live_temporaries.Goals as goal

pub loop-more-init : goal.loop-more-init
loop-more-init c = record {
  partly = live_none c.args.graph.now.edges.items c.args.graph.now.nodes (numbers c.in_ok-lists.lists.items) c.in_ok-lists.ensures;
  whole = λ e. absurd cc;
}

pub loop-more-preserved : goal.loop-more-preserved
loop-more-preserved c = record {
  partly = c.in_ok-more.ensures.partly;
  whole = λ e. ended c.args.graph.now.edges.items c.args.graph.now.nodes c.in_ok-more.more (numbers c.loop-more.lists.items) (numbers c.sweep.new.lists.items) e c.in_ok-more.ensures;
}

pub loop-more-smaller : goal.loop-more-smaller
loop-more-smaller c =
    let room : ℕ = c.args.graph.now.nodes * 2 ^ 32 in
    subst (λ (m : Bool). left room c.in_ok-more.more (numbers c.sweep.new.lists.items) < left room m (numbers c.loop-more.lists.items)) (sym c.loop-more-test.true)
    (left_falls room c.in_ok-more.more (numbers c.loop-more.lists.items) (numbers c.sweep.new.lists.items)
    (total_bound c.args.graph.now.edges.items c.args.graph.now.nodes (numbers c.sweep.new.lists.items) c.in_ok-more.ensures.partly) c.in_ok-more.ensures.grown)

pub returns : goal.returns
returns c = c.loop-more.invariant.whole c.loop-more-test.false
