use Rattle.std.proofs.Common.{refl, sym, subst, ◌<◌, ◌∙◌}
use Rattle.least_tables.proofs.work_list.run.Goals as goal

pub loop-edge-preserved : goal.loop-edge-preserved
loop-edge-preserved g c =
    let s = c.in_ok-rose.ensures.step refl in
    (s.started, s.met, (λ other closed below. s.least other closed (c.loop-edge.invariant.2 other closed below)), c.in_ok-rose.ensures.followed refl, c.in_ok-rose.ensures.visits refl _ c.loop-edge.invariant.4)

pub loop-edge-smaller : goal.loop-edge-smaller
loop-edge-smaller g c = (c.in_ok-rose.ensures.step refl).smaller

pub loop-edge-preserved-then-rose : goal.loop-edge-preserved-then-rose
loop-edge-preserved-then-rose g c =
    let s = c.in_ok-rose.ensures.step refl in
    (s.started, s.met, (λ other closed below. s.least other closed (c.loop-edge.invariant.2 other closed below)), c.in_ok-rose.ensures.followed refl, c.in_ok-rose.ensures.visits refl _ c.loop-edge.invariant.4)

pub returns-clause-closed : goal.returns-clause-closed
returns-clause-closed g c = λ ok.
    let none = rw c.in_default.is at c.next_pending.ensures in
    let len = c.loop-edge.auto.pending ∙ c.requires.edges in
    record {
      started = c.loop-edge.invariant.0;
      edges = λ e lt. c.loop-edge.invariant.1 e lt (none e (subst (λ n. e < n) (sym len) lt));
    }
