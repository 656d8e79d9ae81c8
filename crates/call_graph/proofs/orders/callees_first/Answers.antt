use Rattle.std.proofs.Common.{◌≡◌, ℕ, ◌≤◌, length, map, sym, subst, arith}
use Rattle.std.proofs.lemmas.List.{length-map}
use Rattle.call_graph.specs.Graphs.{lists}
use Rattle.call_graph.specs.Searches.{IsUnmet}
use Rattle.call_graph.proofs.SearchSteps.{unmet_search, all_done}
use Rattle.call_graph.proofs.orders.callees_first.Goals as goal

pub loop-f-init : goal.loop-f-init
loop-f-init c =
    unmet_search (lists c.args.calls.now) c.in_ok-search.search (subst (λ (n : ℕ). IsUnmet c.in_ok-search.search n) (sym (length-map c.args.calls.now (λ v. v.items))) c.in_ok-search.ensures)

pub returns : goal.returns
returns c =
    let count : length (lists c.args.calls.now) ≡ length c.args.calls.now = length-map c.args.calls.now (λ v. v.items) in
    all_done (lists c.args.calls.now) c.loop-f.search c.loop-f.f (omega (arith, count, c.loop-f-test.false)) c.loop-f.invariant
