use Rattle.std.proofs.Common.{◌≡◌, ◌↔◌, ◌⊎◌, subst, length, arith}
use Rattle.std.specs.Prelude.{Contains}
use Rattle.lock_waits.specs.reading.Copies.{IsAskedBelow}
use Rattle.lock_waits.proofs.Asking.{joined, asked_more}
use Rattle.lock_waits.proofs.copies.add_copies.Goals as goal

pub loop-copy-preserved : goal.loop-copy-preserved
loop-copy-preserved c = λ r.
    let x = c.args.parts in
    joined (c.in_ok-add_copy.ensures r) (c.loop-copy.invariant r)
    (asked_more x.number x.edges.now x.nodes.now x.copies.now x.table.now r c.loop-copy.copy)

pub returns : goal.returns
returns c = λ r.
    let x = c.args.parts in
    let end : c.loop-copy.copy ≡ length x.copies.now = omega arith in
    subst (λ n. Contains c.loop-copy.requests.items r ↔ (Contains c.args.requests.now.items r
    ⊎ IsAskedBelow x.number x.edges.now x.nodes.now x.copies.now x.table.now n r)) end (c.loop-copy.invariant r)
