use Rattle.std.proofs.Common.{◌≡◌, sym, subst, ℕ, ◌+◌, ◌-◌, Bool, arith}
use Rattle.graph_facts.specs.Lists.{numbers}
use Rattle.graph_facts.specs.reading.Live.{Sweeps}
use Rattle.graph_facts.proofs.Sweeps.{sweeps_none, sweeps_more}
use Rattle.graph_facts.proofs.live.sweep.Goals as goal

pub loop-number-init : goal.loop-number-init
loop-number-init c =
    sweeps_none c.args.graph.now.edges.items c.args.graph.now.nodes c.len-number.result (numbers c.args.lists.now.items)
    (let a = c.len-number.ensures in let b = c.args.graph.now.edges.ok.0 in omega (arith, a, b)) c.requires.lists

pub loop-number-preserved : goal.loop-number-preserved
loop-number-preserved c =
    let n : ℕ = c.loop-number.number in
    let e : n ≡ (n - 1) + 1 = (let a = c.loop-number-test.true in omega (arith, a)) in
    let old = numbers c.args.lists.now.items in
    let mid = numbers c.loop-number.lists.items in
    let P : ℕ → Type 0 = λ k. Sweeps c.args.graph.now.edges.items c.args.graph.now.nodes k c.loop-number.more old mid in
    subst (λ (m : Bool). Sweeps c.args.graph.now.edges.items c.args.graph.now.nodes (n - 1) m old (numbers c.bring.new.lists.items)) (sym c.either-more.ensures)
    (sweeps_more c.args.graph.now.edges.items c.args.graph.now.nodes (n - 1) c.loop-number.more c.in_ok-brings.brings old mid (numbers c.bring.new.lists.items) (subst P e c.loop-number.invariant)
    c.in_ok-brings.ensures)

pub returns : goal.returns
returns c =
    let e : c.loop-number.number ≡ 0 = (let a = c.loop-number-test.false in omega (arith, a)) in
    let P : ℕ → Type 0 = λ k. Sweeps c.args.graph.now.edges.items c.args.graph.now.nodes k c.loop-number.more (numbers c.args.lists.now.items) (numbers c.loop-number.lists.items) in
    subst P e c.loop-number.invariant
