use Rattle.std.proofs.Common.{◌≡◌, ◌∙◌, ◌+◌, ℕ, sym, subst, arith, Option, None}
use Rattle.std.specs.Prelude.{Vec}
use Rattle.std.specs.declared.alloc.Global.{Global}
use Rattle.std.proofs.lemmas.List.{get_or_default}
use Rattle.graph_facts.specs.declared.regions.Head.{Head}
use Rattle.graph_facts.specs.reading.Heads.{IsLastBack}
use Rattle.graph_facts.proofs.HeadSteps.{AreHeadsBelow, heads_none, heads_other, heads_more, heads_all}
use Rattle.graph_facts.proofs.regions.heads.Goals as goal
use Rattle.graph_facts.proofs.regions.heads.Goals.{in-Some+in_ok-push, in_default}

pub loop-node-init : goal.loop-node-init
loop-node-init c = heads_none c.args.graph.now.edges.items c.new-heads.result.items c.new-heads.ensures.items

pub loop-node-preserved : goal.loop-node-preserved
loop-node-preserved c =
    let g = c.args.graph.now.edges.items in
    let n : ℕ = c.loop-node.node in
    let found = c.in_ok-last.ensures in
    let o : Option ℕ = c.index.result.now in
    let is = c.index.ensures ∙ get_or_default c.in_ok-last.last.items n o None (let a = c.loop-node-test.true in let b = found.node_count in omega (arith, a, b)) in
    let last : IsLastBack g n o = subst (λ (x : Option ℕ). IsLastBack g n x) (sym is) (found.each n c.loop-node-test.true) in
    let P : Vec Head Global → Type 0 = λ v. AreHeadsBelow g (n + 1) v.items in
    elim c.match-index.branch [
      | in-Some+in_ok-push w ↦ subst P (sym w.heads-is)
          (heads_more g (record { node = n; last = w.in-Some.last }) c.loop-node.heads.items w.push.new.self.items o w.in-Some.is w.in_ok-push.ensures.items last c.loop-node.invariant)
      | in_default w ↦ subst P (sym w.heads-is) (heads_other g n c.loop-node.heads.items o w.in_default.is last c.loop-node.invariant)
    ]

pub returns : goal.returns
returns c =
    let e : c.loop-node.node ≡ c.args.graph.now.nodes = (let a = c.loop-node-test.false in let b = c.loop-node.auto.node-end in omega (arith, a, b)) in
    let P : ℕ → Type 0 = λ k. AreHeadsBelow c.args.graph.now.edges.items k c.loop-node.heads.items in
    heads_all c.args.graph.now.edges.items c.args.graph.now.nodes c.loop-node.heads.items c.requires (subst P e c.loop-node.invariant)
