use Rattle.std.proofs.Common.{◌≡◌, ◌<◌, ℕ, List, ap, sym, subst, refl, get_or, set, length, arith}
use Rattle.std.specs.Prelude.{Vec}
use Rattle.std.specs.declared.alloc.Global.{Global}
use Rattle.std.proofs.lemmas.List.{map-set, length-map}
use Rattle.flow_graph.specs.declared.graphs.Edge.{Edge}
use Rattle.flow_graph.specs.Graphs.{Edges}
use Rattle.graph_facts.specs.Lists.{numbers}
use Rattle.graph_facts.specs.reading.Live.{IsRisingList, HasPut, IsBrought, list_at, ArePartlyLive}
use Rattle.graph_facts.proofs.Sweeps.{list_is, same_bound, brings_more, brings_none}
use Rattle.graph_facts.proofs.live.bring.Goals as goal

list_there : (g : Edges) (nodes n : ℕ) (lists : List (Vec ℕ Global)) (v : Vec ℕ Global) (xs : List ℕ) → ArePartlyLive g nodes (numbers lists) → n < nodes → v ≡ get_or lists n v → xs ≡ v.items
    → xs ≡ list_at (numbers lists) n
list_there g nodes n lists v xs partly lt is e =
    list_is lists n v xs (let a = partly.node_count in let b = length-map lists (λ (w : Vec ℕ Global). w.items) in omega (arith, a, b, lt)) is e

put_there : (e : Edge) (lists : List (List ℕ)) (before behind list : List ℕ) → before ≡ list_at lists e.from → behind ≡ list_at lists e.to → HasPut (IsBrought e.op behind) before list
    → HasPut (IsBrought e.op (list_at lists e.to)) (list_at lists e.from) list
put_there e lists before behind list p q h =
    subst (λ (xs : List ℕ). HasPut (IsBrought e.op xs) (list_at lists e.from) list) q (subst (λ (xs : List ℕ). HasPut (IsBrought e.op behind) xs list) p h)

pub brought-requires : goal.brought-requires
brought-requires c =
    let g : Edges = c.args.graph.now.edges.items in
    let e : Edge = c.index-edge.result.now in
    let within = same_bound g c.args.graph.now.nodes c.args.number e e c.requires.range c.requires.edge c.index-edge.ensures in
    subst (λ (xs : List ℕ). IsRisingList xs)
    (sym (list_there g c.args.graph.now.nodes e.from c.args.lists.now.items c.index.result.now c.deref.result.now c.requires.lists within.0 c.index.ensures c.deref.ensures.value))
    (c.requires.lists.each e.from within.0)

pub returns-then-len : goal.returns-then-len
returns-then-len c =
    let g : Edges = c.args.graph.now.edges.items in
    let nodes : ℕ = c.args.graph.now.nodes in
    let e : Edge = c.index-edge.result.now in
    let lists = c.args.lists.now.items in
    let within = same_bound g nodes c.args.number e e c.requires.range c.requires.edge c.index-edge.ensures in
    let p = list_there g nodes e.from lists c.index.result.now c.deref.result.now c.requires.lists within.0 c.index.ensures c.deref.ensures.value in
    let q = list_there g nodes e.to lists c.index-2.result.now c.deref-2.result.now c.requires.lists within.1 c.index-2.ensures c.deref-2.ensures.value in
    let r = list_there g nodes e.from lists c.index-3.result.now c.index-3.result.now.items c.requires.lists within.0 c.index-3.ensures refl in
    brings_more g nodes c.args.number e (numbers lists) (numbers (set lists e.from c.in_ok-list.list)) c.in_ok-list.list.items c.requires.range c.requires.edge c.index-edge.ensures
    (map-set (λ (w : Vec ℕ Global). w.items) lists e.from c.in_ok-list.list) c.requires.lists
    (put_there e (numbers lists) c.deref.result.now c.deref-2.result.now c.in_ok-list.list.items p q c.in_ok-list.ensures)
    (let x = c.len.ensures in let y = c.len-2.ensures in let z = c.in_ok-list.list.ok.0 in let w = c.index-3.result.now.ok.0 in let t = c.if-len.true in let s = ap length r in omega (arith, x, y, z, w, t, s))

pub returns-else-len : goal.returns-else-len
returns-else-len c =
    let g : Edges = c.args.graph.now.edges.items in
    let nodes : ℕ = c.args.graph.now.nodes in
    let e : Edge = c.index-edge.result.now in
    let lists = c.args.lists.now.items in
    let within = same_bound g nodes c.args.number e e c.requires.range c.requires.edge c.index-edge.ensures in
    let p = list_there g nodes e.from lists c.index.result.now c.deref.result.now c.requires.lists within.0 c.index.ensures c.deref.ensures.value in
    let q = list_there g nodes e.to lists c.index-2.result.now c.deref-2.result.now c.requires.lists within.1 c.index-2.ensures c.deref-2.ensures.value in
    let r = list_there g nodes e.from lists c.index-3.result.now c.index-3.result.now.items c.requires.lists within.0 c.index-3.ensures refl in
    brings_none g nodes c.args.number e (numbers lists) c.in_ok-list.list.items c.requires.range c.requires.edge c.index-edge.ensures c.requires.lists
    (put_there e (numbers lists) c.deref.result.now c.deref-2.result.now c.in_ok-list.list.items p q c.in_ok-list.ensures)
    (let x = c.len.ensures in let y = c.len-2.ensures in let z = c.in_ok-list.list.ok.0 in let w = c.index-3.result.now.ok.0 in let t = c.if-len.false in let s = ap length r in omega (arith, x, y, z, w, t, s))
