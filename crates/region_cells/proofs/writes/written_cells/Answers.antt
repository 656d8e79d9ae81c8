use Rattle.std.proofs.Common.{◌∙◌, ℕ, List, ap, arith}
use Rattle.std.specs.Prelude.{Vec}
use Rattle.std.specs.declared.alloc.Global.{Global}
use Rattle.std.proofs.lemmas.List.{map_push}
use Rattle.tm_laid.specs.Layouts.{laid_tree}
use Rattle.graph_facts.specs.Lists.{numbers}
use Rattle.region_cells.proofs.Wholes.{heads_more, written_each}
use Rattle.region_cells.proofs.writes.written_cells.Goals as goal

pub loop-head-preserved : goal.loop-head-preserved
loop-head-preserved c =
    let i : ℕ = c.loop-head.head-index in
    heads_more (laid_tree c.args.laid.now) c.args.graph.now.edges.items c.args.heads.now i (numbers c.loop-head.lists.items) (numbers c.push.new.self.items) c.in_ok-cells.cells.items
    (ap (λ (vs : List (Vec ℕ Global)). numbers vs) c.in_ok-push.ensures.items ∙ map_push (λ (v : Vec ℕ Global). v.items) c.loop-head.lists.items c.in_ok-cells.cells)
    (written_each (laid_tree c.args.laid.now) c.args.graph.now.edges.items c.args.heads.now i _ c.in_ok-cells.cells.items c.loop-head-test.true c.in_ok-cells.ensures) c.loop-head.invariant

pub count_of_slots-slots-requires : goal.count_of_slots-slots-requires
count_of_slots-slots-requires c =
    let a = c.args.laid.now.objects.small in let b = c.args.laid.now.objects.ok.0 in let d = c.args.laid.now.objects.ok.1 in omega (arith, a, b, d)

pub written_in-requires-clause-objects : goal.written_in-requires-clause-objects
written_in-requires-clause-objects c =
    let a = c.args.laid.now.objects.small in let b = c.args.laid.now.objects.ok.0 in let d = c.args.laid.now.objects.ok.1 in omega (arith, a, b, d)
