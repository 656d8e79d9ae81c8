use Rattle.std.proofs.Common.{◌≡◌, ◌+◌, ℕ, Bool, List, refl, subst, length, arith}
use Rattle.tm_laid.specs.Layouts.{LaidTree, laid_tree}
use Rattle.flow_graph.specs.Graphs.{Edges}
use Rattle.region_cells.specs.reading.Marks.{HasMarkedFrom, IsCovering, AreListed}
use Rattle.region_cells.proofs.Wholes.{head_order, head_within, all_written}
use Rattle.region_cells.proofs.writes.written_in.Goals as goal

pub mark_region-requires-clause-last : goal.mark_region-requires-clause-last
mark_region-requires-clause-last c = head_within c.args.graph.now.edges.items c.args.graph.now.nodes c.args.head c.requires.range c.requires.head

pub mark_region-requires-clause-order : goal.mark_region-requires-clause-order
mark_region-requires-clause-order c = head_order c.args.graph.now.edges.items c.args.head c.requires.head

pub returns : goal.returns
returns c =
    let laid : LaidTree = laid_tree c.args.laid.now in
    let g : Edges = c.args.graph.now.edges.items in
    let none : List Bool = c.in_ok-marks.marks.items in
    let marks : List Bool = c.mark_region.new.marks.items in
    let covered : List Bool = c.in_ok-covered.covered.items in
    let cells : List ℕ = c.in_ok-cells.cells.items in
    let len : c.len.result ≡ length laid.objects = (let a = c.len.ensures in let b = c.args.laid.now.objects.ok.0 in omega (arith, a, b)) in
    let marked = subst (λ (n : ℕ). HasMarkedFrom g n c.args.head.node (c.args.head.last + 1) none marks) len c.mark_region.ensures in
    let covering = subst (λ (ms : List Bool). IsCovering laid ms covered) c.deref.ensures.value c.in_ok-covered.ensures in
    let listed = subst (λ (cs : List Bool). AreListed laid marks cs (length laid.abstract_cells) cells) c.deref-3.ensures.value
    (subst (λ (ms : List Bool). AreListed laid ms c.deref-3.result.now (length laid.abstract_cells) cells) c.deref-2.ensures.value c.in_ok-cells.ensures) in
    all_written laid g c.args.head c.args.slots (length laid.abstract_cells) none marks covered cells c.requires.head c.requires.slots c.in_ok-marks.ensures marked covering refl listed
