use Rattle.std.proofs.Common.{◌≡◌, ◌∙◌, [], ap, length, sym, subst, arith}
use Rattle.std.proofs.lemmas.List.{get_or-map, length-map}
use Rattle.flow_graph.specs.declared.graphs.Graph.{Graph}
use Rattle.mutex_configs.specs.declared.nodes.ConfiguredGraph.{ConfiguredGraph}
use Rattle.program_reports.proofs.low.post_recheck.Found.{table_read}
use Rattle.program_reports.specs.post_recheck.Pairs.{lists_of}
use Rattle.program_reports.specs.post_recheck.program_equations.Solutions.{table_at}
use Rattle.value_ranges.specs.reading.Reached.{AddsPlaces, IsOfCopies, IsOfTables, edges_at, copies_at}
use Rattle.value_ranges.proofs.Adding.{adds_nothing, adds_more, adds_all, copies_read, places_read}
use Rattle.value_ranges.proofs.places.reached_in.Goals as goal

pub loop-number-init : goal.loop-number-init
loop-number-init c =
    let graphs = c.args.graphs.now in
    let configured = c.args.configured.now in
    let lists = lists_of c.args.tables.now in
    subst (λ xs. AddsPlaces (λ q. IsOfTables graphs configured lists 0 q) [] xs) (sym c.new-places.ensures.items)
    (adds_nothing (λ q t. (let copies = copies_at configured t in
    IsOfCopies (edges_at graphs t) copies (table_at lists t) (length copies) q)) [])

pub push_copies-requires : goal.push_copies-requires
push_copies-requires c =
    let graphs = c.args.graphs.now in
    let configured = c.args.configured.now in
    let lists = lists_of c.args.tables.now in
    let i = c.loop-number.number in
    let lt = c.loop-number-test.true in
    let all = length-map c.args.tables.now (λ v. v.items) in
    let most = c.requires.graphs_count in
    let many = c.requires.configured_count in
    let edges = get_or-map (λ (g : Graph). g.edges.items) graphs i c.index-graphs-number.result []
    (omega (arith, lt, all, most)) ∙ sym c.deref.ensures.value in
    let copies = get_or-map (λ (g : ConfiguredGraph). g.copies.items) configured i c.index-configured-number.result []
    (omega (arith, lt, all, many)) ∙ sym c.deref-in-loop-number.ensures.value in
    let table = table_read c.args.tables.now i c.index-tables-number.result lt
    ∙ ap (λ v. v.items) (sym c.index-tables-number.is) ∙ sym c.deref-in-loop-number-2.ensures.value in
    copies_read graphs configured lists i c.deref.result.now c.deref-in-loop-number.result.now
    c.deref-in-loop-number-2.result.now edges copies table (c.requires.each i (omega (arith, lt, all)))

pub loop-number-preserved : goal.loop-number-preserved
loop-number-preserved c =
    let graphs = c.args.graphs.now in
    let configured = c.args.configured.now in
    let lists = lists_of c.args.tables.now in
    let i = c.loop-number.number in
    let lt = c.loop-number-test.true in
    let all = length-map c.args.tables.now (λ v. v.items) in
    let most = c.requires.graphs_count in
    let many = c.requires.configured_count in
    let edges = get_or-map (λ (g : Graph). g.edges.items) graphs i c.index-graphs-number.result []
    (omega (arith, lt, all, most)) ∙ sym c.deref.ensures.value in
    let copies = get_or-map (λ (g : ConfiguredGraph). g.copies.items) configured i c.index-configured-number.result []
    (omega (arith, lt, all, many)) ∙ sym c.deref-in-loop-number.ensures.value in
    let table = table_read c.args.tables.now i c.index-tables-number.result lt
    ∙ ap (λ v. v.items) (sym c.index-tables-number.is) ∙ sym c.deref-in-loop-number-2.ensures.value in
    adds_more (λ q t. (let cs = copies_at configured t in
    IsOfCopies (edges_at graphs t) cs (table_at lists t) (length cs) q)) i [] c.loop-number.places.items
    c.push_copies.new.places.items c.loop-number.invariant
    (places_read graphs configured lists i c.deref.result.now c.deref-in-loop-number.result.now
    c.deref-in-loop-number-2.result.now edges copies table c.loop-number.places.items c.push_copies.new.places.items
    c.in_ok-push_copies.ensures)

pub returns : goal.returns
returns c = λ place.
    let graphs = c.args.graphs.now in
    let configured = c.args.configured.now in
    let lists = lists_of c.args.tables.now in
    let n = length c.args.tables.now in
    let end : c.loop-number.number ≡ n = omega arith in
    adds_all (λ q. IsOfTables graphs configured lists n q) c.loop-number.places.items
    (subst (λ i. AddsPlaces (λ q. IsOfTables graphs configured lists i q) [] c.loop-number.places.items) end
    c.loop-number.invariant) place
