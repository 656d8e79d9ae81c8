use Rattle.std.proofs.Common.{length, subst, inl, inr, List}
use Rattle.flow_graph.specs.Graphs.{Edges}
use Rattle.mutex_configs.specs.declared.nodes.ConfiguredNode.{ConfiguredNode}
use Rattle.mutex_configs.specs.declared.nodes.EdgeCopy.{EdgeCopy}
use Rattle.value_ranges.specs.reading.Notes.{AreWidened, IsInHeads, IsInCopies, IsInParts, is_noted}
use Rattle.value_ranges.proofs.Widening.{all_both, of_those}
use Rattle.value_ranges.proofs.notes.note_table.Goals as goal

pub note_raised-requires : goal.note_raised-requires
note_raised-requires c =
    of_those c.args.cells.now c.args.noted.now.items c.note_heads.new.noted.items c.requires c.note_heads.ensures.count

pub returns : goal.returns
returns c =
    let cells = c.args.cells.now in
    let all = c.args.all in
    let edges = c.args.graph.now.edges.items in
    let nodes = c.args.configured.now.nodes.keys in
    let copies = c.args.configured.now.copies.items in
    let f = c.args.facts.now in
    let table = c.args.table.now in
    let before = c.args.noted.now.items in
    let between = c.note_heads.new.noted.items in
    let after = c.note_raised.new.noted.items in
    let first = subst (λ (ns : List ConfiguredNode). AreWidened (λ o n. IsInHeads cells
    (is_noted all f.heads f.written ns) table (length table) o n) before between) c.as_slice.ensures.keys
    c.note_heads.ensures in
    let second = subst (λ (es : Edges). AreWidened (λ o n. IsInCopies cells es copies table (length copies) o n) between
    after) c.deref.ensures.value
    (subst (λ (cs : List EdgeCopy). AreWidened (λ o n. IsInCopies cells c.deref.result.now cs table (length cs) o n)
    between after) c.deref-2.ensures.value c.note_raised.ensures) in
    all_both (λ o n. IsInHeads cells (is_noted all f.heads f.written nodes) table (length table) o n)
    (λ o n. IsInCopies cells edges copies table (length copies) o n)
    (λ o n. IsInParts cells all edges nodes copies f.heads f.written table o n) before between after
    (λ o n h. inl h) (λ o n h. inr h) (λ o n h. h) first second
