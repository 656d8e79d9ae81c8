use Rattle.std.proofs.Common.{◌≡◌, ◌+◌, Some, None, get_or, set, sym, subst, ◌∙◌, arith}
use Rattle.std.proofs.lemmas.List.{get_or_default}
use Rattle.table_covers.specs.Systems.{from_of}
use Rattle.least_tables.proofs.Marking.{IsBuilt, built_more}
use Rattle.least_tables.proofs.leaving_edges.Leaving.new.Goals as goal

pub loop-edge-preserved : goal.loop-edge-preserved
loop-edge-preserved c =
    let links = c.args.links.now in
    let edge = c.loop-edge.edge in
    let last = c.loop-edge.last.items in
    let before = c.loop-edge.before.items in
    let within = c.requires edge c.loop-edge-test.true in
    let read : c.index.result.now ≡ get_or last (from_of links edge) None =
    c.index.ensures ∙ sym (get_or_default last (from_of links edge) None c.index.result.now (omega (arith, c.loop-edge.invariant.node_count))) in
    subst (λ bs. IsBuilt links c.args.nodes (edge + 1) (set last (from_of links edge) (Some edge)) bs) (sym c.in_ok-push.ensures.items)
    (built_more links c.args.nodes edge last before c.index.result.now within c.loop-edge.invariant read)
