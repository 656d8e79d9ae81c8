use Rattle.std.proofs.Common.{◌+◌, refl, ap, ◌∙◌}
use Rattle.std.specs.Prelude.{option_map}
use Rattle.body_builder.specs.declared.fragments.Call.{Call}
use Rattle.body_builder.specs.Fragments.{tree_in, so_far}
use Rattle.body_builder.proofs.Joining.{joined}
use Rattle.body_builder.proofs.here.Here.called.Goals as goal

pub returns : goal.returns
returns c =
    let laid = tree_in c.args.self.now.laid.now in
    let size = c.args.size in
    let call : Call = record {
      path = c.args.path;
      depth = size.depth;
      node = c.node.result;
      nodes = c.nodes.result;
      temps = c.temps.result;
    } in
    let j = joined laid c.args.path size (so_far laid c.args.to.now) call c.in_ok-node.node c.in_ok-nodes.nodes
    c.in_ok-temps.temps c.in_ok-result.result c.requires.is_size refl refl c.node.ensures c.nodes.ensures
    c.temps.ensures (c.in_ok-nodes.ensures ∙ ap (λ k. k + size.nodes) c.nodes.ensures)
    (c.in_ok-temps.ensures ∙ ap (λ k. k + size.temps) c.temps.ensures) c.in_ok-node.ensures
    (c.in_ok-result.ensures ∙ ap (λ k. option_map (λ r. k + r) size.result) c.temps.ensures) in
    (c.in_ok-mark.ensures ∙ j.0, j.1)
