use Rattle.std.proofs.Common.{◌≡◌, ℕ, List, length, get_or, ap, sym, ◌∙◌, subst}
use Rattle.std.proofs.lemmas.List.{get_or_default}
use Rattle.mutex_configs.specs.tm_laid.Layouts.{laid_tree}
use Rattle.mutex_configs.specs.declared.nodes.ConfiguredGraph.{ConfiguredGraph}
use Rattle.mutex_configs.specs.declared.nodes.EdgeCopy.{EdgeCopy}
use Rattle.cell_touches.specs.Touches.{AreSeen}
use Rattle.cell_touches.proofs.programs.body_touches.Goals as goal

pub returns : goal.returns
returns c = λ other.
    let laid = laid_tree c.args.program.now.laid in
    let cs = c.args.program.now.configured.items in
    let body = c.args.body in
    let entry = c.index-configured.result.now in
    let is : entry ≡ get_or cs body other =
    c.index-configured.ensures ∙ get_or_default cs body entry other c.requires in
    let listed : length c.deref-3.result.now ≡ length entry.copies.items =
    ap (λ (xs : List EdgeCopy). length xs) c.deref-3.ensures.value in
    let counted : length entry.copies.items ≡ (let g = get_or cs body other in length g.copies.items) =
    ap (λ (g : ConfiguredGraph). length g.copies.items) is in
    let all : AreSeen laid body c.deref-4.result.now =
    subst (λ (ls : List (List ℕ)). AreSeen laid body ls) (sym c.deref-4.ensures.value) c.in_ok-cells.ensures in
    let ensures = c.in_ok-touched.ensures in
    record {
      touched = ensures.touched ∙ (listed ∙ counted);
      carried = ensures.carried ∙ (listed ∙ counted);
      looked = ensures.looked ∙ (listed ∙ counted);
      within = ensures.within;
      seen = ensures.seen laid body all;
      seen_carried = ensures.seen_carried laid body all;
    }
