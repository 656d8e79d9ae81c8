use Rattle.std.proofs.Common.{◌≡◌, ◌∙◌, ap, arith}
use Rattle.std.proofs.lemmas.List.{length_push}
use Rattle.tm_typed.specs.TypedFiles.{typed_file_tree}
use Rattle.std.proofs.Common.{length, refl, ◌+◌}
use Rattle.cell_layout.proofs.CoreSteps.{cores_none, cores_more}
use Rattle.cell_layout.proofs.cores.only_parts.Goals as goal

pub loop-number-init : goal.loop-number-init
loop-number-init c = (ap length c.new-cores.ensures.items, cores_none (typed_file_tree c.args.file.now) c.new-cores.result.items c.new-cores.ensures.items)

pub loop-number-preserved : goal.loop-number-preserved
loop-number-preserved c = (
  ap length c.in_ok-push.ensures.items ∙ length_push c.loop-number.cores.items c.only_part.result ∙ ap (λ n. n + 1) c.loop-number.invariant.0,
  cores_more (typed_file_tree c.args.file.now) c.loop-number.cores.items c.push.new.self.items c.loop-number.number c.only_part.result c.loop-number.invariant.0 c.only_part.ensures c.in_ok-push.ensures.items
      c.loop-number.invariant.1,
)
