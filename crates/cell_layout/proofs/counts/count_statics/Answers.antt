use Rattle.std.proofs.Common.{◌≡◌, ◌<◌, length, ap, ◌∙◌, List, get_or, arith}
use Rattle.tm_typed.specs.TypedFiles.{typed_file_tree}
use Rattle.tm_typed.specs.declared.files.TypedStatic.{TypedStatic}
use Rattle.cell_layout.proofs.LimitCounts.{static_more}
use Rattle.cell_layout.proofs.counts.count_statics.Goals as goal

pub loop-object-preserved : goal.loop-object-preserved
loop-object-preserved c =
    let e : c.deref-object-items.result.now ≡ c.args.file.now.statics.items = c.deref-object-items.ensures.value in
    let lt : c.loop-object.object-index < length c.args.file.now.statics.items = (let a = c.loop-object-test.true in let b = ap length e in omega (arith, a, b)) in
    let is : c.object-item.result ≡ get_or c.args.file.now.statics.items c.loop-object.object-index c.object-item.result =
    c.object-item.is ∙ ap (λ (xs : List TypedStatic). get_or xs c.loop-object.object-index c.object-item.result) e in (
      (let a = c.capped-sum.ensures in omega (arith, a)),
      static_more (typed_file_tree c.args.file.now) c.args.limit c.args.file.now.statics.items c.loop-object.object-index c.object-item.result
          c.loop-object.sum c.static_count.result c.capped-sum.result lt is c.static_count.ensures c.capped-sum.ensures ∙ c.loop-object.invariant.1,
    )
