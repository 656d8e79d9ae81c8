use Rattle.std.proofs.Common.{◌≡◌, ◌∙◌, ◌<◌, ap, List, length, get_or, arith}
use Rattle.tm_typed.specs.declared.files.TypedStatic.{TypedStatic}
use Rattle.cell_layout.proofs.StaticSteps.{static_numbers_more}
use Rattle.cell_layout.proofs.objects.numbers_of_statics.Goals as goal

pub loop-object-preserved : goal.loop-object-preserved
loop-object-preserved c =
    let e : c.deref-object-items.result.now ≡ c.args.file.now.statics.items = c.deref-object-items.ensures.value in
    let lt : c.loop-object.object-index < length c.args.file.now.statics.items = (let a = c.loop-object-test.true in let b = ap length e in omega (arith, a, b)) in
    let is : c.object-item.result ≡ get_or c.args.file.now.statics.items c.loop-object.object-index c.object-item.result =
    c.object-item.is ∙ ap (λ (xs : List TypedStatic). get_or xs c.loop-object.object-index c.object-item.result) e in
    static_numbers_more c.args.file.now.statics.items c.loop-object.object-index c.object-item.result c.loop-object.number c.in_ok-number.number c.loop-object.numbers.items c.push.new.self.items _ lt is
    c.in_ok-push.ensures.items c.in_ok-number.ensures c.loop-object.invariant
