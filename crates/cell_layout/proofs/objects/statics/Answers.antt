use Rattle.std.proofs.Common.{◌≡◌, ◌∙◌, ◌<◌, ap, List, length, get_or, arith}
use Rattle.tm_typed.specs.declared.files.TypedStatic.{TypedStatic}
use Rattle.cell_layout.proofs.StaticSteps.{statics_more, statics_all}
use Rattle.cell_layout.proofs.objects.statics.Goals as goal

pub loop-object-preserved : goal.loop-object-preserved
loop-object-preserved c =
    let e : c.deref-object-items.result.now ≡ c.args.file.now.statics.items = c.deref-object-items.ensures.value in
    let lt : c.loop-object.object-index < length c.args.file.now.statics.items = (let a = c.loop-object-test.true in let b = ap length e in omega (arith, a, b)) in
    let is : c.object-item.result ≡ get_or c.args.file.now.statics.items c.loop-object.object-index c.object-item.result =
    c.object-item.is ∙ ap (λ (xs : List TypedStatic). get_or xs c.loop-object.object-index c.object-item.result) e in
    statics_more c.args.file.now.statics.items c.loop-object.object-index c.object-item.result c.loop-object.objects.items c.push_static.new.objects.items _ lt is c.in_ok-push_static.ensures c.loop-object.invariant

pub returns : goal.returns
returns c =
    let a = c.loop-object-test.false in
    let b = ap length c.deref-object-items.ensures.value in
    statics_all c.args.file.now.statics.items c.loop-object.object-index c.loop-object.objects.items _
    (omega (arith, a, b)) c.loop-object.invariant
