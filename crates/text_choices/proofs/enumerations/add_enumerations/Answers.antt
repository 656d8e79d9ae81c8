use Rattle.std.proofs.Common.{◌<◌, refl, length, get_or, ap, ◌∙◌, arith}
use Rattle.tm_laid.specs.Layouts.{laid_tree}
use Rattle.text_choices.proofs.Each.{none_of, one_more}
use Rattle.text_choices.proofs.TypedLemmas.{ObjectOf, objects_all}
use Rattle.text_choices.proofs.enumerations.add_enumerations.Goals as goal

pub loop-object-init : goal.loop-object-init
loop-object-init c = none_of (ObjectOf (laid_tree c.args.laid.now)) c.args.laid.now.file.statics.items c.args.choices.now.items

pub loop-object-preserved : goal.loop-object-preserved
loop-object-preserved c =
    let statics = c.args.laid.now.file.statics.items in
    let same = c.deref-object-items.ensures.value in
    let inside : c.loop-object.object-index < length statics = rw same at c.loop-object-test.true in
    one_more (ObjectOf (laid_tree c.args.laid.now)) statics c.loop-object.object-index c.object-item.result
    c.args.choices.now.items c.loop-object.choices.items c.add_object.new.choices.items inside
    (c.object-item.is ∙ ap (λ xs. get_or xs c.loop-object.object-index c.object-item.result) same)
    c.loop-object.invariant c.in_ok-add_object.ensures

pub returns : goal.returns
returns c =
    let statics = c.args.laid.now.file.statics.items in
    let same = ap length c.deref-object-items.ensures.value in
    objects_all (laid_tree c.args.laid.now) statics c.loop-object.object-index c.args.choices.now.items c.loop-object.choices.items
    refl (omega (arith, same)) c.loop-object.invariant
