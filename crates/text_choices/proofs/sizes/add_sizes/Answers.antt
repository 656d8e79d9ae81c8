use Rattle.std.proofs.Common.{get_or, arith}
use Rattle.std.proofs.lemmas.List.{get_or_default}
use Rattle.text_choices.proofs.Each.{none_of, one_more}
use Rattle.text_choices.proofs.TypedLemmas.{no_place, SizeAt, sizes_all}
use Rattle.text_choices.proofs.sizes.add_sizes.Goals as goal

pub loop-place-init : goal.loop-place-init
loop-place-init c = none_of SizeAt c.args.sizes.now c.args.choices.now.items

pub loop-place-preserved : goal.loop-place-preserved
loop-place-preserved c =
    let place = get_or c.args.sizes.now c.loop-place.place-index no_place in
    one_more SizeAt c.args.sizes.now c.loop-place.place-index place c.args.choices.now.items c.loop-place.choices.items c.add_choice.new.choices.items
    c.loop-place-test.true (get_or_default c.args.sizes.now c.loop-place.place-index no_place place c.loop-place-test.true)
    c.loop-place.invariant c.in_ok-add_choice.ensures

pub returns : goal.returns
returns c =
    sizes_all c.args.sizes.now c.loop-place.place-index c.args.choices.now.items c.loop-place.choices.items (omega arith) c.loop-place.invariant
