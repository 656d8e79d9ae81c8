use Rattle.std.proofs.Common.{◌↔◌, ◌∙◌, subst}
use Rattle.std.specs.Prelude.{Contains}
use Rattle.std.proofs.lemmas.List.{take_all}
use Rattle.std.specs.FinMap as map
use Rattle.pointer_dom.specs.PointerSets.{offsets_or_none}
use Rattle.tm_laid.specs.Layouts.{laid_tree}
use Rattle.alarm_contexts.specs.Flaws.{IsWrong}
use Rattle.alarm_contexts.proofs.Wrong.{IsWrongAmong, among_entries, among_grown, never_wrong}
use Rattle.alarm_contexts.proofs.pointers.flaws_among.Goals as goal

pub loop-object-preserved : goal.loop-object-preserved
loop-object-preserved c = λ f.
    among_grown (IsWrong (laid_tree c.args.laid.now) c.args.operation c.args.counts.now)
    c.entries-object-items.result.now c.loop-object.object-index c.loop-object-item.result c.loop-object-test.true
    c.loop-object-item.is f (c.loop-object.invariant f) (c.in_ok-add_wrong.ensures f)

pub returns : goal.returns
returns c = λ f.
    let laid = laid_tree c.args.laid.now in
    let W = IsWrong laid c.args.operation c.args.counts.now in
    let all = take_all c.loop-object.object-index c.entries-object-items.result.now c.loop-object-test.false
    ∙ c.entries-object-items.ensures in
    let found = among_entries W (never_wrong laid c.args.operation c.args.counts.now) c.objects.result.now f in
    let so_far = subst (λ es. Contains c.loop-object.flaws.items f ↔ IsWrongAmong W es f) all
    (c.loop-object.invariant f) in
    let there = subst (λ objects. IsWrongAmong W (map.entries c.objects.result.now) f
    ↔ W f.object (offsets_or_none (map.get objects f.object)) f.flaw) c.objects.ensures.value found in
    (λ h. there.0 (so_far.0 h), λ w. so_far.1 (there.1 w))
