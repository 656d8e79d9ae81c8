use Rattle.std.proofs.Common.{not}
use Rattle.std.proofs.lemmas.Result.{on_ok_weaker}
use Rattle.strided_dom.specs.Combinations.{IsProduct}
use Rattle.pointer_dom.specs.Advances.{directed}
use Rattle.alarm_contexts.specs.declared.flaws.Flaw.TheVariants as Flaws
use Rattle.alarm_contexts.specs.Flaws.{IsWrongToMove}
use Rattle.alarm_contexts.proofs.Wrong.{nothing_to_move, no_move, none_added, two_added, only_moved}
use Rattle.alarm_contexts.proofs.pointers.add_moved.Goals as goal

pub returns-in_default : goal.returns-in_default
returns-in_default c = λ f.
    none_added f c.args.object (nothing_to_move (IsProduct c.args.counts.now (directed (not c.args.minus) c.args.cells)) c.args.offsets.now
    c.in_default.ensures f.flaw)

pub returns-then-is_empty : goal.returns-then-is_empty
returns-then-is_empty c = λ f.
    none_added f c.args.object (no_move c.args.counts.now (directed (not c.args.minus) c.args.cells) c.args.offsets.now
    (c.is_empty.ensures.0 c.if-is_empty.true) f.flaw)

pub returns : goal.returns
returns c =
    let Step = IsProduct c.args.counts.now (directed (not c.args.minus) c.args.cells) in
    let o = c.args.offsets.now in
    on_ok_weaker c.add_if-2.result
    (λ last f. two_added (IsWrongToMove Step o) Flaws.Before Flaws.Behind (only_moved Step o) c.args.object
    c.goes_before-before.result c.goes_behind-behind.result c.goes_before-before.ensures c.goes_behind-behind.ensures
    f (c.in_ok-add_if.ensures f) (last f)) c.add_if-2.ensures
