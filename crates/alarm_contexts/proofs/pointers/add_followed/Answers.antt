use Rattle.std.proofs.Common.{◌≡◌, ℕ, false, not}
use Rattle.std.proofs.lemmas.Result.{on_ok_weaker}
use Rattle.tm_laid.specs.Layouts.{laid_tree, is_alive, stands_at}
use Rattle.alarm_contexts.specs.declared.flaws.Flaw.TheVariants as Flaws
use Rattle.alarm_contexts.specs.Flaws.{IsWrongToFollow}
use Rattle.alarm_contexts.proofs.Wrong.{nothing_to_follow, none_added, two_added, only_followed, dead_is}
use Rattle.alarm_contexts.proofs.pointers.add_followed.Goals as goal

pub returns-in_default : goal.returns-in_default
returns-in_default c = λ f.
    let laid = laid_tree c.args.laid.now in
    none_added f c.args.object (nothing_to_follow
    (λ offset. stands_at laid c.args.object offset c.args.target ≡ false)
    (is_alive laid c.args.path c.args.object ≡ false) c.args.offsets.now c.in_default.ensures f.flaw)

pub returns : goal.returns
returns c =
    let laid = laid_tree c.args.laid.now in
    let object = c.args.object in
    let o = c.args.offsets.now in
    let Unfit = λ (offset : ℕ). stands_at laid object offset c.args.target ≡ false in
    let Dead = is_alive laid c.args.path object ≡ false in
    on_ok_weaker c.add_if-2.result
    (λ last f. two_added (IsWrongToFollow Unfit Dead o) Flaws.Gone Flaws.Offset (only_followed Unfit Dead o) object
    (not c.is_alive.result) c.has_unfit-unfit.result
    (dead_is o c.in-Some.ends.first c.in-Some.ends.last c.in-Some.ensures (is_alive laid c.args.path object)
    c.is_alive.result c.is_alive.ensures)
    c.has_unfit-unfit.ensures f (c.in_ok-add_if.ensures f) (last f)) c.add_if-2.ensures
