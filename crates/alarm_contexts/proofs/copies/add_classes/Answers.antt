use Rattle.std.specs.Prelude.{Contains}
use Rattle.std.proofs.lemmas.Result.{on_ok_weaker}
use Rattle.program_reports.proofs.Steps.{all_classes}
use Rattle.program_reports.proofs.Tables.{relabelled}
use Rattle.alarm_contexts.proofs.Noted.{IsNoted, no_race, class_of}
use Rattle.alarm_contexts.proofs.copies.add_classes.Goals as goal

pub returns : goal.returns
returns c =
    let place = c.args.place in
    let exit = c.args.exit in
    let classes = c.args.classes in
    on_ok_weaker c.add_class-7.result
    (λ last x. relabelled
    (all_classes (IsNoted place exit classes x) (no_race place exit classes x) (Contains c.args.contexts.now.items x)
    (Contains c.add_class.new.contexts.items x) (Contains c.add_class-2.new.contexts.items x)
    (Contains c.add_class-3.new.contexts.items x) (Contains c.add_class-4.new.contexts.items x)
    (Contains c.add_class-5.new.contexts.items x) (Contains c.add_class-6.new.contexts.items x)
    (Contains c.add_class-7.new.contexts.items x) (c.in_ok-add_class.ensures x) (c.in_ok-add_class-2.ensures x)
    (c.in_ok-add_class-3.ensures x) (c.in_ok-add_class-4.ensures x) (c.in_ok-add_class-5.ensures x)
    (c.in_ok-add_class-6.ensures x) (last x)) (class_of place exit classes x)) c.add_class-7.ensures
