use Rattle.std.specs.Prelude.{Contains}
use Rattle.std.proofs.lemmas.Result.{on_ok_weaker}
use Rattle.program_reports.proofs.Steps.{all_classes, IsNoted, no_race, class_of}
use Rattle.program_reports.proofs.Tables.{relabelled}
use Rattle.program_reports.proofs.copies.add_classes.Goals as goal

pub returns : goal.returns
returns c =
    let place = c.args.place in
    let classes = c.args.classes in
    on_ok_weaker c.add_class-7.result
    (λ last a. relabelled
    (all_classes (IsNoted place classes a) (no_race place classes a) (Contains c.args.alarms.now.items a)
    (Contains c.add_class.new.alarms.items a) (Contains c.add_class-2.new.alarms.items a)
    (Contains c.add_class-3.new.alarms.items a) (Contains c.add_class-4.new.alarms.items a)
    (Contains c.add_class-5.new.alarms.items a) (Contains c.add_class-6.new.alarms.items a)
    (Contains c.add_class-7.new.alarms.items a) (c.in_ok-add_class.ensures a) (c.in_ok-add_class-2.ensures a)
    (c.in_ok-add_class-3.ensures a) (c.in_ok-add_class-4.ensures a) (c.in_ok-add_class-5.ensures a)
    (c.in_ok-add_class-6.ensures a) (last a)) (class_of place classes a)) c.add_class-7.ensures
