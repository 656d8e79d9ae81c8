use Rattle.std.proofs.Common.{sym}
use Rattle.std.proofs.lemmas.Result.{on_ok_weaker}
use Rattle.post_recheck.specs.transfer_rows.StateForms.{only_pointers}
use Rattle.open_choices.specs.Lifetimes.{PointsTo}
use Rattle.open_choices.proofs.Additions.{added_as, added_nothing}
use Rattle.open_choices.proofs.Leftover.{points_nowhere}
use Rattle.open_choices.proofs.Others.{points_as}
use Rattle.open_choices.proofs.beginnings.add_objects.Goals as goal

pub returns-in-Some : goal.returns-in-Some
returns-in-Some c =
    let v = c.args.value.now in
    let w = only_pointers c.in-Some.pointers.now in
    on_ok_weaker c.add_named.result (λ h. added_as (PointsTo w) (PointsTo v) c.args.objects.now.items
    c.add_named.new.objects.items (λ x. (
      points_as w v x c.in-Some.ensures.value,
      points_as v w x (sym c.in-Some.ensures.value),
    )) h) c.add_named.ensures

pub returns-in-None : goal.returns-in-None
returns-in-None c =
    added_nothing (PointsTo c.args.value.now) (PointsTo c.args.value.now) c.args.objects.now.items
    (λ x. points_nowhere c.args.value.now x (sym c.in-None.ensures.value))
