use Rattle.std.proofs.Common.{[], ap, refl}
use Rattle.std.specs.Prelude.{not}
use Rattle.std.proofs.lemmas.List.{map_push}
use Rattle.serde_json.specs.Data.{Data}
use Rattle.serde_json.specs.View.{view}
use Rattle.log_baselines.specs.Logs.{is_absent}
use Rattle.log_baselines.proofs.Looped.{kept_more, left_out}
use Rattle.log_baselines.proofs.logs.present.Goals.{then-not-is_absent+in_ok-push, else-not-is_absent}
use Rattle.log_baselines.proofs.logs.present.Goals as goal

pub loop-value-preserved : goal.loop-value-preserved
loop-value-preserved c =
    let i = c.loop-value.value-index in
    let item = c.value-item.result in
    let found = λ (v : Data). not (is_absent v) in
    elim c.if-not-is_absent.branch [
      | then-not-is_absent+in_ok-push w ↦
          rw (w.found-is, w.in_ok-push.ensures.items, map_push)
          (kept_more view c.args.results.now i item c.loop-value-test.true c.value-item.is found [] _ _
          c.loop-value.invariant (ap not w.if-not-is_absent.ensures) refl)
      | else-not-is_absent w ↦
          rw w.found-is
          (left_out view c.args.results.now i item c.loop-value-test.true c.value-item.is found [] _
          c.loop-value.invariant (ap not w.if-not-is_absent.ensures))
    ]
