use Rattle.std.proofs.Common.{◌∷◌, ◌++◌, [], ap, map, rules, ◌≡◌}
use Rattle.std.proofs.lemmas.List.{map_push}
use Rattle.serde_json.specs.View.{view}
use Rattle.log_baselines.specs.Suppressions.{is_kept}
use Rattle.log_baselines.proofs.Looped.{kept_more, left_out}
use Rattle.log_baselines.proofs.suppressions.push_kept.Goals.{then-is_kept+in_ok-clone+in_ok-push, else-is_kept}
use Rattle.log_baselines.proofs.suppressions.push_kept.Goals as goal

pub loop-suppression-preserved : goal.loop-suppression-preserved
loop-suppression-preserved c =
    let all = c.suppressions_of-all.result.now in
    let i = c.loop-suppression.suppression-index in
    let item = c.suppression-item.result in
    let first = map view c.args.suppressions.now.items in
    elim c.if-is_kept.branch [
      | then-is_kept+in_ok-clone+in_ok-push w ↦
          let cloned : view w.in_ok-clone.field-0 ≡ view item = search rules in
          rw (w.suppressions-is, w.in_ok-push.ensures.items, map_push)
          (kept_more view all i item c.loop-suppression-test.true c.suppression-item.is is_kept first _ _
          c.loop-suppression.invariant w.if-is_kept.ensures
          (ap (λ v. map view c.loop-suppression.suppressions.items ++ v ∷ []) cloned))
      | else-is_kept w ↦
          rw w.suppressions-is
          (left_out view all i item c.loop-suppression-test.true c.suppression-item.is is_kept first _
          c.loop-suppression.invariant w.if-is_kept.ensures)
    ]
