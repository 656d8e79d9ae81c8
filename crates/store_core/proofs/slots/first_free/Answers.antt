use Rattle.std.proofs.Common.{◌≡◌, ◌+◌, ◌<◌, get_or, length, sym, ap, subst, ◌∙◌}
use Rattle.std.proofs.lemmas.Bool.{false≢true}
use Rattle.std.proofs.lemmas.List.{get_or_default}
use Rattle.store_core.specs.declared.slots.Slot.{Slot}
use Rattle.store_core.proofs.FirstFree.{IsFound, found_here, found_before, found_past}
use Rattle.store_core.proofs.slots.first_free.Goals as goal
use Rattle.store_core.proofs.slots.first_free.Goals.{then-is_free+then-comes_before, else-is_free, else-is_free-via-then-is_free+else-comes_before, else-is_free-via-else-is_free}

pub loop-task-preserved : goal.loop-task-preserved
loop-task-preserved g c =
    let slots = c.args.slots.now in
    let version = c.args.version in
    let task = c.loop-task.task in
    let first = c.loop-task.first in
    let found = c.loop-task.invariant in
    let lt : task < length slots = c.loop-task-test.true in
    let here : (d : Slot g.row.K.Denot) → get_or slots task d ≡ c.index-slots-task.result =
    λ d. get_or_default slots task d c.index-slots-task.result lt ∙ sym c.index-slots-task.is in
    elim c.if-is_free.branch [
      | then-is_free+then-comes_before w ↦
          let free = c.is_free.ensures.0 w.if-is_free.true in
          subst (λ o. IsFound slots version o (task + 1)) (sym w.first-is)
          (found_here slots version first task found (λ d. ap (λ s. s.lent) (here d) ∙ free.0)
          (λ d seen. free.1 (sym (ap (λ s. s.seen) (here d)) ∙ seen))
          (λ d. (w.comes_before.ensures d).0 w.if-comes_before.true))
      | else-is_free w ↦
          subst (λ o. IsFound slots version o (task + 1)) (sym w.first-is)
          (elim w.else-is_free.branch [
            | else-is_free-via-then-is_free+else-comes_before w' ↦
                found_before slots version first task found
                (λ d older. false≢true (sym w'.if-comes_before.false ∙ (w'.comes_before.ensures d).1 older))
                c.index-slots-task.result
            | else-is_free-via-else-is_free w' ↦
                found_past slots version first task found
                (λ d free. false≢true (sym w'.if-is_free.false ∙ c.is_free.ensures.1 (
                  sym (ap (λ s. s.lent) (here d)) ∙ free.0,
                  λ seen. free.1 (ap (λ s. s.seen) (here d) ∙ seen),
                )))
          ])
    ]
