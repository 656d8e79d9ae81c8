use Rattle.std.proofs.Common.{◌≡◌, ◌∙◌, ◌+◌, ℕ, ap, sym, subst}
use Rattle.std.specs.FinMap.{get, entries}
use Rattle.std.specs.Option.{option_copied}
use Rattle.tm_lattice.specs.Tables.{Table}
use Rattle.pointer_dom.specs.Values.{Values, joined_values, no_value}
use Rattle.interfere_set.specs.Stores.{IsNested, value_or_none}
use Rattle.interfere_set.specs.laws.Joins.{IsOf}
use Rattle.interfere_set.specs.laws.Hearing.{left_is}
use Rattle.interfere_set.proofs.Reading.{IsJoinedUpTo, joined_start, joined_next, join_none, at_place}
use Rattle.interfere_set.proofs.Taking.{part_of, own_part, others_part}
use Rattle.interfere_set.proofs.reads.taken_at_lock.Goals.{then-other-task+in-Some+in_ok-taken, then-other-task+in_default, else-other-task}
use Rattle.interfere_set.proofs.reads.taken_at_lock.Goals as goal

pub loop-other-init : goal.loop-other-init
loop-other-init c =
    let a = c.args in
    let part = λ (e : ℕ × Table (Table Values)). part_of a.task a.mutex a.cell e in
    subst (IsJoinedUpTo part c.entries-other-items.result.now 0)
    (sym (c.from_numbers-taken.ensures ∙ ap (λ n. record { numbers = n; pointers = no_value.pointers }) c.empty.ensures)) (joined_start part c.entries-other-items.result.now)

pub loop-other-preserved : goal.loop-other-preserved
loop-other-preserved c =
    let a = c.args in
    let part = λ (e : ℕ × Table (Table Values)). part_of a.task a.mutex a.cell e in
    let items = c.entries-other-items.result.now in
    let i = c.loop-other.other-index in
    let e = c.loop-other-item.result in
    let sync = a.store.now.sync in
    let so = c.loop-other.invariant in
    let taken = c.loop-other.taken in
    let place = subst (λ l. IsOf l e) (c.entries-other-items.ensures ∙ ap entries c.sync-sync.ensures) (at_place items i e c.loop-other-test.true c.loop-other-item.is) in
    let sync-is : IsNested sync = subst IsNested c.sync-sync.ensures c.is_nothing-known.ensures.value in
    let part-is = left_is a.task a.mutex a.cell sync sync-is e place in
    let next = joined_next part items i taken e c.loop-other-test.true c.loop-other-item.is part-is so in
    subst (IsJoinedUpTo part items (i + 1)) (sym (elim c.if-other-task.branch [
      | then-other-task+in-Some+in_ok-taken w ↦
          let stands = ap (λ o. value_or_none (option_copied o)) (sym w.in-Some.is) ∙ w.left_there.ensures in
          w.taken-is ∙ w.in_ok-taken.ensures ∙ ap (joined_values taken) (sym (others_part a.task a.mutex a.cell e w.in-Some.value.now w.if-other-task.true stands))
      | then-other-task+in_default w ↦
          let stands = ap (λ o. value_or_none (option_copied o)) (sym w.in_default.is) ∙ w.left_there.ensures in
          w.taken-is ∙ sym (ap (joined_values taken) (others_part a.task a.mutex a.cell e no_value w.if-other-task.true stands) ∙ join_none taken so.value)
      | else-other-task w ↦ w.taken-is ∙ sym (ap (joined_values taken) (own_part a.task a.mutex a.cell e w.if-other-task.false) ∙ join_none taken so.value)
    ])) next
