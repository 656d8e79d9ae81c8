use Rattle.std.proofs.Common.{◌≡◌, ◌∙◌, ◌+◌, ℕ, ap, sym, subst}
use Rattle.std.specs.FinMap.{get, entries}
use Rattle.tm_lattice.specs.Tables.{Table}
use Rattle.pointer_dom.specs.Values.{Values, no_value}
use Rattle.interfere_set.specs.Stores.{HasNoEntry, IsNested, reader_of, seen_of_task}
use Rattle.interfere_set.specs.laws.Joins.{IsOf, of_entry}
use Rattle.interfere_set.specs.laws.Hearing.{IsTaskTable, entry_value, task_is}
use Rattle.interfere_set.proofs.Reading.{IsJoinedUpTo, joined_start, joined_next, at_place}
use Rattle.interfere_set.proofs.reads.seen_at_read.Goals as goal

pub loop-writer-init : goal.loop-writer-init
loop-writer-init c =
    let a = c.args in
    let part = λ (e : ℕ × Table (Table Values)). seen_of_task (reader_of a.task a.held a.found a.priorities.now) a.fresh a.cell e.0 e.1 in
    subst (IsJoinedUpTo part c.entries-writer-items.result.now 0)
    (sym (c.from_numbers-seen.ensures ∙ ap (λ n. record { numbers = n; pointers = no_value.pointers }) c.empty.ensures)) (joined_start part c.entries-writer-items.result.now)

pub seen_with_task-requires-clause-writer : goal.seen_with_task-requires-clause-writer
seen_with_task-requires-clause-writer c =
    let items = c.entries-writer-items.result.now in
    let e = c.loop-writer-item.result in
    let place = subst (λ l. IsOf l e) (c.entries-writer-items.ensures ∙ ap entries c.weak-weak.ensures) (at_place items c.loop-writer.writer-index e c.loop-writer-test.true c.loop-writer-item.is) in
    c.requires.writers e.0 e.1 (of_entry c.args.store.now.weak e place)

pub loop-writer-preserved : goal.loop-writer-preserved
loop-writer-preserved c =
    let a = c.args in
    let reader = reader_of a.task a.held a.found a.priorities.now in
    let part = λ (e : ℕ × Table (Table Values)). seen_of_task reader a.fresh a.cell e.0 e.1 in
    let items = c.entries-writer-items.result.now in
    let i = c.loop-writer.writer-index in
    let e = c.loop-writer-item.result in
    let weak = a.store.now.weak in
    let place = subst (λ l. IsOf l e) (c.entries-writer-items.ensures ∙ ap entries c.weak-weak.ensures) (at_place items i e c.loop-writer-test.true c.loop-writer-item.is) in
    let weak-is : IsNested weak = subst IsNested c.weak-weak.ensures c.is_nothing-known.ensures.value in
    let part-is = task_is reader a.cell a.fresh e.0 e.1 (entry_value IsTaskTable HasNoEntry weak e.0 e.1 weak-is (of_entry weak e place)) in
    let next = joined_next part items i c.loop-writer.seen e c.loop-writer-test.true c.loop-writer-item.is part-is c.loop-writer.invariant in
    subst (IsJoinedUpTo part items (i + 1)) (sym c.in_ok-seen.ensures) next
