use Rattle.std.proofs.Common.{◌∙◌, ap, sym, subst, ◌+◌}
use Rattle.std.proofs.lemmas.List.{drop_all}
use Rattle.std.proofs.Common.{arith}
use Rattle.std.specs.Option.{option_copied}
use Rattle.pointer_dom.specs.Values.{joined_values, no_value}
use Rattle.interfere_set.specs.Stores.{reader_of, shown_at, joined_all}
use Rattle.interfere_set.proofs.Reading.{IsJoinedUpTo, joined_start, joined_next, joined_end, join_none, shown_is_value, shown_some, shown_absent, shown_hidden, at_place}
use Rattle.interfere_set.proofs.reads.seen_of_task.Goals.{then-shows+in-Some+in_ok-seen, then-shows+in_default, else-shows}
use Rattle.interfere_set.proofs.reads.seen_of_task.Goals as goal

pub loop-under-init : goal.loop-under-init
loop-under-init c =
    let a = c.args in
    let part = shown_at (reader_of a.task a.held a.found a.priorities.now) a.fresh a.cell a.writer in
    subst (IsJoinedUpTo part c.entries-under-items.result.now 0)
    (sym (c.from_numbers-seen.ensures ∙ ap (λ n. record { numbers = n; pointers = no_value.pointers }) c.empty.ensures)) (joined_start part c.entries-under-items.result.now)

pub loop-under-preserved : goal.loop-under-preserved
loop-under-preserved c =
    let a = c.args in
    let reader = reader_of a.task a.held a.found a.priorities.now in
    let part = shown_at reader a.fresh a.cell a.writer in
    let items = c.entries-under-items.result.now in
    let i = c.loop-under.under-index in
    let e = c.loop-under-item.result in
    let so = c.loop-under.invariant in
    let place = at_place items i e c.loop-under-test.true c.loop-under-item.is in
    let is = shown_is_value reader a.fresh a.cell a.writer a.written.now e c.is_nothing-known.ensures.value (subst (λ l. Rattle.interfere_set.specs.laws.Joins.IsOf l e) c.entries-under-items.ensures place) in
    let next = joined_next part items i c.loop-under.seen e c.loop-under-test.true c.loop-under-item.is is so in
    subst (IsJoinedUpTo part items (i + 1)) (sym (elim c.if-shows.branch [
      | then-shows+in-Some+in_ok-seen w ↦ w.seen-is ∙ w.in_ok-seen.ensures ∙ ap (joined_values c.loop-under.seen) (sym (shown_some reader a.fresh a.cell a.writer a.written.now e w.in-Some.value.now (sym c.shows.ensures ∙ w.if-shows.true) (sym w.get.ensures ∙ ap option_copied w.in-Some.is)))
      | then-shows+in_default w ↦ w.seen-is ∙ sym (ap (joined_values c.loop-under.seen) (shown_absent reader a.fresh a.cell a.writer a.written.now e (sym w.get.ensures ∙ ap option_copied w.in_default.is)) ∙ join_none c.loop-under.seen so.value)
      | else-shows w ↦ w.seen-is ∙ sym (ap (joined_values c.loop-under.seen) (shown_hidden reader a.fresh a.cell a.writer a.written.now e (sym c.shows.ensures ∙ w.if-shows.false)) ∙ join_none c.loop-under.seen so.value)
    ])) next

pub returns : goal.returns
returns c =
    let a = c.args in
    let part = shown_at (reader_of a.task a.held a.found a.priorities.now) a.fresh a.cell a.writer in
    joined_end part c.entries-under-items.result.now c.loop-under.under-index c.loop-under.seen (drop_all c.loop-under.under-index c.entries-under-items.result.now (omega (arith, c.loop-under-test.false))) c.loop-under.invariant
    ∙ ap (joined_all part) c.entries-under-items.ensures
