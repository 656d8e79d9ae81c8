use Rattle.std.proofs.Common.{◌≡◌, ◌∙◌, sym, ap, subst, ◌+◌}
use Rattle.std.specs.Prelude.{MatchOption}
use Rattle.certificate_parts.specs.Risings.{HasNoEntry, IsNextEntry}
use Rattle.certificate_reading.specs.Entries.{entry_onto, IsNumbered, EndsKind, place_number}
use Rattle.tm_laid.specs.Layouts.{laid_tree}
use Rattle.certificate_reading.specs.Nesting.{grown}
use Rattle.certificate_reading.proofs.StoresRead.{entries_begin, entries_step, entries_end, next_shorter}
use Rattle.certificate_reading.proofs.stores.nested_in.Goals as goal

pub entries-init : goal.entries-init
entries-init c =
    let b = entries_begin (laid_tree c.args.laid.now) c.args.kind c.args.ahead.now (grown c.new-growing.result)
    c.new-growing.ensures.grown in
    record {
      growing = c.new-growing.ensures.growing;
      front = b.0;
      last = b.1;
      next = c.new-growing.ensures.next;
    }

pub returns-in-None : goal.returns-in-None
returns-in-None c =
    let laid = laid_tree c.args.laid.now in
    let kind = c.args.kind in
    let mid = c.entries.ahead in
    let new = c.next_entry.new.ahead in
    let none = subst (λ r. MatchOption r
    (HasNoEntry (entry_onto kind) (IsNumbered laid kind) (EndsKind kind) c.entries.bound mid × (new ≡ mid))
    (λ e. IsNextEntry (entry_onto kind) (IsNumbered laid kind) (EndsKind kind) c.entries.bound mid
    (place_number e.place, e) new)) c.in-None.is c.in_ok-found.ensures in
    entries_end laid kind c.entries.bound c.args.ahead.now mid new (grown c.entries.growing) c.in_ok-nested-in-None.nested
    c.requires.cells none.1 c.entries.invariant.front c.entries.invariant.last none.0 c.in_ok-nested-in-None.ensures
    c.is_nothing-empty.ensures.value

pub entries-preserved : goal.entries-preserved
entries-preserved c =
    let laid = laid_tree c.args.laid.now in
    let kind = c.args.kind in
    let mid = c.entries.ahead in
    let new = c.next_entry.new.ahead in
    let e = c.in-Some.entry in
    let step = subst (λ r. MatchOption r
    (HasNoEntry (entry_onto kind) (IsNumbered laid kind) (EndsKind kind) c.entries.bound mid × (new ≡ mid))
    (λ e. IsNextEntry (entry_onto kind) (IsNumbered laid kind) (EndsKind kind) c.entries.bound mid
    (place_number e.place, e) new)) c.in-Some.is c.in_ok-found.ensures in
    let s = entries_step laid kind c.entries.bound c.args.ahead.now mid new (grown c.entries.growing)
    (grown c.push.new.self) (place_number e.place, e) c.entries.invariant.front c.entries.invariant.last step
    c.in_ok-push-in-Some.ensures.grown in
    record {
      growing = c.in_ok-push-in-Some.ensures.growing;
      front = s.0;
      last = ap (λ n. n + 1) c.place_number-bound.ensures ∙ s.1;
      next = c.in_ok-push-in-Some.ensures.next ∙ ap (λ n. n + 1) (sym c.place_number-bound.ensures);
    }

pub entries-smaller : goal.entries-smaller
entries-smaller c =
    let laid = laid_tree c.args.laid.now in
    let kind = c.args.kind in
    let mid = c.entries.ahead in
    let new = c.next_entry.new.ahead in
    let e = c.in-Some.entry in
    let step = subst (λ r. MatchOption r
    (HasNoEntry (entry_onto kind) (IsNumbered laid kind) (EndsKind kind) c.entries.bound mid × (new ≡ mid))
    (λ e. IsNextEntry (entry_onto kind) (IsNumbered laid kind) (EndsKind kind) c.entries.bound mid
    (place_number e.place, e) new)) c.in-Some.is c.in_ok-found.ensures in
    next_shorter laid kind c.entries.bound mid new (place_number e.place, e) step
