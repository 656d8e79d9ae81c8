use Rattle.std.proofs.Common.{refl, subst, ◌<◌, ◌≤◌}
use Rattle.std.specs.Prelude.{MatchOption}
use Rattle.tm_laid.specs.Layouts.{laid_tree}
use Rattle.certificate_words.specs.Lines.{words_of}
use Rattle.certificate_reading.specs.Entries.{AreEntryWords, HasNoEntryWords}
use Rattle.certificate_reading.proofs.EntriesRead.{place_small, no_entry, too_low, entry_next}
use Rattle.certificate_reading.proofs.StoresRead.{sets_few}
use Rattle.certificate_reading.proofs.entries.next_entry.Goals as goal

pub place_number-requires : goal.place_number-requires
place_number-requires c =
    let laid = laid_tree c.args.laid.now in
    let kind = c.args.kind in
    let words = words_of c.words.result.now in
    let found = subst (λ r. MatchOption r (HasNoEntryWords laid kind words) (AreEntryWords laid kind words)) c.in-Some.is
    c.in_ok-found.ensures in
    place_small laid kind c.requires.tasks c.requires.cells (sets_few laid kind) c.in-Some.entry.place found.entry.place

pub returns-then-place_number-bound : goal.returns-then-place_number-bound
returns-then-place_number-bound c =
    let laid = laid_tree c.args.laid.now in
    let kind = c.args.kind in
    let words = words_of c.words.result.now in
    let found = subst (λ r. MatchOption r (HasNoEntryWords laid kind words) (AreEntryWords laid kind words)) c.in-Some.is
    c.in_ok-found.ensures in (
      too_low laid kind c.requires.tasks c.requires.cells (sets_few laid kind) c.args.bound c.args.ahead.now words
          c.words.ensures c.in-Some.entry found
          (subst (λ n. n < c.args.bound) c.place_number.ensures c.if-place_number-bound.true),
      refl,
    )

pub returns-in-None : goal.returns-in-None
returns-in-None c =
    let laid = laid_tree c.args.laid.now in
    let kind = c.args.kind in
    let words = words_of c.words.result.now in (
      no_entry laid kind c.requires.tasks c.requires.cells (sets_few laid kind) c.args.bound c.args.ahead.now words
          c.words.ensures (subst (λ r. MatchOption r (HasNoEntryWords laid kind words) (AreEntryWords laid kind words))
          c.in-None.is c.in_ok-found.ensures),
      refl,
    )

pub returns-in_ok-step-in-Some : goal.returns-in_ok-step-in-Some
returns-in_ok-step-in-Some c =
    let laid = laid_tree c.args.laid.now in
    let kind = c.args.kind in
    let words = words_of c.words.result.now in
    let found = subst (λ r. MatchOption r (HasNoEntryWords laid kind words) (AreEntryWords laid kind words)) c.in-Some.is
    c.in_ok-found.ensures in
    entry_next laid kind c.requires.tasks c.requires.cells (sets_few laid kind) c.args.bound c.args.ahead.now words
    c.words.ensures c.in-Some.entry found c.step.new.self c.in_ok-step-in-Some.ensures
    (subst (λ n. c.args.bound ≤ n) c.place_number.ensures c.if-place_number-bound.false)
