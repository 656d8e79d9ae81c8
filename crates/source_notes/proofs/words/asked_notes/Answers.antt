use Rattle.std.proofs.Common.{sym, subst}
use Rattle.std.specs.Prelude.{map, string_bytes, IfSome}
use Rattle.source_notes.specs.Words.{AsksFew}
use Rattle.source_notes.proofs.AskedFew.{behind_few}
use Rattle.source_notes.proofs.words.asked_notes.Goals as goal

pub returns-clause-few : goal.returns-clause-few
returns-clause-few c =
    subst (λ o. IfSome o AsksFew) (sym c.asked_behind.ensures)
    (behind_few (map (λ w. string_bytes w) c.in_ok-first.behind.now))
