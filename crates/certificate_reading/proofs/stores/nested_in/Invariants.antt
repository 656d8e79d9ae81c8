use Rattle.std.proofs.Common.{◌≡◌, length}
use Rattle.tm_laid.specs.Layouts.{laid_tree}
use Rattle.certificate_parts.specs.Risings.{AreFrontEntries, behind_last}
use Rattle.certificate_reading.specs.Entries.{entry_onto, IsNumbered, EndsKind, place_number}
use Rattle.certificate_reading.specs.Nesting.{grown, IsGrowing}
use Rattle.certificate_reading.proofs.stores.nested_in.Given as goal

-- the entries so far, and the text behind them
abbrev pub invariant-entries : goal.invariant-entries
invariant-entries l = record {
  growing : IsGrowing l.growing;
  front : AreFrontEntries (entry_onto l.kind) (IsNumbered (laid_tree l.laid) l.kind) (EndsKind l.kind) l.fn.ahead
      (grown l.growing) l.ahead;
  last : l.bound ≡ behind_last (entry_onto l.kind) (IsNumbered (laid_tree l.laid) l.kind) (EndsKind l.kind) 0
      (grown l.growing);
  next : place_number l.growing.next ≡ l.bound;
}

abbrev pub decreases-entries : goal.decreases-entries
decreases-entries l = length l.ahead
