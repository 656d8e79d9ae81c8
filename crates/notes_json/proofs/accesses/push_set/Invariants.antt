use Rattle.std.proofs.Common.{◌≡◌, ◌++◌}
use Rattle.std.specs.Prelude.{decimal}
use Rattle.notes_json.specs.Pieces.{listed}
use Rattle.notes_json.specs.Accesses.{members_below}
use Rattle.notes_json.specs.reading.Marks.{has_some}
use Rattle.notes_json.proofs.accesses.push_set.Given as goal

-- the mutexes so far, and whether there are any
abbrev pub invariant-loop-mutex : goal.invariant-loop-mutex
invariant-loop-mutex l = record {
  written : l.text.items ≡ (l.fn.text.items ++ l.before) ++ listed decimal (members_below l.set l.mutex);
  others : l.others ≡ has_some (members_below l.set l.mutex);
}
