use Rattle.std.proofs.Common.{◌≡◌, ◌≤◌, ◌++◌, length, take}
use Rattle.std.specs.List.{enumerate_from}
use Rattle.post_recheck.specs.program_systems.ProgramFacts.{program_with}
use Rattle.notes_json.specs.Pieces.{listed}
use Rattle.program_notes.specs.Operations.{operation_of}
use Rattle.program_notes.specs.AlarmTexts.{other_alarms, alarm_object}
use Rattle.program_notes.proofs.alarm_objects.push_alarms.Given as goal

-- the alarms so far, and how many of them are not races
abbrev pub invariant-loop-at : goal.invariant-loop-at
invariant-loop-at l = record {
  written : (let of = operation_of (program_with l.program l.facts) in
      l.text.items ≡ l.fn.text.items ++ listed (alarm_object of l.bytes l.numbers l.report l.others l.details)
      (take l.at (enumerate_from 0 l.report)));
  count : l.next ≡ length (other_alarms (take l.at l.report));
  within : l.next ≤ l.at;
}
