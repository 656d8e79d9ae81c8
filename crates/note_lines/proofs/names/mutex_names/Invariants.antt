use Rattle.std.proofs.Common.{◌≡◌, take, map}
use Rattle.tm_typed.specs.declared.files.MutexEntry.{MutexEntry}
use Rattle.note_lines.proofs.names.mutex_names.Given as goal

-- the names of the mutexes so far
abbrev pub invariant-loop-entry : goal.invariant-loop-entry
invariant-loop-entry l = l.names.items ≡ map (λ (e : MutexEntry). e.name) (take l.entry-index l.entry-items)
