use Rattle.std.proofs.Common.{◌≡◌, take, map}
use Rattle.tm_typed.specs.declared.files.MutexEntry.{MutexEntry}
use Rattle.program_notes.proofs.declarations.mutexes_of.Given as goal

-- the mutexes so far
abbrev pub invariant-loop-entry : goal.invariant-loop-entry
invariant-loop-entry l = l.mutexes.items ≡ map (λ (e : MutexEntry). record { name = e.name; place = e.place })
    (take l.entry-index l.entry-items)
