use Rattle.std.proofs.Common.{◌≡◌, ◌++◌}
use Rattle.note_lines.specs.Names.{names_below}
use Rattle.note_lines.proofs.spelling.push_names.Given as goal

-- the names of the mutexes so far
abbrev pub invariant-loop-mutex : goal.invariant-loop-mutex
invariant-loop-mutex l = l.text.items ≡ l.fn.text.items ++ names_below l.bytes l.mutexes l.held l.mutex
