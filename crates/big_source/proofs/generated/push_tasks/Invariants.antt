use Rattle.std.proofs.Common.{◌≡◌, ◌++◌, string_bytes}
use Rattle.std.specs.List.{flat_map}
use Rattle.big_source.specs.GeneratedSources.{numbers_below, task_line}
use Rattle.big_source.proofs.generated.push_tasks.Given as goal

-- the tasks so far are written
abbrev pub invariant-loop-j : goal.invariant-loop-j
invariant-loop-j l = string_bytes l.text ≡ string_bytes l.fn.text ++ flat_map (task_line l.fn.n) (numbers_below l.j)
