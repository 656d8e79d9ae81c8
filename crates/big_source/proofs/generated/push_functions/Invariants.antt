use Rattle.std.proofs.Common.{◌≡◌, ◌++◌, string_bytes}
use Rattle.std.specs.List.{flat_map}
use Rattle.big_source.specs.GeneratedSources.{function_line, numbers_below}
use Rattle.big_source.proofs.generated.push_functions.Given as goal

-- the functions so far are written
abbrev pub invariant-loop-k : goal.invariant-loop-k
invariant-loop-k l = string_bytes l.text ≡ string_bytes l.fn.text ++ flat_map function_line (numbers_below l.k)
