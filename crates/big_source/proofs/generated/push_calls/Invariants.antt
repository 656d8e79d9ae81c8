use Rattle.std.proofs.Common.{◌≡◌, ◌++◌, string_bytes}
use Rattle.big_source.specs.GeneratedSources.{calls_text}
use Rattle.big_source.proofs.generated.push_calls.Given as goal

-- the calls so far are written
abbrev pub invariant-loop-k : goal.invariant-loop-k
invariant-loop-k l = string_bytes l.text ≡ string_bytes l.fn.text ++ calls_text l.k l.fn.j
