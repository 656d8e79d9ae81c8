-- The limits of programs on two scales.
use Rattle.std.specs.Prelude.{ℕ}
use Rattle.tm_typed.specs.tm_terms.declared.refusals.Limit.{Limit}
use Rattle.tm_typed.specs.tm_terms.declared.refusals.Limit.TheVariants as Limits
use Rattle.tm_typed.specs.tm_terms.Limits.{limit_number, most_bytes, most_tokens}
use Rattle.tm_laid.specs.declared.scales.Scale.{Scale}
use Rattle.tm_laid.specs.declared.scales.Scale.TheVariants as Scales

-- what a limit allows on the large scale: more of what grows with a program, and otherwise no more than usual
abbrev pub large_number : Limit → ℕ
large_number Limits.Source = most_bytes
large_number Limits.Tokens = most_tokens
large_number Limits.Paths = 65536
large_number Limits.Abstract = 65536
large_number Limits.Nodes = 200000
large_number Limits.Work = 12800000000
large_number limit = limit_number limit

-- the greatest count that a limit allows on a scale
abbrev pub number_on : Scale → Limit → ℕ
number_on Scales.Usual limit = limit_number limit
number_on Scales.Large limit = large_number limit
