use Rattle.std.specs.Prelude.{ℕ}
use Rattle.tm_terms.specs.declared.refusals.Limit.{Limit}
use Rattle.tm_terms.specs.declared.refusals.Limit.TheVariants.{Source, Tokens, Tasks, Mutexes, Paths, Cells, Abstract}
use Rattle.tm_terms.specs.declared.refusals.Limit.TheVariants.{Nodes, Work}

-- the greatest count that a limit allows: a source is refused where a count is above it
abbrev pub limit_number : Limit → ℕ
limit_number Source = 1048576
limit_number Tokens = 200000
limit_number Tasks = 32
limit_number Mutexes = 16
limit_number Paths = 4096
limit_number Cells = 65536
limit_number Abstract = 4096
limit_number Nodes = 20000
limit_number Work = 8000000

-- no scale allows more bytes of a source
abbrev pub most_bytes : ℕ
most_bytes = 16777216

-- no scale allows more tokens of a source
abbrev pub most_tokens : ℕ
most_tokens = 4000000
