-- What statements leave behind, as the definition of lowering has it.
use Rattle.std.specs.Prelude.{◌≡◌, map}
use Rattle.body_builder.specs.lowering.Built as Built
use Rattle.body_builder.specs.lowering.Built.{Building}
use Rattle.statement_builder.specs.declared.passed.Way.{Way}
use Rattle.statement_builder.specs.declared.passed.Way.TheVariants as Ways
use Rattle.statement_builder.specs.declared.passed.Pending.{Pending}
use Rattle.statement_builder.specs.declared.passed.Passed.{Passed}

-- a way
abbrev pub way_of : Way → Built.Way
way_of Ways.Break = Built.ByBreak
way_of Ways.Continue = Built.ByContinue
way_of Ways.Return = Built.ByReturn

-- a node that waits
abbrev pub waiting : Pending → Built.Pending
waiting p = record { node = p.node; way = way_of p.way }

-- statements are built, and these nodes wait behind them
abbrev pub IsPassed : Built.Passed → Building → Passed → Type 0
IsPassed x b p = (b ≡ x.at) × (map waiting p.pending.items ≡ x.pending) × (p.result ≡ x.result)
