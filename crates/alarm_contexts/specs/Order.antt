-- The order of edges, and that of flaws.
use Rattle.std.specs.Prelude.{◌≡◌, ◌⊎◌, ℕ, ◌<◌}
use Rattle.alarm_contexts.specs.declared.alarm_context.ContextEdge.{ContextEdge}
use Rattle.alarm_contexts.specs.declared.flaws.Flaw.{Flaw}
use Rattle.alarm_contexts.specs.declared.flaws.Flaw.TheVariants as Flaws
use Rattle.alarm_contexts.specs.declared.flaws.ObjectFlaw.{ObjectFlaw}

-- by bodies, then by numbers
abbrev pub IsEdgeBefore : ContextEdge → ContextEdge → Type 0
IsEdgeBefore e f = (e.body < f.body) ⊎ ((e.body ≡ f.body) × (e.edge < f.edge))

-- what may be wrong, in order
abbrev pub flaw_number : Flaw → ℕ
flaw_number Flaws.Gone = 0
flaw_number Flaws.Offset = 1
flaw_number Flaws.Before = 2
flaw_number Flaws.Behind = 3

-- by objects, then by what is wrong
abbrev pub IsFlawBefore : ObjectFlaw → ObjectFlaw → Type 0
IsFlawBefore f g = (f.object < g.object) ⊎ ((f.object ≡ g.object) × (flaw_number f.flaw < flaw_number g.flaw))
