-- The end of a step: what a task comes to behind its answer, and which actions leave nothing open.
use Rattle.std.specs.Prelude.{ℕ}
use Rattle.tm_laid.specs.Layouts.{LaidTree}
use Rattle.concrete_values.specs.declared.actions.Next.{Next}
use Rattle.concrete_values.specs.declared.actions.Next.TheVariants as Acts
use Rattle.concrete_steps.specs.Worlds.{Standing, World, stand, settled, next_at}

-- the task, which has had its answer and stands so, comes to its next action
abbrev pub arrived : LaidTree → ℕ → Standing → World → World
arrived laid i s w = stand i (settled laid i (next_at laid w i) s) w

-- the number of a choice is 0 where the task does this
abbrev pub IsPlain : Next → Type 0
IsPlain (Acts.Load o k s volatile p) = ⊥
IsPlain (Acts.Chosen low high) = ⊥
IsPlain (Acts.Store o k s v p) = Unit {0}
IsPlain (Acts.Clear o) = Unit {0}
IsPlain (Acts.Lock m p) = Unit {0}
IsPlain (Acts.Unlock m p) = Unit {0}
IsPlain Acts.Yield = Unit {0}
IsPlain (Acts.Probe m p) = Unit {0}
IsPlain (Acts.Fault class p) = Unit {0}
IsPlain Acts.Spins = Unit {0}
IsPlain Acts.Ended = Unit {0}
IsPlain Acts.Misfit = Unit {0}
