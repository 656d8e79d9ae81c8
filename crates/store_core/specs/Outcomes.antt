-- What the calls of the core answer, by the variants of their answers. Want of memory changes nothing and has no cause.
use Rattle.std.specs.Prelude.{◌≡◌, ℕ, Result, Ok, Err}
use Rattle.tm_lattice.specs.declared.lattices.Lattice as lattice
use Rattle.tm_lattice.specs.declared.passers.Passer as passer
use Rattle.tm_lattice.specs.declared.memory.NoMemory as memory
use Rattle.store_core.specs.declared.outcomes.Taken.{Taken}
use Rattle.store_core.specs.declared.outcomes.Taken.TheVariants.{Next, Holding, Others, AllQuiet}
use Rattle.store_core.specs.declared.outcomes.Refused.{Refused}
use Rattle.store_core.specs.declared.outcomes.Refused.TheVariants.{NotLent, Stranger, NoMemory}
use Rattle.store_core.specs.declared.outcomes.Grew.{Grew}
use Rattle.store_core.specs.Cores.{Brought, Core}
use Rattle.store_core.specs.Answers.{LendsFreeTask, IsHolding, IsAllQuiet, IsOthers, IsGrown, IsNotLent, IsStranger}

module _ {P S M K : Type 0} (store : lattice.Ghosts S M) (passer : passer.Ghosts P S M) where
  -- what a core answers a worker that asks for a task
  abbrev pub Takes : Core P S K → Core P S K → ℕ → Result (Taken P K S M) memory.NoMemory → Type 0
  Takes before after worker (Ok (Next lent)) = LendsFreeTask store passer before after worker lent
  Takes before after worker (Ok (Holding task)) = IsHolding store passer before after worker task
  Takes before after worker (Ok Others) = IsOthers store passer before after worker
  Takes before after worker (Ok AllQuiet) = IsAllQuiet store passer before after worker
  Takes before after worker (Err none) = after ≡ before

  -- what a core answers a worker that brings something back
  abbrev pub Publishes : Core P S K → Core P S K → ℕ → Brought P S K → Result Grew (Refused P K S M) → Type 0
  Publishes before after worker brought (Ok grew) =
      IsGrown store passer before after worker brought grew.version grew.raised
  Publishes before after worker brought (Err NotLent) = IsNotLent store passer before after worker
  Publishes before after worker brought (Err (Stranger lent back)) =
      IsStranger store passer before after worker lent brought × (back ≡ brought)
  Publishes before after worker brought (Err NoMemory) = after ≡ before
