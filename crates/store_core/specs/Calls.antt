-- Lists of calls of the core, with their answers.
use Rattle.std.specs.Prelude.{◌≡◌, ℕ, ◌<◌, List, [], ◌∷◌, ◌++◌, Result}
use Rattle.tm_lattice.specs.declared.lattices.Lattice as lattice
use Rattle.tm_lattice.specs.declared.passers.Passer as passer
use Rattle.tm_lattice.specs.declared.memory.NoMemory as memory
use Rattle.store_core.specs.declared.outcomes.Taken.{Taken}
use Rattle.store_core.specs.declared.outcomes.Refused.{Refused}
use Rattle.store_core.specs.declared.outcomes.Grew.{Grew}
use Rattle.store_core.specs.Histories.{Past, IsLegal}
use Rattle.store_core.specs.Cores.{Brought, Core}
use Rattle.store_core.specs.Outcomes.{Takes, Publishes}

-- a call with what it answered
pub data Call (P S M K : Type 0) : Type 0 where
  TakeCall : (worker : ℕ) (answer : Result (Taken P K S M) memory.NoMemory) → Call P S M K
  PublishCall : (worker : ℕ) (brought : Brought P S K) (answer : Result Grew (Refused P K S M)) → Call P S M K

module _ {P S M K : Type 0} (store : lattice.Ghosts S M) (passer : passer.Ghosts P S M) where
  -- the call may give this answer, and leads from one core to the other
  abbrev pub Does : Core P S K → Core P S K → Call P S M K → Type 0
  Does before after (TakeCall worker answer) = (worker < before.workers) × Takes store passer before after worker answer
  Does before after (PublishCall worker brought answer) = Publishes store passer before after worker brought answer

  -- the calls lead from one core to the other, the first call first
  abbrev pub Lead : Core P S K → List (Call P S M K) → Core P S K → Type 0
  Lead before [] after = after ≡ before
  Lead before (call ∷ calls) after = (between : Core P S K) × Does before between call × Lead between calls after

  -- the program and the number of workers stay, the history goes on, and it is legal
  pub record GoesOn (before after : Core P S K) : Type 0 where
    pub program : after.program ≡ before.program
    pub workers : after.workers ≡ before.workers
    pub later : Past S
    pub goes_on : after.past ≡ later ++ before.past
    pub legal : IsLegal store passer after.program after.workers after.past
