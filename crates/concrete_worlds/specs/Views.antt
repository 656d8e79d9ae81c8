-- What the code holds, as the plain data of the definitions.
use Rattle.std.specs.Prelude.{◌≡◌, ◌<◌, ℕ, List, length, map, slice_get, Some, Vec, vec_items, vec_len, vec_capacity}
use Rattle.std.proofs.Common.{Global}
use Rattle.tm_laid.specs.Layouts.{LaidTree, laid_tree}
use Rattle.concrete_values.specs.declared.values.Answer.{Answer}
use Rattle.concrete_steps.specs.declared.worlds.Stepped.{Stepped}
use Rattle.concrete_steps.specs.Worlds.{Standing, World, Outcome}
use Rattle.concrete_worlds.specs.declared.standings.TaskStanding.{TaskStanding}
use Rattle.concrete_worlds.specs.declared.worlds.World.{World as HeldWorld}
use Rattle.concrete_worlds.specs.Held.{first_mutexes}

-- where a task stands, in a file with so many mutexes
abbrev pub standing_of : ℕ → TaskStanding → Standing
standing_of mutexes s = record { priority = s.priority; status = s.status; held = first_mutexes mutexes s.held.0 }

-- the layout of a world
abbrev pub laid_of : HeldWorld → LaidTree
laid_of w = laid_tree w.laid.now

-- a world as the definitions have it
abbrev pub world_of : HeldWorld → World
world_of w = record {
  contents = w.contents.items;
  standings = map (standing_of (length w.laid.now.file.mutexes.items)) w.standings.items;
  answers = map vec_items w.answers.items;
  stopped = w.stopped;
}

-- a step is answered so, and leads to this world
abbrev pub Leads : Outcome → Stepped → World → Type 0
Leads o s w = (s ≡ o.answer) × (w ≡ o.world)

-- the list of this number has room for one more answer
abbrev pub RoomAt : List (Vec Answer Global) → ℕ → Type 0
RoomAt lists i = (v : Vec Answer Global) → slice_get lists i ≡ Some v → vec_len v < vec_capacity v
