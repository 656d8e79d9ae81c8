use Rattle.std.proofs.Common.{◌≡◌, ◌<◌, ℕ, map, vec_items}
use Rattle.concrete_worlds.specs.Views.{RoomAt}
use Rattle.concrete_worlds.proofs.worlds.reserve_all.Given as goal

abbrev pub invariant-loop-list : goal.invariant-loop-list
invariant-loop-list l = (map vec_items l.lists ≡ map vec_items l.initial.lists) × ((i : ℕ) → i < l.list-index → RoomAt l.lists i)
