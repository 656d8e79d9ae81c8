-- Numbers below 2^64, as far as they were looked at.
use Rattle.std.specs.Prelude.{ℕ, ◌<◌, ◌^◌, List, [], length, get_or, slice_index}
use Rattle.std.specs.declared.vec.Vec.{Vec}
use Rattle.std.specs.declared.alloc.Global.{Global}
use Rattle.tm_laid.specs.declared.objects.LaidObject.{LaidObject}
use Rattle.mutex_configs.specs.declared.nodes.ConfiguredGraph.{ConfiguredGraph}
use Rattle.post_recheck.specs.body_systems.Facts.{Facts}

abbrev pub AreSmall : List ℕ → Type 0
AreSmall list = (k : ℕ) → k < length list → slice_index list k < 2 ^ 64

-- those of the first lists
abbrev pub AreSmallLists : List (Vec ℕ Global) → ℕ → Type 0
AreSmallLists lists n = (i : ℕ) (none : Vec ℕ Global) → i < n → (let list = get_or lists i none in AreSmall list.items)

-- those of the first objects
abbrev pub AreSmallObjects : List LaidObject → ℕ → Type 0
AreSmallObjects objects n = (i : ℕ) (none : LaidObject) → i < n
    → (let object = get_or objects i none in object.cells < 2 ^ 64)

-- how many nodes a body has, and its live temporaries
pub record IsSmallBody (configured : ConfiguredGraph) (facts : Facts) : Type 0 where
  pub nodes : length configured.nodes.keys < 2 ^ 64
  pub live : (place : ℕ) → place < length facts.live → AreSmall (get_or facts.live place [])

-- those of the first bodies
abbrev pub AreSmallBodies : List ConfiguredGraph → List Facts → ℕ → Type 0
AreSmallBodies configured facts n = (t : ℕ) (c : ConfiguredGraph) (f : Facts) → t < n
    → IsSmallBody (get_or configured t c) (get_or facts t f)
