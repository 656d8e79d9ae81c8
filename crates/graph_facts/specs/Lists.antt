-- Lists of numbers as the code holds them.
use Rattle.std.specs.Prelude.{ℕ, List, map, Vec}
use Rattle.std.specs.declared.alloc.Global.{Global}

abbrev pub numbers : List (Vec ℕ Global) → List (List ℕ)
numbers lists = map (λ v. v.items) lists
