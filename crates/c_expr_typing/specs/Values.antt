-- The arguments of a call as those of the rules.
use Rattle.std.specs.Prelude.{List, Vec, map}
use Rattle.std.specs.declared.alloc.Global.{Global}
use Rattle.tm_typed.specs.declared.operands.Valued.{Valued}
use Rattle.tm_typed.specs.TypedTrees.{Rated, rated}

abbrev pub rated_items : Vec Valued Global → List Rated
rated_items vs = map rated vs.items
