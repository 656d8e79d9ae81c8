use Rattle.std.proofs.Common.{◌≡◌, ◌++◌, map, drop}
use Rattle.path_origins.specs.Noted.{ending}
use Rattle.path_origins.proofs.notes.add_ended.Given as goal

-- those so far, and those that are left
abbrev pub invariant-loop-index : goal.invariant-loop-index
invariant-loop-index l = l.to.items ++ map (ending l.end) (drop l.index l.unended)
    ≡ l.initial.to.items ++ map (ending l.end) (drop l.first l.unended)
