use Rattle.std.proofs.Common.{◌≡◌, ◌++◌, drop}
use Rattle.path_origins.specs.Noted.{overwrites_of}
use Rattle.path_origins.proofs.notes.add_overwrites.Given as goal

-- those so far, and those that are left
abbrev pub invariant-loop-index : goal.invariant-loop-index
invariant-loop-index l = l.to.items ++ overwrites_of l.place l.store (drop l.index l.pending)
    ≡ l.initial.to.items ++ overwrites_of l.place l.store (drop l.first l.pending)
