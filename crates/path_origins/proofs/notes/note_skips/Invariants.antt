use Rattle.std.proofs.Common.{◌≡◌, ◌-◌}
use Rattle.path_origins.specs.Noted.{skips, behind}
use Rattle.path_origins.specs.Shown.{shown}
use Rattle.path_origins.proofs.notes.note_skips.Given as goal

-- those so far, and those that are left
abbrev pub invariant-loop : goal.invariant-loop
invariant-loop l = behind (shown l.to) (skips l.place (l.count - l.counter))
    ≡ behind (shown l.initial.to) (skips l.place l.count)
