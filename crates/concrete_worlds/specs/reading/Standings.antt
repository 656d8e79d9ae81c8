-- Standings as the code goes over them.
use Rattle.std.specs.Prelude.{ℕ, ◌&&◌, nat_lt, Bool, true, not, if◌then◌else◌, List, [], ◌∷◌}
use Rattle.concrete_steps.specs.declared.worlds.Status.TheVariants.{Ready}
use Rattle.concrete_steps.specs.Worlds.{is_ready, is_blocked_on}
use Rattle.concrete_worlds.specs.declared.standings.TaskStanding.{TaskStanding}

-- no task that is ready is more urgent
abbrev pub none_ready_above : ℕ → List TaskStanding → Bool
none_ready_above p [] = true
none_ready_above p (s ∷ ss) = not (is_ready s.status && nat_lt p s.priority) && none_ready_above p ss

-- ready again where it waits for the mutex
abbrev pub awake : ℕ → TaskStanding → TaskStanding
awake m s = if is_blocked_on m s.status then record s { status = Ready } else s
