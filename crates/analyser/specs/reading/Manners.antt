-- In which manners commands ask for reports: for how many workers, and with their history or without.
use Rattle.std.specs.Prelude.{◌≡◌, ◌≤◌, ℕ, Bool, false, Option, Some, None}
use Rattle.cmd_words.specs.declared.commands.Command.{Command}
use Rattle.cmd_words.specs.declared.commands.Command.TheVariants.{Analyse, Replay, Generate, Demo}
use Rattle.cmd_words.specs.declared.commands.Command.TheVariants.{Waits, Ranges, Certify, Check}

-- one worker, whose history is not asked for
abbrev pub IsAlone : ℕ → Bool → Type 0
IsAlone workers history = (workers ≡ 1) × (history ≡ false)

-- from 1 to 16 workers
abbrev pub AreFew : ℕ → Bool → Type 0
AreFew workers history = (1 ≤ workers) × (workers ≤ 16)

-- the manner in which a command asks for a report, where it does, is one that is served
abbrev pub IsServed : (ℕ → Bool → Type 0) → Option Command → Type 0
IsServed serves None = Unit {0}
IsServed serves (Some (Analyse w)) = serves w.workers w.history
IsServed serves (Some Replay) = Unit {0}
IsServed serves (Some (Generate count)) = Unit {0}
IsServed serves (Some (Demo w)) = serves w.workers false
IsServed serves (Some Waits) = Unit {0}
IsServed serves (Some Ranges) = Unit {0}
IsServed serves (Some Certify) = Unit {0}
IsServed serves (Some Check) = Unit {0}
