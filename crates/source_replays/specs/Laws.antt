-- Laws of answers to replays.
use Rattle.std.specs.Prelude.{ℕ, ◌<◌, List, ◌++◌, length}
use Rattle.tm_terms.specs.declared.refusals.Refusal.{Refusal}
use Rattle.tm_laid.specs.Layouts.{LaidTree}
use Rattle.source_programs.specs.LaidSources.{longest_source}
use Rattle.source_replays.specs.declared.replays.Outcome.{Outcome}
use Rattle.source_replays.specs.Replays.{IsReplayable, IsRefusedReplay, HasReplay}

-- no bytes have a layout to run and are refused
abbrev pub NoneIsBoth : Type 0
NoneIsBoth = (bytes : List ℕ) (laid : LaidTree) (r : Refusal) → IsReplayable bytes laid → IsRefusedReplay bytes r → ⊥

-- too many bytes are answered as any bytes that begin with them
abbrev pub LongOnesAreAlike : Type 0
LongOnesAreAlike =
    (bytes more : List ℕ) (outcome : Outcome) (text : List ℕ) → longest_source < length bytes
    → HasReplay bytes outcome text → HasReplay (bytes ++ more) outcome text
