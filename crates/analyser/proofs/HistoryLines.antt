-- The lines of a history, where they are asked for.
use Rattle.std.proofs.Common.{◌≡◌, ℕ, List, [], Bool, true, false, sym, subst}
use Rattle.history_lines.specs.HistoryTexts.{history_text}
use Rattle.store_core.specs.Histories.{Past}
use Rattle.interfere_set.specs.Stores.{Interferences}
use Rattle.worker_solutions.specs.program_equations.Programs.{ProgramBodies}
use Rattle.worker_solutions.specs.QuietHistories.{IsQuietHistory}
use Rattle.analyser.specs.Headline.{HistoryFor}
use Rattle.analyser.specs.reading.Replies.{AreLines}

module _ (past : Past Interferences) (lines : List ℕ) where
  pub asked_lines : (b : Bool) → b ≡ true → lines ≡ history_text past → AreLines b past lines
  asked_lines b e are = subst (λ h. AreLines h past lines) (sym e) are

  pub no_lines : (b : Bool) → b ≡ false → lines ≡ [] → AreLines b past lines
  no_lines b e none = subst (λ h. AreLines h past lines) (sym e) none

  -- the lines of a quiet history
  pub quiet_lines : (p : ProgramBodies) (workers : ℕ) → IsQuietHistory p workers past → (b : Bool)
      → AreLines b past lines → HistoryFor b p workers lines
  quiet_lines p workers quiet true are = record { past = past; quiet = quiet; are = are }
  quiet_lines p workers quiet false none = none

-- where no history is asked for there are no lines
pub nothing_asked : (p : ProgramBodies) (workers : ℕ) (lines : List ℕ) (b : Bool) → b ≡ false → lines ≡ []
    → HistoryFor b p workers lines
nothing_asked p workers lines b e none = subst (λ h. HistoryFor h p workers lines) (sym e) none
