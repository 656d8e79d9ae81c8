-- The text of a history with one event more.
use Rattle.std.proofs.Common.{◌≡◌, List, [], ◌∷◌, ◌++◌, ap}
use Rattle.store_core.specs.declared.events.Event as code
use Rattle.store_core.specs.Events.{past_of, plain_event}
use Rattle.store_core.proofs.Keeping.{past_push}
use Rattle.history_lines.specs.HistoryTexts.{event_line, history_text}

pub text_push : {P S M : Type 0} (events : List (code.Event P S M)) (e : code.Event P S M)
    → history_text (past_of (events ++ e ∷ [])) ≡ history_text (past_of events) ++ event_line (plain_event e)
text_push events e = ap history_text (past_push events e)
