-- Advice on one more alarm.
use Rattle.std.proofs.Common.{◌≡◌, ◌<◌, ◌+◌, ◌++◌, ◌∷◌, [], ℕ, List, length, get_or, take, subst, sym}
use Rattle.std.proofs.lemmas.List.{take_more}
use Rattle.alarm_contexts.specs.declared.alarm_context.AlarmContexts.{AlarmContexts}
use Rattle.alarm_causes.specs.declared.advices.Advice.{Advice}
use Rattle.alarm_causes.specs.Advised.{IsAdvised, AreAdvised}

-- one alarm and one advice more at the ends
pub advised_more : (groups : ℕ) (alarms : List AlarmContexts) (alarm : AlarmContexts) (list : List Advice)
    (advice : Advice) → AreAdvised groups alarms list → IsAdvised groups alarm advice
    → AreAdvised groups (alarms ++ alarm ∷ []) (list ++ advice ∷ [])
advised_more groups [] alarm [] advice all one = (one, tt)
advised_more groups [] alarm (_ ∷ _) advice h one = absurd h
advised_more groups (_ ∷ _) alarm [] advice h one = absurd h
advised_more groups (_ ∷ alarms) alarm (_ ∷ list) advice all one =
    (all.0, advised_more groups alarms alarm list advice all.1 one)

-- the same for the alarm at which a loop stands
pub advised_next : (groups : ℕ) (alarms : List AlarmContexts) (i : ℕ) (alarm : AlarmContexts) (list : List Advice)
    (advice : Advice) (new : List Advice) → i < length alarms → alarm ≡ get_or alarms i alarm
    → AreAdvised groups (take i alarms) list → IsAdvised groups alarm advice → new ≡ list ++ advice ∷ []
    → AreAdvised groups (take (i + 1) alarms) new
advised_next groups alarms i alarm list advice new lt is all one pushed =
    let one_there = subst (λ a. IsAdvised groups a advice) is one in
    let more = advised_more groups (take i alarms) (get_or alarms i alarm) list advice all one_there in
    let front = subst (λ xs. AreAdvised groups xs (list ++ advice ∷ [])) (sym (take_more alarms i alarm lt)) more in
    subst (AreAdvised groups (take (i + 1) alarms)) (sym pushed) front
