-- What is promised of advice: its form.
use Rattle.std.specs.Prelude.{◌<◌, ◌≤◌, ℕ, List, [], ◌∷◌, length, IfSome}
use Rattle.alarm_contexts.specs.declared.alarm_context.AlarmContexts.{AlarmContexts}
use Rattle.alarm_causes.specs.declared.advices.Advice.{Advice}

-- Advice on an alarm, where there are so many groups of races: the operand to blame is one of those of the alarm, the
-- group is one of these, and the way is short.
pub record IsAdvised (groups : ℕ) (alarm : AlarmContexts) (advice : Advice) : Type 0 where
  pub blamed : IfSome advice.blamed (λ b. b < length alarm.operands.items)
  pub race : IfSome advice.race (λ g. g < groups)
  pub short : length advice.trace.items ≤ 24

-- For each alarm one advice, in their order.
abbrev pub AreAdvised : ℕ → List AlarmContexts → List Advice → Type 0
AreAdvised groups [] [] = Unit {0}
AreAdvised groups [] (_ ∷ _) = ⊥
AreAdvised groups (_ ∷ _) [] = ⊥
AreAdvised groups (alarm ∷ alarms) (advice ∷ list) = IsAdvised groups alarm advice × AreAdvised groups alarms list
