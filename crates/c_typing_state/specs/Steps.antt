-- What a call of the code says of the step of typing that it does. On `Ok` the step gives the value, as the view shows
-- it, and the state behind the call; on a refusal it gives that refusal. Of the state behind a refusal nothing is
-- said, since typing ends there; want of memory says nothing.
use Rattle.std.specs.Prelude.{Result}
use Rattle.tm_terms.specs.declared.refusals.Refusal.{Refusal}
use Rattle.tm_terms.specs.declared.refusals.Fail.{Fail}
use Rattle.tm_typed.specs.Refusals.{Gives}
use Rattle.tm_typed.specs.States.{State}

-- a step with a value; `s` is the state behind the call
abbrev pub StepsTo : {A B : Type 0} → (A → B) → State → Result A Fail → Result (B × State) Refusal → Type 0
StepsTo view s result want = Gives (λ a. (view a, s)) result want

-- a step that gives the state alone
abbrev pub MovesTo : {A : Type 0} → State → Result A Fail → Result State Refusal → Type 0
MovesTo s result want = Gives (λ a. s) result want
