-- A fact on the refusal, where an answer without a value is one.
use Rattle.tm_terms.specs.declared.refusals.Fail.{Fail}
use Rattle.tm_terms.specs.declared.refusals.Fail.TheVariants as fail
use Rattle.tm_terms.specs.declared.refusals.Refusal.{Refusal}

abbrev pub ForRefusal : Fail → (Refusal → Type 0) → Type 0
ForRefusal (fail.Refused refusal) P = P refusal
ForRefusal fail.NoMemory P = Unit {0}
