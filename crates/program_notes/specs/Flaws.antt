-- What is wrong with pointers, as words.
use Rattle.std.specs.Prelude.{ℕ, List, codes}
use Rattle.alarm_contexts.specs.declared.flaws.Flaw.{Flaw}
use Rattle.alarm_contexts.specs.declared.flaws.Flaw.TheVariants as Flaws

-- what is wrong with a pointer
abbrev pub flaw_text : Flaw → List ℕ
flaw_text Flaws.Gone = codes "gone"
flaw_text Flaws.Offset = codes "offset"
flaw_text Flaws.Before = codes "before"
flaw_text Flaws.Behind = codes "behind"
