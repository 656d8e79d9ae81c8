use Rattle.std.proofs.Common.{◌↔◌, take}
use Rattle.std.specs.Prelude.{Contains}
use Rattle.tm_laid.specs.Layouts.{laid_tree}
use Rattle.alarm_contexts.specs.declared.flaws.ObjectFlaw.{ObjectFlaw as AFlaw}
use Rattle.alarm_contexts.specs.Flaws.{IsWrong}
use Rattle.alarm_contexts.proofs.Wrong.{IsWrongAmong}
use Rattle.alarm_contexts.proofs.pointers.flaws_among.Given as goal

abbrev pub invariant-loop-object : goal.invariant-loop-object
invariant-loop-object l = (f : AFlaw) → Contains l.flaws.items f
    ↔ IsWrongAmong (IsWrong (laid_tree l.laid) l.operation l.counts) (take l.object-index l.object-items) f
