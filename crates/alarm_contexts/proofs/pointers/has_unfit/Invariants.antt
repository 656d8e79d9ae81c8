use Rattle.std.proofs.Common.{◌≡◌, ℕ, ◌<◌, pos, false}
use Rattle.strided_dom.specs.Progression.{Has}
use Rattle.tm_laid.specs.Layouts.{laid_tree, stands_at}
use Rattle.alarm_contexts.proofs.pointers.has_unfit.Given as goal

abbrev pub invariant-loop-offset : goal.invariant-loop-offset
invariant-loop-offset l = (k : ℕ) → k < l.offset → Has l.offsets.offsets (pos k)
    → stands_at (laid_tree l.laid) l.object k l.target ≡ false → ⊥
