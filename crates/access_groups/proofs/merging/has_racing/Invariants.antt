use Rattle.std.proofs.Common.{◌≡◌, ◌<◌, ℕ, true, get_or}
use Rattle.access_groups.specs.declared.object_access.ObjectAccess.{ObjectAccess as AnObjectAccess}
use Rattle.access_groups.proofs.merging.has_racing.Given as goal

abbrev pub invariant-loop-access : goal.invariant-loop-access
invariant-loop-access l = (k : ℕ) (e : AnObjectAccess) → k < l.access-index → get_or l.accesses k e ≡ e
    → e.racing ≡ true → ⊥
