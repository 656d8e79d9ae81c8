-- Places with a held set and a found set, and the copies of the edges of a graph between them.
use Rattle.std.proofs.Common.{◌≡◌, Bool, true, false, IsTrue}
use Rattle.tm_soundness.specs.Shape.{Operation, lock, unlock, yields, probe}
use Rattle.tm_soundness.specs.Rows.{pick}

module _ (M : Type 0) (same : (m n : M) → Dec (m ≡ n)) where
  abbrev pub MutexSet : Type 0
  MutexSet = M → Bool

  abbrev pub no_mutex : MutexSet
  no_mutex n = false

  abbrev pub with_mutex : MutexSet → M → MutexSet
  with_mutex l m n = pick (same n m) true (l n)

  abbrev pub without_mutex : MutexSet → M → MutexSet
  without_mutex l m n = pick (same n m) false (l n)

  module _ (T : Type 0) where
    -- what a task holds after the operation
    abbrev pub held_after : Operation T M → MutexSet → MutexSet
    held_after (lock m) l = with_mutex l m
    held_after (unlock m) l = without_mutex l m
    held_after _ l = l

    -- what it has found free, and has not waited since
    abbrev pub found_after : Operation T M → MutexSet → MutexSet
    found_after (lock m) u = no_mutex
    found_after yields u = no_mutex
    found_after (probe m t false) u = with_mutex u m
    found_after _ u = u

    -- the copy leads nowhere: a relock, a foreign unlock, or a mutex that is found free though it is held
    abbrev pub LeadsNowhere : Operation T M → MutexSet → Type 0
    LeadsNowhere (lock m) l = IsTrue (l m)
    LeadsNowhere (unlock m) l = IsTrue (l m) → ⊥
    LeadsNowhere (probe m t false) l = IsTrue (l m)
    LeadsNowhere _ l = ⊥
