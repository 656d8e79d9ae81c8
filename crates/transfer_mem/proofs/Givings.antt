-- What the code of an operation that calculates gives is what its action gives.
use Rattle.std.specs.Prelude.{◌≡◌, ◌⊎◌, ℕ, Bool, false}
use Rattle.std.proofs.Common.{sym, ap, subst, ◌∙◌, inl, inr}
use Rattle.tm_laid.specs.Layouts.{LaidTree}
use Rattle.flow_graph.specs.declared.operations.Operation.{Operation}
use Rattle.flow_graph.specs.declared.operations.Operation.TheVariants as Op
use Rattle.transfer_mem.specs.reading.Givings.{IsOfNumbers, IsOfPointers, IsGiving, IsAccess, IsControl}

-- every operation is of one of the families
pub every : (operation : Operation) → (IsGiving operation → ⊥) → (IsAccess operation → ⊥) → (IsControl operation → ⊥) → ⊥
every Op.Skip g a h = h tt
every (Op.Const to value) g a h = g (inl tt)
every (Op.Copy to from) g a h = g (inl tt)
every (Op.Un to operator of from place) g a h = g (inl tt)
every (Op.Bin to operator of left right place) g a h = g (inl tt)
every (Op.BinPointers to equal left right) g a h = g (inr tt)
every (Op.Convert to was of from) g a h = g (inl tt)
every (Op.Base to object) g a h = g (inr tt)
every (Op.Offset to from cells) g a h = g (inr tt)
every (Op.Index to from count cells by place) g a h = g (inr tt)
every (Op.Move to from cells minus by place) g a h = g (inr tt)
every (Op.Deref to from target path place) g a h = g (inr tt)
every (Op.Load to address scalar place) g a h = a tt
every (Op.LoadAny to address scalar place) g a h = a tt
every (Op.Store address value scalar into place) g a h = a tt
every (Op.Any to low high) g a h = g (inl tt)
every (Op.Clear object) g a h = a tt
every (Op.Usable pointer place) g a h = h tt
every (Op.Assume test) g a h = h tt
every (Op.Lock mutex place) g a h = h tt
every (Op.Unlock mutex place) g a h = h tt
every Op.Yield g a h = h tt
every (Op.Probe to mutex place) g a h = h tt

pub neither : (operation : Operation) → (IsOfNumbers operation → ⊥) → (IsOfPointers operation → ⊥) → IsGiving operation → ⊥
neither operation n p (inl h) = n h
neither operation n p (inr h) = p h
