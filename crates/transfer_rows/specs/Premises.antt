-- One state that meets the premises of all laws of the rows at once, so that none of them speaks of nothing.
use Rattle.std.specs.Prelude.{◌≡◌, ℕ, true, false, [], ◌∷◌, pos}
use Rattle.interfere_set.specs.strided_dom.Progression.{single}
use Rattle.tm_cint.specs.declared.Class.TheVariants.{Deref}
use Rattle.tm_cint.specs.declared.int_types.IntType.TheVariants.{Int}
use Rattle.tm_cint.specs.declared.operators.BinOp.TheVariants.{Add, Eq}
use Rattle.interfere_set.specs.pointer_dom.Pointer.{pointer, number, to}
use Rattle.interfere_set.specs.pointer_dom.Values.{IsValueIn}
use Rattle.interfere_set.specs.Stores.{IsStore, no_interference}
use Rattle.transfer_rows.specs.StateForms.{State, IsStateForm, only_numbers, own_of}
use Rattle.transfer_rows.specs.Actions.{Around, operated, dereferenced, temporary, fixed, numbers_compare}
use Rattle.transfer_rows.specs.Rows.{holds}
use Rattle.transfer_rows.specs.Reports.{AgreeOnSizes}
use Rattle.transfer_rows.specs.Meanings.{Valuation, MayGive, Fails, Passes, IsSpotOf}
use Rattle.transfer_rows.specs.Covering.{AreIn, HasTemp, HasCell, AreSized, IsCopyOf, AreLocalsIn}

-- Temporary 0 is 1, and a copy of the local cell 2; temporary 1 leads to the shared cell 0, in which 5 may stand; and
-- the task holds mutex 0, and not mutex 1. 1+1 may give 2, a dereference of what is not alive fails, and `t==1` passes.
pub record MeetsPremises (around : Around) (sizes : ℕ → ℕ) (s : State) (temps : Valuation) : Type 0 where
  pub inside : AreIn s temps
  pub form : IsStateForm s
  pub store : IsStore no_interference
  pub sized : AreSized sizes s
  pub agree : AgreeOnSizes s s
  pub locals : AreLocalsIn around.is_shared s temps
  pub copied : IsCopyOf s 0 2
  pub local : around.is_shared 2 ≡ false
  pub operand : HasTemp s 0
  pub address : HasTemp s 1
  pub leads : temps 1 ≡ pointer (to 0 0)
  pub spot : IsSpotOf (record { object = 0; offset = 0; cell = 0 } ∷ []) (record { object = 0; offset = 0; cell = 0 })
  pub cell : HasCell s 0
  pub own : IsValueIn (own_of s 0) (number (pos 5))
  pub gives : MayGive sizes temps (operated Add Int 0 0) (number (pos 2))
  pub fails : Fails sizes temps (dereferenced (λ object. false) (λ object offset. true) 1) Deref
  pub passes : Passes temps (numbers_compare Eq (temporary 0) (fixed (only_numbers (single (pos 1)))))
  pub held : holds around 0 ≡ true
  pub free : holds around 1 ≡ false

pub record HasExample : Type 0 where
  pub around : Around
  pub sizes : ℕ → ℕ
  pub state : State
  pub temps : Valuation
  pub meets : MeetsPremises around sizes state temps
