-- A step that leaves no array to either side leads to its end.
use Rattle.std.proofs.Common.{◌≡◌, ◌⊎◌, ℕ, inl, inr, ℤ, pos, ◌+ℤ◌, ◌≤ℤ◌, ◌<ℤ◌, true, arith}
use Rattle.std.proofs.lemmas.Int.{ints}
use Rattle.tm_laid.specs.Layouts.{stands_at}
use Rattle.strided_dom.specs.Progression.{Progression, Has, IsLeastNumber, IsGreatestNumber}
use Rattle.part_extents.specs.declared.extents.Extent.{Extent}
use Rattle.operand_orders.specs.Reached.{SolvedBody}
use Rattle.open_choices.specs.reading.Found.{LeavesArray}

module _ (b : SolvedBody) (object target : ℕ) (array : Extent) (offset : ℕ) (steps : Progression) where
  pub stood : (lo hi : ℤ) → IsLeastNumber (Has steps) lo → IsGreatestNumber (Has steps) hi
      → pos array.begin ≤ℤ (pos offset +ℤ lo) → (pos offset +ℤ hi) ≤ℤ pos array.end
      → LeavesArray b object target array offset (Has steps) → stands_at b.laid object array.end target ≡ true
  stood lo hi least greatest low high h =
      let from = least.bound h.step h.by in
      let to = greatest.bound h.step h.by in
      elim h.leaves [
        | inl less ↦ absurd (omega (arith, ints, from, low, less))
        | inr x ↦ elim x [ inl more ↦ absurd (omega (arith, ints, to, high, more)) | inr e ↦ e.1 ]
      ]
