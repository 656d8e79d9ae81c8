-- One step down from what is left of so many.
use Rattle.std.proofs.Common.{◌≡◌, refl, ap, ◌∙◌, ℕ, zero, suc, ◌+◌, ◌-◌, ◌<◌, ◌≤◌, Bool, true, false, cond, Some, None, arith}
use Rattle.source_names.specs.declared.steps.Inside.{Inside}
use Rattle.source_names.specs.declared.steps.Down.{Down}
use Rattle.source_names.specs.declared.steps.Down.TheVariants as Downs
use Rattle.source_names.specs.Steps.{step_down}
use Rattle.tm_laid.specs.Layouts.{LaidTree}
use Rattle.part_extents.specs.Parts.{Part, in_part, innermost_within, next_part, or_below, array_within}
use Rattle.part_extents.specs.reading.Sought.{part_in}

-- ## Cells

module _ (laid : LaidTree) where
  inner_step : (depth : ℕ) (at : Inside)
      → innermost_within laid (suc depth) at ≡ in_part laid (innermost_within laid depth) at (step_down laid.file at)
  unfolding innermost_within
  inner_step depth at = refl

  inner_zero : (at : Inside) → innermost_within laid zero at ≡ at
  unfolding innermost_within
  inner_zero at = refl

  into : (f : Inside → Inside) (at : Inside) (down : Down) → in_part laid f at (Some down) ≡ f (part_in down)
  into f at (Downs.Element index length inside) = refl
  into f at (Downs.Member name inside) = refl

  pub inner_goes : (n i : ℕ) (at : Inside) (down : Down) → i < n → step_down laid.file at ≡ Some down
      → innermost_within laid (n - i) at ≡ innermost_within laid (n - (i + 1)) (part_in down)
  inner_goes n i at down h e =
      let d : n - i ≡ suc (n - (i + 1)) = omega arith in
      ap (λ x. innermost_within laid x at) d ∙ inner_step (n - (i + 1)) at
      ∙ ap (in_part laid (innermost_within laid (n - (i + 1))) at) e ∙ into (innermost_within laid (n - (i + 1))) at down

  pub inner_ends : (n i : ℕ) (at : Inside) → i < n → step_down laid.file at ≡ None → innermost_within laid (n - i) at ≡ at
  inner_ends n i at h e =
      let d : n - i ≡ suc (n - (i + 1)) = omega arith in
      ap (λ x. innermost_within laid x at) d ∙ inner_step (n - (i + 1)) at
      ∙ ap (in_part laid (innermost_within laid (n - (i + 1))) at) e

  pub inner_past : (n i : ℕ) (at : Inside) → n ≤ i → innermost_within laid (n - i) at ≡ at
  inner_past n i at h =
      let d : n - i ≡ zero = omega arith in ap (λ x. innermost_within laid x at) d ∙ inner_zero at

-- ## Arrays

module _ (laid : LaidTree) (is : Part → Bool) (offset : ℕ) where
  array_step : (depth : ℕ) (part : Part) → array_within laid (suc depth) is offset part
      ≡ cond (is part) (Some part.array) (or_below laid (array_within laid depth is offset) (next_part laid part offset))
  unfolding array_within
  array_step depth part = refl

  array_zero : (part : Part) → array_within laid zero is offset part ≡ None
  unfolding array_within
  array_zero part = refl

  array_opened : (n i : ℕ) (part : Part) → i < n → array_within laid (n - i) is offset part
      ≡ cond (is part) (Some part.array) (or_below laid (array_within laid (n - (i + 1)) is offset) (next_part laid part offset))
  array_opened n i part h =
      let d : n - i ≡ suc (n - (i + 1)) = omega arith in
      ap (λ x. array_within laid x is offset part) d ∙ array_step (n - (i + 1)) part

  pub array_found : (n i : ℕ) (part : Part) → i < n → is part ≡ true → array_within laid (n - i) is offset part ≡ Some part.array
  array_found n i part h e = array_opened n i part h
      ∙ ap (λ b. cond b (Some part.array) (or_below laid (array_within laid (n - (i + 1)) is offset) (next_part laid part offset))) e

  array_on : (n i : ℕ) (part : Part) → i < n → is part ≡ false → array_within laid (n - i) is offset part
      ≡ or_below laid (array_within laid (n - (i + 1)) is offset) (next_part laid part offset)
  array_on n i part h e = array_opened n i part h
      ∙ ap (λ b. cond b (Some part.array) (or_below laid (array_within laid (n - (i + 1)) is offset) (next_part laid part offset))) e

  pub array_goes : (n i : ℕ) (part next : Part) → i < n → is part ≡ false → next_part laid part offset ≡ Some next
      → array_within laid (n - i) is offset part ≡ array_within laid (n - (i + 1)) is offset next
  array_goes n i part next h e f = array_on n i part h e ∙ ap (or_below laid (array_within laid (n - (i + 1)) is offset)) f

  pub array_ends : (n i : ℕ) (part : Part) → i < n → is part ≡ false → next_part laid part offset ≡ None
      → array_within laid (n - i) is offset part ≡ None
  array_ends n i part h e f = array_on n i part h e ∙ ap (or_below laid (array_within laid (n - (i + 1)) is offset)) f

  pub array_past : (n i : ℕ) (part : Part) → n ≤ i → array_within laid (n - i) is offset part ≡ None
  array_past n i part h =
      let d : n - i ≡ zero = omega arith in ap (λ x. array_within laid x is offset part) d ∙ array_zero part
