-- Steps through arrays, down to the scalars.
use Rattle.std.proofs.Common.{◌≡◌, refl, ap, sym, ◌∙◌, ℕ, zero, suc, ◌+◌, ◌-◌, ◌<◌, ◌≤◌, Some, None, arith}
use Rattle.tm_typed.specs.declared.types.CType.{CType}
use Rattle.tm_typed.specs.declared.types.CType.TheVariants as Types
use Rattle.tm_laid.specs.TypeCells.{entry_of}
use Rattle.tm_laid.specs.Layouts.{LaidTree}
use Rattle.text_choices.specs.Initialisers.{element_in, scalar_within}
use Rattle.text_choices.specs.reading.Files.{element_type}

module _ (laid : LaidTree) where
  scalar_step : (depth number : ℕ) → scalar_within laid (suc depth) number ≡ element_in (scalar_within laid depth) number (entry_of laid.file number).ctype
  unfolding scalar_within
  scalar_step depth number = refl

  scalar_zero : (number : ℕ) → scalar_within laid zero number ≡ number
  unfolding scalar_within
  scalar_zero number = refl

  scalar_opened : (n i at : ℕ) (t : CType) → i < n → t ≡ (entry_of laid.file at).ctype → scalar_within laid (n - i) at ≡ element_in (scalar_within laid (n - (i + 1))) at t
  scalar_opened n i at t h e =
      let d : n - i ≡ suc (n - (i + 1)) = omega arith in
      ap (λ x. scalar_within laid x at) d ∙ scalar_step (n - (i + 1)) at ∙ ap (element_in (scalar_within laid (n - (i + 1))) at) (sym e)

  element_goes : (f : ℕ → ℕ) (n : ℕ) (t : CType) (element : ℕ) → element_type t ≡ Some element → element_in f n t ≡ f element
  element_goes f n Types.Void element e = absurd cc
  element_goes f n (Types.Int t) element e = absurd cc
  element_goes f n (Types.Pointer q) element e = absurd cc
  element_goes f n (Types.Array a m) element e = let q : a ≡ element = cc in ap f q
  element_goes f n (Types.Struct k) element e = absurd cc

  element_ends : (f : ℕ → ℕ) (n : ℕ) (t : CType) → element_type t ≡ None → element_in f n t ≡ n
  element_ends f n Types.Void e = refl
  element_ends f n (Types.Int t) e = refl
  element_ends f n (Types.Pointer q) e = refl
  element_ends f n (Types.Array a m) e = absurd cc
  element_ends f n (Types.Struct k) e = refl

  pub scalar_goes : (n i at element : ℕ) (t : CType) → i < n → t ≡ (entry_of laid.file at).ctype → element_type t ≡ Some element
      → scalar_within laid (n - i) at ≡ scalar_within laid (n - (i + 1)) element
  scalar_goes n i at element t h e g = scalar_opened n i at t h e ∙ element_goes (scalar_within laid (n - (i + 1))) at t element g

  pub scalar_ends : (n i at : ℕ) (t : CType) → i < n → t ≡ (entry_of laid.file at).ctype → element_type t ≡ None → scalar_within laid (n - i) at ≡ at
  scalar_ends n i at t h e g = scalar_opened n i at t h e ∙ element_ends (scalar_within laid (n - (i + 1))) at t g

  pub scalar_past : (n i at : ℕ) → n ≤ i → scalar_within laid (n - i) at ≡ at
  scalar_past n i at h = let d : n - i ≡ zero = omega arith in ap (λ x. scalar_within laid x at) d ∙ scalar_zero at
