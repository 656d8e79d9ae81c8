-- The address of an object is that of its first part.
use Rattle.std.proofs.Common.{◌≡◌, ℕ, ◌≤◌, refl, ap, ◌∙◌, sym, ℤ, pos, ◌+ℤ◌, Bool, true, false, if◌then◌else◌, leb}
use Rattle.std.proofs.Common.{Option, Some, None, arith}
use Rattle.std.proofs.lemmas.Bool.{le-leb}
use Rattle.tm_laid.specs.Layouts.{LaidTree}
use Rattle.concrete_values.specs.declared.values.Pointer.{Pointer}
use Rattle.concrete_values.specs.declared.values.Pointer.TheVariants.{To}
use Rattle.concrete_values.specs.Values.{pointer_of}
use Rattle.concrete_values.specs.Pointers.{size_of, placed, pointer_in, shifted, or_invalid, base, part}

at_zero : (n o : ℕ) → placed (Some n) o (pos 0) ≡ Some (To o 0)
at_zero n o = ap (λ b. if b then Some (To o 0) else None) (le-leb 0 n (omega arith))

by_size : (laid : LaidTree) (o : ℕ) (s : Option ℕ) → size_of laid o ≡ s
    → or_invalid (shifted laid (pointer_of (or_invalid (placed s o (pos 0)))) (pos 0)) ≡ or_invalid (placed s o (pos 0))
unfolding shifted pointer_of pointer_in
by_size laid o None e = refl
by_size laid o (Some n) e =
    ap (λ p. or_invalid (shifted laid (pointer_of (or_invalid p)) (pos 0))) (at_zero n o)
    ∙ ap (λ z. or_invalid (placed z o (pos 0))) e

-- the address of an object is that of its first part
pub part_of_base : (laid : LaidTree) (o : ℕ) → part laid 0 (base laid o) ≡ base laid o
unfolding part base pointer_in
part_of_base laid o = by_size laid o (size_of laid o) refl
