-- The initial section alone is the program of one task.
use Rattle.std.specs.Prelude.{◌≡◌, ℕ}
use Rattle.std.proofs.Common.{refl}
use Rattle.tm_soundness.specs.Section.{alone}
use Rattle.program_shape.specs.Shape.{Parts, shape_of, section_parts, section_of}

pub is_alone : (x : Parts) (main : ℕ) → alone (shape_of x) (section_of x main) ≡ shape_of (section_parts x main)
is_alone x main = refl
