-- What a program's passes over its store keep.
use Rattle.std.specs.Prelude.{◌≡◌, ℕ, ◌<◌}
use Rattle.tm_lattice.specs.declared.lattices.Lattice as lattice

module _ {S M : Type 0} (store : lattice.Ghosts S M) where
  -- the stores that fit a program are values, and the bottom, the passes, joins and roundings of stores that fit all
  -- fit
  pub record IsFitting (marks : M) (tasks : ℕ) (bottom : S) (passed : ℕ → S → S) (fits : S → Type 0) : Type 0 where
    pub marks_are : store.is_marks marks
    pub value : (s : S) → fits s → store.is_value s
    pub bottom_fits : fits bottom
    pub passed_fits : (task : ℕ) (s : S) → task < tasks → fits s → fits (passed task s)
    pub joined_fits : (s t : S) → fits s → fits t → fits (store.joined s t)
    pub rounded_fits : (s : S) → fits s → fits (store.rounded marks s)

  -- the bottom is below every store, and its own rounding
  pub record IsBottom (marks : M) (bottom : S) : Type 0 where
    pub below : (s : S) → store.is_value s → store.leq bottom s
    pub rounding : store.rounded marks bottom ≡ bottom

  -- a pass over more gives more
  abbrev pub IsMonotone : ℕ → (ℕ → S → S) → (S → Type 0) → Type 0
  IsMonotone tasks passed fits = (task : ℕ) (s t : S) → task < tasks → fits s → fits t → store.leq s t
      → store.leq (passed task s) (passed task t)
