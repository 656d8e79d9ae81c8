-- What the tests of the limits answer.
use Rattle.std.specs.Prelude.{◌≡◌, ℕ, true, false, Option, Some, None, Result, Ok, Err, ⊤, Vec}
use Rattle.std.specs.declared.alloc.Global.{Global}
use Rattle.tm_terms.specs.declared.refusals.Fail.{Fail}
use Rattle.tm_terms.specs.declared.refusals.Fail.TheVariants as Fails
use Rattle.tm_terms.specs.declared.refusals.Limit.{Limit}
use Rattle.tm_terms.specs.declared.refusals.Limit.TheVariants as Limits
use Rattle.tm_typed.specs.Files.{TypedFileTree}
use Rattle.tm_laid.specs.declared.scales.Scale.{Scale}
use Rattle.tm_laid.specs.Layouts.{is_exceeded, laid_out}
use Rattle.cell_layout.specs.reading.Counts.{AreTotals}

-- a limit that counts over call paths
abbrev pub IsPathLimit : Limit → Type 0
IsPathLimit Limits.Paths = ⊤
IsPathLimit Limits.Cells = ⊤
IsPathLimit Limits.Abstract = ⊤
IsPathLimit _ = ⊥

-- the limit is exceeded on a scale, or else these are the totals
abbrev pub IsWithin : Scale → TypedFileTree → Limit → Option (Vec ℕ Global) → Type 0
IsWithin scale file l None = is_exceeded scale file l ≡ true
IsWithin scale file l (Some totals) = (is_exceeded scale file l ≡ false) × AreTotals file l totals.items

-- none of the limits is exceeded on a scale
pub record IsAllWithin (scale : Scale) (file : TypedFileTree) : Type 0 where
  pub tasks : is_exceeded scale file Limits.Tasks ≡ false
  pub mutexes : is_exceeded scale file Limits.Mutexes ≡ false
  pub paths : is_exceeded scale file Limits.Paths ≡ false
  pub cells : is_exceeded scale file Limits.Cells ≡ false
  pub abstract_cells : is_exceeded scale file Limits.Abstract ≡ false

-- why there is no layout: the file is refused, or memory is wanting
abbrev pub IsFailOf : Scale → TypedFileTree → Fail → Type 0
IsFailOf scale file (Fails.Refused r) = laid_out scale file ≡ Err r
IsFailOf scale file Fails.NoMemory = ⊤

-- the totals of call paths, where no limit is exceeded
abbrev pub AreWithin : Scale → TypedFileTree → Result (Vec ℕ Global) Fail → Type 0
AreWithin scale file (Ok totals) = IsAllWithin scale file × AreTotals file Limits.Paths totals.items
AreWithin scale file (Err fail) = IsFailOf scale file fail
