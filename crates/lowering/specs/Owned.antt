-- Whose objects a body clears.
use Rattle.std.specs.Prelude.{◌≡◌, ℕ}
use Rattle.concrete_steps.specs.tm_typed.declared.scopes.ObjectNumber.TheVariants.{Local}
use Rattle.concrete_steps.specs.tm_laid.Layouts.{LaidTree, first_path, callee, object_of}

-- the call paths of a body: its first one, and those of the calls on them
pub data IsPathOf (laid : LaidTree) (body : ℕ) : ℕ → Type 0 where
  from_first : IsPathOf laid body (first_path laid body)
  by_call : {path : ℕ} → IsPathOf laid body path → (site : ℕ) → IsPathOf laid body (callee laid path site)

-- a parameter or local object of such a path
pub record IsOwnObject (laid : LaidTree) (body object : ℕ) : Type 0 where
  pub path : ℕ
  pub is_path : IsPathOf laid body path
  pub number : ℕ
  pub is : object ≡ object_of laid path (Local number)
