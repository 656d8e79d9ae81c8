-- What it means that a token is left out: it stands in a whole declaration at file scope that defines nothing, and that
-- another unit has token for token.
use Rattle.std.specs.Prelude.{◌≡◌, ◌==◌, ◌⊎◌, ℕ, true, false, Some, List, [], ◌∷◌, ◌++◌, map, slice_get}
use Rattle.std.specs.List.{AllByRecursion}
use Rattle.unit_plans.specs.Copies.{declaration_to, is_same_text, key_of}
use Rattle.unit_plans.specs.Names.{first_named}
use Rattle.unit_plans.specs.declared.declarations.Known.{Known}
use Rattle.unit_plans.specs.declared.declarations.Local.{Local}
use Rattle.unit_plans.specs.declared.declarations.Sight.{Sight}

-- no token stands before a declaration, or one with which a declaration ends
abbrev pub IsBegin : List Sight → Type 0
IsBegin before = (before ≡ []) ⊎ ((others : List Sight) × (one : Sight) × (before ≡ others ++ one ∷ []) × (one.ends ≡ true))

-- tokens are a whole declaration, which ends with the last of them, and with none before it
pub record IsDeclaration (all own : List Sight) (last : Sight) : Type 0 where
  pub before : List Sight
  pub front : List Sight
  pub rest : List Sight
  pub there : all ≡ before ++ (front ++ last ∷ rest)
  pub whole : own ≡ front ++ last ∷ []
  pub begins : IsBegin before
  pub goes_on : AllByRecursion (λ (sight : Sight). sight.ends ≡ false) front
  pub ends : last.ends ≡ true

-- a declaration defines nothing, and stands token for token in another unit: there is the first with its key
pub record IsCopy (all own : List Sight) (last : Sight) : Type 0 where
  pub declares : last.spot.declares ≡ true
  pub key : Local
  pub keyed : key_of last ≡ Some key
  pub number : ℕ
  pub first : first_named key (map key_of all) ≡ Some number
  pub other : Sight
  pub there : slice_get all number ≡ Some other
  pub apart : (other.unit == last.unit) ≡ false
  pub same : is_same_text (declaration_to all number other) own ≡ true

-- a token stands in a whole declaration that is such a copy
pub record IsInCopy (all : List Sight) (sight : Sight) : Type 0 where
  pub own : List Sight
  pub last : Sight
  pub before : List Sight
  pub behind : List Sight
  pub member : own ≡ before ++ sight ∷ behind
  pub declaration : IsDeclaration all own last
  pub copy : IsCopy all own last

-- where a token is left out, it stands so
abbrev pub IsLeftRightly : List Sight → Known → Type 0
IsLeftRightly all known = (other : Sight) → known.like ≡ Some other → IsInCopy all known.sight
