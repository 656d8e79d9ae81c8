-- What holds of the tables of types and structures at every moment of typing.
use Rattle.std.specs.Prelude.{◌≡◌, ℕ, suc, ◌+◌, ◌^◌, ◌<◌, ◌≤◌, true, false, cond, List, [], ◌∷◌, length, All}
use Rattle.tm_laid.specs.tm_typed.declared.types.CType.{CType}
use Rattle.tm_laid.specs.tm_typed.declared.types.CType.TheVariants as Types
use Rattle.tm_laid.specs.tm_typed.declared.types.TypeEntry.{TypeEntry}
use Rattle.tm_laid.specs.tm_typed.declared.scopes.Member.{Member}
use Rattle.tm_laid.specs.tm_typed.declared.scopes.Tagged.{Tagged}
use Rattle.tm_laid.specs.tm_typed.declared.scopes.Tagged.TheVariants as Tagging
use Rattle.tm_laid.specs.tm_typed.Scopes.{Scope, Structure, ctype_of, structure, is_complete, cells_of}
use Rattle.tm_laid.specs.tm_typed.Scopes.{abstract_cells_of}
use Rattle.tm_laid.specs.tm_typed.TypeRows.{clipped, cells_in, abstract_cells_in, number_in}
use Rattle.tm_laid.specs.TypeCells.{summed}

-- ## Types

-- a type of the table
abbrev pub IsType : Scope → ℕ → Type 0
IsType scope n = n < length scope.types

-- What a type is made of stands in the table, and elements of arrays have a known size (C99 6.7.5.2).
abbrev pub IsMade : Scope → CType → Type 0
IsMade scope (Types.Pointer q) = IsType scope q.number
IsMade scope (Types.Array e n) = is_complete scope e ≡ true
IsMade scope (Types.Struct k) = k < length scope.structs
IsMade scope t = Unit {0}

-- what types that are the same but for `const` share: the form, an integer type, a structure
abbrev pub form : CType → CType
form Types.Void = Types.Void
form (Types.Int t) = Types.Int t
form (Types.Pointer q) = Types.Pointer (record { number = 0; constant = false; volatile = false })
form (Types.Array e n) = Types.Array 0 0
form (Types.Struct k) = Types.Struct k

-- A row is made of types of the table, its class has the same form, and its columns count what they say.
pub record IsRow (scope : Scope) (e : TypeEntry) : Type 0 where
  pub made : IsMade scope e.ctype
  pub class : IsType scope e.class
  pub alike : form (ctype_of scope e.class) ≡ form e.ctype
  pub cells : e.cells ≡ cells_in scope e.ctype
  pub abstract_cells : e.abstract_cells ≡ abstract_cells_in scope e.ctype
  pub size : e.size < 2 ^ 32

-- ## Structures

-- Members are of known size and stand one behind the other, the first at this cell.
abbrev pub AreMembers : Scope → ℕ → List Member → Type 0
AreMembers scope start [] = Unit {0}
AreMembers scope start (m ∷ ms) =
    (m.part.cell ≡ clipped start) × (is_complete scope m.part.of.number ≡ true)
    × AreMembers scope (start + cells_of scope m.part.of.number) ms

-- A structure has members from its `}` on, and takes the cells that they take.
pub record IsStructure (scope : Scope) (s : Structure) : Type 0 where
  pub members : AreMembers scope 0 s.members
  pub cells : s.cells ≡ clipped (summed (cells_of scope) s.members)
  pub abstract_cells : s.abstract_cells ≡ clipped (summed (abstract_cells_of scope) s.members)
  pub size : s.size < 2 ^ 32
  pub opened : s.complete ≡ true → s.opened ≡ true
  pub empty : s.complete ≡ false → s.members ≡ []

-- a tag of a structure names one
abbrev pub IsTag : Scope → Tagged → Type 0
IsTag scope (Tagging.Structure k) = k < length scope.structs
IsTag scope (Tagging.Enumeration z) = Unit {0}

-- how many structures are complete
abbrev pub complete_count : List Structure → ℕ
complete_count [] = 0
complete_count (s ∷ ss) = cond s.complete (suc (complete_count ss)) (complete_count ss)

-- Types have ranks: what a type is made of other than by a pointer has a lower one, so that no type is a part of
-- itself.
pub record AreRanked (scope : Scope) : Type 0 where
  pub rank : ℕ → ℕ
  pub below : (n : ℕ) → IsType scope n → rank n < length scope.types + complete_count scope.structs
  pub elements : (n e m : ℕ) → IsType scope n → ctype_of scope n ≡ Types.Array e m → rank e < rank n
  pub members : (n k : ℕ) → IsType scope n → ctype_of scope n ≡ Types.Struct k
      → All (λ m. rank m.part.of.number < rank n) (structure scope k).members

-- ## The tables

-- The basic types, rows and structures are as they should be, each structure has a type, and tags name structures.
pub record AreLawfulTables (scope : Scope) : Type 0 where
  pub basic : 13 ≤ length scope.types
  pub rows : All (IsRow scope) scope.types
  pub structures : All (IsStructure scope) scope.structs
  pub numbers : (k : ℕ) → k < length scope.structs → IsType scope (number_in scope (Types.Struct k))
  pub tags : All (λ b. IsTag scope b.tagged) scope.tags
  pub ranks : AreRanked scope
