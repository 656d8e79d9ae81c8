-- What the code keeps of the declarations of a file, and which of them is told, as the definition has it.
use Rattle.std.specs.Prelude.{◌≡◌, ◌⊎◌, ℕ, true, false, List, Contains}
use Rattle.tm_terms.specs.declared.places.Place.{Place}
use Rattle.tm_terms.specs.Spelling.{text_of}
use Rattle.text_choices.specs.declared.reserved.Declared.{Declared as CodeDeclared}
use Rattle.text_choices.specs.Texts.{Declared, IsPlaceBefore, IsReservedName}

abbrev pub declared_of : CodeDeclared → Declared
declared_of d = record { name = d.name; place = d.place; defined = d.defined; internal = d.internal }

-- another declaration leaves it to this one
abbrev pub Yields : Declared → Declared → Type 0
Yields it d =
    d.name ≡ it.name → (d.internal ≡ false)
    × (d.defined ≡ it.defined → (d ≡ it) ⊎ IsPlaceBefore it.place d.place)
    × (d.defined ≡ true → it.defined ≡ true)

-- such a name is told here among these declarations
pub record IsTold (bytes : List ℕ) (declared : List Declared) (it : Declared) : Type 0 where
  pub named : IsReservedName (text_of bytes it.name)
  pub yielded : (d : Declared) → Contains declared d → Yields it d

-- a place at which such a name is told among the declarations of a file
pub record IsReservedAmong (bytes : List ℕ) (declared : List Declared) (place : Place) : Type 0 where
  pub it : Declared
  pub stands : Contains declared it
  pub is : it.place ≡ place
  pub told : IsTold bytes declared it
