-- Names of units in their name spaces (C99 6.2.3), and which of a list is the first that is a given one.
use Rattle.std.specs.Prelude.{Bool, true, false, ℕ, ◌==◌, ◌&&◌, not, Option, Some, None, is_some, List, if◌then◌else◌}
use Rattle.std.specs.List.{position_from}
use Rattle.tm_terms.specs.declared.tokens.Shape.{Shape}
use Rattle.tm_terms.specs.declared.tokens.Shape.TheVariants as shape
use Rattle.tm_terms.specs.declared.tokens.Token.{Token}
use Rattle.unit_plans.specs.declared.declarations.Local.{Local}
use Rattle.unit_plans.specs.declared.declarations.Role.{Role}
use Rattle.unit_plans.specs.declared.declarations.Role.TheVariants as role

-- names of one unit in one name space with one text
abbrev pub is_same_space : Bool → Bool → Bool
is_same_space one other = if one then other else not other

abbrev pub is_same : Local → Local → Bool
is_same one other =
    one.unit == other.unit && is_same_space one.is_tag other.is_tag
    && (one.name.start == other.name.start && one.name.length == other.name.length)

-- whether there is a name, and it is this one
abbrev pub is_name : Local → Option Local → Bool
is_name name None = false
is_name name (Some other) = is_same other name

-- the number of the first of some names that is this one
abbrev pub first_named : Local → List (Option Local) → Option ℕ
first_named name names = position_from (is_name name) 0 names

-- whether there is a name, and it is among these
abbrev pub is_among : List (Option Local) → Option Local → Bool
is_among names None = false
is_among names (Some name) = is_some (first_named name names)

-- the name of a token in a name space
abbrev pub named : ℕ → Bool → Shape → Option Local
named unit is_tag (shape.Name name) = Some (record { unit = unit; is_tag = is_tag; name = name })
named unit is_tag _ = None

-- the name of a token with this role
abbrev pub name_in : ℕ → Token → Role → Option Local
name_in unit token role.Used = named unit false token.shape
name_in unit token (role.Declared declared) = named unit false token.shape
name_in unit token role.Tag = named unit true token.shape
name_in unit token role.Opened = named unit true token.shape
name_in unit token role.OpenedWithin = named unit true token.shape
name_in unit token role.None = None
name_in unit token (role.Defines other) = None
