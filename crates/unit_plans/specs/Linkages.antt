-- What the units have their names for (C99 6.2.2), by their tokens with those for which they are left out.
use Rattle.std.specs.Prelude.{Bool, true, false, ◌==◌, ◌&&◌, ◌||◌, not, ℕ, Option, Some, None, is_some, List, map, slice_get, if◌then◌else◌}
use Rattle.tm_terms.specs.declared.tokens.Token.{Token}
use Rattle.unit_plans.specs.Copies.{name_of}
use Rattle.unit_plans.specs.Names.{first_named, is_among, name_in, named}
use Rattle.unit_plans.specs.declared.declarations.Declared.TheVariants as declared
use Rattle.unit_plans.specs.declared.declarations.Known.{Known}
use Rattle.unit_plans.specs.declared.declarations.Local.{Local}
use Rattle.unit_plans.specs.declared.declarations.Role.{Role}
use Rattle.unit_plans.specs.declared.declarations.Role.TheVariants as role
use Rattle.unit_plans.specs.declared.declarations.Sight.{Sight}

-- declared with external linkage, unless it has internal linkage before
abbrev pub is_external : Role → Bool
is_external (role.Declared declared.Extern) = true
is_external (role.Declared declared.Defined) = true
is_external (role.Declared declared.Mutex) = true
is_external _ = false

-- declared without linkage: a type, a constant or a tag
abbrev pub is_unlinked : Role → Bool
is_unlinked (role.Declared declared.Typedef) = true
is_unlinked (role.Declared declared.Enumerator) = true
is_unlinked role.Opened = true
is_unlinked role.OpenedWithin = true
is_unlinked _ = false

-- declared with internal linkage, or without linkage
abbrev pub is_internal : Role → Bool
is_internal (role.Declared declared.Static) = true
is_internal r = is_unlinked r

-- a tag that no braces follow: it may be one that the unit has only mentioned
abbrev pub is_mention : Role → Bool
is_mention role.Tag = true
is_mention _ = false

-- the name of a token as that of all units
abbrev pub common_name : Sight → Option Local
common_name sight = name_in 0 sight.token sight.role

-- the names that tokens declare with external linkage, and with internal or without
abbrev pub external_name : Known → Option Local
external_name known = if is_external known.sight.role then name_of known.sight else None

abbrev pub internal_name : Known → Option Local
internal_name known = if is_internal known.sight.role then name_of known.sight else None

-- the names of declarations that are left out, in their units, in those that have the earlier ones, and in all
abbrev pub is_left : Known → Bool
is_left known = is_some known.like && is_unlinked known.sight.role

abbrev pub left_name : Known → Option Local
left_name known = if is_left known then name_of known.sight else None

abbrev pub name_like : Sight → Option Sight → Option Local
name_like sight None = None
name_like sight (Some other) = name_in other.unit sight.token sight.role

abbrev pub earlier_name : Known → Option Local
earlier_name known = if is_left known then name_like known.sight known.like else None

abbrev pub shared_name : Known → Option Local
shared_name known = if is_left known then common_name known.sight else None

-- the names that stand in units
abbrev pub standing_name : Known → Option Local
standing_name known = if is_mention known.sight.role then None else common_name known.sight

-- the names that stand in another unit before
abbrev pub is_apart : Sight → Option Known → Bool
is_apart sight None = false
is_apart sight (Some known) = not (known.sight.unit == sight.unit)

abbrev pub known_at : List Known → Option ℕ → Option Known
known_at knowns None = None
known_at knowns (Some number) = slice_get knowns number

abbrev pub known_named : List Known → List (Option Local) → Option Local → Option Known
known_named knowns names None = None
known_named knowns names (Some name) = known_at knowns (first_named name names)

abbrev pub far_name : List Known → List (Option Local) → Known → Option Local
far_name knowns standing known =
    if is_apart known.sight (known_named knowns standing (standing_name known)) then standing_name known else None

-- what a token defines that stays, or a value or a body behind it (C99 6.9)
abbrev pub defined_by : Token → Role → Option Token
defined_by token (role.Declared declared.Defined) = Some token
defined_by token (role.Declared declared.Mutex) = Some token
defined_by token (role.Defines other) = Some other
defined_by token _ = None

abbrev pub defined_token : Known → Option Token
defined_token known = if is_some known.like then None else defined_by known.sight.token known.sight.role

-- the name of what is defined with external linkage, as that of all units
abbrev pub linked_name : List (Option Local) → ℕ → Option Token → Option Local
linked_name internals unit None = None
linked_name internals unit (Some token) =
    if is_among internals (named unit false token.shape) then None else named 0 false token.shape

abbrev pub defined_name : List (Option Local) → Known → Option Local
defined_name internals known = linked_name internals known.sight.unit (defined_token known)

-- the names that the tokens of units have in each of these ways
pub record Lists : Type 0 where
  pub externals : List (Option Local)
  pub internals : List (Option Local)
  pub lefts : List (Option Local)
  pub earliers : List (Option Local)
  pub shareds : List (Option Local)
  pub standings : List (Option Local)
  pub fars : List (Option Local)
  pub definitions : List (Option Local)

abbrev pub lists_of : List Known → Lists
lists_of knowns = record {
  externals = map external_name knowns;
  internals = map internal_name knowns;
  lefts = map left_name knowns;
  earliers = map earlier_name knowns;
  shareds = map shared_name knowns;
  standings = map standing_name knowns;
  fars = map (far_name knowns (map standing_name knowns)) knowns;
  definitions = map (defined_name (map internal_name knowns)) knowns;
}

-- a unit has a name with external linkage
abbrev pub is_linked : Lists → Option Local → Bool
is_linked lists name = is_among lists.externals name && not (is_among lists.internals name)

-- a unit has a name for itself alone: with internal linkage, or without linkage in no declaration of several units
abbrev pub is_own : Lists → Option Local → Bool
is_own lists name =
    is_among lists.internals name && not (is_among lists.lefts name || is_among lists.earliers name)

-- a unit declares an ordinary name within blocks or parameters alone
abbrev pub is_ordinary : Option Local → Bool
is_ordinary None = false
is_ordinary (Some name) = not name.is_tag

abbrev pub is_within : Lists → Option Local → Bool
is_within lists name = is_ordinary name && not (is_among lists.externals name || is_among lists.internals name)

-- a name of a unit gets a new one where the unit has it for itself alone and another unit has it too, and where the
-- unit has it within blocks alone and several units share it
abbrev pub is_renamed : Lists → Option Local → Option Local → Bool
is_renamed lists name common =
    (is_own lists name && is_among lists.fars common) || (is_within lists name && is_among lists.shareds common)
