-- What maps from names to numbers say of lists of names: which is the first that is this one.
use Rattle.std.specs.Prelude.{◌≡◌, ℕ, List, Option}
use Rattle.std.specs.BTreeMap.{BTreeMap, get}
use Rattle.std.specs.Ordering.{nat_cmp, bool_cmp, ordering_then}
use Rattle.std.specs.declared.cmp.Ordering.{Ordering}
use Rattle.unit_plans.specs.Linkages.{Lists, earlier_name, external_name, internal_name, left_name, shared_name}
use Rattle.unit_plans.specs.Linkages.{standing_name}
use Rattle.unit_plans.specs.Names.{first_named}
use Rattle.unit_plans.specs.declared.declarations.Known.{Known}
use Rattle.unit_plans.specs.declared.declarations.Local.{Local}
use Rattle.unit_plans.specs.declared.linkages.Tables.{Tables}
use Rattle.unit_plans.specs.declared.linkages.View.{View}
use Rattle.unit_plans.specs.declared.linkages.View.TheVariants as view

-- the order of names
abbrev pub local_cmp : Local → Local → Ordering
local_cmp one other =
    ordering_then (nat_cmp one.unit other.unit) (ordering_then (bool_cmp one.is_tag other.is_tag)
    (ordering_then (nat_cmp one.name.start other.name.start) (nat_cmp one.name.length other.name.length)))

-- the map has for each name the number of the first that is this one
pub record IsTable (table : BTreeMap Local ℕ) (names : List (Option Local)) : Type 0 where
  pub same : (name : Local) → get local_cmp table name ≡ first_named name names

-- the name that a token has in a way
abbrev pub viewed : View → Known → Option Local
viewed view.External known = external_name known
viewed view.Internal known = internal_name known
viewed view.Left known = left_name known
viewed view.Earlier known = earlier_name known
viewed view.Shared known = shared_name known
viewed view.Standing known = standing_name known

-- the maps have the first of each name of the lists
pub record AreTables (tables : Tables) (lists : Lists) : Type 0 where
  pub externals : IsTable tables.externals lists.externals
  pub internals : IsTable tables.internals lists.internals
  pub lefts : IsTable tables.lefts lists.lefts
  pub earliers : IsTable tables.earliers lists.earliers
  pub shareds : IsTable tables.shareds lists.shareds
  pub fars : IsTable tables.fars lists.fars
  pub definitions : IsTable tables.definitions lists.definitions
