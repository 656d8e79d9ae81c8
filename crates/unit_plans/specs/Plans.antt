-- What becomes of the tokens of units, and why units are refused (C99 6.2.2, 6.9).
use Rattle.std.specs.Prelude.{◌≡◌, Bool, true, ◌==◌, ◌&&◌, ◌||◌, not, nat_lt, ℕ, Option, Some, None, List, [], ◌∷◌, map, if◌then◌else◌}
use Rattle.std.specs.Option.{option_map, option_or}
use Rattle.tm_terms.specs.declared.places.Place.{Place}
use Rattle.tm_terms.specs.declared.tokens.Token.{Token}
use Rattle.unit_plans.specs.Copies.{knowns_of, name_of}
use Rattle.unit_plans.specs.Linkages.{Lists, common_name, defined_name, defined_token, internal_name, is_linked}
use Rattle.unit_plans.specs.Linkages.{is_renamed, known_at, known_named, lists_of, name_like}
use Rattle.unit_plans.specs.Names.{first_named}
use Rattle.unit_plans.specs.Sights.{sights_of}
use Rattle.unit_plans.specs.declared.causes.Cause.{Cause}
use Rattle.unit_plans.specs.declared.causes.Cause.TheVariants as cause
use Rattle.unit_plans.specs.declared.causes.JoinFail.{JoinFail}
use Rattle.unit_plans.specs.declared.causes.JoinFail.TheVariants as fail
use Rattle.unit_plans.specs.declared.declarations.Known.{Known}
use Rattle.unit_plans.specs.declared.declarations.Local.{Local}
use Rattle.unit_plans.specs.declared.declarations.Sight.{Sight}
use Rattle.unit_tokens.specs.declared.fates.Fate.{Fate}
use Rattle.unit_tokens.specs.declared.fates.Fate.TheVariants as fate

-- no further token is of the unit
abbrev pub is_end_of : ℕ → List Sight → Bool
is_end_of unit [] = true
is_end_of unit (sight ∷ sights) = not (sight.unit == unit)

-- the last token of the first unit that ends in a declaration
abbrev pub open_place : List Sight → Option Place
open_place [] = None
open_place (sight ∷ sights) =
    if not sight.ends && is_end_of sight.unit sights then Some sight.token.place else open_place sights

-- a name is declared with internal linkage or without behind a declaration with external linkage, where nothing of the
-- unit declares it so before (C99 6.2.2, paragraph 7)
abbrev pub linkage_by : Option Known → Option Known → Option Cause
linkage_by (Some one) (Some other) = Some (cause.Linkage one.sight.token.place other.sight.token.place)
linkage_by None _ = None
linkage_by (Some one) None = None

abbrev pub linkage_at : List Known → Option ℕ → Option ℕ → Option Cause
linkage_at knowns (Some external) (Some internal) =
    if nat_lt external internal then linkage_by (known_at knowns (Some external)) (known_at knowns (Some internal))
    else None
linkage_at knowns None _ = None
linkage_at knowns (Some external) None = None

abbrev pub linkage_of : List Known → Lists → Option Local → Option Cause
linkage_of knowns lists None = None
linkage_of knowns lists (Some name) =
    linkage_at knowns (first_named name lists.externals) (first_named name lists.internals)

-- what is defined with external linkage is defined in another unit before (C99 6.9)
abbrev pub twice_by : Option Token → Option Token → Option Cause
twice_by (Some one) (Some other) = Some (cause.Twice one.place other.place)
twice_by None _ = None
twice_by (Some one) None = None

abbrev pub twice_for : Known → Option Known → Option Cause
twice_for known None = None
twice_for known (Some first) =
    if first.sight.unit == known.sight.unit then None else twice_by (defined_token first) (defined_token known)

abbrev pub twice_of : List Known → Lists → Known → Option Cause
twice_of knowns lists known =
    twice_for known (known_named knowns lists.definitions (defined_name lists.internals known))

-- a name that units share without linkage has external linkage in one of them
abbrev pub shared_by : Known → Option Known → Option Cause
shared_by known None = None
shared_by known (Some first) = Some (cause.Shared first.sight.token.place known.sight.token.place)

abbrev pub shared_of : List Known → Lists → Known → Option Cause
shared_of knowns lists known =
    if is_linked lists (name_of known.sight)
    then shared_by known (known_named knowns lists.shareds (common_name known.sight)) else None

-- a declaration that is left out has a name that its unit, or the one that has the earlier declaration, has for itself
abbrev pub parted_of : Lists → Known → Option Sight → Option Cause
parted_of lists known None = None
parted_of lists known (Some other) =
    if is_renamed lists (name_of known.sight) (common_name known.sight)
    || is_renamed lists (name_like known.sight (Some other)) (common_name known.sight)
    then Some (cause.Shared known.sight.token.place known.sight.token.place) else None

-- why units with a token are refused, if they are for it
abbrev pub fault_of : List Known → Lists → Known → Option Cause
fault_of knowns lists known =
    option_or (linkage_of knowns lists (internal_name known)) (option_or (twice_of knowns lists known)
    (option_or (shared_of knowns lists known) (parted_of lists known known.like)))

abbrev pub first_fault : List Known → Lists → List Known → Option Cause
first_fault all lists [] = None
first_fault all lists (known ∷ knowns) = option_or (fault_of all lists known) (first_fault all lists knowns)

-- what becomes of a token
abbrev pub fate_by : Lists → Sight → Option Sight → Fate
fate_by lists sight (Some other) = fate.LeftOut other.number
fate_by lists sight None =
    if is_renamed lists (name_of sight) (common_name sight) then fate.Renamed else fate.Stays

abbrev pub fate_of : Lists → Known → Fate
fate_of lists known = fate_by lists known.sight known.like

abbrev pub fates_by : List Known → List Fate
fates_by knowns = map (fate_of (lists_of knowns)) knowns

-- what becomes of the tokens of units, by the lines that stand before units
unfoldable pub fates_of : List ℕ → List Token → List Fate
fates_of borders tokens = fates_by (knowns_of (sights_of borders tokens))

-- why units are refused, if they are: one ends in a declaration, or the first token for which they are tells it
abbrev pub cause_by : List Sight → List Known → Option Cause
cause_by sights knowns =
    option_or (option_map (λ place. cause.Open place) (open_place sights)) (first_fault knowns (lists_of knowns) knowns)

unfoldable pub cause_of : List ℕ → List Token → Option Cause
cause_of borders tokens = cause_by (sights_of borders tokens) (knowns_of (sights_of borders tokens))

-- these become of the tokens of units that are not refused
pub record AreFates (borders : List ℕ) (tokens : List Token) (fates : List Fate) : Type 0 where
  pub accepted : cause_of borders tokens ≡ None
  pub same : fates ≡ fates_of borders tokens

-- units are refused for a cause that they have
abbrev pub IsRefusal : List ℕ → List Token → JoinFail → Type 0
IsRefusal borders tokens (fail.Refused why) = cause_of borders tokens ≡ Some why
IsRefusal borders tokens fail.NoMemory = Unit {0}
