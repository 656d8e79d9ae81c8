-- Why units are refused, by what is found one behind another.
use Rattle.std.proofs.Common.{◌≡◌, ◌∙◌, ap, List, Option, Some, None}
use Rattle.std.specs.Option.{option_map, option_or}
use Rattle.tm_terms.specs.declared.places.Place.{Place}
use Rattle.unit_plans.specs.Linkages.{lists_of}
use Rattle.unit_plans.specs.Plans.{cause_by, first_fault, open_place}
use Rattle.unit_plans.specs.declared.causes.Cause.{Cause}
use Rattle.unit_plans.specs.declared.causes.Cause.TheVariants as cause
use Rattle.unit_plans.specs.declared.declarations.Known.{Known}
use Rattle.unit_plans.specs.declared.declarations.Sight.{Sight}

-- a unit ends in a declaration
pub cause_open : (sights : List Sight) (knowns : List Known) (place : Place) → open_place sights ≡ Some place
    → cause_by sights knowns ≡ Some (cause.Open place)
cause_open sights knowns place open_here =
    ap (λ (p : Option Place). option_or (option_map (λ q. cause.Open q) p) (first_fault knowns (lists_of knowns) knowns))
    open_here

-- none does
pub cause_fault : (sights : List Sight) (knowns : List Known) (why : Option Cause) → open_place sights ≡ None
    → first_fault knowns (lists_of knowns) knowns ≡ why → cause_by sights knowns ≡ why
cause_fault sights knowns why closed fault =
    ap (λ (p : Option Place). option_or (option_map (λ q. cause.Open q) p) (first_fault knowns (lists_of knowns) knowns))
    closed ∙ fault
