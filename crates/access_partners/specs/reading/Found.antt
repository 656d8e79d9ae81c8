-- What is found of the accesses of groups.
use Rattle.std.specs.Prelude.{◌≡◌, ℕ, ◌<◌, List, length, get_or}
use Rattle.std.specs.declared.vec.Vec.{Vec}
use Rattle.std.specs.declared.alloc.Global.{Global}
use Rattle.access_races.specs.declared.accesses.Way.{Way}
use Rattle.access_groups.specs.declared.object_access.ObjectAccess.{ObjectAccess}
use Rattle.access_groups.specs.declared.object_access.AccessGroup.{AccessGroup}
use Rattle.access_races.specs.reading.Ways.{list_at}
use Rattle.access_partners.specs.declared.details.AccessDetails.{AccessDetails}
use Rattle.access_partners.specs.declared.partners.Partners.{Partners}
use Rattle.access_partners.specs.declared.points.Point.{Point}
use Rattle.access_groups.specs.declared.site.Site.{Site}
use Rattle.access_partners.specs.reading.Accesses.{AreSiteDetails, AreSitesBy}
use Rattle.access_partners.specs.reading.Points.{ArePointsBy}
use Rattle.access_partners.specs.reading.Pairs.{ArePartnersBy}

module _ {A : Type 0} (ways : List (Vec Way A)) where
  -- it tells of the access that these make, and of these partners
  pub record AreDetailsBy (sites : List Site) (s : Partners) (d : AccessDetails) : Type 0 where
    pub found : AreSiteDetails ways sites d
    pub count : d.partner_count ≡ s.count
    pub shown : d.partners.items ≡ s.shown.items

  -- for each of the first accesses, of what makes them and of their partners
  pub record AreListedDetails {B : Type 0} (lists : List (Vec Site B)) (partners : List Partners) (n : ℕ)
      (details : List AccessDetails) : Type 0 where
    pub count : length details ≡ n
    pub each : (i : ℕ) (s : Partners) (d : AccessDetails) → i < n
        → AreDetailsBy (list_at lists i) (get_or partners i s) (get_or details i d)

  -- for each access of an object, where these are all that reach its cells
  pub record AreFound (accesses : List ObjectAccess) (sites : List Site) (details : List AccessDetails) : Type 0 where
    pub lists : List (Vec Site Global)
    pub points : List (Vec Point Global)
    pub partners : List Partners
    pub sites_by : AreSitesBy accesses sites lists
    pub points_by : ArePointsBy lists points
    pub partners_by : ArePartnersBy accesses points (length accesses) partners
    pub details_by : AreListedDetails lists partners (length lists) details

  -- for each access of the group
  abbrev pub AreFoundOf : {B : Type 0} → List (Vec Site B) → AccessGroup → Vec AccessDetails Global → Type 0
  AreFoundOf by_object g details = AreFound g.accesses.items (list_at by_object g.object) details.items
