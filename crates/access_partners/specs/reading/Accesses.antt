-- What the accesses of tasks tell of the accesses of objects.
use Rattle.std.specs.Prelude.{◌≡◌, ◌↔◌, ℕ, ◌<◌, false, List, length, get_or, Contains}
use Rattle.std.specs.declared.vec.Vec.{Vec}
use Rattle.tm_laid.specs.Layouts.{LaidTree, abstract_at}
use Rattle.access_races.specs.declared.accesses.Way.{Way}
use Rattle.access_races.specs.reading.Ways.{list_at, IsRacingIn, HasOne}
use Rattle.access_groups.specs.declared.object_access.ObjectAccess.{ObjectAccess}
use Rattle.access_groups.specs.declared.site.Site.{Site}
use Rattle.access_groups.specs.Order.{sort_key}
use Rattle.access_groups.specs.reading.Sites.{access_of}
use Rattle.access_partners.specs.declared.details.AccessDetails.{AccessDetails}
use Rattle.access_partners.specs.Lists.{AreListed}

-- what stands in place of an access of an object that there is not
abbrev pub nothing : ObjectAccess
nothing = record {
  place = record { line = 0; col = 0 };
  task = 0;
  stores = false;
  held = 0;
  free = 0;
  racing = false;
}

-- ## Accesses of tasks

module _ (sites : List Site) where
  -- it is one of them, and reaches a cell of the object
  abbrev pub IsSiteTo : LaidTree → ℕ → Site → Type 0
  IsSiteTo laid object x = HasOne (λ (y : Site). (let c = abstract_at laid y.access.cell in object ≡ c.object) × (x ≡ y))
      sites

  -- it is one of them, and makes the access of the object
  abbrev pub IsSiteFor : ObjectAccess → Site → Type 0
  IsSiteFor e x = HasOne (λ (y : Site). (x ≡ y) × (sort_key (access_of y) ≡ sort_key e)) sites

  -- one of them reaches the cell
  abbrev pub IsCellOf : ℕ → Type 0
  IsCellOf cell = HasOne (λ (x : Site). cell ≡ x.access.cell) sites

  -- one of them stands at the edge
  abbrev pub IsEdgeOf : ℕ → Type 0
  IsEdgeOf edge = HasOne (λ (x : Site). edge ≡ x.edge) sites

module _ {A : Type 0} (ways : List (Vec Way A)) where
  -- it races with one that reaches its cell in one of these ways
  abbrev pub IsRacingAmong : Site → Type 0
  IsRacingAmong x = IsRacingIn (list_at ways x.access.cell) x.access.way

  module _ (sites : List Site) where
    -- it is one of them, and races
    abbrev pub IsRacingSite : Site → Type 0
    IsRacingSite x = HasOne (λ (y : Site). IsRacingAmong y × (x ≡ y)) sites

    -- one of them that races reaches the cell
    abbrev pub IsRacingCell : ℕ → Type 0
    IsRacingCell cell = HasOne (λ (x : Site). IsRacingAmong x × (cell ≡ x.access.cell)) sites

    -- one of them that races stands at the edge
    abbrev pub IsRacingEdge : ℕ → Type 0
    IsRacingEdge edge = HasOne (λ (x : Site). IsRacingAmong x × (edge ≡ x.edge)) sites

    -- what is told of the access that they make
    pub record AreSiteDetails (d : AccessDetails) : Type 0 where
      pub cells : AreListed (IsCellOf sites) d.cells.items
      pub racing : AreListed IsRacingCell d.racing.items
      pub edges : AreListed IsRacingEdge d.edges.items

-- ## Accesses of an object

module _ (accesses : List ObjectAccess) where
  -- that with a number
  abbrev pub access_at : ℕ → ObjectAccess
  access_at i = get_or accesses i nothing

  -- for each a list of those that make it
  pub record AreSitesBy {A : Type 0} (sites : List Site) (lists : List (Vec Site A)) : Type 0 where
    pub count : length lists ≡ length accesses
    pub each : (i : ℕ) → i < length accesses → (x : Site)
        → Contains (list_at lists i) x ↔ IsSiteFor sites (access_at i) x
