-- What is noted of accesses, object by object.
use Rattle.std.specs.Prelude.{◌≡◌, ◌↔◌, ℕ, true, List}
use Rattle.std.specs.declared.vec.Vec.{Vec}
use Rattle.tm_laid.specs.Layouts.{LaidTree, abstract_at}
use Rattle.access_races.specs.declared.accesses.Way.{Way}
use Rattle.access_races.specs.declared.accesses.Access.{Access}
use Rattle.access_races.specs.reading.Ways.{list_at, IsRacingIn, HasOne}
use Rattle.access_groups.specs.declared.object_access.ObjectAccess.{ObjectAccess}
use Rattle.access_groups.specs.declared.site.Site.{Site}

module _ {A : Type 0} (ways : List (Vec Way A)) where
  -- what is noted of an access
  pub record IsNotedAs (x : Access) (e : ObjectAccess) : Type 0 where
    pub place : e.place ≡ x.place
    pub task : (let w = x.way in e.task ≡ w.task)
    pub stores : (let w = x.way in e.stores ≡ w.writes)
    pub held : (let w = x.way in e.held ≡ w.held)
    pub free : (let w = x.way in e.free ≡ w.found)
    pub racing : (e.racing ≡ true) ↔ IsRacingIn (list_at ways x.cell) x.way

  -- it is noted of one of these, which reaches a cell of the object
  abbrev pub IsNotedIn : LaidTree → List Site → ℕ → ObjectAccess → Type 0
  IsNotedIn laid sites object e =
      HasOne (λ (x : Site). (let a = abstract_at laid x.access.cell in object ≡ a.object) × IsNotedAs x.access e) sites
