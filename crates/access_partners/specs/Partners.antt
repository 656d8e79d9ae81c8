-- What the accesses of an object that has races reach, where they race and with which accesses.
--
-- In
--     __mutex m;int x;
--     __task(1) void a(void){x=1;}
--     __task(2) void b(void){x=2;__lock(m);x=3;__unlock(m);}
-- the object x has three accesses, and each reaches its one cell and races there. The store of a races with two
-- accesses, the stores of b; each of these races with one, the store of a.
use Rattle.std.specs.Prelude.{◌≡◌, ℕ, List, length, take, Contains}
use Rattle.std.specs.declared.vec.Vec.{Vec}
use Rattle.std.specs.declared.alloc.Global.{Global}
use Rattle.post_recheck.specs.transfer_rows.StateForms.{State}
use Rattle.post_recheck.specs.table_covers.Solutions.{NodeTable}
use Rattle.post_recheck.specs.program_equations.Programs.{ProgramBodies}
use Rattle.access_groups.specs.program_reports.Reports.{copy_in, AreRacing}
use Rattle.access_groups.specs.declared.object_access.ObjectAccess.{ObjectAccess}
use Rattle.access_groups.specs.declared.object_access.AccessGroup.{AccessGroup}
use Rattle.access_groups.specs.Groups.{IsAccessAt}
use Rattle.access_partners.specs.declared.details.AccessDetails.{AccessDetails}
use Rattle.access_partners.specs.Lists.{AreListed, AreThose, AreEach}

module _ (p : ProgramBodies) (tables : ℕ → NodeTable State) where
  module _ (object : ℕ) where
    -- ## Cells

    -- a copy of an access reaches the cell
    pub record Reaches (e : ObjectAccess) (cell : ℕ) : Type 0 where
      pub copy : ℕ
      pub at : IsAccessAt p tables object e copy cell

    -- ## Races

    -- a copy of one access and a copy of another race at the cell
    pub record DoCopiesRace (e : ObjectAccess) (copy : ℕ) (f : ObjectAccess) (other_copy at : ℕ) : Type 0 where
      pub races : AreRacing p tables e.task copy f.task other_copy
      pub cell : races.cell ≡ at
      pub one : IsAccessAt p tables object e copy at
      pub other : IsAccessAt p tables object f other_copy at

    -- two accesses race at the cell
    pub record DoRaceAt (e f : ObjectAccess) (cell : ℕ) : Type 0 where
      pub copy : ℕ
      pub other_copy : ℕ
      pub race : DoCopiesRace e copy f other_copy cell

    -- two accesses race
    pub record ArePartners (e f : ObjectAccess) : Type 0 where
      pub cell : ℕ
      pub race : DoRaceAt e f cell

    -- ## Among the accesses of the object

    module _ (accesses : List ObjectAccess) where
      -- an access races at the cell with one of them
      pub record RacesAt (e : ObjectAccess) (cell : ℕ) : Type 0 where
        pub partner : ObjectAccess
        pub has_partner : Contains accesses partner
        pub race : DoRaceAt e partner cell

      -- a copy of this edge does, at some cell
      pub record RacesAlong (e : ObjectAccess) (edge : ℕ) : Type 0 where
        pub copy : ℕ
        pub partner : ObjectAccess
        pub has_partner : Contains accesses partner
        pub other_copy : ℕ
        pub cell : ℕ
        pub race : DoCopiesRace e copy partner other_copy cell
        pub of_edge : (let c = copy_in p e.task copy in c.edge ≡ edge)

      -- the number of partners, and the first eight of them in the order of the accesses
      pub record ArePartnersOf (e : ObjectAccess) (count : ℕ) (shown : List ObjectAccess) : Type 0 where
        pub all : List ObjectAccess
        pub those : AreThose (ArePartners e) accesses all
        pub counted : count ≡ length all
        pub first_eight : shown ≡ take 8 all

      pub record AreDetails (e : ObjectAccess) (d : AccessDetails) : Type 0 where
        pub cells : AreListed (Reaches e) d.cells.items
        pub racing : AreListed (RacesAt e) d.racing.items
        pub edges : AreListed (RacesAlong e) d.edges.items
        pub partners : ArePartnersOf e d.partner_count d.partners.items

  -- ## Groups

  -- for each access of the group what is told of it
  abbrev pub AreDetailsOf : AccessGroup → Vec AccessDetails Global → Type 0
  AreDetailsOf g details = AreEach (AreDetails g.object g.accesses.items) g.accesses.items details.items

  -- for each group
  abbrev pub AreAllDetails : List AccessGroup → List (Vec AccessDetails Global) → Type 0
  AreAllDetails groups details = AreEach AreDetailsOf groups details
