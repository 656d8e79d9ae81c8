-- What is found of the accesses of an object is what the tables of the program tell.
use Rattle.std.proofs.Common.{◌≡◌, ◌↔◌, ℕ, ◌<◌, refl, ap, sym, subst, ◌∙◌, true, List, length, get_or}
use Rattle.std.specs.Prelude.{Contains}
use Rattle.std.specs.declared.vec.Vec.{Vec}
use Rattle.std.specs.declared.alloc.Global.{Global}
use Rattle.tm_laid.specs.Layouts.{LaidTree, no_abstract_cell}
use Rattle.post_recheck.specs.transfer_rows.StateForms.{State}
use Rattle.post_recheck.specs.table_covers.Solutions.{NodeTable}
use Rattle.post_recheck.specs.program_equations.Programs.{ProgramBodies, body_at, IsProgram}
use Rattle.access_races.specs.declared.accesses.Way.{Way}
use Rattle.access_races.specs.Races.{do_race}
use Rattle.access_races.proofs.Decided.{race_from, race_is}
use Rattle.access_groups.specs.program_reports.Reports.{copy_in}
use Rattle.access_groups.specs.program_reports.reading.Found.{way_of_copy}
use Rattle.access_groups.specs.declared.object_access.ObjectAccess.{ObjectAccess}
use Rattle.access_groups.specs.declared.object_access.AccessGroup.{AccessGroup}
use Rattle.access_groups.specs.Order.{sort_key}
use Rattle.access_groups.specs.Groups.{object_in, IsAccessAt, AreObjectAccesses, AreGroups}
use Rattle.access_races.specs.reading.Ways.{list_at}
use Rattle.access_groups.proofs.Exact.{racing_of, race_of, at_site, way_is, edge_is, site_at, site_up_to, site_alike}
use Rattle.access_groups.proofs.Sorting.{AreAlike, alike, keys_same}
use Rattle.access_partners.specs.declared.details.AccessDetails.{AccessDetails}
use Rattle.access_partners.specs.declared.partners.Partners.{Partners}
use Rattle.access_partners.specs.declared.points.Point.{Point}
use Rattle.access_groups.specs.declared.site.Site.{Site}
use Rattle.access_partners.specs.Lists.{AreEach}
use Rattle.access_partners.specs.Partners.{Reaches, DoCopiesRace, ArePartners, RacesAt, RacesAlong}
use Rattle.access_partners.specs.Partners.{AreDetails, AreDetailsOf, AreAllDetails}
use Rattle.access_groups.specs.reading.Sites.{access_of, IsWayOfSite}
use Rattle.access_partners.specs.reading.Accesses.{nothing, access_at, IsSiteTo, IsSiteFor}
use Rattle.access_partners.specs.reading.Accesses.{IsCellOf, IsRacingAmong, IsRacingCell, IsRacingEdge}
use Rattle.access_groups.specs.reading.Sites.{IsSiteUpTo}
use Rattle.access_partners.specs.reading.Points.{point_of, way_at, ArePointsOf, DoMeet}
use Rattle.access_partners.specs.reading.Pairs.{kept_by, ArePair}
use Rattle.access_partners.specs.reading.Found.{AreFound, AreFoundOf}
use Rattle.access_partners.proofs.Lists.{relisted, those_from, each_from, each_map}

-- ## The accesses of copies

module _ (p : ProgramBodies) (is : IsProgram p) (tables : ℕ → NodeTable State) where
  abbrev way_in : ℕ → ℕ → Way
  way_in t k = way_of_copy (body_at p t) k

  -- the access of a copy
  abbrev site_of : ObjectAccess → ℕ → ℕ → Site
  site_of e k cell = site_at p is tables e.task k cell e.place

  module _ (object : ℕ) where
    -- ## Races of copies

    do_copies_race : (e f : ObjectAccess) (k l cell : ℕ) → IsAccessAt p tables object e k cell
        → IsAccessAt p tables object f l cell → do_race (way_in e.task k) (way_in f.task l) ≡ true
        → DoCopiesRace p tables object e k f l cell
    unfolding racing_of
    do_copies_race e f k l cell one other race = record {
      races = racing_of p is tables e.task k f.task l cell one.access other.access
          (race_from (way_in e.task k) (way_in f.task l) race);
      cell = refl;
      one = one;
      other = other;
    }

    do_ways_race : (e f : ObjectAccess) (k l cell : ℕ) → DoCopiesRace p tables object e k f l cell
        → do_race (way_in e.task k) (way_in f.task l) ≡ true
    do_ways_race e f k l cell h =
        race_is (way_in e.task k) (way_in f.task l) (race_of p is tables e.task k f.task l h.races)

  -- ## The accesses of an object

  module _ {A B : Type 0} (sites : List Site) (are : (x : Site) → Contains sites x ↔ IsSiteUpTo p tables p.tasks x)
      (ways : List (Vec Way A))
      (ways-are : (c : ℕ) (w : Way) → Contains (list_at ways c) w ↔ IsWayOfSite sites c w) (laid : LaidTree)
      (cells-are : laid.abstract_cells ≡ p.laid.abstract_cells) (by_object : List (Vec Site B))
      (by-object-are : (o : ℕ) (x : Site) → Contains (list_at by_object o) x ↔ IsSiteTo sites laid o x) where
    -- ### What makes an access

    record Makes (object : ℕ) (e : ObjectAccess) (x : Site) : Type 0 where
      has : Contains sites x
      of : object_in p x.access.cell ≡ object
      same : AreAlike (access_of x) e

    relaid : (object cell : ℕ) → (let a = get_or laid.abstract_cells cell no_abstract_cell in object ≡ a.object)
        → object_in p cell ≡ object
    relaid object cell h =
        sym (subst (λ cells. let a = get_or cells cell no_abstract_cell in object ≡ a.object) cells-are h)

    laid_back : (object cell : ℕ) → object_in p cell ≡ object
        → (let a = get_or laid.abstract_cells cell no_abstract_cell in object ≡ a.object)
    laid_back object cell h =
        subst (λ cells. let a = get_or cells cell no_abstract_cell in object ≡ a.object) (sym cells-are) (sym h)

    makes_for : (object : ℕ) (e : ObjectAccess) (x : Site) → IsSiteFor (list_at by_object object) e x → Makes object e x
    makes_for object e x h =
        let there = (by-object-are object h.one).0 h.has in
        let y-is : x ≡ there.one = h.is.0 ∙ there.is.1 in record {
          has = subst (Contains sites) (sym y-is) there.has;
          of = relaid object x.access.cell
              (subst (λ (y : Site). let a = get_or laid.abstract_cells y.access.cell no_abstract_cell in object ≡ a.object)
              (sym y-is) there.is.0);
          same = alike (access_of x) e (subst (λ (y : Site). sort_key (access_of y) ≡ sort_key e) (sym h.is.0) h.is.1);
        }

    for_makes : (object : ℕ) (e : ObjectAccess) (x : Site) → Makes object e x → IsSiteFor (list_at by_object object) e x
    for_makes object e x h = record {
      one = x;
      has = (by-object-are object x).1 (record {
        one = x;
        has = h.has;
        is = (laid_back object x.access.cell h.of, refl);
      });
      is = (refl, keys_same (access_of x) e h.same);
    }

    module _ (object : ℕ) (accesses : List ObjectAccess) (groups-are : AreObjectAccesses p tables object accesses) where
      makes_at : (e : ObjectAccess) (k cell : ℕ) (h : IsAccessAt p tables object e k cell)
          → Makes object e (site_of e k cell)
      makes_at e k cell h = record {
        has = (are (site_of e k cell)).1 (site_up_to p is tables e.task k cell e.place h.access h.placed);
        of = h.of;
        same = site_alike p is tables object e k cell h;
      }

      module _ (e : ObjectAccess) (x : Site) (m : Makes object e x) where
        up_to : IsSiteUpTo p tables p.tasks x
        up_to = (are x).0 m.has

        abbrev copy_of : ℕ
        copy_of = up_to.gives.1.copy

        there : IsAccessAt p tables object e copy_of x.access.cell
        there = at_site p is tables x up_to e m.same object m.of

        way_there : x.access.way ≡ way_in e.task copy_of
        way_there = way_is p is tables x up_to e m.same

        edge_there : (let c = copy_in p e.task copy_of in c.edge ≡ x.edge)
        edge_there = edge_is p is tables x up_to e m.same

      -- ### What races with it

      record Found (e : ObjectAccess) (k cell : ℕ) : Type 0 where
        partner : ObjectAccess
        has : Contains accesses partner
        other : ℕ
        race : DoCopiesRace p tables object e k partner other cell

      race_found : (e : ObjectAccess) (x : Site) (m : Makes object e x) → IsRacingAmong ways x
          → Found e (copy_of e x m) x.access.cell
      race_found e x m r =
          let seen = (ways-are x.access.cell r.other).0 r.has in
          let y = seen.one in
          let of : object_in p y.access.cell ≡ object = subst (λ c. object_in p c ≡ object) seen.is.0 m.of in
          let self : AreAlike (access_of y) (access_of y) =
          record { place = refl; task = refl; stores = refl; held = refl } in
          let own : Makes object (access_of y) y = record { has = seen.has; of = of; same = self } in
          let entry = groups-are.all (access_of y)
          (record { copy = copy_of (access_of y) y own; cell = y.access.cell; at = there (access_of y) y own }) in
          let f = entry.0 in
          let made : Makes object f y = record { has = seen.has; of = of; same = alike (access_of y) f (sym entry.2) } in
          let at-cell = subst (λ c. IsAccessAt p tables object f (copy_of f y made) c) (sym seen.is.0) (there f y made) in
          let race = subst (λ w. do_race w (way_in f.task (copy_of f y made)) ≡ true) (way_there e x m)
          (subst (λ w. do_race x.access.way w ≡ true) (seen.is.1 ∙ way_there f y made) r.races) in record {
            partner = f;
            has = entry.1;
            other = copy_of f y made;
            race = do_copies_race object e f (copy_of e x m) (copy_of f y made) x.access.cell (there e x m) at-cell race;
          }

      race_seen : (e f : ObjectAccess) (k l cell : ℕ) (h : DoCopiesRace p tables object e k f l cell)
          → IsRacingAmong ways (site_of e k cell)
      race_seen e f k l cell h = record {
        other = way_in f.task l;
        has = (ways-are cell (way_in f.task l)).1 (record {
          one = site_of f l cell;
          has = (makes_at f l cell h.other).has;
          is = (refl, refl);
        });
        races = do_ways_race object e f k l cell h;
      }

      -- ### What is listed

      module _ (e : ObjectAccess) (own : List Site) (owns : (x : Site) → Contains own x ↔ Makes object e x) where
        cells_same : (c : ℕ) → IsCellOf own c ↔ Reaches p tables object e c
        cells_same c = (
          λ h. let m = (owns h.one).0 h.has in record {
            copy = copy_of e h.one m;
            at = subst (λ n. IsAccessAt p tables object e (copy_of e h.one m) n) (sym h.is) (there e h.one m);
          },
          λ r. record {
            one = site_of e r.copy c;
            has = (owns (site_of e r.copy c)).1 (makes_at e r.copy c r.at);
            is = refl;
          },
        )

        racing_same : (c : ℕ) → IsRacingCell ways own c ↔ RacesAt p tables object accesses e c
        racing_same c = (
          λ h.
              let m = (owns h.one).0 h.has in
              let found = race_found e h.one m h.is.0 in record {
                partner = found.partner;
                has_partner = found.has;
                race = record {
                  copy = copy_of e h.one m;
                  other_copy = found.other;
                  race = subst (λ n. DoCopiesRace p tables object e (copy_of e h.one m) found.partner found.other n)
                      (sym h.is.1) found.race;
                };
              },
          λ r.
              let h = r.race in
              let x = site_of e h.copy c in record {
                one = x;
                has = (owns x).1 (makes_at e h.copy c h.race.one);
                is = (race_seen e r.partner h.copy h.other_copy c h.race, refl);
              },
        )

        edges_same : (n : ℕ) → IsRacingEdge ways own n ↔ RacesAlong p tables object accesses e n
        edges_same n = (
          λ h.
              let m = (owns h.one).0 h.has in
              let found = race_found e h.one m h.is.0 in record {
                copy = copy_of e h.one m;
                partner = found.partner;
                has_partner = found.has;
                other_copy = found.other;
                cell = h.one.access.cell;
                race = found.race;
                of_edge = edge_there e h.one m ∙ sym h.is.1;
              },
          λ r.
              let x = site_of e r.copy r.cell in record {
                one = x;
                has = (owns x).1 (makes_at e r.copy r.cell r.race.one);
                is = (race_seen e r.partner r.copy r.other_copy r.cell r.race, sym r.of_edge);
              },
        )

      -- ### Partners

      way_back : (e : ObjectAccess) (x : Site) → AreAlike (access_of x) e → way_at e (point_of x) ≡ x.access.way
      way_back e x same = λ i. record {
        task = (sym same.task) i;
        priority = x.access.way.priority;
        held = (sym same.held) i;
        found = x.access.way.found;
        writes = (sym same.stores) i;
      }

      module _ (e f : ObjectAccess) (own others : List Site) (owns : (x : Site) → Contains own x ↔ Makes object e x)
          (owns-others : (x : Site) → Contains others x ↔ Makes object f x) (points more : List Point)
          (points-are : ArePointsOf own points) (more-are : ArePointsOf others more) where
        partners_met : DoMeet e points f more → ArePartners p tables object e f
        partners_met h =
            let one = (points-are.exact h.one).0 h.has in
            let other = (more-are.exact h.is.one).0 h.is.has in
            let x = one.one in
            let y = other.one in
            let m = (owns x).0 one.has in
            let n = (owns-others y).0 other.has in
            let cell : y.access.cell ≡ x.access.cell =
            sym (ap (λ (q : Point). q.cell) other.is) ∙ h.is.is.0 ∙ ap (λ (q : Point). q.cell) one.is in
            let way-x : way_at e h.one ≡ way_in e.task (copy_of e x m) =
            ap (λ q. way_at e q) one.is ∙ way_back e x m.same ∙ way_there e x m in
            let way-y : way_at f h.is.one ≡ way_in f.task (copy_of f y n) =
            ap (λ q. way_at f q) other.is ∙ way_back f y n.same ∙ way_there f y n in
            let race = subst (λ w. do_race w (way_in f.task (copy_of f y n)) ≡ true) way-x
            (subst (λ w. do_race (way_at e h.one) w ≡ true) way-y h.is.is.1) in record {
              cell = x.access.cell;
              race = record {
                copy = copy_of e x m;
                other_copy = copy_of f y n;
                race = do_copies_race object e f (copy_of e x m) (copy_of f y n) x.access.cell (there e x m)
                    (subst (λ c. IsAccessAt p tables object f (copy_of f y n) c) cell (there f y n)) race;
              };
            }

        met_partners : ArePartners p tables object e f → DoMeet e points f more
        met_partners r =
            let c = r.cell in
            let k = r.race.copy in
            let l = r.race.other_copy in
            let h = r.race.race in
            let x = site_of e k c in
            let y = site_of f l c in
            let m = makes_at e k c h.one in
            let n = makes_at f l c h.other in
            let race = subst (λ w. do_race w (way_at f (point_of y)) ≡ true) (sym (way_back e x m.same))
            (subst (λ w. do_race x.access.way w ≡ true) (sym (way_back f y n.same))
            (do_ways_race object e f k l c h)) in record {
              one = point_of x;
              has = (points-are.exact (point_of x)).1 (record { one = x; has = (owns x).1 m; is = refl });
              is = record {
                one = point_of y;
                has = (more-are.exact (point_of y)).1 (record { one = y; has = (owns-others y).1 n; is = refl });
                is = (refl, race);
              };
            }

      -- ### All that is told

      module _ (details : List AccessDetails)
          (found : AreFound ways accesses (list_at by_object object) details) where
        count : length found.lists ≡ length accesses
        count = found.sites_by.count

        owns_at : (i : ℕ) → i < length accesses → (x : Site)
            → Contains (list_at found.lists i) x ↔ Makes object (access_at accesses i) x
        owns_at i lt x = (
          λ c. makes_for object (access_at accesses i) x ((found.sites_by.each i lt x).0 c),
          λ m. (found.sites_by.each i lt x).1 (for_makes object (access_at accesses i) x m),
        )

        in_lists : (i : ℕ) → i < length accesses → i < length found.lists
        in_lists i lt = subst (λ n. i < n) (sym count) lt

        pair_is : (i j : ℕ) → i < length accesses → j < length accesses
            → ArePair accesses found.points i j ↔ ArePartners p tables object (access_at accesses i) (access_at accesses j)
        pair_is i j lt-i lt-j =
            let e = access_at accesses i in
            let f = access_at accesses j in
            let own = list_at found.lists i in
            let others = list_at found.lists j in
            let these = list_at found.points i in
            let those = list_at found.points j in
            let these-are = found.points_by.each i (in_lists i lt-i) in
            let those-are = found.points_by.each j (in_lists j lt-j) in (
              partners_met e f own others (owns_at i lt-i) (owns_at j lt-j) these those these-are those-are,
              met_partners e f own others (owns_at i lt-i) (owns_at j lt-j) these those these-are those-are,
            )

        details_at : (i : ℕ) (d : AccessDetails) → i < length accesses
            → AreDetails p tables object accesses (access_at accesses i) (get_or details i d)
        details_at i d lt =
            let e = access_at accesses i in
            let own = list_at found.lists i in
            let owns = owns_at i lt in
            let s : Partners = record { count = d.partner_count; shown = d.partners } in
            let by = found.details_by.each i s d (in_lists i lt) in
            let has = found.partners_by.each i s lt in record {
              cells = relisted (IsCellOf own) (Reaches p tables object e) (cells_same e own owns)
                  (get_or details i d).cells.items by.found.cells;
              racing = relisted (IsRacingCell ways own) (RacesAt p tables object accesses e) (racing_same e own owns)
                  (get_or details i d).racing.items by.found.racing;
              edges = relisted (IsRacingEdge ways own) (RacesAlong p tables object accesses e) (edges_same e own owns)
                  (get_or details i d).edges.items by.found.edges;
              partners = record {
                all = kept_by has.pairs accesses;
                those = those_from (ArePartners p tables object e) nothing has.pairs accesses has.are.count
                    (λ j below. (
                      λ t. (pair_is i j lt below).0 ((has.are.each j below).0 t),
                      λ r. (has.are.each j below).1 ((pair_is i j lt below).1 r),
                    ));
                counted = by.count ∙ has.counted;
                first_eight = by.shown ∙ has.first_eight;
              };
            }

        pub object_details : AreEach (AreDetails p tables object accesses) accesses details
        object_details =
            each_from (AreDetails p tables object accesses) nothing accesses details (found.details_by.count ∙ count)
            (λ i d lt. details_at i d lt)

    -- ## Groups

    each_group : (groups : List AccessGroup) (details : List (Vec AccessDetails Global))
        → ((g : AccessGroup) → Contains groups g → AreObjectAccesses p tables g.object g.accesses.items)
        → AreEach (AreFoundOf ways by_object) groups details → AreAllDetails p tables groups details
    each_group groups details each h =
        each_map (AreFoundOf ways by_object) (AreDetailsOf p tables) groups details
        (λ g in_groups ds found. object_details g.object g.accesses.items (each g in_groups) ds.items found) h

    pub all_details_are : (groups : List AccessGroup) → AreGroups p tables groups
        → (details : List (Vec AccessDetails Global)) → AreEach (AreFoundOf ways by_object) groups details
        → AreAllDetails p tables groups details
    all_details_are groups are-groups details h = each_group groups details are-groups.each h
