-- The groups of what is noted are those of the tables.
use Rattle.std.proofs.Common.{◌≡◌, ◌↔◌, ℕ, zero, suc, ◌<◌, refl, ap, sym, subst, ◌∙◌, inl, inr, Bool, true, false, List}
use Rattle.std.proofs.Common.{[], ◌∷◌, length, get_or, Some, arith}
use Rattle.std.specs.Prelude.{Contains}
use Rattle.std.specs.declared.vec.Vec.{Vec}
use Rattle.std.proofs.lemmas.Bool.{true≢false}
use Rattle.tm_terms.specs.declared.places.Place.{Place}
use Rattle.tm_laid.specs.Layouts.{LaidTree, no_abstract_cell}
use Rattle.mutex_configs.specs.Sets.{has}
use Rattle.program_reports.specs.post_recheck.transfer_rows.StateForms.{State}
use Rattle.program_reports.specs.post_recheck.table_covers.Solutions.{NodeTable}
use Rattle.program_reports.specs.post_recheck.program_equations.Programs.{ProgramBodies, body_at, IsProgram}
use Rattle.access_races.specs.declared.accesses.Way.{Way}
use Rattle.access_races.specs.Races.{do_race}
use Rattle.access_races.specs.reading.Ways.{list_at, IsRacingIn}
use Rattle.access_races.proofs.Decided.{Race, race_from, race_is}
use Rattle.access_races.proofs.Joins.{either}
use Rattle.program_reports.specs.Reports.{IsAccess, AreRacing, operation_in, copy_in, left_in, priority_at, place_of}
use Rattle.program_reports.specs.reading.Found.{way_of_copy, is_writing}
use Rattle.access_groups.specs.declared.object_access.ObjectAccess.{ObjectAccess}
use Rattle.access_groups.specs.declared.object_access.AccessGroup.{AccessGroup}
use Rattle.access_groups.specs.declared.site.Site.{Site}
use Rattle.access_groups.specs.Order.{sort_key}
use Rattle.access_groups.specs.Groups.{object_in, IsAccessAt, IsRacingThere, IsObjectAccess, AreObjectAccesses}
use Rattle.access_groups.specs.Groups.{HasRace, AreGroups}
use Rattle.access_groups.specs.reading.Sites.{access_of, IsSiteBelow, IsSiteUpTo, IsWayOfSite}
use Rattle.access_groups.specs.reading.Noted.{IsNotedIn}
use Rattle.access_groups.specs.reading.Merging.{IsMerged, HasAlikeRacing, AreMerged, HasRacing}
use Rattle.access_groups.specs.reading.Grouping.{AreGroupsOf}
use Rattle.access_races.proofs.Rising.{none, first, later, cases}
use Rattle.access_groups.proofs.Sorting.{AreAlike, alike, keys_same}
use Rattle.access_groups.proofs.Alike as alikes
use Rattle.access_groups.proofs.Noted.{same_truth}
use Rattle.access_groups.proofs.Targets.{stands_at, writes, is_write}

-- ## Decisions

abbrev Decision : List Way → Way → Type 0
Decision ws w = (b : Bool) × ((b ≡ true) ↔ IsRacingIn ws w)

-- whether a way races with one of a list can be described
decided : (ws : List Way) (w : Way) → Decision ws w
decided [] w = (false, ((λ e. absurd (true≢false (sym e))), (λ r. absurd (none r.other r.has))))
decided (v ∷ vs) w = by (do_race w v) refl (decided vs w)
  where
    by : (b : Bool) → do_race w v ≡ b → Decision vs w → Decision (v ∷ vs) w
    by true e d = (true, ((λ t. record { other = v; has = first v vs; races = e }), (λ r. refl)))
    by false e d = (
      d.0,
      (
        (λ t. let r = d.1.0 t in record { other = r.other; has = later v r.other vs r.has; races = r.races }),
        (λ r. d.1.1 (either
            (λ same. absurd (true≢false (sym (subst (λ z. do_race w z ≡ true) (sym same) r.races) ∙ e)))
            (λ (more : Contains vs r.other). record { other = r.other; has = more; races = r.races })
            (cases v r.other vs r.has))),
      ),
    )

-- a number with something in its list is below the count
below_count : {X A : Type 0} (lists : List (Vec X A)) (n : ℕ) (x : X) → Contains (list_at lists n) x → n < length lists
below_count [] n x h = absurd (none x h)
below_count (l ∷ lists) zero x h = omega arith
below_count (l ∷ lists) (suc n) x h = let lt = below_count lists n x h in omega (arith, lt)

-- what is noted over a layout with the same abstract cells
pub relaid : {A : Type 0} (ways : List (Vec Way A)) (laid other : LaidTree)
    → laid.abstract_cells ≡ other.abstract_cells → (sites : List Site) (object : ℕ) (e : ObjectAccess)
    → IsNotedIn ways laid sites object e → IsNotedIn ways other sites object e
relaid ways laid other same sites object e h = record {
  one = h.one;
  has = h.has;
  is = (
    subst (λ cells. let a = get_or cells h.one.access.cell no_abstract_cell in object ≡ a.object) same h.is.0,
    h.is.1,
  );
}

-- ## Ways

module _ (p : ProgramBodies) (is : IsProgram p) (tables : ℕ → NodeTable State) where
  abbrev pub way_in : ℕ → ℕ → Way
  way_in t k = way_of_copy (body_at p t) k

  pub task_is : (t k : ℕ) → t < length p.bodies → (way_in t k).task ≡ t
  task_is t k lt = (is.each t lt).numbered.number

  priority_is : (t k : ℕ) → t < length p.bodies → (way_in t k).priority ≡ priority_at p t
  priority_is t k lt =
      ap (λ ps. get_or ps (body_at p t).task 0) (is.each t lt).numbered.priorities
      ∙ ap (λ n. get_or p.priorities n 0) (is.each t lt).numbered.number

  module _ (t k u l : ℕ) (lt : t < length p.bodies) (lu : u < length p.bodies) where
    abbrev one : Way
    one = way_in t k

    abbrev two : Way
    two = way_in u l

    pub less : priority_at p t < priority_at p u → one.priority < two.priority
    less h =
        subst (λ n. n < two.priority) (sym (priority_is t k lt))
        (subst (λ n. priority_at p t < n) (sym (priority_is u l lu)) h)

    less_back : one.priority < two.priority → priority_at p t < priority_at p u
    less_back h =
        subst (λ n. n < priority_at p u) (priority_is t k lt) (subst (λ n. one.priority < n) (priority_is u l lu) h)

  pub race_of : (t k u l : ℕ) (h : AreRacing p tables t k u l) → Race (way_in t k) (way_in u l)
  race_of t k u l h =
      let lt = h.one.reached.body in
      let lu = h.other.reached.body in record {
        tasks = λ same. h.tasks (sym (task_is t k lt) ∙ same ∙ task_is u l lu);
        writes = either (λ w. inl (is_write (operation_in p t k) w)) (λ w. inr (is_write (operation_in p u l) w))
            h.writes;
        apart = h.apart;
        forth = λ less'. h.forth (less_back t k u l lt lu less');
        back = λ less'. h.back (less_back u l t k lu lt less');
      }

  unfoldable pub racing_of : (t k u l cell : ℕ) → IsAccess p tables t k cell → IsAccess p tables u l cell
      → Race (way_in t k) (way_in u l) → AreRacing p tables t k u l
  racing_of t k u l cell h j race =
      let lt = h.reached.body in
      let lu = j.reached.body in record {
        tasks = λ same. race.tasks (task_is t k lt ∙ same ∙ sym (task_is u l lu));
        cell = cell;
        one = h;
        other = j;
        writes = either (λ w. inl (writes (operation_in p t k) w)) (λ w. inr (writes (operation_in p u l) w))
            race.writes;
        apart = race.apart;
        forth = λ less'. race.forth (less t k u l lt lu less');
        back = λ less'. race.back (less u l t k lu lt less');
      }

  abbrev IsAs : ObjectAccess → ℕ → ℕ → Type 0
  IsAs e t k = alikes.IsAs p tables e t k

  -- ## Accesses

  pub placed : (t k cell : ℕ) → IsAccess p tables t k cell → (place : Place) × (place_of (operation_in p t k) ≡ Some place)
  placed t k cell h = let there = stands_at (body_at p t) k h.state cell h.target in (there.0, there.2)

  -- ### From an access of a task to an access of an object

  module _ (x : Site) (h : IsSiteUpTo p tables p.tasks x) where
    abbrev t : ℕ
    t = h.body

    abbrev below : IsSiteBelow (body_at p t) (tables t) (let b = body_at p t in length b.copies) x
    below = h.gives.1

    abbrev k : ℕ
    k = below.copy

    in_bodies : t < length p.bodies
    in_bodies = let lt = h.below in let most = is.tasks in omega (arith, lt, most)

    pub reaches : IsAccess p tables t k x.access.cell
    reaches = record {
      task = h.below;
      state = below.state;
      reached = record { body = in_bodies; copy = below.below; state = below.reached };
      target = below.gives.access.target;
    }

    module _ (e : ObjectAccess) (same : AreAlike (access_of x) e) where
      pub of_task : t ≡ e.task
      of_task =
          sym (task_is t k in_bodies) ∙ ap (λ (w : Way). w.task) (sym below.gives.access.way) ∙ same.task

      pub like : IsAs e t k
      like =
          let stores : e.stores ≡ is_writing (operation_in p t k) =
          sym same.stores ∙ ap (λ (w : Way). w.writes) below.gives.access.way in record {
            placed = below.gives.access.placed ∙ ap Some same.place;
            kind = (
              λ s. writes (operation_in p t k) (sym stores ∙ s),
              λ w. stores ∙ is_write (operation_in p t k) w,
            );
            holds = ap (λ (w : Way). w.held) (sym below.gives.access.way) ∙ same.held;
          }

      pub at_site : (object : ℕ) → object_in p x.access.cell ≡ object → IsAccessAt p tables object e k x.access.cell
      at_site object of =
          alikes.at_from p tables object e k x.access.cell
          (subst (λ u. IsAccess p tables u k x.access.cell) of_task reaches) of
          (subst (λ u. IsAs e u k) of_task like)

      pub way_is : x.access.way ≡ way_in e.task k
      way_is = below.gives.access.way ∙ ap (λ u. way_in u k) of_task

      pub edge_is : (let c = copy_in p e.task k in c.edge ≡ x.edge)
      edge_is = subst (λ u. let c = copy_in p u k in c.edge ≡ x.edge) of_task (sym below.gives.edge)

  -- ### And back

  abbrev pub site_at : ℕ → ℕ → ℕ → Place → Site
  site_at t k cell place = record {
    access = record { cell = cell; way = way_in t k; place = place };
    edge = (copy_in p t k).edge;
  }

  pub site_up_to : (t k cell : ℕ) (place : Place) → IsAccess p tables t k cell
      → place_of (operation_in p t k) ≡ Some place → IsSiteUpTo p tables p.tasks (site_at t k cell place)
  site_up_to t k cell place h e = record {
    body = t;
    below = h.task;
    gives = (
      h.task,
      record {
        copy = k;
        below = h.reached.copy;
        state = h.state;
        reached = h.reached.state;
        gives = record { access = record { target = h.target; way = refl; placed = e }; edge = refl };
      },
    );
  }

  pub site_alike : (object : ℕ) (e : ObjectAccess) (k cell : ℕ) → IsAccessAt p tables object e k cell
      → AreAlike (access_of (site_at e.task k cell e.place)) e
  site_alike object e k cell h = record {
    place = refl;
    task = task_is e.task k h.access.reached.body;
    stores = same_truth (is_writing (operation_in p e.task k)) e.stores
        (λ w. h.kind.1 (writes (operation_in p e.task k) w))
        (λ s. is_write (operation_in p e.task k) (h.kind.0 s));
    held = h.holds;
  }

  -- ## Lists

  module _ {A B : Type 0} (sites : List Site) (are : (x : Site) → Contains sites x ↔ IsSiteUpTo p tables p.tasks x)
      (ways : List (Vec Way A)) (ways-are : (c : ℕ) (w : Way) → Contains (list_at ways c) w ↔ IsWayOfSite sites c w)
      (lists : List (Vec ObjectAccess B))
      (lists-are : (o : ℕ) (e : ObjectAccess) → Contains (list_at lists o) e ↔ IsNotedIn ways p.laid sites o e) where
    -- what is noted of the access of a copy
    module _ (object : ℕ) (e : ObjectAccess) (k cell : ℕ) (h : IsAccessAt p tables object e k cell) where
      abbrev site : Site
      site = site_at e.task k cell e.place

      abbrev tells : Decision (list_at ways cell) (way_in e.task k)
      tells = decided (list_at ways cell) (way_in e.task k)

      abbrev note : ObjectAccess
      note = record {
        place = e.place;
        task = (way_in e.task k).task;
        stores = (way_in e.task k).writes;
        held = (way_in e.task k).held;
        free = (way_in e.task k).found;
        racing = tells.0;
      }

      has_note : Contains (list_at lists object) note
      has_note = (lists-are object note).1 (record {
        one = site;
        has = (are site).1 (site_up_to e.task k cell e.place h.access h.placed);
        is = (
          sym h.of,
          record {
            place = refl;
            task = refl;
            stores = refl;
            held = refl;
            free = refl;
            racing = tells.1;
          },
        );
      })

      note_alike : sort_key note ≡ sort_key e
      note_alike = keys_same (access_of site) e (site_alike object e k cell h)

    -- and back
    module _ (object : ℕ) (n : ObjectAccess) (c : Contains (list_at lists object) n) (e : ObjectAccess)
        (same : AreAlike n e) where
      noted : IsNotedIn ways p.laid sites object n
      noted = (lists-are object n).0 c

      up_to : IsSiteUpTo p tables p.tasks noted.one
      up_to = (are noted.one).0 noted.has

      abbrev copy : ℕ
      copy = up_to.gives.1.copy

      made : AreAlike (access_of noted.one) n
      made =
          let as-noted = noted.is.1 in record {
            place = sym as-noted.place;
            task = sym as-noted.task;
            stores = sym as-noted.stores;
            held = sym as-noted.held;
          }

      back_at : IsAccessAt p tables object e copy noted.one.access.cell
      back_at =
          alikes.at_alike p tables object n e same copy noted.one.access.cell
          (at_site noted.one up_to n made object (sym noted.is.0))

      back_found : (m : ℕ) → (let q = left_in p e.task copy in has q.found m ≡ true) → has n.free m ≡ true
      back_found m h =
          let task-is = of_task noted.one up_to n made in
          let found = sym (noted.is.1.free ∙ ap (λ (w : Way). w.found) up_to.gives.1.gives.access.way) in
          subst (λ f. has f m ≡ true) found
          (subst (λ t. let q = left_in p t copy in has q.found m ≡ true) (sym task-is)
          (subst (λ t. let q = left_in p t copy in has q.found m ≡ true) (sym same.task) h))

      back_racing : n.racing ≡ true → IsRacingThere p tables object e
      unfolding racing_of noted
      back_racing racing =
          let x = noted.one in
          let r = noted.is.1.racing.0 racing in
          let other = (ways-are x.access.cell r.other).0 r.has in
          let y = other.one in
          let there = (are y).0 other.has in
          let u = there.body in
          let l = there.gives.1.copy in
          let raced : do_race (way_in up_to.body copy) (way_in u l) ≡ true =
          subst (λ w. do_race w (way_in u l) ≡ true) up_to.gives.1.gives.access.way
          (subst (λ w. do_race x.access.way w ≡ true) (other.is.1 ∙ there.gives.1.gives.access.way) r.races) in
          let race = race_from (way_in up_to.body copy) (way_in u l) raced in
          let one = reaches x up_to in
          let two = subst (λ cell. IsAccess p tables u l cell) (sym other.is.0) (reaches y there) in
          alikes.racing_alike p tables object n e same
          (alikes.racing_there p tables object n up_to.body (of_task x up_to n made) copy u l
          (racing_of up_to.body copy u l x.access.cell one two race) (sym noted.is.0) (like x up_to n made))

    -- a copy that races is noted so
    note_races : (object : ℕ) (e : ObjectAccess) (h : IsRacingThere p tables object e) → HasAlikeRacing (list_at lists object) e
    note_races object e h =
        let k = h.copy in
        let r = h.races in
        let u = h.other_task in
        let l = h.other_copy in
        let place = placed u l r.cell r.other in
        let y : Site = site_at u l r.cell place.0 in
        let in_ways : Contains (list_at ways r.cell) (way_in u l) = (ways-are r.cell (way_in u l)).1 (record {
          one = y;
          has = (are y).1 (site_up_to u l r.cell place.0 r.other place.1);
          is = (refl, refl);
        }) in record {
          one = note object e k r.cell h.at;
          has_one = has_note object e k r.cell h.at;
          alike = note_alike object e k r.cell h.at;
          racing = (tells object e k r.cell h.at).1.1 (record {
            other = way_in u l;
            has = in_ways;
            races = race_is (way_in e.task k) (way_in u l) (race_of e.task k u l r);
          });
        }

    -- ## Entries

    described : (object : ℕ) (e : ObjectAccess) → IsMerged (list_at lists object) e → IsObjectAccess p tables object e
    described object e h =
        let one = h.alike.one in
        let c = h.alike.has_one in
        let same = alike one e h.alike.alike in record {
          accessed = record {
            copy = copy object one c e same;
            cell = (noted object one c e same).one.access.cell;
            at = back_at object one c e same;
          };
          free = λ m. (
            λ t k cell at.
                let f = (h.free m).0 t (note object e k cell at) (has_note object e k cell at)
                (note_alike object e k cell at) in f,
            λ all. (h.free m).1 (λ f in_list s.
                let same = alike f e s in
                back_found object f in_list e same m
                (all (copy object f in_list e same) ((noted object f in_list e same).one.access.cell)
                (back_at object f in_list e same))),
          );
          racing = (
            λ t. let r = h.racing.0 t in back_racing object r.one r.has_one e (alike r.one e r.alike) r.racing,
            λ r. h.racing.1 (note_races object e r),
          );
        }

    entries : (object : ℕ) (list : List ObjectAccess) → AreMerged (list_at lists object) list
        → AreObjectAccesses p tables object list
    entries object list h = record {
      rising = h.rising;
      each = λ e c. described object e (h.each e c);
      all = λ e a.
          let n = note object e a.copy a.cell a.at in
          let f = h.all n (has_note object e a.copy a.cell a.at) in
          (f.0, f.1, f.2 ∙ note_alike object e a.copy a.cell a.at);
    }

    -- ## Objects

    raced : (object : ℕ) (list : List ObjectAccess) → AreMerged (list_at lists object) list → HasRacing list
        → HasRace p tables object
    raced object list h r =
        let there = (described object r.one (h.each r.one r.has_one)).racing.0 r.racing in record {
          task = r.one.task;
          copy = there.copy;
          other_task = there.other_task;
          other_copy = there.other_copy;
          races = there.races;
          of = there.at.of;
        }

    -- the entry of a copy
    abbrev entry_of : ℕ → ℕ → Place → ObjectAccess
    entry_of t k place = record {
      place = place;
      task = t;
      stores = is_writing (operation_in p t k);
      held = (left_in p t k).held;
      free = 0;
      racing = false;
    }

    note_raced : (object : ℕ) → HasRace p tables object → HasRacing (list_at lists object)
    note_raced object h =
        let place = placed h.task h.copy h.races.cell h.races.one in
        let r = note_races object (entry_of h.task h.copy place.0) (record {
          copy = h.copy;
          other_task = h.other_task;
          other_copy = h.other_copy;
          races = h.races;
          at = record {
            access = h.races.one;
            of = h.of;
            placed = place.1;
            kind = (writes (operation_in p h.task h.copy), is_write (operation_in p h.task h.copy));
            holds = refl;
          };
        }) in record { one = r.one; has_one = r.has_one; racing = r.racing }

    pub groups_are : (groups : List AccessGroup) → AreGroupsOf lists (length lists) groups → AreGroups p tables groups
    groups_are groups h = record {
      rising = h.rising;
      raced = λ g c. raced g.object g.accesses.items (h.merged g c) (h.racing g c);
      each = λ g c. entries g.object g.accesses.items (h.merged g c);
      all = λ object r.
          let has = note_raced object r in
          h.all object (below_count lists object has.one has.has_one) has;
    }
