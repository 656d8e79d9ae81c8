-- The report of what is found is that of the tables.
use Rattle.std.proofs.Common.{◌≡◌, ◌↔◌, ◌⊎◌, ℕ, ◌<◌, refl, ap, sym, subst, ◌∙◌, inl, inr, true, List, length, get_or}
use Rattle.std.proofs.Common.{Some}
use Rattle.std.specs.Prelude.{Contains}
use Rattle.tm_cint.specs.declared.Class.{Class}
use Rattle.tm_terms.specs.declared.alarms.Alarm.{Alarm}
use Rattle.tm_terms.specs.declared.places.Place.{Place}
use Rattle.post_recheck.specs.transfer_rows.StateForms.{State}
use Rattle.post_recheck.specs.transfer_rows.Reports.{targets_of}
use Rattle.post_recheck.specs.table_covers.Solutions.{NodeTable}
use Rattle.post_recheck.specs.task_equations.Bodies.{copy_at}
use Rattle.post_recheck.specs.task_equations.Equations.{action_along, tests_pointer}
use Rattle.post_recheck.specs.program_equations.Programs.{ProgramBodies, body_at, IsProgram}
use Rattle.access_races.specs.declared.accesses.Way.{Way}
use Rattle.access_races.specs.declared.accesses.Access.{Access}
use Rattle.access_races.specs.Races.{do_race, IsRaceAt, IsRaceAlarm, IsReportOf}
use Rattle.access_races.proofs.Decided.{Race, race_from, race_is}
use Rattle.program_reports.specs.Reports.{IsFaulty, IsAccess, AreRacing, IsRacing, IsAlarm, IsReport}
use Rattle.program_reports.specs.Reports.{operation_in, priority_at, place_of}
use Rattle.program_reports.specs.Reports.IsAlarm.{faulty, racing}
use Rattle.program_reports.specs.reading.Found.{way_of_copy}
use Rattle.program_reports.specs.reading.Bodies.{IsAlarmUpTo, IsAccessUpTo}
use Rattle.program_reports.proofs.Operations.{stands, writes, is_write}

either : {A B C : Type 0} → (A → C) → (B → C) → A ⊎ B → C
either f g (inl a) = f a
either f g (inr b) = g b

module _ (p : ProgramBodies) (is : IsProgram p) (tables : ℕ → NodeTable State) where
  -- ## Errors

  faulty_from : (a : Alarm) → IsAlarmUpTo p tables (length p.bodies) a → IsFaulty p tables a.place a.class
  faulty_from a h = record {
    body = h.body;
    copy = h.gives.copy;
    state = h.gives.state;
    reached = record { body = h.below; copy = h.gives.below; state = h.gives.reached };
    listed = h.gives.gives.listed;
    placed = h.gives.gives.placed;
  }

  alarm_from : (place : Place) (class : Class) → IsFaulty p tables place class
      → IsAlarmUpTo p tables (length p.bodies) (record { place = place; class = class })
  alarm_from place class h = record {
    body = h.body;
    below = h.reached.body;
    gives = record {
      copy = h.copy;
      below = h.reached.copy;
      state = h.state;
      reached = h.reached.state;
      gives = record { listed = h.listed; placed = h.placed };
    };
  }

  -- ## Ways

  abbrev way_in : ℕ → ℕ → Way
  way_in t k = way_of_copy (body_at p t) k

  task_is : (t k : ℕ) → t < length p.bodies → (way_in t k).task ≡ t
  task_is t k lt = (is.each t lt).numbered.number

  priority_is : (t k : ℕ) → t < length p.bodies → (way_in t k).priority ≡ priority_at p t
  priority_is t k lt =
      ap (λ ps. get_or ps (body_at p t).task 0) (is.each t lt).numbered.priorities
      ∙ ap (λ n. get_or p.priorities n 0) (is.each t lt).numbered.number

  module _ (t k u l : ℕ) (lt : t < length p.bodies) (lu : u < length p.bodies) where
    abbrev one : Way
    one = way_in t k

    abbrev two : Way
    two = way_in u l

    less : priority_at p t < priority_at p u → one.priority < two.priority
    less h =
        subst (λ n. n < two.priority) (sym (priority_is t k lt))
        (subst (λ n. priority_at p t < n) (sym (priority_is u l lu)) h)

    less_back : one.priority < two.priority → priority_at p t < priority_at p u
    less_back h =
        subst (λ n. n < priority_at p u) (priority_is t k lt) (subst (λ n. one.priority < n) (priority_is u l lu) h)

  -- ## Races

  cell_of : (t : ℕ) (x : Access) (cell : ℕ) → x.cell ≡ cell → (h : IsAccessUpTo p tables (length p.bodies) x)
      → IsAccess p tables h.body h.gives.1.copy cell
  cell_of t x cell e h =
      let g = h.gives.1 in record {
        task = h.gives.0;
        state = g.state;
        reached = record { body = h.below; copy = g.below; state = g.reached };
        target = subst (λ n. Contains (targets_of (action_along (body_at p h.body) (copy_at (body_at p h.body) g.copy))
            g.state) n) e g.gives.target;
      }

  races_from : (x y : Access) → IsAccessUpTo p tables (length p.bodies) x
      → IsAccessUpTo p tables (length p.bodies) y → y.cell ≡ x.cell → do_race x.way y.way ≡ true
      → IsRacing p tables x.place
  races_from x y h j cell raced =
      let t = h.body in
      let k = h.gives.1.copy in
      let u = j.body in
      let l = j.gives.1.copy in
      let race : Race (way_in t k) (way_in u l) = race_from (way_in t k) (way_in u l)
      (subst (λ w. do_race w (way_in u l) ≡ true) h.gives.1.gives.way
      (subst (λ w. do_race x.way w ≡ true) j.gives.1.gives.way raced)) in record {
        body = t;
        copy = k;
        other_body = u;
        other_copy = l;
        racing = record {
          tasks = λ same. race.tasks (task_is t k h.below ∙ same ∙ sym (task_is u l j.below));
          cell = x.cell;
          one = cell_of t x x.cell refl h;
          other = cell_of u y x.cell cell j;
          writes = either (λ w. inl (writes (operation_in p t k) w)) (λ w. inr (writes (operation_in p u l) w))
              race.writes;
          apart = race.apart;
          forth = λ lt. race.forth (less t k u l h.below j.below lt);
          back = λ lt. race.back (less u l t k j.below h.below lt);
        };
        placed = h.gives.1.gives.placed;
      }

  -- the access of a copy at a place
  access_at : (t k cell : ℕ) (place : Place) (h : IsAccess p tables t k cell)
      → place_of (operation_in p t k) ≡ Some place
      → IsAccessUpTo p tables (length p.bodies) (record { cell = cell; way = way_in t k; place = place })
  access_at t k cell place h e = record {
    body = t;
    below = h.reached.body;
    gives = (
      h.task,
      record {
        copy = k;
        below = h.reached.copy;
        state = h.state;
        reached = h.reached.state;
        gives = record { target = h.target; way = refl; placed = e };
      },
    );
  }

  placed : (t k cell : ℕ) → IsAccess p tables t k cell → (place : Place) × (place_of (operation_in p t k) ≡ Some place)
  placed t k cell h =
      let b = body_at p t in
      let c = copy_at b k in
      stands b.laid b.task (tests_pointer b.pointers (operation_in p t k)) c.answer (operation_in p t k) h.state cell
      h.target

  race_of : (t k u l : ℕ) (h : AreRacing p tables t k u l) → Race (way_in t k) (way_in u l)
  race_of t k u l h =
      let lt = h.one.reached.body in
      let lu = h.other.reached.body in record {
        tasks = λ same. h.tasks (sym (task_is t k lt) ∙ same ∙ task_is u l lu);
        writes = either (λ w. inl (is_write (operation_in p t k) w)) (λ w. inr (is_write (operation_in p u l) w))
            h.writes;
        apart = h.apart;
        forth = λ less'. h.forth (less_back t k u l lt lu less');
        back = λ less'. h.back (less_back u l t k lu lt less');
      }

  module _ (accesses : List Access)
      (are : (x : Access) → Contains accesses x ↔ IsAccessUpTo p tables (length p.bodies) x) where
    racing_from : (place : Place) → IsRaceAt accesses place → IsRacing p tables place
    racing_from place h =
        subst (IsRacing p tables) h.placed
        (races_from h.one h.other ((are h.one).0 h.has_one) ((are h.other).0 h.has_other) h.cell h.races)

    race_at : (place : Place) → IsRacing p tables place → IsRaceAt accesses place
    race_at place h =
        let r = h.racing in
        let there = placed h.other_body h.other_copy r.cell r.other in
        let x : Access = record { cell = r.cell; way = way_in h.body h.copy; place = place } in
        let y : Access = record { cell = r.cell; way = way_in h.other_body h.other_copy; place = there.0 } in record {
          one = x;
          other = y;
          has_one = (are x).1 (access_at h.body h.copy r.cell place r.one h.placed);
          has_other = (are y).1 (access_at h.other_body h.other_copy r.cell there.0 r.other there.1);
          cell = refl;
          races = race_is (way_in h.body h.copy) (way_in h.other_body h.other_copy)
              (race_of h.body h.copy h.other_body h.other_copy r);
          placed = refl;
        }

    race_alarm : (a : Alarm) → IsRaceAlarm accesses a → IsAlarm p tables a
    race_alarm a h =
        let Raced = λ (class : Class). IsAlarm p tables (record { place = a.place; class = class }) in
        subst Raced (sym h.class) (racing (racing_from a.place h.race))

    module _ (alarms : List Alarm)
        (found : (a : Alarm) → Contains alarms a ↔ IsAlarmUpTo p tables (length p.bodies) a) where
      listed : (a : Alarm) → IsAlarm p tables a → Contains alarms a ⊎ IsRaceAlarm accesses a
      listed _ (faulty {place} {class} h) =
          inl ((found (record { place = place; class = class })).1 (alarm_from place class h))
      listed _ (racing {place} h) = inr (record { class = refl; race = race_at place h })

      pub report_is : (report : List Alarm) → IsReportOf accesses alarms report → IsReport p tables report
      report_is report h = record {
        sorted = h.sorted;
        exact = λ a. (
          λ has. either (λ f. faulty (faulty_from a ((found a).0 f))) (race_alarm a) ((h.exact a).0 has),
          λ alarm. (h.exact a).1 (listed a alarm),
        );
      }
