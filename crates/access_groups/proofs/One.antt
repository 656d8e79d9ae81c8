-- Tables have one list of groups, and their report has a race exactly where an access in a group races.
use Rattle.std.proofs.Common.{◌≡◌, ◌↔◌, ℕ, zero, suc, ◌<◌, ◌==◌, refl, sym, subst, ◌∙◌, true, false}
use Rattle.std.proofs.Common.{List, [], ◌∷◌, pos, arith}
use Rattle.std.specs.Prelude.{Contains}
use Rattle.std.specs.Int.{bit_at}
use Rattle.std.proofs.lemmas.Bool.{eqb-true}
use Rattle.std.proofs.lemmas.Nat.Bits.{bit_at-lt, same_from_bits}
use Rattle.tm_cint.specs.declared.Class.TheVariants.{Index, Pointer, Deref, Lock, Race}
use Rattle.tm_cint.specs.declared.operators.BinOp.TheVariants.{Sub}
use Rattle.tm_terms.specs.declared.alarms.Alarm.{Alarm}
use Rattle.tm_terms.specs.declared.places.Place.{Place}
use Rattle.mutex_configs.specs.Sets.{has}
use Rattle.interfere_set.specs.strided_dom.Progression.{single}
use Rattle.program_reports.specs.post_recheck.transfer_rows.StateForms.{State, value_of}
use Rattle.program_reports.specs.post_recheck.transfer_rows.Actions.{Around, Action, Calculation, negated, operated}
use Rattle.program_reports.specs.post_recheck.transfer_rows.Actions.{element, moved}
use Rattle.program_reports.specs.post_recheck.transfer_rows.Actions.{dereferenced, usable, gives, refines, locks}
use Rattle.program_reports.specs.post_recheck.transfer_rows.Actions.{unlocks}
use Rattle.program_reports.specs.post_recheck.transfer_rows.Reports.{IsListed, CalculationMayFail}
use Rattle.program_reports.specs.post_recheck.transfer_rows.operator_values.Classes.{may_fail_is}
use Rattle.program_reports.specs.post_recheck.task_equations.Equations.{action_along, around_along}
use Rattle.program_reports.specs.post_recheck.table_covers.Solutions.{NodeTable}
use Rattle.program_reports.specs.post_recheck.program_equations.Programs.{ProgramBodies, body_at}
use Rattle.access_races.proofs.Joins.{either}
use Rattle.program_reports.specs.Reports.{IsRacing, IsAlarm, IsReport, copy_in, operation_in, left_in}
use Rattle.program_reports.specs.Reports.IsAlarm.{faulty, racing}
use Rattle.program_reports.specs.reading.Found.{is_writing}
use Rattle.access_groups.specs.declared.object_access.ObjectAccess.{ObjectAccess}
use Rattle.access_groups.specs.declared.object_access.AccessGroup.{AccessGroup}
use Rattle.access_races.specs.Rising.{AreRising}
use Rattle.access_groups.specs.Order.{IsBefore}
use Rattle.access_groups.specs.Groups.{object_in, IsAccessAt, IsRacingThere, IsFoundFree, IsObjectAccess}
use Rattle.access_groups.specs.Groups.{AreObjectAccesses}
use Rattle.access_groups.specs.Groups.{AreGroups, contents, HasRacingAt}
use Rattle.access_races.proofs.Rising.{none, first, later, cases, equal_lists}
use Rattle.access_groups.proofs.Sorting.{AreAlike, alike, is_before_trans, never_before}
use Rattle.access_groups.proofs.Noted.{same_truth}
use Rattle.access_groups.proofs.Targets.{writes, is_write}
use Rattle.access_groups.proofs.Alike.{at_alike, racing_alike}

-- ## Entries

same_bit : (x y : ℕ) → x < 2 → y < 2 → ((x == 1) ≡ true → (y == 1) ≡ true) → ((y == 1) ≡ true → (x == 1) ≡ true)
    → x ≡ y
same_bit zero zero l m f g = refl
same_bit zero (suc zero) l m f g = absurd (let e = eqb-true 0 1 (g refl) in omega (arith, e))
same_bit (suc zero) zero l m f g = absurd (let e = eqb-true 0 1 (f refl) in omega (arith, e))
same_bit (suc zero) (suc zero) l m f g = refl
same_bit zero (suc (suc y)) l m f g = absurd (omega (arith, m))
same_bit (suc zero) (suc (suc y)) l m f g = absurd (omega (arith, m))
same_bit (suc (suc x)) y l m f g = absurd (omega (arith, l))

same_set : (a b : ℕ) → ((m : ℕ) → has a m ≡ true → has b m ≡ true) → ((m : ℕ) → has b m ≡ true → has a m ≡ true)
    → a ≡ b
same_set a b f g = same_from_bits a b (λ m.
    same_bit (bit_at a m) (bit_at b m) (bit_at-lt a m) (bit_at-lt b m) (f m) (g m))

module _ (p : ProgramBodies) (tables : ℕ → NodeTable State) where
  module _ (object : ℕ) (e f : ObjectAccess) (h : IsObjectAccess p tables object e) (k : IsObjectAccess p tables object f)
      (same : AreAlike e f) where
    abbrev back : AreAlike f e
    back = record {
      place = sym same.place;
      task = sym same.task;
      stores = sym same.stores;
      held = sym same.held;
    }

    free_same : (e f : ObjectAccess) → AreAlike e f → AreAlike f e → (m : ℕ) → IsFoundFree p tables object e m
        → IsFoundFree p tables object f m
    free_same e f to from m all copy cell at =
        subst (λ t. let q = left_in p t copy in has q.found m ≡ true) to.task
        (all copy cell (at_alike p tables object f e from copy cell at))

    same_access : e ≡ f
    same_access =
        let free = same_set e.free f.free
        (λ m t. (k.free m).1 (free_same e f same back m ((h.free m).0 t)))
        (λ m t. (h.free m).1 (free_same f e back same m ((k.free m).0 t))) in
        let races = same_truth e.racing f.racing
        (λ t. k.racing.1 (racing_alike p tables object e f same (h.racing.0 t)))
        (λ t. h.racing.1 (racing_alike p tables object f e back (k.racing.0 t))) in
        λ i. record {
          place = same.place i;
          task = same.task i;
          stores = same.stores i;
          held = same.held i;
          free = free i;
          racing = races i;
        }

  listed_too : (object : ℕ) (one other : List ObjectAccess) → AreObjectAccesses p tables object one
      → AreObjectAccesses p tables object other → (e : ObjectAccess) → Contains one e → Contains other e
  listed_too object one other h k e c =
      let t = h.each e c in
      let f = k.all e t.accessed in
      subst (Contains other) (same_access object f.0 e (k.each f.0 f.1) t (alike f.0 e f.2)) f.1

  one_list : (object : ℕ) (one other : List ObjectAccess) → AreObjectAccesses p tables object one
      → AreObjectAccesses p tables object other → one ≡ other
  one_list object one other h k =
      equal_lists IsBefore is_before_trans never_before one other h.rising k.rising
      (listed_too object one other h k) (listed_too object other one k h)

  -- ## Groups

  abbrev Content : Type 0
  Content = ℕ × List ObjectAccess

  abbrev content : AccessGroup → Content
  content g = (g.object, g.accesses.items)

  abbrev Before : Content → Content → Type 0
  Before s t = s.0 < t.0

  contents_in : (groups : List AccessGroup) (g : AccessGroup) → Contains groups g → Contains (contents groups) (content g)
  contents_in [] g c = absurd (none g c)
  contents_in (h ∷ groups) g c =
      either (λ e. subst (λ z. Contains (contents (h ∷ groups)) (content z)) e (first (content h) (contents groups)))
      (λ more. later (content h) (content g) (contents groups) (contents_in groups g more)) (cases h g groups c)

  contents_from : (groups : List AccessGroup) (t : Content) → Contains (contents groups) t
      → (g : AccessGroup) × Contains groups g × (content g ≡ t)
  contents_from [] t c = absurd (none t c)
  contents_from (h ∷ groups) t c =
      either (λ e. (h, first h groups, e))
      (λ more. let g = contents_from groups t more in (g.0, later h g.0 groups g.1, g.2))
      (cases (content h) t (contents groups) c)

  contents_rising : (groups : List AccessGroup) → AreRising (λ (g h : AccessGroup). g.object < h.object) groups
      → AreRising Before (contents groups)
  contents_rising [] r = tt
  contents_rising (g ∷ groups) r = (
    λ t c. let h = contents_from groups t c in subst (Before (content g)) h.2 (r.0 h.0 h.1),
    contents_rising groups r.1,
  )

  contents_too : (one other : List AccessGroup) → AreGroups p tables one → AreGroups p tables other → (t : Content)
      → Contains (contents one) t → Contains (contents other) t
  contents_too one other h k t c =
      let g = contents_from one t c in
      let f = k.all g.0.object (h.raced g.0 g.1) in
      let lists = one_list g.0.object f.0.accesses.items g.0.accesses.items
      (subst (λ o. AreObjectAccesses p tables o f.0.accesses.items) f.2 (k.each f.0 f.1)) (h.each g.0 g.1) in
      let same : content f.0 ≡ content g.0 = λ i. (f.2 i, lists i) in
      subst (Contains (contents other)) (same ∙ g.2) (contents_in other f.0 f.1)

  pub one_groups : (one other : List AccessGroup) → AreGroups p tables one → AreGroups p tables other
      → contents one ≡ contents other
  one_groups one other h k =
      equal_lists Before (λ a b c l m. omega (arith, l, m)) (λ a l. absurd (omega (arith, l))) (contents one) (contents other)
      (contents_rising one h.rising) (contents_rising other k.rising) (contents_too one other h k) (contents_too other one k h)

-- ## Alarms

-- no class that is listed is that of races
calculation_unlisted : (c : Calculation) (s : State) → CalculationMayFail c s Race → ⊥
unfolding CalculationMayFail
calculation_unlisted (negated t source) s h =
    (may_fail_is Sub t (single (pos 0)) (value_of s source).numbers Race).0 h
calculation_unlisted (operated op t left right) s h =
    (may_fail_is op t (value_of s left).numbers (value_of s right).numbers Race).0 h
calculation_unlisted (element count cells source index) s h = absurd (let e : Race ≡ Index = h.0 in cc)
calculation_unlisted (moved forward cells source count) s h = absurd (let e : Race ≡ Pointer = h.0 in cc)
calculation_unlisted (dereferenced alive stands source) s h = absurd (let e : Race ≡ Deref = h.0 in cc)
calculation_unlisted _ s h = absurd h

unlisted : (around : Around) (action : Action) (s : State) → IsListed around action s Race → ⊥
unfolding IsListed
unlisted around (gives target calculation) s h = calculation_unlisted calculation s h
unlisted around (refines (usable source)) s h = absurd (let e : Race ≡ Pointer = h.0 in cc)
unlisted around (locks m) s h = absurd (let e : Race ≡ Lock = h.0 in cc)
unlisted around (unlocks m) s h = absurd (let e : Race ≡ Lock = h.0 in cc)
unlisted around _ s h = absurd h

module _ (p : ProgramBodies) (tables : ℕ → NodeTable State) where
  races_at : (a : Alarm) → IsAlarm p tables a → a.class ≡ Race → IsRacing p tables a.place
  races_at _ (racing h) e = h
  races_at _ (faulty {place} {class} h) e =
      let b = body_at p h.body in
      let c = copy_in p h.body h.copy in
      absurd (unlisted (around_along b c) (action_along b c) h.state
      (subst (IsListed (around_along b c) (action_along b c) h.state) e h.listed))

  -- the entry of a copy
  abbrev entry_of : ℕ → ℕ → Place → ObjectAccess
  entry_of t k place = record {
    place = place;
    task = t;
    stores = is_writing (operation_in p t k);
    held = (left_in p t k).held;
    free = 0;
    racing = false;
  }

  module _ (groups : List AccessGroup) (are : AreGroups p tables groups) (place : Place) where
    grouped : IsRacing p tables place → HasRacingAt groups place
    grouped h =
        let r = h.racing in
        let o = object_in p r.cell in
        let g = are.all o (record {
          task = h.body;
          copy = h.copy;
          other_task = h.other_body;
          other_copy = h.other_copy;
          races = r;
          of = refl;
        }) in
        let e = entry_of h.body h.copy place in
        let at : IsAccessAt p tables g.0.object e h.copy r.cell = record {
          access = r.one;
          of = sym g.2;
          placed = h.placed;
          kind = (writes (operation_in p h.body h.copy), is_write (operation_in p h.body h.copy));
          holds = refl;
        } in
        let list = are.each g.0 g.1 in
        let f = list.all e (record { copy = h.copy; cell = r.cell; at = at }) in
        let same = alike e f.0 (sym f.2) in
        let races : IsRacingThere p tables g.0.object e = record {
          copy = h.copy;
          other_task = h.other_body;
          other_copy = h.other_copy;
          races = r;
          at = at;
        } in record {
          group = g.0;
          has_group = g.1;
          access = f.0;
          has_access = f.1;
          racing = (list.each f.0 f.1).racing.1 (racing_alike p tables g.0.object e f.0 same races);
          placed = sym same.place;
        }

    ungrouped : HasRacingAt groups place → IsRacing p tables place
    ungrouped h =
        let there = ((are.each h.group h.has_group).each h.access h.has_access).racing.0 h.racing in
        subst (IsRacing p tables) h.placed (record {
          body = h.access.task;
          copy = there.copy;
          other_body = there.other_task;
          other_copy = there.other_copy;
          racing = there.races;
          placed = there.at.placed;
        })

    pub grouped_alarms : (report : List Alarm) → IsReport p tables report
        → Contains report (record { place = place; class = Race }) ↔ HasRacingAt groups place
    grouped_alarms report is = (
      λ c. grouped (races_at (record { place = place; class = Race })
          ((is.exact (record { place = place; class = Race })).0 c) refl),
      λ h. (is.exact (record { place = place; class = Race })).1 (racing (ungrouped h)),
    )
