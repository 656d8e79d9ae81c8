-- The state to which a row is applied, as it is put together of what stands where cells are kept.
use Rattle.std.specs.Prelude.{◌≡◌, ◌⊎◌, ℕ, zero, suc, ◌<◌, Bool, true, false, cond, List, length, get_or, Option}
use Rattle.std.specs.Prelude.{Some, None, is_some, refl}
use Rattle.std.proofs.Common.{sym, ap, subst, ◌∙◌, inl, inr, arith}
use Rattle.std.proofs.lemmas.Bool.{cases_eq, true≢false, false≢true, and_from}
use Rattle.std.specs.FinMap.{get, empty, get-empty, same_map, nat_cmp-IsAntisymmetric}
use Rattle.std.specs.Ordering.{nat_cmp}
use Rattle.std.specs.Cmp.{nat_cmp_total}
use Rattle.table_covers.specs.tm_lattice.Tables.{Table}
use Rattle.table_covers.specs.tm_lattice.laws.TableLaws.{get-insert_here, get-insert_there}
use Rattle.edge_actions.specs.transfer_rows.StateForms.{Temp, Cell, State}
use Rattle.task_equations.specs.state_fits.Fits.{FitsCell}
use Rattle.task_equations.specs.Bodies.{Body}
use Rattle.front_constraints.specs.Standings.{front_in}
use Rattle.front_constraints.specs.Systems.{SparseSystem, front_at, edges, from, is_looked}
use Rattle.front_constraints.specs.Rules.{standing, seen_at, seen, is_ready, small, small_at}
use Rattle.front_constraints.specs.laws.Lawful.{at_member, all_members}
use Rattle.body_systems.specs.Systems.{body_of}
use Rattle.body_fronts.specs.FrontForms.{is_seen}
use Rattle.body_fronts.specs.BodySystems.{with_entry, table_with}
use Rattle.body_fronts.specs.laws.Made.{so_seen, first_true}
use Rattle.body_fronts.specs.laws.Tables.{get-listed, get-unlisted, is_listed, is_unlisted}
use Rattle.body_slots.specs.Slots.{SlotSystemOf, IsSlotSystem, sparse_of}
use Rattle.body_slots.specs.Rows.{Values}
use Rattle.body_slots.specs.reading.Small.{put_over, AreThere, IsSeenOver, HasTraced, IsPart}
use Rattle.body_slots.specs.laws.Chosen.{slots_are_chosen, entry_fits}

-- ## Tables put over tables

module _ {V : Type 0} (f : ℕ → Option V) (t : Table V) (ks : List ℕ) where
  abbrev key : ℕ → ℕ
  key j = get_or ks j 0

  put_same : (u : Table V) (k q : ℕ) → q ≡ k → (y : Option V) → is_some y ≡ true → get (with_entry u k y) q ≡ y
  put_same u k q same None there = absurd (false≢true there)
  put_same u k q same (Some x) there = get-insert_here u k x q same

  put_other : (u : Table V) (k q : ℕ) → (q ≡ k → ⊥) → (y : Option V) → get (with_entry u k y) q ≡ get u q
  put_other u k q differ None = refl
  put_other u k q differ (Some x) = get-insert_there u k x q differ

  pub put_here : (i : ℕ) → AreThere f ks i → (j : ℕ) → j < i → get (put_over f t ks i) (key j) ≡ f (key j)
  put_here zero there j lt = absurd (omega (arith, lt))
  put_here (suc i) there j lt = elim (cases_eq (key j) (key i)) [
    | inl same ↦ put_same (put_over f t ks i) (key i) (key j) same (f (key i)) (there i (omega arith))
        ∙ ap f (sym same)
    | inr differ ↦ put_other (put_over f t ks i) (key i) (key j) differ (f (key i))
        ∙ put_here i (λ m m-lt. there m (omega (arith, m-lt))) j (before differ)
  ]
    where
      before : (key j ≡ key i → ⊥) → j < i
      before differ = elim (cases_eq j i) [
        | inl same ↦ absurd (differ (ap key same))
        | inr other ↦ omega (arith, lt, other)
      ]

  pub put_there : (i q : ℕ) → ((j : ℕ) → j < i → key j ≡ q → ⊥) → get (put_over f t ks i) q ≡ get t q
  put_there zero q differ = refl
  put_there (suc i) q differ =
      put_other (put_over f t ks i) (key i) q (λ same. differ i (omega arith) (sym same)) (f (key i))
      ∙ put_there i q (λ j lt. differ j (omega (arith, lt)))

-- ## Cells that are seen

cond_is : {A : Type 0} (c : Bool) (x y : A) → c ≡ true → cond c x y ≡ x
cond_is true x y h = refl
cond_is false x y h = absurd (false≢true h)

cond_not : {A : Type 0} (c : Bool) (x y : A) → c ≡ false → cond c x y ≡ y
cond_not true x y h = absurd (true≢false h)
cond_not false x y h = refl

module _ (v : SlotSystemOf) (is : IsSlotSystem v) (e : ℕ) (lt : e < edges (sparse_of v)) (a : Values) where
  abbrev sys : SparseSystem State (Table Temp) Cell
  sys = sparse_of v

  abbrev b : Body
  b = body_of v.system

  abbrev list : List ℕ
  list = sys.looked e

  abbrev at_place : ℕ → ℕ
  at_place j = get_or list j 0

  looked_at : (j : ℕ) → j < length list → is_looked sys e (at_place j) ≡ true
  looked_at j j-lt = (let c = slots_are_chosen v is in
      let l = c.listed in let h = l.looked e lt in h.within j j-lt)

  seen_so : (j : ℕ) → j < length list → seen sys e a (at_place j) ≡ seen_at sys e a (at_place j)
  seen_so j j-lt =
      cond_is (is_looked sys e (at_place j)) (seen_at sys e a (at_place j)) (sys.scratch (at_place j))
      (looked_at j j-lt)

  pub ready_where : AreThere (seen_at sys e a) list (length list) → is_ready sys e (seen sys e a) ≡ true
  ready_where there =
      all_members (λ x. is_some (seen sys e a x)) list
      (λ j j-lt. subst (λ y. is_some y ≡ true) (sym (seen_so j j-lt)) (there j j-lt))

  pub not_ready_where : (j : ℕ) → j < length list → seen_at sys e a (at_place j) ≡ None
      → is_ready sys e (seen sys e a) ≡ false
  not_ready_where j j-lt none = by (is_ready sys e (seen sys e a)) refl
    where
      by : (t : Bool) → is_ready sys e (seen sys e a) ≡ t → is_ready sys e (seen sys e a) ≡ false
      by false so = so
      by true so = absurd (false≢true (subst (λ y. is_some y ≡ true) (seen_so j j-lt ∙ none)
          (at_member (λ x. is_some (seen sys e a x)) list so j j-lt)))

  -- an unseen cell has nothing at the entry
  none_unseen : (q : ℕ) → is_seen b q ≡ false → (y : Option Cell) → FitsCell b.laid b.task q y → y ≡ None
  none_unseen q other None h = refl
  none_unseen q other (Some c) h = absurd (true≢false (sym (so_seen b q h.0) ∙ other))

  at_cell : (q : ℕ) → AreThere (seen_at sys e a) list (length list)
      → get (put_over (seen_at sys e a) (let s = v.entry in s.cells) list (length list)) q
      ≡ get (table_with (seen sys e a) sys.cells) q
  at_cell q there = by_seen (is_seen b q) refl
    where
      before : Table Cell
      before = (let s = v.entry in s.cells)

      seen_cells : (t : Bool) → is_looked sys e q ≡ t
          → get (put_over (seen_at sys e a) before list (length list)) q ≡ seen sys e a q
      seen_cells true so = (let c = slots_are_chosen v is in
          let l = c.listed in
          let h = l.looked e lt in
          let p = h.all q so in
          subst (λ x. get (put_over (seen_at sys e a) before list (length list)) x ≡ seen_at sys e a x) p.1.1
          (put_here (seen_at sys e a) before list (length list) there p.0 p.1.0)
          ∙ sym (cond_is (is_looked sys e q) (seen_at sys e a q) (sys.scratch q) so))
      seen_cells false so =
          put_there (seen_at sys e a) before list (length list) q
          (λ j j-lt same. true≢false (sym (looked_at j j-lt) ∙ ap (λ x. is_looked sys e x) same ∙ so))
          ∙ sym (cond_not (is_looked sys e q) (seen_at sys e a q) (sys.scratch q) so)

      by_seen : (t : Bool) → is_seen b q ≡ t
          → get (put_over (seen_at sys e a) before list (length list)) q ≡ get (table_with (seen sys e a) sys.cells) q
      by_seen true so = (let c = slots_are_chosen v is in
          let l = c.listed in
          seen_cells (is_looked sys e q) refl
          ∙ sym (get-listed (seen sys e a) sys.cells q (is_listed (is_seen b) sys.cells l.cells q so)))
      by_seen false so = (let c = slots_are_chosen v is in
          let l = c.listed in
          let fits = entry_fits v is in
          put_there (seen_at sys e a) before list (length list) q
          (λ j j-lt same. true≢false (sym (first_true (is_seen b (at_place j)) (sys.place.looks e (at_place j))
          (looked_at j j-lt)) ∙ ap (is_seen b) same ∙ so))
          ∙ none_unseen q so (get before q) (fits.cells q)
          ∙ sym (get-unlisted (seen sys e a) sys.cells q (is_unlisted (is_seen b) sys.cells l.cells q so)))

  -- the cells of the entry, with those at which the edge looks put over them, are those of the small state
  pub seen_table : AreThere (seen_at sys e a) list (length list)
      → put_over (seen_at sys e a) (let s = v.entry in s.cells) list (length list) ≡ table_with (seen sys e a) sys.cells
  seen_table there = same_map nat_cmp_total nat_cmp-IsAntisymmetric
      (put_over (seen_at sys e a) (let s = v.entry in s.cells) list (length list))
      (table_with (seen sys e a) sys.cells) (λ q. at_cell q there)

  -- put over no cells they are what the small state has at each cell at which the edge looks
  pub seen_part : AreThere (seen_at sys e a) list (length list) → (q : ℕ) → sys.place.looks e q ≡ true
      → get (table_with (seen sys e a) sys.cells) q ≡ get (put_over (seen_at sys e a) empty list (length list)) q
  seen_part there q looks = by_seen (is_seen b q) refl
    where
      by_seen : (t : Bool) → is_seen b q ≡ t
          → get (table_with (seen sys e a) sys.cells) q ≡ get (put_over (seen_at sys e a) empty list (length list)) q
      by_seen true so = (let c = slots_are_chosen v is in
          let l = c.listed in
          let h = l.looked e lt in
          let here = and_from (is_seen b q) (sys.place.looks e q) so looks in
          let p = h.all q here in
          get-listed (seen sys e a) sys.cells q (is_listed (is_seen b) sys.cells l.cells q so)
          ∙ cond_is (is_looked sys e q) (seen_at sys e a q) (sys.scratch q) here
          ∙ sym (subst (λ x. get (put_over (seen_at sys e a) empty list (length list)) x ≡ seen_at sys e a x) p.1.1
          (put_here (seen_at sys e a) empty list (length list) there p.0 p.1.0)))
      by_seen false so = (let c = slots_are_chosen v is in
          let l = c.listed in
          get-unlisted (seen sys e a) sys.cells q (is_unlisted (is_seen b) sys.cells l.cells q so)
          ∙ sym (put_there (seen_at sys e a) empty list (length list) q
          (λ j j-lt same. true≢false (sym (first_true (is_seen b (at_place j)) (sys.place.looks e (at_place j))
          (looked_at j j-lt)) ∙ ap (is_seen b) same ∙ so))
          ∙ get-empty nat_cmp q))

  -- ## The small state

  abbrev whole : Table Temp → State
  whole f = record { temps = f; cells = table_with (seen sys e a) sys.cells }

  pub small_none : front_in (standing sys a (front_at (from sys e))) ≡ None → small_at sys e a ≡ None
  small_none none = ap (λ y. small sys e y (seen sys e a)) none

  unready : (y : Option (Table Temp)) → is_ready sys e (seen sys e a) ≡ false → small sys e y (seen sys e a) ≡ None
  unready None h = refl
  unready (Some f) h = cond_not (is_ready sys e (seen sys e a)) (Some (whole f)) None h

  pub small_unready : is_ready sys e (seen sys e a) ≡ false → small_at sys e a ≡ None
  small_unready h = unready (front_in (standing sys a (front_at (from sys e)))) h

  module _ (f : Table Temp) (at : front_in (standing sys a (front_at (from sys e))) ≡ Some f)
      (before cells : Table Cell) (over : IsSeenOver v e a before cells) where
    small_whole : small_at sys e a ≡ Some (whole f)
    small_whole =
        ap (λ y. small sys e y (seen sys e a)) at
        ∙ cond_is (is_ready sys e (seen sys e a)) (Some (whole f)) None (ready_where over.there)

    -- over the cells of the entry it is put together itself
    part_over_entry : before ≡ (let s = v.entry in s.cells) → IsPart v e a (record { temps = f; cells = cells })
    part_over_entry is-entry =
        let same = sym (seen_table over.there)
        ∙ ap (λ t. put_over (seen_at sys e a) t list (length list)) (sym is-entry) ∙ sym over.over in
        record {
          whole = whole f;
          small = small_whole;
          agree = record { temps = refl; cells = λ x looks. ap (λ t. get t x) same };
          enough = inl (λ i. record { temps = f; cells = same i });
        }

    -- and over none what is enough, where the temporaries are traced
    part_over_none : before ≡ empty → HasTraced v f → IsPart v e a (record { temps = f; cells = cells })
    part_over_none is-empty traced =
        let same = ap (λ t. put_over (seen_at sys e a) t list (length list)) (sym is-empty) ∙ sym over.over in
        record {
          whole = whole f;
          small = small_whole;
          agree = record { temps = refl; cells = λ x looks. seen_part over.there x looks ∙ ap (λ t. get t x) same };
          enough = inr traced;
        }

    pub part_over : ((before ≡ empty) × HasTraced v f) ⊎ (before ≡ (let s = v.entry in s.cells))
        → IsPart v e a (record { temps = f; cells = cells })
    part_over (inl h) = part_over_none h.0 h.1
    part_over (inr h) = part_over_entry h
