-- The least assignment of the constraints of fronts and slots, read back, is the least fronts and slots.
use Rattle.std.proofs.Common.{◌≡◌, ℕ, zero, suc, ◌<◌, Bool, true, false, cond, List, length, get_or, Option, Some}
use Rattle.std.proofs.Common.{None, IfSome, sym, ap, subst, ◌∙◌, refl, inl, inr, arith}
use Rattle.std.specs.Prelude.{map, is_some}
use Rattle.std.specs.Option.{option_map}
use Rattle.std.proofs.lemmas.Bool.{cases_Bool, true≢false, false≢true, and_from, and_parts, cond-true, cond-false}
use Rattle.std.proofs.lemmas.List.{length-map, get_or-map}
use Rattle.sparse_tables.specs.table_covers.tm_lattice.declared.lattices.Lattice as lattice
use Rattle.sparse_tables.specs.table_covers.tm_lattice.Tables.{IsBelow}
use Rattle.sparse_tables.specs.table_covers.Solutions.{brought}
use Rattle.sparse_tables.specs.Sparse.{Parts, AgreeOn, GiveAlike}
use Rattle.sparse_tables.specs.Fronts.{Fronts, IsThere, IsStateAt, IsArrived, IsEntered, AreMet, AreBelow, AreFit}
use Rattle.sparse_tables.specs.Fronts.{AreLeast}
use Rattle.sparse_tables.specs.Fronts.{IsFullAt}
use Rattle.sparse_tables.specs.laws.LeastFronts as fronts_law
use Rattle.least_assignments.specs.Constraints.{Assignment, Constraints, target, target_count}
use Rattle.least_assignments.specs.Solutions.{IsClosed, IsLeast, AreAllowed}
use Rattle.front_constraints.specs.declared.standings.Standing.{Standing}
use Rattle.front_constraints.specs.Standings.{fronted, opened, holding, front_in, cell_in}
use Rattle.front_constraints.specs.Standings.{changed_standing, standings}
use Rattle.front_constraints.specs.Systems.{SparseSystem, Variable, front_at, open_at, slot_at, Rule, entered, row}
use Rattle.front_constraints.specs.Systems.{flow}
use Rattle.front_constraints.specs.Systems.{nodes, edges, from, to, owns, touches, kept_at, is_looked, is_touched}
use Rattle.front_constraints.specs.Systems.{parts_of}
use Rattle.front_constraints.specs.Systems.{IsVariable, IsRule}
use Rattle.front_constraints.specs.Rules.{standing, seen_at, seen, is_ready, small, small_at, part_of, targets_of}
use Rattle.front_constraints.specs.Rules.{brings, carried_along}
use Rattle.front_constraints.specs.Rules.{passed, rounded_cell_at, front_constraints, FitsVariable, AllowsRule, Allows}
use Rattle.front_constraints.specs.Rules.{fronts_of}
use Rattle.front_constraints.specs.Premises.{IsSparseSystem, AreLocal, IsKeptFront, IsRoundCell}
use Rattle.front_constraints.specs.laws.Cut.{if_cond_option, both_hold, first_of_both, is_there, uncut, cut_below}
use Rattle.front_constraints.specs.laws.Lawful as lawful
use Rattle.front_constraints.specs.laws.Lawful.{if_cond, none_of, matched}

-- ## Options

or_none : {A : Type 0} (o : Option A) (d : A) → A
or_none None d = d
or_none (Some a) d = a

pub same_some : {A : Type 0} (a b : A) → Some a ≡ Some b → a ≡ b
unfolding or_none
same_some a b is = ap (λ o. or_none o a) is

in_slots : (n : ℕ) (P : Variable → Type 0) (xs : List ℕ)
    → ((j : ℕ) → j < length (map (slot_at n) xs) → P (get_or (map (slot_at n) xs) j (front_at 0)))
    → (i : ℕ) → i < length xs → P (slot_at n (get_or xs i 0))
in_slots n P xs at i lt =
    subst P (get_or-map (slot_at n) xs i 0 (front_at 0) lt)
    (at i (subst (λ m. i < m) (sym (length-map xs (slot_at n))) lt))

module _ {V F D L M N : Type 0} (states : lattice.Ghosts V L) (fronts : lattice.Ghosts F M) (cells : lattice.Ghosts D N)
    (suits : ℕ → V → Type 0) (fits_front : ℕ → F → Type 0) (fits_cell : ℕ → D → Type 0) (sys : SparseSystem V F D)
    (keeps : ℕ → F → Type 0) (checks : ℕ → V → Type 0)
    (is : IsSparseSystem states fronts cells suits fits_front fits_cell sys)
    (local : AreLocal states fronts cells suits fits_front fits_cell sys keeps checks) where
  abbrev S : Type 0
  S = Standing F D

  abbrev system : Constraints S
  system = front_constraints sys

  abbrev number : Variable → ℕ
  number v = sys.numbers.number v

  abbrev parts : Parts V F (Option D)
  parts = parts_of sys fronts cells

  abbrev Below : Option S → Option S → Type 0
  Below y z = lawful.Below states fronts cells suits fits_front fits_cell sys is y z

  abbrev Fitting : Assignment S → Type 0
  Fitting a = lawful.Fitting states fronts cells suits fits_front fits_cell sys is a

  abbrev Closed : Assignment S → Type 0
  Closed a = IsClosed (standings fronts cells) (FitsVariable sys fits_front fits_cell) (Allows sys checks) system a

  abbrev StateAt : Fronts F D → ℕ → V → Type 0
  StateAt b n s = IsStateAt states suits sys.equations parts sys.place sys.is_cell b n s

  abbrev Arrived : Fronts F D → ℕ → V → Type 0
  Arrived b e t = IsArrived states suits sys.equations parts sys.place sys.is_cell b e t

  abbrev Met : Fronts F D → Type 0
  Met b = AreMet states suits sys.equations parts sys.place sys.is_cell b

  abbrev Keeps : ℕ → F → Type 0
  Keeps n f = IsKeptFront states fronts cells suits fits_front fits_cell sys keeps n f

  abbrev Round : ℕ → ℕ → D → Type 0
  Round n x d = IsRoundCell states fronts cells suits fits_front fits_cell sys n x d

  abbrev Fit : Fronts F D → Type 0
  Fit b = AreFit states suits sys.equations parts sys.place sys.is_cell Keeps Round b

  abbrev kept_slot : (n x : ℕ) → n < nodes sys → sys.is_cell x ≡ true → IsVariable sys (slot_at (kept_at sys n x) x)
  kept_slot = lawful.kept_slot states fronts cells suits fits_front fits_cell sys is

  abbrev none_at : (n x : ℕ) (s : V) → suits n s → sys.is_cell x ≡ false → sys.cell s x ≡ None
  none_at = lawful.none_at states fronts cells suits fits_front fits_cell sys is

  front_below : (y z : Option S) → Below y z → IsBelow fronts.leq (front_in y) (front_in z)
  front_below = lawful.front_below states fronts cells suits fits_front fits_cell sys is

  cell_below : (y z : Option S) → Below y z → IsBelow cells.leq (cell_in y) (cell_in z)
  cell_below = lawful.cell_below states fronts cells suits fits_front fits_cell sys is

  front_back : (y : Option F) → front_in {F = F} {D = D} (option_map fronted y) ≡ y
  front_back None = refl
  front_back (Some f) = refl

  cell_back : (y : Option D) → cell_in {F = F} {D = D} (option_map holding y) ≡ y
  cell_back None = refl
  cell_back (Some d) = refl

  -- that something came there, if it did
  abbrev open_if : Bool → Option S
  open_if o = cond o (Some opened) None

  held_below : (y : Option D) (z : Option S) → Below (option_map holding y) z → IsBelow cells.leq y (cell_in z)
  held_below y z le = subst (λ c. IsBelow cells.leq c (cell_in z)) (cell_back y)
      (cell_below (option_map holding y) z le)

  open_below : (y z : Option S) → Below y z → is_some y ≡ true → is_some z ≡ true
  open_below None z le there = absurd (false≢true there)
  open_below (Some w) None le there = absurd le
  open_below (Some w) (Some u) le there = refl

  passed_below : (y z w : Option S) → is_some y ≡ true → Below (passed y z) w → Below z w
  passed_below None z w there le = absurd (false≢true there)
  passed_below (Some u) z w there le = le

  -- what an edge makes of a cell that it does not touch, as a standing and as a cell
  abbrev carried_cell : ℕ → ℕ → Option D → Option D
  carried_cell e x c = cond (sys.place.carries e x) (option_map (sys.carry e x) c) c

  carried_in_by : (e x : ℕ) (b : Bool) (y : Option S)
      → cell_in (cond b (option_map (changed_standing (λ f. f) (sys.carry e x)) y) y)
      ≡ cond b (option_map (sys.carry e x) (cell_in y)) (cell_in y)
  carried_in_by e x true None = refl
  carried_in_by e x true (Some w) = refl
  carried_in_by e x false y = refl

  carried_in : (e x : ℕ) (y : Option S) → cell_in (carried_along sys e x y) ≡ carried_cell e x (cell_in y)
  carried_in e x y = carried_in_by e x (sys.place.carries e x) y

  abbrev held : Option D → Option S
  held y = option_map holding y

  carried_holding_by : (e x : ℕ) (b : Bool) (y : Option D)
      → cond b (option_map (changed_standing (λ f. f) (sys.carry e x)) (held y)) (held y)
      ≡ held (cond b (option_map (sys.carry e x) y) y)
  carried_holding_by e x true None = refl
  carried_holding_by e x true (Some d) = refl
  carried_holding_by e x false y = refl

  carried_holding : (e x : ℕ) (y : Option D)
      → carried_along sys e x (held y) ≡ held (carried_cell e x y)
  carried_holding e x y = carried_holding_by e x (sys.place.carries e x) y

  nothing_carried_by : (e x : ℕ) (b : Bool) → cond b (option_map (sys.carry e x) None) None ≡ None
  nothing_carried_by e x true = refl
  nothing_carried_by e x false = refl

  -- a small state and a whole one that has at each cell what the small one has where the edge may look
  whole_agrees : (e : ℕ) (f : F) (c : ℕ → Option D) (s : V) → suits (from sys e) s
      → suits (from sys e) (sys.state_of f c) → f ≡ sys.front s
      → ((x : ℕ) → is_looked sys e x ≡ true → c x ≡ sys.cell s x)
      → AgreeOn states suits sys.equations parts sys.place e (sys.state_of f c) s
  whole_agrees e f c s s-fits m-fits front cells-same = record {
    front = is.made.front_is f c ∙ front;
    cells = λ x looks. elim (cases_Bool (sys.is_cell x)) [
      | inl cell ↦ is.made.cell_is f c x cell ∙ cells-same x (and_from (sys.is_cell x) (sys.place.looks e x) cell looks)
      | inr other ↦ none_at (from sys e) x (sys.state_of f c) m-fits other ∙ sym (none_at (from sys e) x s s-fits other)
    ];
  }

  -- ## A closed assignment is met

  module _ (a : Assignment S) (closed : Closed a)
      (allowed : AreAllowed (standings fronts cells) (FitsVariable sys fits_front fits_cell) (Allows sys checks) system
      a)
      (kept : (n : ℕ) → n < nodes sys → IfSome (front_in (standing sys a (front_at n))) (keeps n)) where
    abbrev read : Fronts F D
    read = fronts_of sys a

    met_by_number : (k : ℕ) → k < sys.numbers.constraint_count → (j : ℕ)
        → j < length (targets_of sys (sys.numbers.rule k))
        → Below (brings sys (sys.numbers.rule k) a (get_or (targets_of sys (sys.numbers.rule k)) j (front_at 0)))
        (standing sys a (get_or (targets_of sys (sys.numbers.rule k)) j (front_at 0)))
    met_by_number k lt j j-lt =
        let counted : j < target_count system k =
        subst (λ m. j < m) (sym (length-map (targets_of sys (sys.numbers.rule k)) sys.numbers.number)) j-lt in
        subst (λ i. Below (system.gives k a j) (a i))
        (lawful.target_is states fronts cells suits fits_front fits_cell sys is k j lt counted)
        (closed.met k lt j counted)

    met_at : (r : Rule) → IsRule sys r → (j : ℕ) → j < length (targets_of sys r)
        → Below (brings sys r a (get_or (targets_of sys r) j (front_at 0)))
        (standing sys a (get_or (targets_of sys r) j (front_at 0)))
    met_at r is-r =
        let at = is.numbered.rules r is-r in
        subst (λ q. (j : ℕ) → j < length (targets_of sys q)
        → Below (brings sys q a (get_or (targets_of sys q) j (front_at 0)))
        (standing sys a (get_or (targets_of sys q) j (front_at 0)))) at.1.1 (met_by_number at.0 at.1.0)

    -- the slot of a cell holds at least this
    slot_holds : (n x : ℕ) (y : Option D) → (sys.is_cell x ≡ false → y ≡ None)
        → (sys.is_cell x ≡ true → IsBelow cells.leq y (cell_in (standing sys a (slot_at n x))))
        → IsBelow cells.leq y (read.slot_of n x)
    slot_holds n x y none some = elim (cases_Bool (sys.is_cell x)) [
      | inl cell ↦ subst (IsBelow cells.leq y)
          (sym (cond-true (sys.is_cell x) (cell_in (standing sys a (slot_at n x))) None cell)) (some cell)
      | inr other ↦ subst (λ c. IsBelow cells.leq c (read.slot_of n x)) (sym (none other)) tt
    ]

    -- what stands in the slot of a cell
    slot_is : (n x : ℕ) → sys.is_cell x ≡ true → read.slot_of n x ≡ cell_in (standing sys a (slot_at n x))
    slot_is n x cell = cond-true (sys.is_cell x) (cell_in (standing sys a (slot_at n x))) None cell

    -- ### The entry

    entry_enters : (y : Option V) → IfSome y (suits 0)
        → Below (part_of sys y (front_at 0)) (standing sys a (front_at 0))
        → ((x : ℕ) → sys.is_cell x ≡ true → Below (part_of sys y (slot_at 0 x)) (standing sys a (slot_at 0 x)))
        → IfSome y (IsEntered states suits sys.equations parts sys.place sys.is_cell read)
    entry_enters None fits front slots = tt
    entry_enters (Some s) fits front slots = record {
      front = front_below (Some (fronted (sys.front s))) (standing sys a (front_at 0)) front;
      cells = λ x. slot_holds 0 x (sys.cell s x) (none_at 0 x s fits)
          (λ cell. held_below (sys.cell s x) (standing sys a (slot_at 0 x)) (slots x cell));
    }

    entry_slot : (x : ℕ) → sys.is_cell x ≡ true
        → Below (brings sys entered a (slot_at 0 x)) (standing sys a (slot_at 0 x))
    entry_slot x cell =
        let at = is.listed.cells.all x cell in
        subst (λ y. Below (brings sys entered a (slot_at 0 y)) (standing sys a (slot_at 0 y))) at.1.1
        (in_slots 0 (λ v. Below (brings sys entered a v) (standing sys a v)) sys.cells
        (λ j j-lt. met_at entered tt (suc j) (omega (arith, j-lt))) at.0 at.1.0)

    entry_met : IfSome sys.equations.entry (IsEntered states suits sys.equations parts sys.place sys.is_cell read)
    entry_met = entry_enters sys.equations.entry is.law.entry_fits (met_at entered tt zero (omega arith)) entry_slot

    -- ### Rows

    row_slot : (e x : ℕ) → e < edges sys → is_touched sys e x ≡ true
        → Below (brings sys (row e) a (slot_at (to sys e) x)) (standing sys a (slot_at (to sys e) x))
    row_slot e x lt touched =
        let at = (is.listed.touched e lt).all x touched in
        subst (λ y. Below (brings sys (row e) a (slot_at (to sys e) y)) (standing sys a (slot_at (to sys e) y))) at.1.1
        (in_slots (to sys e) (λ v. Below (brings sys (row e) a v) (standing sys a v)) (sys.touched e)
        (λ j j-lt. met_at (row e) lt (suc (suc j)) (omega (arith, j-lt))) at.0 at.1.0)

    -- where the small state brings something below what stands, and the whole state brings the like, it has arrived
    by_answers : (e : ℕ) → e < edges sys → (y z : Option V)
        → GiveAlike states suits sys.equations parts sys.place e y z → IfSome z (suits (to sys e))
        → Below (part_of sys y (front_at (to sys e))) (standing sys a (front_at (to sys e)))
        → Below (part_of sys y (open_at e)) (standing sys a (open_at e))
        → ((x : ℕ) → is_touched sys e x ≡ true
        → Below (part_of sys y (slot_at (to sys e) x)) (standing sys a (slot_at (to sys e) x)))
        → IfSome z (Arrived read e)
    by_answers e lt None None alike fits front opens slots = tt
    by_answers e lt None (Some u) alike fits front opens slots = absurd alike
    by_answers e lt (Some t) None alike fits front opens slots = absurd alike
    by_answers e lt (Some t) (Some u) alike fits front opens slots =
        let n = to sys e in
        record {
          front = subst (λ f. IsBelow fronts.leq (Some f) (front_in (standing sys a (front_at n)))) alike.front
              (front_below (Some (fronted (sys.front t))) (standing sys a (front_at n)) front);
          opened = open_below (Some opened) (standing sys a (open_at e)) opens refl;
          touched = λ x touches-x. slot_holds n x (sys.cell u x) (none_at n x u fits)
              (λ cell.
              subst (λ c. IsBelow cells.leq c (cell_in (standing sys a (slot_at n x))))
              (alike.cells x (is.placed.looked e x lt touches-x))
              (held_below (sys.cell t x) (standing sys a (slot_at n x))
              (slots x (and_from (sys.is_cell x) (touches sys e x) cell touches-x))));
        }

    module _ (e : ℕ) (lt : e < edges sys) (s : V) (at : StateAt read (from sys e) s) where
      abbrev c : ℕ → Option D
      c = seen sys e a

      abbrev m : V
      m = sys.state_of (sys.front s) c

      -- what is looked at is what stands in the whole state
      looked_is : (x : ℕ) → is_looked sys e x ≡ true → c x ≡ sys.cell s x
      looked_is x looked =
          let cell = (and_parts (sys.is_cell x) (sys.place.looks e x) looked).0 in
          cond-true (is_looked sys e x) (seen_at sys e a x) (sys.scratch x) looked
          ∙ sym (slot_is (kept_at sys (from sys e) x) x cell) ∙ sym (at.cells x)

      ready : is_ready sys e c ≡ true
      ready =
          lawful.is_ready_where states fronts cells suits fits_front fits_cell sys is e lt c
          (λ x looked. subst (λ y. is_some y ≡ true) (sym (looked_is x looked))
          (is_there (sys.cell s x) (is.filled.there (from sys e) x s at.fits
          (and_parts (sys.is_cell x) (sys.place.looks e x) looked).0)))

      small_is : small_at sys e a ≡ Some m
      small_is = ap (λ y. small sys e y c) at.front ∙ cond-true (is_ready sys e c) (Some m) None ready

      m_fits : suits (from sys e) m
      m_fits = subst (λ y. IfSome y (suits (from sys e))) small_is
          (lawful.small_at_fits states fronts cells suits fits_front fits_cell sys is e lt a closed.round.fits)

      checked : checks e m
      checked =
          let place = is.numbered.rules (row e) lt in
          subst (λ y. IfSome y (checks e)) small_is
          (subst (λ r. AllowsRule sys checks r a) place.1.1 (allowed place.0 place.1.0))

      keeps_front : keeps (from sys e) (sys.front m)
      keeps_front = subst (keeps (from sys e)) (sym (is.made.front_is (sys.front s) c))
          (subst (λ y. IfSome y (keeps (from sys e))) at.front (kept (from sys e) (is.law.from_node e lt)))

      alike : GiveAlike states suits sys.equations parts sys.place e (sys.equations.after e m) (sys.equations.after e s)
      alike =
          local.local e m s m lt m_fits at.fits m_fits
          (is.state_order.reflexive m (is.law.value (from sys e) m m_fits)) keeps_front checked
          (whole_agrees e (sys.front s) c s at.fits m_fits refl looked_is)

      brings_small : (v : Variable) → Below (brings sys (row e) a v) (standing sys a v)
          → Below (part_of sys (sys.equations.after e m) v) (standing sys a v)
      brings_small v le =
          subst (λ y. Below (part_of sys (brought (sys.equations.after e) y) v) (standing sys a v)) small_is le

      row_met : IfSome (sys.equations.after e s) (Arrived read e)
      row_met =
          by_answers e lt (sys.equations.after e m) (sys.equations.after e s) alike
          (is.law.after_fits e s lt at.fits)
          (brings_small (front_at (to sys e)) (met_at (row e) lt zero (omega arith)))
          (brings_small (open_at e) (met_at (row e) lt (suc zero) (omega arith)))
          (λ x touched. brings_small (slot_at (to sys e) x) (row_slot e x lt touched))

    -- ### Flows and roundings

    flow_met : (e x : ℕ) → e < edges sys → read.is_open e ≡ true → owns sys (to sys e) x ≡ true
        → touches sys e x ≡ false
        → IsBelow cells.leq (carried_cell e x (read.slot_of (kept_at sys (from sys e) x) x))
        (read.slot_of (to sys e) x)
    flow_met e x lt opens own passes =
        let k = kept_at sys (from sys e) x in
        slot_holds (to sys e) x (carried_cell e x (read.slot_of k x))
        (λ other. ap (carried_cell e x)
        (cond-false (sys.is_cell x) (cell_in (standing sys a (slot_at k x))) None other)
        ∙ nothing_carried_by e x (sys.place.carries e x))
        (λ cell. subst (λ y. IsBelow cells.leq y (cell_in (standing sys a (slot_at (to sys e) x))))
        (carried_in e x (standing sys a (slot_at k x)) ∙ sym (ap (carried_cell e x) (slot_is k x cell)))
        (cell_below (carried_along sys e x (standing sys a (slot_at k x))) (standing sys a (slot_at (to sys e) x))
        (passed_below (standing sys a (open_at e)) (carried_along sys e x (standing sys a (slot_at k x)))
        (standing sys a (slot_at (to sys e) x))
        opens (met_at (flow e x) (lt, cell, own, passes) zero (omega arith)))))

    rounded_in : (n x : ℕ) (y : Option S)
        → IfSome y (λ w. changed_standing (λ f. f) (rounded_cell_at sys (slot_at n x)) w ≡ w)
        → option_map (sys.outward n x) (cell_in y) ≡ cell_in y
    rounded_in n x None same = refl
    rounded_in n x (Some w) same = ap (λ u. u.cell) same

    round_slot : (n x : ℕ) → IsVariable sys (slot_at n x)
        → option_map (sys.outward n x) (cell_in (standing sys a (slot_at n x))) ≡ cell_in (standing sys a (slot_at n x))
    round_slot n x is-v =
        let at = is.numbered.number (slot_at n x) is-v in
        rounded_in n x (standing sys a (slot_at n x))
        (subst (λ v. IfSome (standing sys a (slot_at n x)) (λ w. changed_standing (λ f. f) (rounded_cell_at sys v) w ≡
        w))
        at.1 (closed.round.round (number (slot_at n x)) at.0))

    round_met : (n x : ℕ) (s : V) → n < nodes sys → owns sys n x ≡ true → StateAt read n s
        → sys.cell (sys.equations.outward n s) x ≡ sys.cell s x
    round_met n x s lt own at =
        let stands : sys.cell s x ≡ read.slot_of n x =
        at.cells x ∙ ap (λ k. read.slot_of k x) (is.placed.own n x own) in
        is.made.rounded n x s at.fits ∙ elim (cases_Bool (sys.is_cell x)) [
          | inl cell ↦ ap (option_map (sys.outward n x)) (stands ∙ slot_is n x cell) ∙ round_slot n x (lt, cell, own)
              ∙ sym (stands ∙ slot_is n x cell)
          | inr other ↦ ap (option_map (sys.outward n x)) (none_at n x s at.fits other) ∙ sym
              (none_at n x s at.fits other)
        ]

    pub read_met : Met read
    read_met = record {
      entry = entry_met;
      rows = λ e lt s at. row_met e lt s at;
      flows = flow_met;
      round = round_met;
    }

    round_each : (n x : ℕ) (y : Option D) → option_map (sys.outward n x) y ≡ y → sys.is_cell x ≡ true
        → IfSome y (fits_cell x) → IfSome y (Round n x)
    round_each n x None same cell fits = tt
    round_each n x (Some d) same cell fits = (cell, fits, same_some (sys.outward n x d) d same)

    pub read_fits : Fit read
    read_fits = record {
      front = λ n lt. both_hold (fits_front n) (keeps n) (front_in (standing sys a (front_at n)))
          (lawful.front_fits states fronts cells suits fits_front fits_cell sys is n (standing sys a (front_at n))
          (lawful.standing_fits states fronts cells suits fits_front fits_cell sys is a closed.round.fits (front_at n)
          lt))
          (kept n lt);
      slot = λ n x lt own. if_cond_option (Round n x) (sys.is_cell x) (cell_in (standing sys a (slot_at n x)))
          (λ cell. round_each n x (cell_in (standing sys a (slot_at n x))) (round_slot n x (lt, cell, own)) cell
          (lawful.cell_fits states fronts cells suits fits_front fits_cell sys is n x (standing sys a (slot_at n x))
          (lawful.standing_fits states fronts cells suits fits_front fits_cell sys is a closed.round.fits (slot_at n x)
          (lt, cell, own))));
    }

    -- ## Met fronts and slots below are a closed assignment

    module _ (b : Fronts F D) (b_fits : Fit b) (b_met : Met b)
        (b_below : AreBelow states suits sys.equations parts sys.place sys.is_cell b read) where
      -- the fronts of full nodes
      abbrev cut : Fronts F D
      cut = fronts_law.cut states suits sys.equations parts sys.place sys.is_cell is.state_order is.state_join is.law
          is.pieces is.placed is.filled b

      abbrev full_test : ℕ → Bool
      full_test n = fronts_law.full_below sys.place sys.is_cell b n is.filled.bound

      met : Met cut
      met = fronts_law.cut_met states suits sys.equations parts sys.place sys.is_cell is.state_order is.state_join
          is.law
          is.pieces is.placed is.filled b b_met

      fits : Fit cut
      fits = fronts_law.cut_fits states suits sys.equations parts sys.place sys.is_cell is.state_order is.state_join
          is.law
          is.pieces is.placed is.filled Keeps Round b b_fits

      full_at : (n : ℕ) (f : F) → cut.front_of n ≡ Some f
          → IsFullAt states suits sys.equations parts sys.place sys.is_cell b n
      full_at n f at = fronts_law.is_full states suits sys.equations parts sys.place sys.is_cell is.state_order
          is.state_join is.law is.pieces is.placed is.filled b n f (full_test n) refl at

      -- what stands at each variable
      abbrev value_of : Variable → Option S
      value_of (front_at n) = option_map fronted (cut.front_of n)
      value_of (open_at e) = open_if (cut.is_open e)
      value_of (slot_at n x) = option_map holding (cut.slot_of n x)

      abbrev values : Assignment S
      values i = value_of (sys.numbers.variable i)

      stands : (v : Variable) → IsVariable sys v → standing sys values v ≡ value_of v
      stands v is-v = ap value_of (is.numbered.number v is-v).1

      front_stands : (n : ℕ) → n < nodes sys → front_in (standing sys values (front_at n)) ≡ cut.front_of n
      front_stands n lt = ap front_in (stands (front_at n) lt) ∙ front_back (cut.front_of n)

      slot_stands : (n x : ℕ) → IsVariable sys (slot_at n x)
          → cell_in (standing sys values (slot_at n x)) ≡ cut.slot_of n x
      slot_stands n x is-v = ap cell_in (stands (slot_at n x) is-v) ∙ cell_back (cut.slot_of n x)

      -- ### It fits, and is round

      abbrev FitsAt : Variable → S → Type 0
      FitsAt v w = lawful.FitsAt states fronts cells suits fits_front fits_cell sys is v w

      front_value : (n : ℕ) (y : Option F) → IfSome y (Keeps n) → IfSome (option_map fronted y) (FitsAt (front_at n))
      front_value n None h = tt
      front_value n (Some f) h = record { front = h.0; cell = tt }

      slot_value : (n x : ℕ) (y : Option D) → IfSome y (Round n x)
          → IfSome (option_map holding y) (FitsAt (slot_at n x))
      slot_value n x None h = tt
      slot_value n x (Some d) h = record { front = tt; cell = h.1 }

      value_fits : (v : Variable) → IsVariable sys v → IfSome (value_of v) (FitsAt v)
      value_fits (front_at n) is-v = front_value n (cut.front_of n) (fits.front n is-v)
      value_fits (open_at e) is-v =
          if_cond (FitsAt (open_at e)) (cut.is_open e) opened (λ opens. record { front = tt; cell = tt })
      value_fits (slot_at n x) is-v = slot_value n x (cut.slot_of n x) (fits.slot n x is-v.0 is-v.2)

      abbrev RoundAt : Variable → S → Type 0
      RoundAt v w = changed_standing (λ f. f) (rounded_cell_at sys v) w ≡ w

      front_round : (n : ℕ) (y : Option F) → IfSome (option_map fronted y) (RoundAt (front_at n))
      front_round n None = tt
      front_round n (Some f) = refl

      slot_round : (n x : ℕ) (y : Option D) → IfSome y (Round n x)
          → IfSome (option_map holding y) (RoundAt (slot_at n x))
      slot_round n x None h = tt
      slot_round n x (Some d) h = ap holding h.2

      value_round : (v : Variable) → IsVariable sys v → IfSome (value_of v) (RoundAt v)
      value_round (front_at n) is-v = front_round n (cut.front_of n)
      value_round (open_at e) is-v = if_cond (RoundAt (open_at e)) (cut.is_open e) opened (λ opens. refl)
      value_round (slot_at n x) is-v = slot_round n x (cut.slot_of n x) (fits.slot n x is-v.0 is-v.2)

      values_fit : Fitting values
      values_fit i lt = value_fits (sys.numbers.variable i) (is.numbered.variable i lt)

      -- ### It lies below the closed one

      fronted_below : (y : Option F) (z : Option S) → IsBelow fronts.leq y (front_in z) → Below (option_map fronted y) z
      fronted_below None z le = tt
      fronted_below (Some f) None le = absurd le
      fronted_below (Some f) (Some w) le = record { front = le; cell = tt }

      holding_below : (y : Option D) (z : Option S) → IsBelow cells.leq y (cell_in z) → Below (option_map holding y) z
      holding_below None z le = tt
      holding_below (Some d) None le = absurd le
      holding_below (Some d) (Some w) le = record { front = tt; cell = le }

      opened_below : (o : Bool) (z : Option S) → (o ≡ true → is_some z ≡ true) → Below (open_if o) z
      opened_below false z there = tt
      opened_below true None there = absurd (false≢true (there refl))
      opened_below true (Some w) there = record { front = tt; cell = tt }

      value_below : (v : Variable) → IsVariable sys v → Below (value_of v) (standing sys a v)
      value_below (front_at n) is-v =
          fronted_below (cut.front_of n) (standing sys a (front_at n))
          (cut_below fronts.leq (full_test n) (b.front_of n) (front_in (standing sys a (front_at n)))
          (b_below.front n is-v))
      value_below (open_at e) is-v = opened_below (cut.is_open e) (standing sys a (open_at e)) (b_below.opened e is-v)
      value_below (slot_at n x) is-v =
          holding_below (cut.slot_of n x) (standing sys a (slot_at n x))
          (subst (IsBelow cells.leq (cut.slot_of n x)) (slot_is n x is-v.1) (b_below.slot n x is-v.0 is-v.2))

      values_below : (v : Variable) → IsVariable sys v → Below (standing sys values v) (standing sys a v)
      values_below v is-v = subst (λ y. Below y (standing sys a v)) (sym (stands v is-v)) (value_below v is-v)

      -- ### Rows arrive

      module _ (e : ℕ) (lt : e < edges sys) (f : F) (at : cut.front_of (from sys e) ≡ Some f) where
        abbrev n : ℕ
        n = from sys e

        abbrev n_lt : n < nodes sys
        n_lt = is.law.from_node e lt

        abbrev v : ℕ → Option D
        v = seen sys e values

        abbrev small_state : V
        small_state = sys.state_of f v

        abbrev whole_cells : ℕ → Option D
        whole_cells x = cut.slot_of (kept_at sys n x) x

        abbrev whole : V
        whole = sys.state_of f whole_cells

        f_is : Keeps n f
        f_is = subst (λ y. IfSome y (Keeps n)) at (fits.front n n_lt)

        kept_fits : (x : ℕ) → sys.is_cell x ≡ true → (y : Option D) → IfSome y (Round (kept_at sys n x) x)
            → IfSome y (fits_cell x)
        kept_fits x cell None h = tt
        kept_fits x cell (Some d) h = h.1

        whole_fits : suits n whole
        whole_fits = is.made.state_fits n f whole_cells f_is.0
            (λ x cell.
            let slot = kept_slot n x n_lt cell in
            matched (fits_cell x) (whole_cells x) (is_there (whole_cells x) (full_at n f at x cell).0)
            (kept_fits x cell (whole_cells x) (fits.slot (kept_at sys n x) x slot.0 slot.2)))

        no_cell : (x : ℕ) → sys.is_cell x ≡ false → (y : Option D) → IfSome y (Round n x) → y ≡ None
        no_cell x other None h = refl
        no_cell x other (Some d) h = absurd (true≢false (sym h.0 ∙ other))

        whole_stands : StateAt cut n whole
        whole_stands = record {
          fits = whole_fits;
          front = at ∙ ap Some (sym (is.made.front_is f whole_cells));
          cells = λ x. elim (cases_Bool (sys.is_cell x)) [
            | inl cell ↦ is.made.cell_is f whole_cells x cell
            | inr other ↦ none_at n x whole whole_fits other
                ∙ sym (ap (λ k. cut.slot_of k x) (is.placed.own n x (is.filled.beyond n x other))
                ∙ no_cell x other (cut.slot_of n x) (fits.slot n x n_lt (is.filled.beyond n x other)))
          ];
        }

        module _ (ready : is_ready sys e v ≡ true) where
          values_small : small_at sys e values ≡ Some small_state
          values_small = ap (λ y. small sys e y v) (front_stands n n_lt ∙ at)
              ∙ cond-true (is_ready sys e v) (Some small_state) None ready

          small_state_fits : suits n small_state
          small_state_fits = subst (λ y. IfSome y (suits n)) values_small
              (lawful.small_at_fits states fronts cells suits fits_front fits_cell sys is e lt values values_fit)

          values_looked : (x : ℕ) → is_looked sys e x ≡ true → v x ≡ sys.cell whole x
          values_looked x looked =
              let cell = (and_parts (sys.is_cell x) (sys.place.looks e x) looked).0 in
              cond-true (is_looked sys e x) (seen_at sys e values x) (sys.scratch x) looked
              ∙ slot_stands (kept_at sys n x) x (kept_slot n x n_lt cell) ∙ sym (is.made.cell_is f whole_cells x cell)

          by_checked : (y : Option V) → IfSome y (suits n) → IfSome y (checks e)
              → IsBelow states.leq (Some small_state) y
              → GiveAlike states suits sys.equations parts sys.place e (sys.equations.after e small_state)
              (sys.equations.after e whole)
          by_checked None d-fits passes le = absurd le
          by_checked (Some d) d-fits passes le =
              local.local e small_state whole d lt small_state_fits whole_fits d-fits le
              (subst (keeps n) (sym (is.made.front_is f v)) f_is.1) passes
              (whole_agrees e f v whole whole_fits small_state_fits (sym (is.made.front_is f whole_cells))
              values_looked)

          alike_below : GiveAlike states suits sys.equations parts sys.place e (sys.equations.after e small_state)
              (sys.equations.after e whole)
          alike_below =
              let place = is.numbered.rules (row e) lt in
              by_checked (small_at sys e a)
              (lawful.small_at_fits states fronts cells suits fits_front fits_cell sys is e lt a closed.round.fits)
              (subst (λ r. AllowsRule sys checks r a) place.1.1 (allowed place.0 place.1.0))
              (subst (λ y. IsBelow states.leq y (small_at sys e a)) values_small
              (lawful.small_at_rises states fronts cells suits fits_front fits_cell sys is e lt values a values_fit
              closed.round.fits values_below))

          arrives_as : (y z : Option V) → GiveAlike states suits sys.equations parts sys.place e y z
              → IfSome z (Arrived cut e) → IfSome y (Arrived cut e)
          arrives_as None None same h = tt
          arrives_as None (Some u) same h = absurd same
          arrives_as (Some t) None same h = absurd same
          arrives_as (Some t) (Some u) same h = record {
            front = subst (λ g. IsBelow fronts.leq (Some g) (cut.front_of (to sys e))) (sym same.front) h.front;
            opened = h.opened;
            touched = λ x touched. subst (λ c. IsBelow cells.leq c (cut.slot_of (to sys e) x))
                (sym (same.cells x (is.placed.looked e x lt touched))) (h.touched x touched);
          }

          small_arrives : IfSome (sys.equations.after e small_state) (Arrived cut e)
          small_arrives = arrives_as (sys.equations.after e small_state) (sys.equations.after e whole) alike_below
              (met.rows e lt whole whole_stands)

        by_ready : (r : Bool) → is_ready sys e v ≡ r
            → IfSome (brought (sys.equations.after e) (cond r (Some small_state) None)) (Arrived cut e)
        by_ready false is-ready = tt
        by_ready true is-ready = small_arrives is-ready

      by_front : (e : ℕ) → e < edges sys → (y : Option F) → cut.front_of (from sys e) ≡ y
          → IfSome (brought (sys.equations.after e) (small sys e y (seen sys e values))) (Arrived cut e)
      by_front e lt None at = tt
      by_front e lt (Some f) at = by_ready e lt f at (is_ready sys e (seen sys e values)) refl

      row_arrives : (e : ℕ) → e < edges sys
          → IfSome (brought (sys.equations.after e) (small_at sys e values)) (Arrived cut e)
      row_arrives e lt =
          subst (λ y. IfSome (brought (sys.equations.after e) (small sys e y (seen sys e values))) (Arrived cut e))
          (sym (front_stands (from sys e) (is.law.from_node e lt)))
          (by_front e lt (cut.front_of (from sys e)) refl)

      -- ### Each rule is met

      fronted_rises : (y z : Option F) → IsBelow fronts.leq y z → Below (option_map fronted y) (option_map fronted z)
      fronted_rises None z le = tt
      fronted_rises (Some f) None le = absurd le
      fronted_rises (Some f) (Some g) le = record { front = le; cell = tt }

      abbrev holding_rises : (y z : Option D) → IsBelow cells.leq y z
          → Below (option_map holding y) (option_map holding z)
      holding_rises = lawful.holding_rises states fronts cells suits fits_front fits_cell sys is

      abbrev IsTarget : Rule → Variable → Type 0
      IsTarget r v = lawful.IsTarget states fronts cells suits fits_front fits_cell sys is r v

      entry_value : (y : Option V) → IfSome y (IsEntered states suits sys.equations parts sys.place sys.is_cell cut)
          → (v : Variable) → IsTarget entered v → Below (part_of sys y v) (value_of v)
      entry_value None h v at = tt
      entry_value (Some s) h (front_at m) at =
          subst (λ k. Below (Some (fronted (sys.front s))) (value_of (front_at k))) (sym at)
          (fronted_rises (Some (sys.front s)) (cut.front_of 0) h.front)
      entry_value (Some s) h (open_at d) at = absurd at
      entry_value (Some s) h (slot_at m x) at =
          subst (λ k. Below (option_map holding (sys.cell s x)) (value_of (slot_at k x))) (sym at)
          (holding_rises (sys.cell s x) (cut.slot_of 0 x) (h.cells x))

      is_opened : (o : Bool) → o ≡ true → Below (Some opened) (open_if o)
      is_opened true opens = record { front = tt; cell = tt }
      is_opened false opens = absurd (false≢true opens)

      row_value : (e : ℕ) (y : Option V) → IfSome y (Arrived cut e) → (v : Variable) → IsTarget (row e) v
          → Below (part_of sys y v) (value_of v)
      row_value e None h v at = tt
      row_value e (Some t) h (front_at m) at =
          subst (λ k. Below (Some (fronted (sys.front t))) (value_of (front_at k))) (sym at)
          (fronted_rises (Some (sys.front t)) (cut.front_of (to sys e)) h.front)
      row_value e (Some t) h (open_at d) at =
          subst (λ k. Below (Some opened) (value_of (open_at k))) (sym at) (is_opened (cut.is_open e) h.opened)
      row_value e (Some t) h (slot_at m x) at =
          subst (λ k. Below (option_map holding (sys.cell t x)) (value_of (slot_at k x))) (sym at.0)
          (holding_rises (sys.cell t x) (cut.slot_of (to sys e) x) (h.touched x at.1))

      flow_value : (o : Bool) (y z : Option D) → (o ≡ true → IsBelow cells.leq y z)
          → Below (passed (open_if o) (option_map holding y)) (option_map holding z)
      flow_value false y z le = tt
      flow_value true y z le = holding_rises y z (le refl)

      rule_met : (r : Rule) → IsRule sys r → (v : Variable) → IsTarget r v → Below (brings sys r values v) (value_of v)
      rule_met entered is-r v at = entry_value sys.equations.entry met.entry v at
      rule_met (row e) is-r v at =
          row_value e (brought (sys.equations.after e) (small_at sys e values)) (row_arrives e is-r) v at
      rule_met (flow e x) is-r v at =
          let k = kept_at sys (from sys e) x in
          let slot = kept_slot (from sys e) x (is.law.from_node e is-r.0) is-r.1 in
          subst (λ w. Below (brings sys (flow e x) values v) (value_of w)) (sym at)
          (subst (λ y. Below (passed y (carried_along sys e x (standing sys values (slot_at k x))))
          (value_of (slot_at (to sys e) x)))
          (sym (stands (open_at e) is-r.0))
          (subst (λ y. Below (passed (value_of (open_at e)) (carried_along sys e x y))
          (value_of (slot_at (to sys e) x)))
          (sym (stands (slot_at k x) slot))
          (subst (λ y. Below (passed (value_of (open_at e)) y) (value_of (slot_at (to sys e) x)))
          (sym (carried_holding e x (cut.slot_of k x)))
          (flow_value (cut.is_open e) (carried_cell e x (cut.slot_of k x)) (cut.slot_of (to sys e) x)
          (λ opens. met.flows e x is-r.0 opens is-r.2 is-r.3)))))

      values_met : (k : ℕ) → k < sys.numbers.constraint_count → (j : ℕ) → j < target_count system k
          → Below (system.gives k values j) (values (target system k j))
      values_met k lt j j-lt =
          let v = lawful.to_variable states fronts cells suits fits_front fits_cell sys is k j lt j-lt in
          let good = lawful.good states fronts cells suits fits_front fits_cell sys is k j lt j-lt in
          subst (λ i. Below (system.gives k values j) (values i))
          (sym (lawful.target_is states fronts cells suits fits_front fits_cell sys is k j lt j-lt))
          (subst (λ y. Below (system.gives k values j) y) (sym (stands v good.0))
          (rule_met (sys.numbers.rule k) (is.numbered.rule k lt) v good.1))

      values_closed : Closed values
      values_closed = record {
        round = record {
          fits = values_fit;
          round = λ i lt. value_round (sys.numbers.variable i) (is.numbered.variable i lt);
        };
        met = values_met;
      }

      -- ### So the least assignment lies below

      module _ (least : (other : Assignment S) → Closed other
          → lawful.Under states fronts cells suits fits_front fits_cell sys is a other) where
        at_variable : (v : Variable) → IsVariable sys v → Below (standing sys a v) (value_of v)
        at_variable v is-v =
            subst (λ y. Below (standing sys a v) y) (stands v is-v)
            (least values values_closed (number v) (is.numbered.number v is-v).0)

        slot_under : (n x : ℕ) → n < nodes sys → owns sys n x ≡ true
            → IsBelow cells.leq (read.slot_of n x) (b.slot_of n x)
        slot_under n x lt own = elim (cases_Bool (sys.is_cell x)) [
          | inl cell ↦ subst (λ y. IsBelow cells.leq y (b.slot_of n x)) (sym (slot_is n x cell))
              (subst (IsBelow cells.leq (cell_in (standing sys a (slot_at n x)))) (cell_back (b.slot_of n x))
              (cell_below (standing sys a (slot_at n x)) (option_map holding (b.slot_of n x))
              (at_variable (slot_at n x) (lt, cell, own))))
          | inr other ↦ subst (λ y. IsBelow cells.leq y (b.slot_of n x))
              (sym (cond-false (sys.is_cell x) (cell_in (standing sys a (slot_at n x))) None other)) tt
        ]

        open_under : (o : Bool) (y : Option S) → Below y (open_if o) → is_some y ≡ true → o ≡ true
        open_under true y le there = refl
        open_under false None le there = absurd (false≢true there)
        open_under false (Some w) le there = absurd le

        pub read_below : AreBelow states suits sys.equations parts sys.place sys.is_cell read b
        read_below = record {
          front = λ n lt. uncut fronts.leq (full_test n) (front_in (standing sys a (front_at n))) (b.front_of n)
              (subst (IsBelow fronts.leq (front_in (standing sys a (front_at n)))) (front_back (cut.front_of n))
              (front_below (standing sys a (front_at n)) (option_map fronted (cut.front_of n))
              (at_variable (front_at n) lt)));
          opened = λ e lt opens. open_under (b.is_open e) (standing sys a (open_at e)) (at_variable (open_at e) lt)
              opens;
          slot = slot_under;
        }

  -- ## The law

  -- The least assignment of the constraints, of which each is allowed, read back as fronts and slots is the least ones,
  -- where its fronts are kept.
  pub least_is_least_fronts : (a : Assignment S)
      → IsLeast (standings fronts cells) (FitsVariable sys fits_front fits_cell) (Allows sys checks) system a
      → AreAllowed (standings fronts cells) (FitsVariable sys fits_front fits_cell) (Allows sys checks) system a
      → ((n : ℕ) → n < nodes sys → (let b = fronts_of sys a in IfSome (b.front_of n) (keeps n)))
      → AreLeast states suits sys.equations parts sys.place sys.is_cell Keeps Round (fronts_of sys a)
  least_is_least_fronts a least allowed kept = record {
    fits = read_fits a least.closed allowed kept;
    met = read_met a least.closed allowed kept;
    below = λ b b-fits b-met b-below. read_below a least.closed allowed kept b b-fits b-met b-below least.below;
  }
