-- The least fronts and slots are those of the least solution.
use Rattle.std.proofs.Common.{◌≡◌, ℕ, zero, suc, ◌<◌, Bool, true, false, cond, Option, Some, None, IfSome, sym}
use Rattle.std.proofs.Common.{ap, subst, ◌∙◌, refl, inl, inr, arith}
use Rattle.std.specs.Prelude.{◌&&◌, is_some, if◌then◌else◌}
use Rattle.std.specs.Option.{option_map}
use Rattle.std.proofs.lemmas.Bool.{cases_Bool, cases_eq, false≢true, and_from, and_parts, cond_both, cond-true}
use Rattle.std.proofs.lemmas.Bool.{cond-false}
use Rattle.std.proofs.lemmas.Option.{none-some}
use Rattle.table_covers.specs.tm_lattice.declared.lattices.Lattice as lattice
use Rattle.table_covers.specs.tm_lattice.LatticeLaws.{IsOrder, IsJoin}
use Rattle.table_covers.specs.tm_lattice.Tables.{IsBelow}
use Rattle.table_covers.specs.Systems.{System, IsLawfulSystem, from_of, to_of}
use Rattle.table_covers.specs.Solutions.{NodeTable, edge_count, along, brought, IsClosedTable, IsLeastSolution}
use Rattle.table_covers.specs.Solutions.{AreFitting, least_of}
use Rattle.table_covers.specs.laws.Closing as closing
use Rattle.table_covers.specs.laws.Iterates as iterates
use Rattle.sparse_tables.specs.Sparse.{Parts, Placing, AreParts, IsPlaced, IsFramedIn, IsFlowing, IsSparseClosed}
use Rattle.sparse_tables.specs.Sparse.{SameCell}
use Rattle.sparse_tables.specs.Sparse.{CellBelow, IsUnderAt, IsOwnBelow, CarriesCell}
use Rattle.sparse_tables.specs.laws.Bounded as bounded
use Rattle.sparse_tables.specs.laws.Bounded.{IsKept, IsKeptUnder}
use Rattle.sparse_tables.specs.laws.Closed as closed
use Rattle.sparse_tables.specs.laws.Flowing as flowing
use Rattle.sparse_tables.specs.laws.Least as least
use Rattle.sparse_tables.specs.Fronts.{Fronts, IsThere, IsStateAt, IsArrived, IsEntered, AreMet, AreBelow, AreLeast}
use Rattle.sparse_tables.specs.Fronts.{AreFit, AreFitted, IsRoundKept, AreFilled, IsFullAt, IsStandingAt, IsExpanded}

-- ## Full nodes, as a test

module _ {F D : Type 0} (place : Placing) (is_cell : ℕ → Bool) (a : Fronts F D) (n : ℕ) where
  -- the cell has something where it is kept, and so has the node where it is
  abbrev is_kept : ℕ → Bool
  is_kept x = is_some (a.slot_of (place.kept_at n x) x) && is_some (a.front_of (place.kept_at n x))

  -- below this number each cell has
  pub full_below : ℕ → Bool
  full_below zero = true
  full_below (suc x) = cond (is_cell x) (is_kept x) true && full_below x

  abbrev pub IsKeptThere : ℕ → Type 0
  IsKeptThere x = IsThere (a.slot_of (place.kept_at n x) x) × IsThere (a.front_of (place.kept_at n x))

  abbrev pub IsFull : Type 0
  IsFull = (x : ℕ) → is_cell x ≡ true → IsKeptThere x

  is_there : {A : Type 0} → (y : Option A) → IsThere y → is_some y ≡ true
  is_there None h = absurd h
  is_there (Some v) h = refl

  kept : (x : ℕ) → IsKeptThere x → is_kept x ≡ true
  kept x here = and_from _ _ (is_there (a.slot_of (place.kept_at n x) x) here.0)
      (is_there (a.front_of (place.kept_at n x)) here.1)

  pub told : (k : ℕ) → IsFull → full_below k ≡ true
  unfolding full_below
  told zero full = refl
  told (suc k) full =
      and_from _ _ (cond_both (is_cell k) (is_kept k) true (λ b. b ≡ true) (λ is. kept k (full k is)) (λ other. refl))
      (told k full)

  there_is : {A : Type 0} → (y : Option A) → is_some y ≡ true → IsThere y
  there_is None h = absurd (false≢true h)
  there_is (Some v) h = tt

  there_at : (x : ℕ) → cond (is_cell x) (is_kept x) true ≡ true → is_cell x ≡ true → IsKeptThere x
  there_at x is cell =
      let both = and_parts _ _ (sym (cond-true (is_cell x) (is_kept x) true cell) ∙ is) in
      (there_is (a.slot_of (place.kept_at n x) x) both.0, there_is (a.front_of (place.kept_at n x)) both.1)

  pub tells : (k : ℕ) → full_below k ≡ true → (x : ℕ) → x < k → is_cell x ≡ true → IsKeptThere x
  unfolding full_below
  tells zero is x lt cell = absurd (omega arith)
  tells (suc k) is x lt cell =
      let both = and_parts (cond (is_cell k) (is_kept k) true) (full_below k) is in
      elim (cases_eq x k) [
        | inl same ↦ subst IsKeptThere (sym same) (there_at k both.0 (subst (λ y. is_cell y ≡ true) same cell))
        | inr differ ↦ tells k both.1 x (omega (arith, lt, differ)) cell
      ]

module _ {V F D M : Type 0} (states : lattice.Ghosts V M) (suits : ℕ → V → Type 0) (sys : System V)
    (parts : Parts V F (Option D)) (place : Placing) (is_cell : ℕ → Bool)
    (order : IsOrder states.is_value states.leq) (join : IsJoin states.is_value states.leq states.joined)
    (law : IsLawfulSystem states.is_value states.leq states.joined suits sys)
    (made : AreParts states suits sys parts place) (placed : IsPlaced states suits sys parts place)
    (filled : AreFilled states suits sys parts place is_cell) where
  abbrev from : ℕ → ℕ
  from e = from_of sys.links e

  abbrev to : ℕ → ℕ
  to e = to_of sys.links e

  abbrev edges : ℕ
  edges = edge_count states suits sys

  abbrev Met : Fronts F D → Type 0
  Met a = AreMet states suits sys parts place is_cell a

  abbrev StateAt : Fronts F D → ℕ → V → Type 0
  StateAt a n s = IsStateAt states suits sys parts place is_cell a n s

  abbrev Full : Fronts F D → ℕ → Type 0
  Full a n = IsFullAt states suits sys parts place is_cell a n

  abbrev Carried : ℕ → ℕ → Option D → Option D
  Carried e x c = if place.carries e x then parts.carry e x c else c

  abbrev Arrived : Fronts F D → ℕ → V → Type 0
  Arrived a e t = IsArrived states suits sys parts place is_cell a e t

  by_ownership : (n x : ℕ) (P : Type 0) → (place.owns n x ≡ true → P) → (place.owns n x ≡ false → P) → P
  by_ownership n x P own other = closed.by_ownership states suits sys parts place order law made placed n x P own other

  by_touch : (e x : ℕ) (P : Type 0) → (place.touches e x ≡ true → P) → (place.touches e x ≡ false → P) → P
  by_touch e x P touched passed =
      let split : (b : Bool) → place.touches e x ≡ b → P = λ b. elim b as (λ c. place.touches e x ≡ c → P) [
        | true ↦ touched
        | false ↦ passed
      ] in
      split (place.touches e x) refl

  front_there : (f : F) (y : Option F) → IsBelow parts.front_leq (Some f) y → IsThere y
  front_there f None le = absurd le
  front_there f (Some g) le = tt

  carried_there : (e x : ℕ) (c : Option D) → IsThere c → IsThere (Carried e x c)
  carried_there e x c there = cond_both (place.carries e x) (parts.carry e x c) c IsThere
      (λ is. filled.carried e x c there) (λ other. there)

  -- ## Where an edge has arrived from a full node its end is full

  module _ (a : Fronts F D) (met : Met a) where
    end_is_full : (e : ℕ) → e < edges → (s t : V) → StateAt a (from e) s → Full a (from e) → suits (to e) t
        → Arrived a e t → Full a (to e)
    end_is_full e lt s t at full t-fits arrived x cell =
        by_ownership (to e) x
        (IsThere (a.slot_of (place.kept_at (to e) x) x) × IsThere (a.front_of (place.kept_at (to e) x)))
        (λ own.
        subst (λ m. IsThere (a.slot_of m x) × IsThere (a.front_of m)) (sym (placed.own (to e) x own)) (
          by_touch e x (IsThere (a.slot_of (to e) x))
              (λ touched. filled.above (parts.cell t x) (a.slot_of (to e) x) (arrived.touched x touched)
              (filled.there (to e) x t t-fits cell))
              (λ passed. filled.above (Carried e x (a.slot_of (place.kept_at (from e) x) x)) (a.slot_of (to e) x)
              (met.flows e x lt arrived.opened own passed)
              (carried_there e x (a.slot_of (place.kept_at (from e) x) x) (full x cell).0)),
          front_there (parts.front t) (a.front_of (to e)) arrived.front,
        ))
        (λ other. subst (λ m. IsThere (a.slot_of m x) × IsThere (a.front_of m)) (placed.same e x lt other)
        (full x cell))

    entry_is_full : (s : V) → suits 0 s → IsEntered states suits sys parts place is_cell a s → Full a 0
    entry_is_full s fits entered x cell =
        subst (λ m. IsThere (a.slot_of m x) × IsThere (a.front_of m)) (sym (placed.own 0 x (placed.entry x))) (
          filled.above (parts.cell s x) (a.slot_of 0 x) (entered.cells x) (filled.there 0 x s fits cell),
          front_there (parts.front s) (a.front_of 0) entered.front,
        )

  -- ## Least fronts are full

  -- the fronts of full nodes alone
  abbrev pub cut : Fronts F D → Fronts F D
  cut a = record {
    front_of = λ n. cond (full_below place is_cell a n filled.bound) (a.front_of n) None;
    is_open = a.is_open;
    slot_of = a.slot_of;
  }

  module _ (a : Fronts F D) where
    kept_front : (n : ℕ) → Full a n → (let c = cut a in c.front_of n ≡ a.front_of n)
    kept_front n full = ap (λ b. cond b (a.front_of n) None) (told place is_cell a n filled.bound full)

    whole : (n : ℕ) → full_below place is_cell a n filled.bound ≡ true → Full a n
    whole n told-is x cell = tells place is_cell a n filled.bound told-is x (filled.within x cell) cell

    pub is_full : (n : ℕ) (f : F) (b : Bool) → full_below place is_cell a n filled.bound ≡ b
        → cond b (a.front_of n) None ≡ Some f
        → Full a n
    is_full n f true told-is is = whole n told-is
    is_full n f false told-is is = absurd (none-some f is)

    has_front : (n : ℕ) (f : F) (b : Bool) → cond b (a.front_of n) None ≡ Some f → a.front_of n ≡ Some f
    has_front n f true is = is
    has_front n f false is = absurd (none-some f is)

    uncut : (n : ℕ) (s : V) → StateAt (cut a) n s → StateAt a n s
    uncut n s at = record {
      fits = at.fits;
      front = has_front n (parts.front s) (full_below place is_cell a n filled.bound) at.front;
      cells = at.cells;
    }

    module _ (met : Met a) where
      entered : (x : Option V) → IfSome x (suits 0)
          → IfSome x (IsEntered states suits sys parts place is_cell a)
          → IfSome x (IsEntered states suits sys parts place is_cell (cut a))
      entered None fits h = tt
      entered (Some s) fits h = record {
        front = subst (IsBelow parts.front_leq (Some (parts.front s)))
            (sym (kept_front 0 (entry_is_full a met s fits h))) h.front;
        cells = h.cells;
      }

      arrived : (e : ℕ) → e < edges → (s : V) → StateAt a (from e) s → Full a (from e) → (y : Option V)
          → IfSome y (suits (to e)) → IfSome y (Arrived a e) → IfSome y (Arrived (cut a) e)
      arrived e lt s at full None fits h = tt
      arrived e lt s at full (Some t) fits h = record {
        front = subst (IsBelow parts.front_leq (Some (parts.front t)))
            (sym (kept_front (to e) (end_is_full a met e lt s t at full fits h))) h.front;
        opened = h.opened;
        touched = h.touched;
      }

      pub cut_met : Met (cut a)
      cut_met = record {
        entry = entered sys.entry law.entry_fits met.entry;
        rows = λ e lt s at.
            let whole = uncut (from e) s at in
            arrived e lt s whole (is_full (from e) (parts.front s) (full_below place is_cell a (from e) filled.bound)
            refl at.front)
            (sys.after e s) (law.after_fits e s lt at.fits) (met.rows e lt s whole);
        flows = met.flows;
        round = λ n x s lt own at. met.round n x s lt own (uncut n s at);
      }

  cut_below : (a : Fronts F D) (n : ℕ) (f : F) (b : Bool) → full_below place is_cell a n filled.bound ≡ b
      → IsBelow parts.front_leq (Some f) (cond b (a.front_of n) None) → Full a n
  cut_below a n f true told-is le = whole a n told-is
  cut_below a n f false told-is le = absurd le

  -- ## What fits

  module _ (fits_front : ℕ → F → Type 0) (fits_cell : ℕ → ℕ → D → Type 0) where
    abbrev Fit : Fronts F D → Type 0
    Fit a = AreFit states suits sys parts place is_cell fits_front fits_cell a

    abbrev Fitted : (ℕ → V → Type 0) → Type 0
    Fitted P = AreFitted states suits sys parts place is_cell fits_front fits_cell P

    abbrev Least : Fronts F D → Type 0
    Least a = AreLeast states suits sys parts place is_cell fits_front fits_cell a

    cond_fits : (n : ℕ) (b : Bool) (y : Option F) → IfSome y (fits_front n) → IfSome (cond b y None) (fits_front n)
    cond_fits n true y fits = fits
    cond_fits n false y fits = tt

    pub cut_fits : (a : Fronts F D) → Fit a → Fit (cut a)
    cut_fits a fits = record {
      front = λ n lt. cond_fits n (full_below place is_cell a n filled.bound) (a.front_of n) (fits.front n lt);
      slot = fits.slot;
    }

    module _ (P : ℕ → V → Type 0) (fitted : Fitted P) where
      cond_below_itself : (n : ℕ) (b : Bool) (y : Option F) → IfSome y (fits_front n)
          → IsBelow parts.front_leq (cond b y None) y
      cond_below_itself n true None fits = tt
      cond_below_itself n true (Some f) fits = fitted.front_reflexive n f fits
      cond_below_itself n false y fits = tt

      slot_below_itself : (n x : ℕ) (c : Option D) → IfSome c (fits_cell n x) → parts.cell_leq c c
      slot_below_itself n x None fits = filled.nothing None
      slot_below_itself n x (Some d) fits = fitted.cell_reflexive n x d fits

      pub cut_under : (a : Fronts F D) → Fit a → AreBelow states suits sys parts place is_cell (cut a) a
      cut_under a fits = record {
        front = λ n lt. cond_below_itself n (full_below place is_cell a n filled.bound) (a.front_of n)
            (fits.front n lt);
        opened = λ e lt opened. opened;
        slot = λ n x lt own. slot_below_itself n x (a.slot_of n x) (fits.slot n x lt own);
      }

      pub least_is_full : (a : Fronts F D) → Least a → (n : ℕ) (f : F) → n < sys.node_count → a.front_of n ≡ Some f
          → Full a n
      least_is_full a least n f lt is =
          cut_below a n f (full_below place is_cell a n filled.bound) refl
          (let c = cut a in subst (λ y. IsBelow parts.front_leq y (c.front_of n)) is
          ((least.below (cut a) (cut_fits a least.fits) (cut_met a least.met) (cut_under a least.fits)).front n lt))

  -- ## The expansion is closed in what nodes own

  module _ (a : Fronts F D) (table : NodeTable V) (met : Met a)
      (full : (n : ℕ) (f : F) → n < sys.node_count → a.front_of n ≡ Some f → Full a n)
      (expanded : IsExpanded states suits sys parts place is_cell a table)
      (framed : IsFramedIn states suits sys parts place table) where
    at_state : (n : ℕ) → n < sys.node_count → (s : V) → table n ≡ Some s → StateAt a n s
    at_state n lt s is = subst (IsStandingAt states suits sys parts place is_cell a n) is (expanded n lt)

    fits_at : (n : ℕ) (y : Option V) → IsStandingAt states suits sys parts place is_cell a n y → IfSome y (suits n)
    fits_at n None at = tt
    fits_at n (Some s) at = at.fits

    same_at : (n x k : ℕ) → k < sys.node_count → place.kept_at n x ≡ k → place.kept_at k x ≡ k → IsThere (a.front_of k)
        → (s : V) → StateAt a n s → (y : Option V) → IsStandingAt states suits sys parts place is_cell a k y
        → SameCell states suits sys parts place x (Some s) y
    same_at n x k lt at own there s here None is = absurd (subst IsThere is there)
    same_at n x k lt at own there s here (Some r) is =
        here.cells x ∙ ap (λ m. a.slot_of m x) (at ∙ sym own) ∙ sym (is.cells x)

    there_front : (n x : ℕ) → n < sys.node_count → (s : V) → StateAt a n s → IsThere (a.front_of (place.kept_at n x))
    there_front n x lt s at = elim (cases_Bool (is_cell x)) [
      | inl cell ↦ (full n (parts.front s) lt at.front x cell).1
      | inr beyond ↦ subst (λ m. IsThere (a.front_of m)) (sym (placed.own n x (filled.beyond n x beyond)))
          (subst IsThere (sym at.front) tt)
    ]

    thin_at : (n x : ℕ) → n < sys.node_count → (y : Option V)
        → IsStandingAt states suits sys parts place is_cell a n y
        → SameCell states suits sys parts place x y (table (place.kept_at n x))
    thin_at n x lt None at = tt
    thin_at n x lt (Some s) at =
        let k = place.kept_at n x in
        let k-lt = placed.within n x lt in
        same_at n x k k-lt refl (placed.own k x (placed.kept n x lt)) (there_front n x lt s at) s at (table k)
        (expanded k k-lt)

    entry_below : (x : Option V) → IfSome x (suits 0) → IfSome x (IsEntered states suits sys parts place is_cell a)
        → (y : Option V) → IsStandingAt states suits sys parts place is_cell a 0 y → IsBelow states.leq x y
    entry_below None fits h y at = tt
    entry_below (Some s) fits h None at = absurd (subst (IsBelow parts.front_leq (Some (parts.front s))) at h.front)
    entry_below (Some s) fits h (Some u) at =
        made.below 0 s u fits at.fits (subst (IsBelow parts.front_leq (Some (parts.front s))) at.front h.front)
        (λ x. subst (λ c. parts.cell_leq (parts.cell s x) c)
        (sym (at.cells x ∙ ap (λ m. a.slot_of m x) (placed.own 0 x (placed.entry x)))) (h.cells x))

    round_at : (n x : ℕ) → n < sys.node_count → place.owns n x ≡ true → (y : Option V)
        → IsStandingAt states suits sys parts place is_cell a n y
        → IfSome y (λ s. parts.cell (sys.outward n s) x ≡ parts.cell s x)
    round_at n x lt own None at = tt
    round_at n x lt own (Some s) at = met.round n x s lt own at

    -- what is brought lies below what stands, in what the end of the edge owns
    under : (e : ℕ) → e < edges → (s t u : V) → StateAt a (from e) s → StateAt a (to e) u → Arrived a e t
        → ((x : ℕ) → place.touches e x ≡ false → parts.cell t x ≡ Carried e x (parts.cell s x))
        → IsUnderAt states suits sys parts place (to e) t u
    under e lt s t u at there h framed-at = record {
      front = subst (IsBelow parts.front_leq (Some (parts.front t))) there.front h.front;
      cells = λ x own.
          let stands : a.slot_of (to e) x ≡ parts.cell u x =
          ap (λ m. a.slot_of m x) (sym (placed.own (to e) x own)) ∙ sym (there.cells x) in
          subst (λ c. parts.cell_leq (parts.cell t x) c) stands
          (by_touch e x (parts.cell_leq (parts.cell t x) (a.slot_of (to e) x)) (h.touched x)
          (λ passed. subst (λ c. parts.cell_leq c (a.slot_of (to e) x))
          (sym (framed-at x passed ∙ ap (Carried e x) (at.cells x)))
          (met.flows e x lt h.opened own passed)));
    }

    edge_to : (e : ℕ) → e < edges → (s t : V) → StateAt a (from e) s → Arrived a e t
        → ((x : ℕ) → place.touches e x ≡ false → parts.cell t x ≡ Carried e x (parts.cell s x))
        → (y : Option V) → IsStandingAt states suits sys parts place is_cell a (to e) y
        → IsOwnBelow states suits sys parts place (to e) (Some t) y
    edge_to e lt s t at h framed-at None there =
        absurd (subst (IsBelow parts.front_leq (Some (parts.front t))) there h.front)
    edge_to e lt s t at h framed-at (Some u) there = under e lt s t u at there h framed-at

    edge_by : (e : ℕ) → e < edges → (s : V) → StateAt a (from e) s → (y : Option V) → IfSome y (Arrived a e)
        → ((x : ℕ) → place.touches e x ≡ false → CarriesCell states suits sys parts place e x s y)
        → IsOwnBelow states suits sys parts place (to e) y (table (to e))
    edge_by e lt s at None h framed-at = tt
    edge_by e lt s at (Some t) h framed-at =
        edge_to e lt s t at h framed-at (table (to e)) (expanded (to e) (law.to_node e lt))

    edge_from : (e : ℕ) → e < edges → (x : Option V) → table (from e) ≡ x
        → IsStandingAt states suits sys parts place is_cell a (from e) x
        → IsOwnBelow states suits sys parts place (to e) (brought (sys.after e) x) (table (to e))
    edge_from e lt None is at = tt
    edge_from e lt (Some s) is at = edge_by e lt s at (sys.after e s) (met.rows e lt s at) (framed e lt s is)

    pub expanded_is_closed : IsSparseClosed states suits sys parts place table
    expanded_is_closed = record {
      fits = λ n lt. fits_at n (table n) (expanded n lt);
      thin = λ n x lt. thin_at n x lt (table n) (expanded n lt);
      framed = framed;
      entry = entry_below sys.entry law.entry_fits met.entry (table 0) (expanded 0 law.some_node);
      round = λ n x lt own. round_at n x lt own (table n) (expanded n lt);
      edges = λ e lt. edge_from e lt (table (from e)) refl (expanded (from e) (law.from_node e lt));
    }

  -- ## The fronts of a closed table in which cells flow

  -- the table has the state at the node
  abbrev pub IsStateOf : NodeTable V → ℕ → V → Type 0
  IsStateOf low n s = (n < sys.node_count) × (low n ≡ Some s)

  pub cell_of : Option V → ℕ → Option D
  cell_of None x = None
  cell_of (Some s) x = parts.cell s x

  abbrev pub fronts_of : NodeTable V → Fronts F D
  fronts_of low = record {
    front_of = λ n. option_map parts.front (low n);
    is_open = λ e. is_some (along states suits sys e low);
    slot_of = λ n x. cell_of (low n) x;
  }

  module _ (low : NodeTable V) (solved : IsClosedTable states suits sys low)
      (flows : IsFlowing states suits sys parts place low) (framed : IsFramedIn states suits sys parts place low) where
    abbrev Below : Option V → Option V → Type 0
    Below x y = IsBelow states.leq x y

    front_under : (n : ℕ) (t : V) → suits n t → (y : Option V) → IfSome y (suits n) → Below (Some t) y
        → IsBelow parts.front_leq (Some (parts.front t)) (option_map parts.front y)
    front_under n t t-fits None fits le = absurd le
    front_under n t t-fits (Some u) fits le = made.front_rises n t u t-fits fits le

    cell_under : (n x : ℕ) (t : V) → suits n t → (y : Option V) → IfSome y (suits n) → Below (Some t) y
        → parts.cell_leq (parts.cell t x) (cell_of y x)
    unfolding cell_of
    cell_under n x t t-fits None fits le = absurd le
    cell_under n x t t-fits (Some u) fits le = made.cell_rises n t u t-fits fits le x

    flow_cell : (x : ℕ) (r : V) (q : Option V) → CellBelow states suits sys parts place x q (Some r)
        → parts.cell_leq (cell_of q x) (parts.cell r x)
    unfolding cell_of
    flow_cell x r None flow = absurd flow
    flow_cell x r (Some q) flow = flow

    -- the state of the fronts lies below that of the table
    below_low : (n : ℕ) → n < sys.node_count → (s : V) → StateAt (fronts_of low) n s → (y : Option V) → low n ≡ y
        → IfSome y (suits n) → Below (Some s) y
    below_low n lt s at None is fits =
        absurd (none-some (parts.front s) (ap (option_map parts.front) (sym is) ∙ at.front))
    below_low n lt s at (Some r) is fits =
        made.below n s r at.fits fits
        (subst (λ y. IsBelow parts.front_leq (Some (parts.front s)) (option_map parts.front y)) is
        (subst (IsBelow parts.front_leq (Some (parts.front s))) (sym at.front)
        (made.front_rises n s s at.fits at.fits (order.reflexive s (law.value n s at.fits)))))
        (λ x. subst (λ c. parts.cell_leq c (parts.cell r x)) (sym (at.cells x))
        (flow_cell x r (low (place.kept_at n x))
        (subst (CellBelow states suits sys parts place x (low (place.kept_at n x))) is (flows n x lt))))

    is_led : (t : V) (y : Option V) → Below (Some t) y → is_some y ≡ true
    is_led t None le = absurd le
    is_led t (Some u) le = refl

    by_row : (e : ℕ) → e < edges → (s : V) → suits (from e) s → (x : Option V) → low (from e) ≡ x
        → IfSome x (suits (from e)) → Below (Some s) x → (y : Option V) → sys.after e s ≡ y
        → IfSome y (Arrived (fronts_of low) e)
    by_row e lt s s-fits None is fits le y brings = absurd le
    by_row e lt s s-fits (Some r) is fits le None brings = tt
    by_row e lt s s-fits (Some r) is fits le (Some t) brings =
        let to-lt = law.to_node e lt in
        let t-fits : suits (to e) t = subst (λ a. IfSome a (suits (to e))) brings (law.after_fits e s lt s-fits) in
        let rises : Below (Some t) (sys.after e r) =
        subst (λ a. Below a (sys.after e r)) brings (law.monotone e s r lt s-fits fits le) in
        let meets : Below (sys.after e r) (low (to e)) =
        subst (λ a. Below (brought (sys.after e) a) (low (to e))) is (solved.edges e lt) in
        let reaches : Below (Some t) (low (to e)) =
        closing.transitive states suits sys order join law (to e) (Some t) (sys.after e r) (low (to e)) t-fits
        (law.after_fits e r lt fits) (solved.started.fits (to e) to-lt) rises meets in
        record {
          front = front_under (to e) t t-fits (low (to e)) (solved.started.fits (to e) to-lt) reaches;
          opened = subst (λ a. is_some (brought (sys.after e) a) ≡ true) (sym is) (is_led t (sys.after e r) rises);
          touched = λ x touched. cell_under (to e) x t t-fits (low (to e)) (solved.started.fits (to e) to-lt) reaches;
        }

    -- what is at most a cell is carried to at most what that is carried to
    carried_below : (e x k : ℕ) → e < edges → (q r u : V) → suits k q → suits (from e) r → suits (to e) u
        → parts.cell_leq (parts.cell q x) (parts.cell r x)
        → parts.cell_leq (Carried e x (parts.cell r x)) (parts.cell u x)
        → parts.cell_leq (Carried e x (parts.cell q x)) (parts.cell u x)
    carried_below e x k lt q r u q-fits r-fits u-fits flow le =
        cond_both (place.carries e x) (parts.carry e x (parts.cell q x)) (parts.cell q x)
        (λ c. parts.cell_leq c (parts.cell u x))
        (λ is. filled.carries e x k q r u lt is q-fits r-fits u-fits flow
        (subst (λ c. parts.cell_leq c (parts.cell u x))
        (cond-true (place.carries e x) (parts.carry e x (parts.cell r x)) (parts.cell r x) is) le))
        (λ other. made.cell_transitive k (from e) (to e) q r u q-fits r-fits u-fits x flow
        (subst (λ c. parts.cell_leq c (parts.cell u x))
        (cond-false (place.carries e x) (parts.carry e x (parts.cell r x)) (parts.cell r x) other) le))

    last_flow : (e x k : ℕ) → e < edges → (r t : V) → suits (from e) r → suits (to e) t
        → parts.cell t x ≡ Carried e x (parts.cell r x)
        → (q u : Option V) → IfSome q (suits k) → IfSome u (suits (to e))
        → CellBelow states suits sys parts place x q (Some r) → Below (Some t) u
        → parts.cell_leq (Carried e x (cell_of q x)) (cell_of u x)
    unfolding cell_of
    last_flow e x k lt r t r-fits t-fits same None u q-fits u-fits flow le = absurd flow
    last_flow e x k lt r t r-fits t-fits same (Some q) None q-fits u-fits flow le = absurd le
    last_flow e x k lt r t r-fits t-fits same (Some q) (Some u) q-fits u-fits flow le =
        carried_below e x k lt q r u q-fits r-fits u-fits flow
        (subst (λ c. parts.cell_leq c (parts.cell u x)) same (made.cell_rises (to e) t u t-fits u-fits le x))

    by_flow : (e x : ℕ) → e < edges → place.touches e x ≡ false → (y : Option V) → low (from e) ≡ y
        → IfSome y (suits (from e)) → (z : Option V) → brought (sys.after e) y ≡ z → is_some z ≡ true
        → parts.cell_leq (Carried e x (cell_of (low (place.kept_at (from e) x)) x)) (cell_of (low (to e)) x)
    by_flow e x lt passed None is fits None brings opened = absurd (false≢true opened)
    by_flow e x lt passed None is fits (Some t) brings opened = absurd (none-some t brings)
    by_flow e x lt passed (Some r) is fits None brings opened = absurd (false≢true opened)
    by_flow e x lt passed (Some r) is fits (Some t) brings opened =
        let k = place.kept_at (from e) x in
        let from-lt = law.from_node e lt in
        let to-lt = law.to_node e lt in
        last_flow e x k lt r t fits (subst (λ a. IfSome a (suits (to e))) brings (law.after_fits e r lt fits))
        (subst (λ a. CarriesCell states suits sys parts place e x r a) brings (framed e lt r is x passed))
        (low k) (low (to e)) (solved.started.fits k (placed.within (from e) x from-lt))
        (solved.started.fits (to e) to-lt)
        (subst (CellBelow states suits sys parts place x (low k)) is (flows (from e) x from-lt))
        (subst (λ a. Below a (low (to e))) brings
        (subst (λ a. Below (brought (sys.after e) a) (low (to e))) is (solved.edges e lt)))

    round_low : (n x : ℕ) → n < sys.node_count → place.owns n x ≡ true → (s : V) → StateAt (fronts_of low) n s
        → (y : Option V) → low n ≡ y → IfSome y (suits n) → IfSome y (λ v. sys.outward n v ≡ v)
        → parts.cell (sys.outward n s) x ≡ parts.cell s x
    unfolding cell_of
    round_low n x lt own s at None is fits round =
        absurd (none-some (parts.front s) (ap (option_map parts.front) (sym is) ∙ at.front))
    round_low n x lt own s at (Some r) is fits round =
        let same : parts.cell s x ≡ parts.cell r x =
        at.cells x ∙ ap (λ m. cell_of (low m) x) (placed.own n x own) ∙ ap (λ y. cell_of y x) is in
        filled.rounds n x s r at.fits fits same ∙ ap (λ v. parts.cell v x) round ∙ sym same

    entered_low : (x : Option V) → IfSome x (suits 0) → Below x (low 0)
        → IfSome x (IsEntered states suits sys parts place is_cell (fronts_of low))
    entered_low None fits le = tt
    entered_low (Some s) fits le = record {
      front = front_under 0 s fits (low 0) (solved.started.fits 0 law.some_node) le;
      cells = λ x. cell_under 0 x s fits (low 0) (solved.started.fits 0 law.some_node) le;
    }

    pub low_met : Met (fronts_of low)
    low_met = record {
      entry = entered_low sys.entry law.entry_fits (solved.started.entry 0 law.some_node);
      rows = λ e lt s at.
          let from-lt = law.from_node e lt in
          by_row e lt s at.fits (low (from e)) refl (solved.started.fits (from e) from-lt)
          (below_low (from e) from-lt s at (low (from e)) refl (solved.started.fits (from e) from-lt))
          (sys.after e s) refl;
      flows = λ e x lt opened own passed.
          by_flow e x lt passed (low (from e)) refl (solved.started.fits (from e) (law.from_node e lt))
          (along states suits sys e low) refl opened;
      round = λ n x s lt own at.
          round_low n x lt own s at (low n) refl (solved.started.fits n lt) (solved.started.round n lt);
    }

    -- fronts and slots below those of the table make a table below it in what nodes own
    own_at : (a : Fronts F D) → AreBelow states suits sys parts place is_cell a (fronts_of low) → (n : ℕ)
        → n < sys.node_count → (x y : Option V) → IsStandingAt states suits sys parts place is_cell a n x → low n ≡ y
        → IsOwnBelow states suits sys parts place n x y
    unfolding cell_of
    own_at a le n lt None y at is = tt
    own_at a le n lt (Some s) None at is =
        absurd (subst (λ v. IsBelow parts.front_leq (Some (parts.front s)) (option_map parts.front v)) is
        (subst (λ f. IsBelow parts.front_leq f (option_map parts.front (low n))) at.front (le.front n lt)))
    own_at a le n lt (Some s) (Some r) at is = record {
      front = subst (λ v. IsBelow parts.front_leq (Some (parts.front s)) (option_map parts.front v)) is
          (subst (λ f. IsBelow parts.front_leq f (option_map parts.front (low n))) at.front (le.front n lt));
      cells = λ x own.
          subst (λ v. parts.cell_leq (parts.cell s x) (cell_of v x)) is
          (subst (λ c. parts.cell_leq c (cell_of (low n) x))
          (sym (at.cells x ∙ ap (λ m. a.slot_of m x) (placed.own n x own))) (le.slot n x lt own));
    }

    -- The fronts and slots of a table below lie below those from which the other table is made.
    module _ (a : Fronts F D) (table : NodeTable V) (met : Met a)
        (expanded : IsExpanded states suits sys parts place is_cell a table)
        (fits : AreFitting states suits sys table)
        (below : (n : ℕ) → n < sys.node_count → Below (low n) (table n)) where
      front_low : (n : ℕ) (y z : Option V) → IfSome y (suits n) → IfSome z (suits n)
          → IsStandingAt states suits sys parts place is_cell a n z → Below y z
          → IsBelow parts.front_leq (option_map parts.front y) (a.front_of n)
      front_low n None z y-fits z-fits at le = tt
      front_low n (Some r) None y-fits z-fits at le = absurd le
      front_low n (Some r) (Some s) y-fits z-fits at le =
          subst (IsBelow parts.front_leq (Some (parts.front r))) (sym at.front)
          (made.front_rises n r s y-fits z-fits le)

      slot_low : (n x : ℕ) → place.owns n x ≡ true → (y z : Option V) → IfSome y (suits n) → IfSome z (suits n)
          → IsStandingAt states suits sys parts place is_cell a n z → Below y z
          → parts.cell_leq (cell_of y x) (a.slot_of n x)
      unfolding cell_of
      slot_low n x own None z y-fits z-fits at le = filled.nothing (a.slot_of n x)
      slot_low n x own (Some r) None y-fits z-fits at le = absurd le
      slot_low n x own (Some r) (Some s) y-fits z-fits at le =
          subst (parts.cell_leq (parts.cell r x)) (at.cells x ∙ ap (λ m. a.slot_of m x) (placed.own n x own))
          (made.cell_rises n r s y-fits z-fits le x)

      led_on : (e : ℕ) (y z : Option V) → is_some y ≡ true → Below y z → IfSome z (Arrived a e) → a.is_open e ≡ true
      led_on e None z led le h = absurd (false≢true led)
      led_on e (Some t) None led le h = absurd le
      led_on e (Some t) (Some u) led le h = h.opened

      open_low : (e : ℕ) → e < edges → (y z : Option V) → IfSome y (suits (from e)) → IfSome z (suits (from e))
          → IsStandingAt states suits sys parts place is_cell a (from e) z → Below y z
          → is_some (brought (sys.after e) y) ≡ true → a.is_open e ≡ true
      open_low e lt None z y-fits z-fits at le led = absurd (false≢true led)
      open_low e lt (Some r) None y-fits z-fits at le led = absurd le
      open_low e lt (Some r) (Some s) y-fits z-fits at le led =
          led_on e (sys.after e r) (sys.after e s) led (law.monotone e r s lt y-fits z-fits le) (met.rows e lt s at)

      pub low_under : AreBelow states suits sys parts place is_cell (fronts_of low) a
      low_under = record {
        front = λ n lt. front_low n (low n) (table n) (solved.started.fits n lt) (fits n lt) (expanded n lt)
            (below n lt);
        opened = λ e lt led.
            let n = from e in
            let n-lt = law.from_node e lt in
            open_low e lt (low n) (table n) (solved.started.fits n n-lt) (fits n n-lt) (expanded n n-lt) (below n n-lt)
            led;
        slot = λ n x lt own.
            slot_low n x own (low n) (table n) (solved.started.fits n lt) (fits n lt) (expanded n lt) (below n lt);
      }

    module _ (fits_front : ℕ → F → Type 0) (fits_cell : ℕ → ℕ → D → Type 0)
        (fitted : Fitted fits_front fits_cell (IsStateOf low)) where
      front_fits : (n : ℕ) → n < sys.node_count → (y : Option V) → low n ≡ y
          → IfSome (option_map parts.front y) (fits_front n)
      front_fits n lt None is = tt
      front_fits n lt (Some s) is = fitted.front n s (lt, is)

      slot_fits : (n x : ℕ) → n < sys.node_count → (y : Option V) → low n ≡ y → IfSome (cell_of y x) (fits_cell n x)
      unfolding cell_of
      slot_fits n x lt None is = tt
      slot_fits n x lt (Some s) is = fitted.cell n x s (lt, is)

      pub low_fits : Fit fits_front fits_cell (fronts_of low)
      low_fits = record {
        front = λ n lt. front_fits n lt (low n) refl;
        slot = λ n x lt own. slot_fits n x lt (low n) refl;
      }

  -- ## The law

  module _ (fits_front : ℕ → F → Type 0) (fits_cell : ℕ → ℕ → D → Type 0) where
    -- The table of the least fronts and slots, whose edges are framed, is the least solution, if that is framed and
    -- what stands in it fits.
    pub least_fronts_are_least : (a : Fronts F D) → Least fits_front fits_cell a
        → (table : NodeTable V) → IsExpanded states suits sys parts place is_cell a table
        → IsFramedIn states suits sys parts place table
        → IsFramedIn states suits sys parts place (least_of states suits sys)
        → Fitted fits_front fits_cell (IsStateOf (least_of states suits sys))
        → IsLeastSolution states suits sys table
    least_fronts_are_least a least-fronts table expanded framed low-framed fitted =
        let low = least_of states suits sys in
        let sparse = expanded_is_closed a table least-fronts.met
        (λ n f lt is. least_is_full fits_front fits_cell (IsStateOf low) fitted a least-fronts n f lt is)
        expanded framed in
        let solved = closed.sparse_is_closed states suits sys parts place order law made placed table sparse in
        let solves = closing.closed_solves states suits sys order join law table solved in
        let low-least = iterates.least_is_least states suits sys order join law in
        let flows = flowing.least_flows states suits sys parts place order join law made placed low low-least
        low-framed in
        let low-closed = closing.least_is_closed states suits sys order join law low low-least in
        let below-fronts = least-fronts.below (fronts_of low)
        (low_fits low low-closed flows low-framed fits_front fits_cell fitted)
        (low_met low low-closed flows low-framed)
        (low_under low low-closed flows low-framed a table least-fronts.met expanded sparse.fits
        (low-least.below table solves)) in
        let below = least.own_suffices states suits sys parts place order join law made placed table low sparse.fits
        low-least.solves.fits sparse.thin flows
        (λ n lt. own_at low low-closed flows low-framed a below-fronts n lt (table n) (low n) (expanded n lt) refl) in
        record {
          solves = solves;
          below = λ other other-solves n lt.
              closing.transitive states suits sys order join law n (table n) (low n) (other n)
              (sparse.fits n lt) (low-least.solves.fits n lt) (other-solves.fits n lt) (below n lt)
              (low-least.below other other-solves n lt);
        }

    -- The same where edges are framed in states below the table that keep a property, and what stands in those that are
    -- their own roundings fits.
    pub least_fronts_are_least_kept : (kept : ℕ → V → Type 0) (a : Fronts F D)
        → Least fits_front fits_cell a → (table : NodeTable V)
        → IsExpanded states suits sys parts place is_cell a table → IsFramedIn states suits sys parts place table
        → IsKept states suits sys kept table
        → bounded.IsFramedKept states suits sys parts place kept table order join law made placed
        → Fitted fits_front fits_cell (IsRoundKept states suits sys parts place is_cell kept)
        → IsLeastSolution states suits sys table
    least_fronts_are_least_kept kept a least-fronts table expanded framed keeps kept-framed fitted =
        let sparse = expanded_is_closed a table least-fronts.met
        (λ n f lt is. least_is_full fits_front fits_cell (IsRoundKept states suits sys parts place is_cell kept) fitted
        a least-fronts n f lt is)
        expanded framed in
        let solved = closed.sparse_is_closed states suits sys parts place order law made placed table sparse in
        let under = bounded.lawful_under states suits sys kept table order join law keeps solved in
        let low = iterates.least_is_least states (IsKeptUnder states suits sys kept table) sys order join under in
        let low-closed = closing.least_is_closed states (IsKeptUnder states suits sys kept table) sys order join under
        (least_of states suits sys) low in
        let of_low : (n : ℕ) (s : V) → IsStateOf (least_of states suits sys) n s
        → IsRoundKept states suits sys parts place is_cell kept n s = λ n s at.
        let here = subst (λ y. IfSome y (IsKeptUnder states suits sys kept table n)) at.1 (low.solves.fits n at.0) in
        record {
          node = at.0;
          fits = here.fits;
          is = here.is;
          round = subst (λ y. IfSome y (λ v. sys.outward n v ≡ v)) at.1 (low-closed.started.round n at.0);
        } in
        least_fronts_are_least a least-fronts table expanded framed
        (λ e lt s at. kept-framed e lt s
        (subst (λ y. IfSome y (IsKeptUnder states suits sys kept table (from e))) at
        (low.solves.fits (from e) (law.from_node e lt))))
        record {
          front_reflexive = fitted.front_reflexive;
          cell_reflexive = fitted.cell_reflexive;
          front = λ n s at. fitted.front n s (of_low n s at);
          cell = λ n x s at. fitted.cell n x s (of_low n s at);
        }
