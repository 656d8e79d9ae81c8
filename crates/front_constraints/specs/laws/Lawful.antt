-- The constraints of fronts and slots are lawful, at every assignment that fits: rows are applied to states that are
-- made of what they read and a scratch state, so that they are monotone and read nothing else.
use Rattle.std.proofs.Common.{◌≡◌, ℕ, zero, suc, ◌<◌, Bool, true, false, cond, List, length, get_or, Option}
use Rattle.std.proofs.Common.{Some, None, IfSome, sym, ap, subst, ◌∙◌, refl, inl, inr, arith}
use Rattle.std.specs.Prelude.{[], ◌∷◌, map, is_some, MatchOption}
use Rattle.std.specs.Option.{option_map}
use Rattle.std.specs.List.{list_all}
use Rattle.std.proofs.lemmas.Bool.{cases_Bool, true≢false, false≢true, and_from, and_parts, eq-eqb}
use Rattle.std.proofs.lemmas.Bool.{cond_both, cond-true, cond-false}
use Rattle.std.proofs.lemmas.List.{length-map, get_or-map}
use Rattle.sparse_tables.specs.table_covers.tm_lattice.declared.lattices.Lattice as lattice
use Rattle.sparse_tables.specs.table_covers.tm_lattice.Tables.{IsBelow}
use Rattle.sparse_tables.specs.table_covers.Solutions.{brought}
use Rattle.sparse_tables.specs.table_covers.laws.Closing as closing
use Rattle.least_assignments.specs.Constraints.{Assignment, Constraints, AreLawful, AreFitting, AgreeFor}
use Rattle.least_assignments.specs.Constraints.{IsPointwiseBelow}
use Rattle.least_assignments.specs.Constraints.{target, target_count}
use Rattle.front_constraints.specs.declared.standings.Standing.{Standing}
use Rattle.front_constraints.specs.Standings.{holding, front_in, cell_in, HasParts, IsStandingBelow}
use Rattle.front_constraints.specs.Standings.{joined_standing, changed_standing}
use Rattle.front_constraints.specs.Systems.{SparseSystem, Variable, front_at, open_at, slot_at, Rule, entered, row}
use Rattle.front_constraints.specs.Systems.{flow}
use Rattle.front_constraints.specs.Systems.{nodes, edges, from, to, owns, touches, kept_at, is_looked}
use Rattle.front_constraints.specs.Systems.{IsVariable, IsRule}
use Rattle.front_constraints.specs.Rules.{standing, seen_at, seen, is_ready, small, small_at, part_of, targets_of}
use Rattle.front_constraints.specs.Rules.{brings, carried_along}
use Rattle.front_constraints.specs.Rules.{passed, is_read, rounded_cell_at, front_limit_at, cell_limit_at}
use Rattle.front_constraints.specs.Rules.{front_constraints}
use Rattle.front_constraints.specs.Rules.{FitsFrontAt, FitsCellAt, FitsVariable, AllowsRule, Allows}
use Rattle.front_constraints.specs.Premises.{IsSparseSystem}
use Rattle.front_constraints.specs.laws.Options.{AreOptions, are_options, no_values, no_rounding}

-- ## Lists

pub at_member : (p : ℕ → Bool) (xs : List ℕ) → list_all p xs ≡ true → (j : ℕ) → j < length xs → p (get_or xs j 0) ≡ true
at_member p [] all j lt = absurd (omega (arith, lt))
at_member p (x ∷ xs) all zero lt = (and_parts (p x) (list_all p xs) all).0
at_member p (x ∷ xs) all (suc j) lt = at_member p xs (and_parts (p x) (list_all p xs) all).1 j (omega (arith, lt))

pub all_members : (p : ℕ → Bool) (xs : List ℕ) → ((j : ℕ) → j < length xs → p (get_or xs j 0) ≡ true)
    → list_all p xs ≡ true
all_members p [] at = refl
all_members p (x ∷ xs) at =
    and_from (p x) (list_all p xs) (at 0 (omega arith)) (all_members p xs (λ j lt. at (suc j) (omega (arith, lt))))

slots_are : (n : ℕ) (P : Variable → Type 0) (xs : List ℕ) → ((j : ℕ) → j < length xs → P (slot_at n (get_or xs j 0)))
    → (j : ℕ) → j < length (map (slot_at n) xs) → P (get_or (map (slot_at n) xs) j (front_at 0))
slots_are n P [] at j lt = absurd (omega (arith, lt))
slots_are n P (x ∷ xs) at zero lt = at 0 (omega arith)
slots_are n P (x ∷ xs) at (suc j) lt =
    slots_are n P xs (λ i i-lt. at (suc i) (omega (arith, i-lt))) j (omega (arith, lt))

-- ## Options and tests

pub if_cond : {A : Type 0} (P : A → Type 0) (b : Bool) (s : A) → (b ≡ true → P s) → IfSome (cond b (Some s) None) P
if_cond P true s h = h refl
if_cond P false s h = tt

pub cond_same : {A : Type 0} (b : Bool) (u w s : A) → (b ≡ true → u ≡ w) → cond b u s ≡ cond b w s
cond_same true u w s h = h refl
cond_same false u w s h = refl

pub matched : {A : Type 0} (P : A → Type 0) (y : Option A) → is_some y ≡ true → IfSome y P → MatchOption y ⊥ P
matched P None there h = absurd (false≢true there)
matched P (Some a) there h = h

pub none_of : {A : Type 0} (P : A → Type 0) (b : Bool) (y : Option A)
    → MatchOption y (b ≡ false) (λ d. (b ≡ true) × P d) → b ≡ false → y ≡ None
none_of P b None h other = refl
none_of P b (Some d) h other = absurd (true≢false (sym h.0 ∙ other))

there_rises : {A : Type 0} (leq : A → A → Type 0) (y z : Option A) → IsBelow leq y z → is_some y ≡ true
    → is_some z ≡ true
there_rises leq None z le there = absurd (false≢true there)
there_rises leq (Some a) None le there = absurd le
there_rises leq (Some a) (Some b) le there = refl

module _ {V F D L M N : Type 0} (states : lattice.Ghosts V L) (fronts : lattice.Ghosts F M) (cells : lattice.Ghosts D N)
    (suits : ℕ → V → Type 0) (fits_front : ℕ → F → Type 0) (fits_cell : ℕ → D → Type 0) (sys : SparseSystem V F D)
    (is : IsSparseSystem states fronts cells suits fits_front fits_cell sys) where
  abbrev S : Type 0
  S = Standing F D

  abbrev system : Constraints S
  system = front_constraints sys

  abbrev FrontOk : Variable → F → Type 0
  FrontOk v f = FitsFrontAt sys fits_front fits_cell v f

  abbrev CellOk : Variable → D → Type 0
  CellOk v d = FitsCellAt sys fits_front fits_cell v d

  abbrev pub FitsAt : Variable → S → Type 0
  FitsAt v w = HasParts (FrontOk v) (CellOk v) w

  abbrev pub Fitting : Assignment S → Type 0
  Fitting a = AreFitting system (FitsVariable sys fits_front fits_cell) a

  abbrev pub Below : Option S → Option S → Type 0
  Below y z = IsBelow (IsStandingBelow fronts.leq cells.leq) y z

  abbrev pub Under : Assignment S → Assignment S → Type 0
  Under a b = IsPointwiseBelow system (IsStandingBelow fronts.leq cells.leq) a b

  abbrev number : Variable → ℕ
  number v = sys.numbers.number v

  -- ## What stands at variables

  pub standing_fits : (a : Assignment S) → Fitting a → (v : Variable) → IsVariable sys v
      → IfSome (standing sys a v) (FitsAt v)
  standing_fits a fits v is-v =
      let at = is.numbered.number v is-v in
      subst (λ w. IfSome (standing sys a v) (FitsAt w)) at.1 (fits (number v) at.0)

  pub standing_below : (a b : Assignment S) → Under a b → (v : Variable) → IsVariable sys v
      → Below (standing sys a v) (standing sys b v)
  standing_below a b le v is-v = le (number v) (is.numbered.number v is-v).0

  pub front_fits : (n : ℕ) (y : Option S) → IfSome y (FitsAt (front_at n)) → IfSome (front_in y) (fits_front n)
  front_fits n None h = tt
  front_fits n (Some w) h = h.front

  pub cell_fits : (n x : ℕ) (y : Option S) → IfSome y (FitsAt (slot_at n x)) → IfSome (cell_in y) (fits_cell x)
  cell_fits n x None h = tt
  cell_fits n x (Some w) h = h.cell

  pub front_below : (y z : Option S) → Below y z → IsBelow fronts.leq (front_in y) (front_in z)
  front_below None z le = tt
  front_below (Some v) None le = absurd le
  front_below (Some v) (Some w) le = le.front

  pub cell_below : (y z : Option S) → Below y z → IsBelow cells.leq (cell_in y) (cell_in z)
  cell_below None z le = tt
  cell_below (Some v) None le = absurd le
  cell_below (Some v) (Some w) le = le.cell

  -- the one assignment is below the other at each variable, by its number
  abbrev pub BelowAt : Assignment S → Assignment S → Type 0
  BelowAt a b = (v : Variable) → IsVariable sys v → Below (standing sys a v) (standing sys b v)

  -- where a cell is kept there is a slot
  pub kept_slot : (n x : ℕ) → n < nodes sys → sys.is_cell x ≡ true → IsVariable sys (slot_at (kept_at sys n x) x)
  kept_slot n x lt cell = (is.placed.within n x lt, cell, is.placed.kept n x lt)

  -- what an edge touches its end owns
  pub owned : (e x : ℕ) → e < edges sys → touches sys e x ≡ true → owns sys (to sys e) x ≡ true
  owned e x lt touched = elim (cases_Bool (owns sys (to sys e) x)) [
    | inl own ↦ own
    | inr other ↦ absurd (true≢false (sym touched ∙ is.placed.untouched e x lt other))
  ]

  -- ## Small states

  -- something that fits stands at each cell
  abbrev pub AreCells : (ℕ → Option D) → Type 0
  AreCells c = (x : ℕ) → sys.is_cell x ≡ true → MatchOption (c x) ⊥ (fits_cell x)

  pub looked_there : (e : ℕ) → e < edges sys → (c : ℕ → Option D) → is_ready sys e c ≡ true → (x : ℕ)
      → is_looked sys e x ≡ true → is_some (c x) ≡ true
  looked_there e lt c ready x looked =
      let at = (is.listed.looked e lt).all x looked in
      subst (λ y. is_some (c y) ≡ true) at.1.1 (at_member (λ y. is_some (c y)) (sys.looked e) ready at.0 at.1.0)

  pub is_ready_where : (e : ℕ) → e < edges sys → (c : ℕ → Option D)
      → ((x : ℕ) → is_looked sys e x ≡ true → is_some (c x) ≡ true) → is_ready sys e c ≡ true
  is_ready_where e lt c there =
      all_members (λ y. is_some (c y)) (sys.looked e)
      (λ j j-lt. there (get_or (sys.looked e) j 0) ((is.listed.looked e lt).within j j-lt))

  seen_cell_at : (e x : ℕ) → e < edges sys → (a : Assignment S) → Fitting a → sys.is_cell x ≡ true
      → (b : Bool) → (b ≡ true → is_some (cond b (seen_at sys e a x) (sys.scratch x)) ≡ true)
      → MatchOption (cond b (seen_at sys e a x) (sys.scratch x)) ⊥ (fits_cell x)
  seen_cell_at e x lt a fits cell true there =
      let k = kept_at sys (from sys e) x in
      let slot = slot_at k x in
      matched (fits_cell x) (seen_at sys e a x) (there refl)
      (cell_fits k x (standing sys a slot)
      (standing_fits a fits slot (kept_slot (from sys e) x (is.law.from_node e lt) cell)))
  seen_cell_at e x lt a fits cell false there = is.made.scratch_fits x cell

  pub seen_cells : (e : ℕ) → e < edges sys → (a : Assignment S) → Fitting a → is_ready sys e (seen sys e a) ≡ true
      → AreCells (seen sys e a)
  seen_cells e lt a fits ready x cell =
      seen_cell_at e x lt a fits cell (is_looked sys e x) (looked_there e lt (seen sys e a) ready x)

  pub small_fits : (e : ℕ) → e < edges sys → (y : Option F) → IfSome y (fits_front (from sys e)) → (c : ℕ → Option D)
      → (is_ready sys e c ≡ true → AreCells c) → IfSome (small sys e y c) (suits (from sys e))
  small_fits e lt None fits c cells-fit = tt
  small_fits e lt (Some f) fits c cells-fit =
      if_cond (suits (from sys e)) (is_ready sys e c) (sys.state_of f c)
      (λ ready. is.made.state_fits (from sys e) f c fits (cells-fit ready))

  pub leaving_fits : (e : ℕ) → e < edges sys → (a : Assignment S) → Fitting a
      → IfSome (front_in (standing sys a (front_at (from sys e)))) (fits_front (from sys e))
  leaving_fits e lt a fits =
      front_fits (from sys e) (standing sys a (front_at (from sys e)))
      (standing_fits a fits (front_at (from sys e)) (is.law.from_node e lt))

  pub small_at_fits : (e : ℕ) → e < edges sys → (a : Assignment S) → Fitting a
      → IfSome (small_at sys e a) (suits (from sys e))
  small_at_fits e lt a fits =
      small_fits e lt (front_in (standing sys a (front_at (from sys e)))) (leaving_fits e lt a fits) (seen sys e a)
      (seen_cells e lt a fits)

  pub none_at : (n x : ℕ) (s : V) → suits n s → sys.is_cell x ≡ false → sys.cell s x ≡ None
  none_at n x s fits other = none_of (fits_cell x) (sys.is_cell x) (sys.cell s x) (is.made.cell_fits n x s fits) other

  -- states that are made of more are above
  pub made_below : (n : ℕ) (f g : F) (c d : ℕ → Option D) → suits n (sys.state_of f c) → suits n (sys.state_of g d)
      → fronts.leq f g → ((x : ℕ) → sys.is_cell x ≡ true → IsBelow cells.leq (c x) (d x))
      → states.leq (sys.state_of f c) (sys.state_of g d)
  made_below n f g c d s-fits t-fits front-le cells-le =
      is.pieces.below n (sys.state_of f c) (sys.state_of g d) s-fits t-fits
      (subst (λ u. fronts.leq u (sys.front (sys.state_of g d))) (sym (is.made.front_is f c))
      (subst (λ u. fronts.leq f u) (sym (is.made.front_is g d)) front-le))
      (λ x. elim (cases_Bool (sys.is_cell x)) [
        | inl cell ↦ subst (λ u. IsBelow cells.leq u (sys.cell (sys.state_of g d) x)) (sym (is.made.cell_is f c x cell))
            (subst (λ u. IsBelow cells.leq (c x) u) (sym (is.made.cell_is g d x cell)) (cells-le x cell))
        | inr other ↦ subst (λ u. IsBelow cells.leq u (sys.cell (sys.state_of g d) x))
            (sym (none_at n x (sys.state_of f c) s-fits other)) tt
      ])

  cond_below : (b b' : Bool) (s t : V) → (b ≡ true → b' ≡ true) → (b ≡ true → b' ≡ true → states.leq s t)
      → IsBelow states.leq (cond b (Some s) None) (cond b' (Some t) None)
  cond_below false b' s t on le = tt
  cond_below true false s t on le = absurd (false≢true (on refl))
  cond_below true true s t on le = le refl refl

  pub small_rises : (e : ℕ) → e < edges sys → (y z : Option F) → IfSome y (fits_front (from sys e))
      → IfSome z (fits_front (from sys e)) → IsBelow fronts.leq y z → (c d : ℕ → Option D)
      → (is_ready sys e c ≡ true → AreCells c) → (is_ready sys e d ≡ true → AreCells d)
      → ((x : ℕ) → sys.is_cell x ≡ true → IsBelow cells.leq (c x) (d x))
      → IsBelow states.leq (small sys e y c) (small sys e z d)
  small_rises e lt None z y-fits z-fits le c d c-fits d-fits cells-le = tt
  small_rises e lt (Some f) None y-fits z-fits le c d c-fits d-fits cells-le = absurd le
  small_rises e lt (Some f) (Some g) y-fits z-fits le c d c-fits d-fits cells-le =
      cond_below (is_ready sys e c) (is_ready sys e d) (sys.state_of f c) (sys.state_of g d)
      (λ ready. is_ready_where e lt d
      (λ x looked. there_rises cells.leq (c x) (d x) (cells-le x
      (and_parts (sys.is_cell x) (sys.place.looks e x) looked).0)
      (looked_there e lt c ready x looked)))
      (λ c-ready d-ready. made_below (from sys e) f g c d
      (is.made.state_fits (from sys e) f c y-fits (c-fits c-ready))
      (is.made.state_fits (from sys e) g d z-fits (d-fits d-ready)) le cells-le)

  scratch_below : (x : ℕ) (y : Option D) → MatchOption y ⊥ (fits_cell x) → IsBelow cells.leq y y
  scratch_below x None h = absurd h
  scratch_below x (Some d) h = is.cell_order.reflexive d ((is.cell_values x).value d h)

  seen_below_at : (e x : ℕ) → sys.is_cell x ≡ true → (a b : Assignment S) → (l : Bool)
      → IsBelow cells.leq (seen_at sys e a x) (seen_at sys e b x)
      → IsBelow cells.leq (cond l (seen_at sys e a x) (sys.scratch x)) (cond l (seen_at sys e b x) (sys.scratch x))
  seen_below_at e x cell a b true le = le
  seen_below_at e x cell a b false le = scratch_below x (sys.scratch x) (is.made.scratch_fits x cell)

  pub seen_below : (e : ℕ) → e < edges sys → (a b : Assignment S) → BelowAt a b → (x : ℕ) → sys.is_cell x ≡ true
      → IsBelow cells.leq (seen sys e a x) (seen sys e b x)
  seen_below e lt a b le x cell =
      let slot = slot_at (kept_at sys (from sys e) x) x in
      seen_below_at e x cell a b (is_looked sys e x)
      (cell_below (standing sys a slot) (standing sys b slot)
      (le slot (kept_slot (from sys e) x (is.law.from_node e lt) cell)))

  pub small_at_rises : (e : ℕ) → e < edges sys → (a b : Assignment S) → Fitting a → Fitting b → BelowAt a b
      → IsBelow states.leq (small_at sys e a) (small_at sys e b)
  small_at_rises e lt a b a-fits b-fits le =
      let v = front_at (from sys e) in
      small_rises e lt (front_in (standing sys a v)) (front_in (standing sys b v)) (leaving_fits e lt a a-fits)
      (leaving_fits e lt b b-fits)
      (front_below (standing sys a v) (standing sys b v) (le v (is.law.from_node e lt)))
      (seen sys e a) (seen sys e b) (seen_cells e lt a a-fits) (seen_cells e lt b b-fits) (seen_below e lt a b le)

  -- ## Parts of states

  -- the variable is one of the node
  abbrev pub IsPart : ℕ → Variable → Type 0
  IsPart n (front_at m) = m ≡ n
  IsPart n (open_at e) = Unit {0}
  IsPart n (slot_at m x) = m ≡ n

  cell_part : (m x : ℕ) (y : Option D)
      → MatchOption y (sys.is_cell x ≡ false) (λ d. (sys.is_cell x ≡ true) × fits_cell x d)
      → IfSome (option_map holding y) (FitsAt (slot_at m x))
  cell_part m x None h = tt
  cell_part m x (Some d) h = record { front = tt; cell = h.1 }

  part_fits : (n : ℕ) (y : Option V) → IfSome y (suits n) → (v : Variable) → IsPart n v
      → IfSome (part_of sys y v) (FitsAt v)
  part_fits n None fits v at = tt
  part_fits n (Some s) fits (front_at m) at = record {
    front = subst (λ k. fits_front k (sys.front s)) (sym at) (is.made.front_fits n s fits);
    cell = tt;
  }
  part_fits n (Some s) fits (open_at e) at = record { front = tt; cell = tt }
  part_fits n (Some s) fits (slot_at m x) at = cell_part m x (sys.cell s x) (is.made.cell_fits n x s fits)

  pub holding_rises : (y z : Option D) → IsBelow cells.leq y z → Below (option_map holding y) (option_map holding z)
  holding_rises None z le = tt
  holding_rises (Some d) None le = absurd le
  holding_rises (Some d) (Some e) le = record { front = tt; cell = le }

  pub part_rises : (n : ℕ) (y z : Option V) → IfSome y (suits n) → IfSome z (suits n) → IsBelow states.leq y z
      → (v : Variable) → Below (part_of sys y v) (part_of sys z v)
  part_rises n None z y-fits z-fits le v = tt
  part_rises n (Some s) None y-fits z-fits le v = absurd le
  part_rises n (Some s) (Some t) y-fits z-fits le (front_at m) =
      record { front = is.pieces.front_rises n s t y-fits z-fits le; cell = tt }
  part_rises n (Some s) (Some t) y-fits z-fits le (open_at e) = record { front = tt; cell = tt }
  part_rises n (Some s) (Some t) y-fits z-fits le (slot_at m x) =
      holding_rises (sys.cell s x) (sys.cell t x) (is.pieces.cell_rises n s t y-fits z-fits le x)

  -- ## What rules bring

  -- the rule brings something there
  abbrev pub IsTarget : Rule → Variable → Type 0
  IsTarget entered (front_at m) = m ≡ 0
  IsTarget entered (open_at d) = ⊥
  IsTarget entered (slot_at m x) = m ≡ 0
  IsTarget (row e) (front_at m) = m ≡ to sys e
  IsTarget (row e) (open_at d) = d ≡ e
  IsTarget (row e) (slot_at m x) = (m ≡ to sys e) × (touches sys e x ≡ true)
  IsTarget (flow e x) v = v ≡ slot_at (to sys e) x

  entry_part : (v : Variable) → IsTarget entered v → IsPart 0 v
  entry_part (front_at m) at = at
  entry_part (open_at d) at = tt
  entry_part (slot_at m x) at = at

  row_part : (e : ℕ) (v : Variable) → IsTarget (row e) v → IsPart (to sys e) v
  row_part e (front_at m) at = at
  row_part e (open_at d) at = tt
  row_part e (slot_at m x) at = at.0

  abbrev pub IsGood : Rule → Variable → Type 0
  IsGood r v = IsVariable sys v × IsTarget r v

  pub targets_are : (r : Rule) → IsRule sys r → (j : ℕ) → j < length (targets_of sys r)
      → IsGood r (get_or (targets_of sys r) j (front_at 0))
  targets_are entered is-r zero lt = (is.law.some_node, refl)
  targets_are entered is-r (suc j) lt =
      slots_are 0 (IsGood entered) sys.cells
      (λ i i-lt. ((is.law.some_node, is.listed.cells.within i i-lt, is.placed.entry (get_or sys.cells i 0)), refl)) j
      (omega (arith, lt))
  targets_are (row e) is-r zero lt = (is.law.to_node e is-r, refl)
  targets_are (row e) is-r (suc zero) lt = (is-r, refl)
  targets_are (row e) is-r (suc (suc j)) lt =
      slots_are (to sys e) (IsGood (row e)) (sys.touched e)
      (λ i i-lt.
      let x = get_or (sys.touched e) i 0 in
      let both = and_parts (sys.is_cell x) (touches sys e x) ((is.listed.touched e is-r).within i i-lt) in
      ((is.law.to_node e is-r, both.0, owned e x is-r both.1), (refl, both.1))) j (omega (arith, lt))
  targets_are (flow e x) is-r zero lt = ((is.law.to_node e is-r.0, is-r.1, is-r.2), refl)
  targets_are (flow e x) is-r (suc j) lt = absurd (omega (arith, lt))

  passed_fits : (e x m k : ℕ) (y z : Option S) → IfSome z (FitsAt (slot_at k x))
      → IfSome (passed y z) (FitsAt (slot_at m x))
  passed_fits e x m k None z h = tt
  passed_fits e x m k (Some w) None h = tt
  passed_fits e x m k (Some w) (Some u) h = record { front = h.front; cell = h.cell }

  passed_rises : (y y' z z' : Option S) → Below y y' → Below z z' → Below (passed y z) (passed y' z')
  passed_rises None y' z z' le le' = tt
  passed_rises (Some w) None z z' le le' = absurd le
  passed_rises (Some w) (Some w') z z' le le' = le'

  -- what is carried fits, and rises with what it is made of
  abbrev Carried : ℕ → ℕ → Option S → Option S
  Carried e x y = carried_along sys e x y

  changed_fits : (e x m : ℕ) → e < edges sys → sys.is_cell x ≡ true → sys.place.carries e x ≡ true → (y : Option S)
      → IfSome y (FitsAt (slot_at m x))
      → IfSome (option_map (changed_standing (λ f. f) (sys.carry e x)) y) (FitsAt (slot_at m x))
  changed_fits e x m lt cell carries None h = tt
  changed_fits e x m lt cell carries (Some w) h = record {
    front = none_fits w.front h.front;
    cell = fits_on w.cell h.cell;
  }
    where
      none_fits : (y : Option F) → IfSome y (FrontOk (slot_at m x))
          → IfSome (option_map (λ (f : F). f) y) (FrontOk (slot_at m x))
      none_fits None h = tt
      none_fits (Some f) h = h

      fits_on : (y : Option D) → IfSome y (fits_cell x) → IfSome (option_map (sys.carry e x) y) (fits_cell x)
      fits_on None h = tt
      fits_on (Some d) h = (is.carryings e x lt cell carries).carried d h

  carried_fits : (e x m : ℕ) → e < edges sys → sys.is_cell x ≡ true → (y : Option S) → IfSome y (FitsAt (slot_at m x))
      → IfSome (Carried e x y) (FitsAt (slot_at m x))
  carried_fits e x m lt cell y h =
      cond_both (sys.place.carries e x) (option_map (changed_standing (λ f. f) (sys.carry e x)) y) y
      (λ z. IfSome z (FitsAt (slot_at m x))) (λ carries. changed_fits e x m lt cell carries y h) (λ other. h)

  changed_rises : (e x m : ℕ) → e < edges sys → sys.is_cell x ≡ true → sys.place.carries e x ≡ true → (y z : Option S)
      → IfSome y (FitsAt (slot_at m x)) → IfSome z (FitsAt (slot_at m x)) → Below y z
      → Below (option_map (changed_standing (λ f. f) (sys.carry e x)) y)
      (option_map (changed_standing (λ f. f) (sys.carry e x)) z)
  changed_rises e x m lt cell carries None z h k le = tt
  changed_rises e x m lt cell carries (Some v) None h k le = absurd le
  changed_rises e x m lt cell carries (Some v) (Some w) h k le = record {
    front = none_rises v.front w.front le.front;
    cell = rises_on v.cell w.cell h.cell k.cell le.cell;
  }
    where
      none_rises : (y z : Option F) → IsBelow fronts.leq y z
          → IsBelow fronts.leq (option_map (λ (f : F). f) y) (option_map (λ (f : F). f) z)
      none_rises None z le = tt
      none_rises (Some f) None le = absurd le
      none_rises (Some f) (Some g) le = le

      rises_on : (y z : Option D) → IfSome y (fits_cell x) → IfSome z (fits_cell x) → IsBelow cells.leq y z
          → IsBelow cells.leq (option_map (sys.carry e x) y) (option_map (sys.carry e x) z)
      rises_on None z h k le = tt
      rises_on (Some c) None h k le = absurd le
      rises_on (Some c) (Some d) h k le = (is.carryings e x lt cell carries).rising c d h k le

  carried_rises : (e x m : ℕ) → e < edges sys → sys.is_cell x ≡ true → (y z : Option S)
      → IfSome y (FitsAt (slot_at m x)) → IfSome z (FitsAt (slot_at m x)) → Below y z
      → Below (Carried e x y) (Carried e x z)
  carried_rises e x m lt cell y z h k le = elim (cases_Bool (sys.place.carries e x)) [
    | inl carries ↦ subst (λ w. Below w (Carried e x z))
        (sym (cond-true (sys.place.carries e x) (option_map (changed_standing (λ f. f) (sys.carry e x)) y) y carries))
        (subst (λ w. Below (option_map (changed_standing (λ f. f) (sys.carry e x)) y) w)
        (sym (cond-true (sys.place.carries e x) (option_map (changed_standing (λ f. f) (sys.carry e x)) z) z carries))
        (changed_rises e x m lt cell carries y z h k le))
    | inr other ↦ subst (λ w. Below w (Carried e x z))
        (sym (cond-false (sys.place.carries e x) (option_map (changed_standing (λ f. f) (sys.carry e x)) y) y other))
        (subst (λ w. Below y w)
        (sym (cond-false (sys.place.carries e x) (option_map (changed_standing (λ f. f) (sys.carry e x)) z) z other))
        le)
  ]

  brought_fits : (e : ℕ) → e < edges sys → (a : Assignment S) → Fitting a
      → IfSome (brought (sys.equations.after e) (small_at sys e a)) (suits (to sys e))
  brought_fits e lt a fits =
      closing.brought_fits states suits sys.equations is.state_order is.state_join is.law e (small_at sys e a) lt
      (small_at_fits e lt a fits)

  brings_fits : (r : Rule) → IsRule sys r → (a : Assignment S) → Fitting a → (v : Variable) → IsTarget r v
      → IfSome (brings sys r a v) (FitsAt v)
  brings_fits entered is-r a fits v at = part_fits 0 sys.equations.entry is.law.entry_fits v (entry_part v at)
  brings_fits (row e) is-r a fits v at =
      part_fits (to sys e) (brought (sys.equations.after e) (small_at sys e a)) (brought_fits e is-r a fits) v
      (row_part e v at)
  brings_fits (flow e x) is-r a fits v at =
      let k = kept_at sys (from sys e) x in
      subst (λ w. IfSome (brings sys (flow e x) a v) (FitsAt w)) (sym at)
      (passed_fits e x (to sys e) k (standing sys a (open_at e)) (Carried e x (standing sys a (slot_at k x)))
      (carried_fits e x k is-r.0 is-r.1 (standing sys a (slot_at k x))
      (standing_fits a fits (slot_at k x) (kept_slot (from sys e) x (is.law.from_node e is-r.0) is-r.1))))

  brings_rise : (r : Rule) → IsRule sys r → (a b : Assignment S) → Fitting a → Fitting b → Under a b → (v : Variable)
      → Below (brings sys r a v) (brings sys r b v)
  brings_rise entered is-r a b a-fits b-fits le v =
      part_rises 0 sys.equations.entry sys.equations.entry is.law.entry_fits is.law.entry_fits
      (closing.reflexive states suits sys.equations is.state_order is.state_join is.law 0 sys.equations.entry
      is.law.entry_fits) v
  brings_rise (row e) is-r a b a-fits b-fits le v =
      part_rises (to sys e) (brought (sys.equations.after e) (small_at sys e a))
      (brought (sys.equations.after e) (small_at sys e b)) (brought_fits e is-r a a-fits) (brought_fits e is-r b b-fits)
      (closing.brought_rises states suits sys.equations is.state_order is.state_join is.law e (small_at sys e a)
      (small_at sys e b) is-r (small_at_fits e is-r a a-fits) (small_at_fits e is-r b b-fits)
      (small_at_rises e is-r a b a-fits b-fits (standing_below a b le))) v
  brings_rise (flow e x) is-r a b a-fits b-fits le v =
      let k = kept_at sys (from sys e) x in
      let slot = kept_slot (from sys e) x (is.law.from_node e is-r.0) is-r.1 in
      passed_rises (standing sys a (open_at e)) (standing sys b (open_at e))
      (Carried e x (standing sys a (slot_at k x))) (Carried e x (standing sys b (slot_at k x)))
      (standing_below a b le (open_at e) is-r.0)
      (carried_rises e x k is-r.0 is-r.1 (standing sys a (slot_at k x)) (standing sys b (slot_at k x))
      (standing_fits a a-fits (slot_at k x) slot) (standing_fits b b-fits (slot_at k x) slot)
      (standing_below a b le (slot_at k x) slot))

  -- ## What rules read

  abbrev AgreeAt : Rule → Assignment S → Assignment S → Type 0
  AgreeAt r a b = (v : Variable) → IsVariable sys v → is_read sys r v ≡ true → standing sys a v ≡ standing sys b v

  seen_same : (e : ℕ) → e < edges sys → (a b : Assignment S) → AgreeAt (row e) a b → (x : ℕ)
      → seen sys e a x ≡ seen sys e b x
  seen_same e lt a b agree x =
      let k = kept_at sys (from sys e) x in
      cond_same (is_looked sys e x) (seen_at sys e a x) (seen_at sys e b x) (sys.scratch x)
      (λ looked. ap cell_in (agree (slot_at k x)
      (kept_slot (from sys e) x (is.law.from_node e lt) (and_parts (sys.is_cell x) (sys.place.looks e x) looked).0)
      (and_from (is_looked sys e x) _ looked (eq-eqb k k refl))))

  small_same : (e : ℕ) → e < edges sys → (a b : Assignment S) → AgreeAt (row e) a b
      → small_at sys e a ≡ small_at sys e b
  small_same e lt a b agree =
      let v = front_at (from sys e) in
      let same : seen sys e a ≡ seen sys e b = λ i x. seen_same e lt a b agree x i in
      ap (λ y. small sys e (front_in y) (seen sys e a))
      (agree v (is.law.from_node e lt) (eq-eqb (from sys e) (from sys e) refl))
      ∙ ap (small sys e (front_in (standing sys b v))) same

  brings_same : (r : Rule) → IsRule sys r → (a b : Assignment S) → AgreeAt r a b → (v : Variable)
      → brings sys r a v ≡ brings sys r b v
  brings_same entered is-r a b agree v = refl
  brings_same (row e) is-r a b agree v =
      ap (λ y. part_of sys (brought (sys.equations.after e) y) v) (small_same e is-r a b agree)
  brings_same (flow e x) is-r a b agree v =
      let k = kept_at sys (from sys e) x in
      ap (λ y. passed y (Carried e x (standing sys a (slot_at k x)))) (agree (open_at e) is-r.0 (eq-eqb e e refl))
      ∙ ap (λ y. passed (standing sys b (open_at e)) (Carried e x y)) (agree (slot_at k x)
      (kept_slot (from sys e) x (is.law.from_node e is-r.0) is-r.1)
      (and_from _ _ (eq-eqb x x refl) (eq-eqb k k refl)))

  allows_same : (checks : ℕ → V → Type 0) (r : Rule) → IsRule sys r → (a b : Assignment S) → AgreeAt r a b
      → AllowsRule sys checks r a → AllowsRule sys checks r b
  allows_same checks entered is-r a b agree h = tt
  allows_same checks (row e) is-r a b agree h = subst (λ y. IfSome y (checks e)) (small_same e is-r a b agree) h
  allows_same checks (flow e x) is-r a b agree h = tt

  -- ## What stands at a variable is a lattice

  front_options : (v : Variable) → AreOptions fronts (FrontOk v) sys.front_height (front_limit_at sys v) (λ f. f)
  front_options (front_at n) =
      are_options fronts (fits_front n) sys.front_height (sys.front_limit n) (λ f. f) is.front_order (is.front_values n)
      (no_rounding fronts (fits_front n) (λ f fits. is.front_order.reflexive f ((is.front_values n).value f fits)))
  front_options (open_at e) =
      are_options fronts (λ f. ⊥) sys.front_height 0 (λ f. f) is.front_order (no_values fronts sys.front_height)
      (no_rounding fronts (λ f. ⊥) (λ f fits. absurd fits))
  front_options (slot_at n x) =
      are_options fronts (λ f. ⊥) sys.front_height 0 (λ f. f) is.front_order (no_values fronts sys.front_height)
      (no_rounding fronts (λ f. ⊥) (λ f fits. absurd fits))

  cell_options : (v : Variable)
      → AreOptions cells (CellOk v) sys.cell_height (cell_limit_at sys v) (rounded_cell_at sys v)
  cell_options (front_at n) =
      are_options cells (λ d. ⊥) sys.cell_height 0 (λ d. d) is.cell_order (no_values cells sys.cell_height)
      (no_rounding cells (λ d. ⊥) (λ d fits. absurd fits))
  cell_options (open_at e) =
      are_options cells (λ d. ⊥) sys.cell_height 0 (λ d. d) is.cell_order (no_values cells sys.cell_height)
      (no_rounding cells (λ d. ⊥) (λ d fits. absurd fits))
  cell_options (slot_at n x) =
      are_options cells (fits_cell x) sys.cell_height (sys.cell_limit x) (sys.outward n x) is.cell_order
      (is.cell_values x)
      (is.roundings n x)

  abbrev at : ℕ → Variable
  at i = sys.numbers.variable i

  -- ## The constraints are lawful

  module _ (k j : ℕ) (lt : k < sys.numbers.constraint_count) (j-lt : j < target_count system k) where
    abbrev pub rule : Rule
    rule = sys.numbers.rule k

    abbrev pub to_variable : Variable
    to_variable = get_or (targets_of sys rule) j (front_at 0)

    pub within : j < length (targets_of sys rule)
    within = subst (λ m. j < m) (length-map (targets_of sys rule) sys.numbers.number) j-lt

    pub good : IsGood rule to_variable
    good = targets_are rule (is.numbered.rule k lt) j within

    pub target_is : target system k j ≡ number to_variable
    target_is = get_or-map sys.numbers.number (targets_of sys rule) j (front_at 0) 0 within

    target_within : target system k j < sys.numbers.variable_count
    target_within = subst (λ i. i < sys.numbers.variable_count) (sym target_is)
        (is.numbered.number to_variable good.0).0

    gives_fits : (a : Assignment S) → Fitting a
        → IfSome (system.gives k a j) (FitsVariable sys fits_front fits_cell (target system k j))
    gives_fits a fits =
        subst (λ i. IfSome (system.gives k a j) (FitsVariable sys fits_front fits_cell i)) (sym target_is)
        (subst (λ w. IfSome (system.gives k a j) (FitsAt w)) (sym (is.numbered.number to_variable good.0).1)
        (brings_fits rule (is.numbered.rule k lt) a fits to_variable good.1))

  agree_at : (k : ℕ) (a b : Assignment S) → AgreeFor system k a b → AgreeAt (sys.numbers.rule k) a b
  agree_at k a b agree v is-v read =
      let place = is.numbered.number v is-v in
      agree (number v) place.0 (subst (λ w. is_read sys (sys.numbers.rule k) w ≡ true) (sym place.1) read)

  pub same_standing : (v w : S) → v.front ≡ w.front → v.cell ≡ w.cell → v ≡ w
  same_standing v w front cell = λ i. record { front = front i; cell = cell i }

  pub are_lawful : (checks : ℕ → V → Type 0)
      → AreLawful (HasParts fronts.is_value cells.is_value) (IsStandingBelow fronts.leq cells.leq)
      (joined_standing fronts.joined cells.joined) (FitsVariable sys fits_front fits_cell) (Allows sys checks) system
  are_lawful checks = record {
    value = λ i v h. record {
      front = (front_options (at i)).values v.front h.front;
      cell = (cell_options (at i)).values v.cell h.cell;
    };
    target_within = λ k j lt j-lt. target_within k j lt j-lt;
    gives_fits = λ k a j lt fits j-lt. gives_fits k j lt j-lt a fits;
    monotone = λ k a b j lt a-fits b-fits le j-lt.
        brings_rise (sys.numbers.rule k) (is.numbered.rule k lt) a b a-fits b-fits le
        (get_or (targets_of sys (sys.numbers.rule k)) j (front_at 0));
    local = λ k a b j lt agree j-lt.
        brings_same (sys.numbers.rule k) (is.numbered.rule k lt) a b (agree_at k a b agree)
        (get_or (targets_of sys (sys.numbers.rule k)) j (front_at 0));
    allows_local = λ k a b lt agree h.
        allows_same checks (sys.numbers.rule k) (is.numbered.rule k lt) a b (agree_at k a b agree) h;
    joined_fits = λ i v w h h'. record {
      front = (front_options (at i)).joined_fits v.front w.front h.front h'.front;
      cell = (cell_options (at i)).joined_fits v.cell w.cell h.cell h'.cell;
    };
    outward_fits = λ i v h. record {
      front = (front_options (at i)).outward_fits v.front h.front;
      cell = (cell_options (at i)).outward_fits v.cell h.cell;
    };
    extensive = λ i v h. record {
      front = (front_options (at i)).extensive v.front h.front;
      cell = (cell_options (at i)).extensive v.cell h.cell;
    };
    rising = λ i v w h h' le. record {
      front = (front_options (at i)).rising v.front w.front h.front h'.front le.front;
      cell = (cell_options (at i)).rising v.cell w.cell h.cell h'.cell le.cell;
    };
    idempotent = λ i v h.
        same_standing (system.outward i (system.outward i v)) (system.outward i v)
        ((front_options (at i)).idempotent v.front h.front) ((cell_options (at i)).idempotent v.cell h.cell);
    within = λ i v h.
        omega (arith, (front_options (at i)).within v.front h.front, (cell_options (at i)).within v.cell h.cell);
    climbs = λ i v w h h' le.
        omega (
          arith,
          (front_options (at i)).climbs v.front w.front h.front h'.front le.front,
          (cell_options (at i)).climbs v.cell w.cell h.cell h'.cell le.cell,
        );
    strictly = λ i v w h h' le low.
        let front-le = (front_options (at i)).climbs v.front w.front h.front h'.front le.front in
        let cell-le = (cell_options (at i)).climbs v.cell w.cell h.cell h'.cell le.cell in
        same_standing v w
        ((front_options (at i)).strictly v.front w.front h.front h'.front le.front
        (omega (arith, low, front-le, cell-le)))
        ((cell_options (at i)).strictly v.cell w.cell h.cell h'.cell le.cell (omega (arith, low, front-le, cell-le)));
  }
