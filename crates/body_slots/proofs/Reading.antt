-- What code reads of the slots of a body.
use Rattle.std.proofs.Common.{Result, Ok, Err, IfSome}
use Rattle.std.proofs.Common.{◌≡◌, ◌<◌, ◌∙◌, ℕ, Bool, true, false, List, Option, Some, None, sym, ap, subst, length, get_or, refl, suc, arith, inl, inr, cond}
use Rattle.std.specs.Prelude.{[], ◌∷◌, map, is_some, MatchOption, IfOk}
use Rattle.std.proofs.lemmas.Bool.{true≢false, false≢true, cases_eq}
use Rattle.std.proofs.lemmas.List.{get_or_default, length-map, get_or-map}
use Rattle.table_covers.specs.declared.links.Link.{Link}
use Rattle.table_covers.specs.Systems.{no_link, from_of}
use Rattle.cell_placings.specs.CellLists.{is_in, cells_at}
use Rattle.cell_placings.specs.OwnerTrees.{kept_in}
use Rattle.edge_actions.specs.transfer_rows.StateForms.{Cell, State}
use Rattle.mutex_configs.specs.declared.nodes.EdgeCopy.{EdgeCopy}
use Rattle.task_equations.specs.Equations.{link_of, led}
use Rattle.least_assignments.specs.Constraints.{target_count}
use Rattle.front_constraints.specs.Systems.{front_at, open_at, slot_at, Rule, flow, edges, from}
use Rattle.front_constraints.specs.Standings.{cell_in}
use Rattle.front_constraints.specs.Rules.{standing, passed, seen_at, brings, targets_of, front_constraints}
use Rattle.front_constraints.specs.Rules.{carried_along}
use Rattle.slot_numbers.specs.Numberings.{numbers_of}
use Rattle.body_systems.specs.Systems.{body_of}
use Rattle.body_fronts.specs.FrontForms.{is_seen}
use Rattle.body_fronts.specs.laws.Made.{first_true}
use Rattle.body_slots.specs.Slots.{Slots, SlotSystemOf, IsSlotSystem, sparse_of}
use Rattle.body_slots.specs.Rows.{Stand, Values, brought_by}
use Rattle.body_slots.specs.reading.Small.{put_over, AreThere}
use Rattle.body_fronts.specs.BodySystems.{with_entry}
use Rattle.std.specs.FinMap.{get, insert}
use Rattle.table_covers.specs.tm_lattice.Tables.{Table}
use Rattle.body_slots.specs.laws.Chosen.{listed, entry_fits}
use Rattle.sparse_rows.specs.Traces.{AreCopies, IsFreshAt, IsPendingAt, IsTraced}
use Rattle.row_checks.specs.TracedCells.{may_copy, may_be_fresh, may_pend}
use Rattle.body_fronts.specs.laws.Made.{so_seen}
use Rattle.task_equations.specs.state_fits.Fits.{FitsCell}

-- ## Lists

-- the node that a link leaves
pub link_from : (copies : List EdgeCopy) (xs : List Link) (l : Link) (e : ℕ) → l ≡ get_or xs e l
    → xs ≡ map link_of copies → e < length (map link_of copies) → l.from ≡ from_of (map link_of copies) e
link_from copies xs l e read same lt =
    ap (λ (k : Link). k.from) (read ∙ get_or_default xs e l no_link (subst (λ (ys : List Link). e < length ys) (sym same) lt)
    ∙ ap (λ (ys : List Link). get_or ys e no_link) same)

-- a set by its number
pub set_at : (xs : List (List ℕ)) (y : List ℕ) (e n : ℕ) → y ≡ get_or xs e y → length xs ≡ n → e < n
    → y ≡ cells_at xs e
set_at xs y e n read each lt = read ∙ get_or_default xs e y [] (subst (λ m. e < m) (sym each) lt)

-- one more key put over
pub put_next : {V : Type 0} (f : ℕ → Option V) (t u : Table V) (ks : List ℕ) (i : ℕ) (w : V) → u ≡ put_over f t ks i
    → f (get_or ks i 0) ≡ Some w → insert u (get_or ks i 0) w ≡ put_over f t ks (suc i)
put_next f t u ks i w before is =
    ap (λ x. insert x (get_or ks i 0) w) before
    ∙ ap (λ y. with_entry (put_over f t ks i) (get_or ks i 0) y) (sym is)

pub there_next : {V : Type 0} (f : ℕ → Option V) (ks : List ℕ) (i : ℕ) (w : V) → AreThere f ks i
    → f (get_or ks i 0) ≡ Some w → AreThere f ks (suc i)
there_next f ks i w there is j lt = elim (cases_eq j i) [
  | inl same ↦ ap is_some (ap (λ k. f (get_or ks k 0)) same ∙ is)
  | inr differ ↦ there j (omega (arith, lt, differ))
]

-- ## Flows

passed_there : {A B : Type 0} (o : Option A) (y : Option B) → is_some o ≡ true → passed o y ≡ y
passed_there None y h = absurd (false≢true h)
passed_there (Some a) y h = refl

passed_not : {A B : Type 0} (o : Option A) (y : Option B) → is_some o ≡ false → passed o y ≡ None
passed_not None y h = refl
passed_not (Some a) y h = absurd (true≢false h)

kept_where : (t : Bool) (m n : ℕ) → t ≡ true → cond t m n ≡ m
kept_where true m n h = refl
kept_where false m n h = absurd (false≢true h)

-- what is carried, and what is not
pub carried_so : {A : Type 0} (t : Bool) (y w : A) → t ≡ true → cond t y w ≡ y
carried_so true y w h = refl
carried_so false y w h = absurd (false≢true h)

pub carried_not : {A : Type 0} (t : Bool) (y w : A) → t ≡ false → cond t y w ≡ w
carried_not true y w h = absurd (true≢false h)
carried_not false y w h = refl

-- ## Leading on

pub led_there : (to : Option ℕ) (y : Option State) → is_some to ≡ true → led to y ≡ y
led_there None y h = absurd (false≢true h)
led_there (Some n) y h = refl

pub led_none : (to : Option ℕ) → led to None ≡ None
led_none None = refl
led_none (Some n) = refl

pub led_not : (to : Option ℕ) (y : Option State) → is_some to ≡ false → led to y ≡ None
led_not None y h = refl
led_not (Some n) y h = absurd (true≢false h)

-- a cell that the body does not see has nothing
none_unseen : (v : SlotSystemOf) → IsSlotSystem v → (x : ℕ) → is_seen (body_of v.system) x ≡ false → (y : Option Cell)
    → (let b = body_of v.system in FitsCell b.laid b.task x y) → y ≡ None
none_unseen v is x other None h = refl
none_unseen v is x other (Some c) h = absurd (true≢false (sym (so_seen (body_of v.system) x h.0) ∙ other))

module _ (v : SlotSystemOf) (is : IsSlotSystem v) where
  abbrev s : Slots
  s = v.slots

  pub touched_small : (e : ℕ) → e < edges (sparse_of v) → (j : ℕ) → j < length (cells_at s.graph.touched.items e)
      → get_or (cells_at s.graph.touched.items e) j 0 < 4294967296
  touched_small e lt j j-lt = (let l = listed v is in
      let h = l.touched e lt in
      let x = get_or (cells_at s.graph.touched.items e) j 0 in
      let p = sparse_of v in
      is.slots.small x (is.slots.seen x
      ∙ first_true (is_seen (body_of v.system) x) (p.place.touches e x) (h.within j j-lt)))

  pub looked_seen : (e : ℕ) → e < edges (sparse_of v) → (j : ℕ) → j < length (cells_at s.graph.looked.items e)
      → is_seen (body_of v.system) (get_or (cells_at s.graph.looked.items e) j 0) ≡ true
  looked_seen e lt j j-lt = (let l = listed v is in
      let h = l.looked e lt in
      let x = get_or (cells_at s.graph.looked.items e) j 0 in
      let p = sparse_of v in
      first_true (is_seen (body_of v.system) x) (p.place.looks e x) (h.within j j-lt))

  pub looked_in : (e : ℕ) → e < edges (sparse_of v) → (j : ℕ) → j < length (cells_at s.graph.looked.items e)
      → is_in s.cells (get_or (cells_at s.graph.looked.items e) j 0) ≡ true
  looked_in e lt j j-lt = is.slots.seen (get_or (cells_at s.graph.looked.items e) j 0) ∙ looked_seen e lt j j-lt

  pub looked_small : (e : ℕ) → e < edges (sparse_of v) → (j : ℕ) → j < length (cells_at s.graph.looked.items e)
      → get_or (cells_at s.graph.looked.items e) j 0 < 4294967296
  looked_small e lt j j-lt = is.slots.small (get_or (cells_at s.graph.looked.items e) j 0) (looked_in e lt j j-lt)

  -- what stands at the slot of a cell where it is kept
  pub seen_at_is : (e x : ℕ) → is_seen (body_of v.system) x ≡ true → (n : ℕ) → n ≡ from (sparse_of v) e → (m : ℕ)
      → (let numbers = numbers_of s.numbering in m ≡ numbers.number (slot_at (kept_in s.tree n x) x)) → (a : Values)
      → cell_in (a m) ≡ seen_at (sparse_of v) e a x
  seen_at_is e x seen n n-is m m-is a = (let numbers = numbers_of s.numbering in
      ap (λ i. cell_in (a i)) (m-is ∙ ap (λ i. numbers.number (slot_at (kept_in s.tree i x) x)) n-is)
      ∙ ap (λ i. cell_in (a (numbers.number (slot_at i x)))) (sym (kept_where (is_seen (body_of v.system) x)
      (kept_in s.tree (from (sparse_of v) e) x) (from (sparse_of v) e) seen)))

  -- The entry has nothing at cells that the body does not see.
  pub begins_where : ((u : ℕ) → (let t = v.entry in AreCopies (may_copy s.traces) (may_be_fresh s.traces) (may_pend s.traces) u
      (get t.temps u)))
      → ((j : ℕ) → j < length s.cells → (let t = v.entry in
      IsFreshAt (may_copy s.traces) (may_be_fresh s.traces) (may_pend s.traces) (get_or s.cells j 0)
      (get t.cells (get_or s.cells j 0))
      × IsPendingAt (may_copy s.traces) (may_be_fresh s.traces) (may_pend s.traces) (get_or s.cells j 0)
      (get t.cells (get_or s.cells j 0))))
      → IsTraced (may_copy s.traces) (may_be_fresh s.traces) (may_pend s.traces) v.entry
  begins_where copied cells = record {
    copied = copied;
    aged = λ x. (at_cell x).0;
    held = λ x. (at_cell x).1;
  }
    where
      Traced : ℕ → Option Cell → Type 0
      Traced x y = IsFreshAt (may_copy s.traces) (may_be_fresh s.traces) (may_pend s.traces) x y
          × IsPendingAt (may_copy s.traces) (may_be_fresh s.traces) (may_pend s.traces) x y

      by_seen : (x : ℕ) (t : Bool) → is_seen (body_of v.system) x ≡ t → (let e = v.entry in Traced x (get e.cells x))
      by_seen x true so = (let l = listed v is in
          let h = l.cells in
          let p = h.all x so in
          subst (λ k. (let e = v.entry in Traced k (get e.cells k))) p.1.1 (cells p.0 p.1.0))
      by_seen x false so = (let e = v.entry in
          let fits = entry_fits v is in
          subst (Traced x) (sym (none_unseen v is x so (get e.cells x) (fits.cells x))) (tt, tt))

      at_cell : (x : ℕ) → (let e = v.entry in Traced x (get e.cells x))
      at_cell x = by_seen x (is_seen (body_of v.system) x) refl

  module _ (e x : ℕ) (seen : is_seen (body_of v.system) x ≡ true) (a : Values) where
    pub flow_there : is_some (standing (sparse_of v) a (open_at e)) ≡ true
        → carried_along (sparse_of v) e x (standing (sparse_of v) a (slot_at (kept_in s.tree (from (sparse_of v) e) x) x))
        ∷ [] ≡ brought_by v (flow e x) a
    flow_there h = λ i. sym (passed_there (standing (sparse_of v) a (open_at e))
        (carried_along (sparse_of v) e x (standing (sparse_of v) a (slot_at (cond (is_seen (body_of v.system) x)
        (kept_in s.tree (from (sparse_of v) e) x) (from (sparse_of v) e)) x))) h
        ∙ ap (λ n. carried_along (sparse_of v) e x (standing (sparse_of v) a (slot_at n x))) (kept_where (is_seen (body_of v.system) x)
        (kept_in s.tree (from (sparse_of v) e) x) (from (sparse_of v) e) seen)) i ∷ []

    pub flow_not : is_some (standing (sparse_of v) a (open_at e)) ≡ false
        → None ∷ [] ≡ brought_by v (flow e x) a
    flow_not h = λ i. sym (passed_not (standing (sparse_of v) a (open_at e))
        (carried_along (sparse_of v) e x (standing (sparse_of v) a (slot_at (cond (is_seen (body_of v.system) x)
        (kept_in s.tree (from (sparse_of v) e) x) (from (sparse_of v) e)) x))) h) i ∷ []

-- ## Answers

pub some_of : {A : Type 0} (P : A → Type 0) (y : Option A) (x : A) → y ≡ Some x → IfSome y P → P x
some_of {A = A} P y x is h = subst (λ (o : Option A). IfSome o P) is h

-- what three clauses say together of what is found
pub all_ok : {A E : Type 0} (P Q R S : A → Type 0) → ((x : A) → P x → Q x → R x → S x) → (r : Result (Option A) E)
    → IfOk r (λ y. IfSome y P) → IfOk r (λ y. IfSome y Q) → IfOk r (λ y. IfSome y R) → IfOk r (λ y. IfSome y S)
all_ok P Q R S together (Err e) p q r = tt
all_ok P Q R S together (Ok None) p q r = tt
all_ok P Q R S together (Ok (Some x)) p q r = together x p q r

-- what is refused, or brought, said otherwise
pub onward_match : {A : Type 0} (P Q : Type 0) (R S : A → Type 0) → (Q → P) → ((x : A) → R x → S x) → (y : Option A)
    → MatchOption y (P → ⊥) R → MatchOption y (Q → ⊥) S
onward_match P Q R S back onward None h = λ q. h (back q)
onward_match P Q R S back onward (Some x) h = onward x h

pub match_some : {A : Type 0} (P : Type 0) (R S : A → Type 0) → ((x : A) → R x → S x) → (y : Option A)
    → MatchOption y P R → MatchOption y (Unit {0}) S
match_some P R S onward None h = tt
match_some P R S onward (Some x) h = onward x h

module _ (v : SlotSystemOf) (k : ℕ) (a : Values) (r : Rule)
    (r-is : (let s = v.slots in let numbers = numbers_of s.numbering in r ≡ numbers.rule k)) (all : List (Option Stand))
    (all-is : all ≡ brought_by v r a) where
  -- what a rule brings is what its constraint gives
  pub targets_counted : length all ≡ target_count (front_constraints (sparse_of v)) k
  targets_counted = (let sys = sparse_of v in
      ap (λ (xs : List (Option Stand)). length xs) all-is ∙ length-map (targets_of sys r) (brings sys r a)
      ∙ sym (length-map (targets_of sys r) sys.numbers.number)
      ∙ ap (λ q. length (map sys.numbers.number (targets_of sys q))) r-is)

  pub each_given : (j : ℕ) → j < target_count (front_constraints (sparse_of v)) k
      → (let given = front_constraints (sparse_of v) in get_or all j None ≡ given.gives k a j)
  each_given j lt = (let sys = sparse_of v in
      let within = subst (λ n. j < n) (ap (λ q. length (map sys.numbers.number (targets_of sys q))) (sym r-is)
      ∙ length-map (targets_of sys r) sys.numbers.number) lt in
      ap (λ (xs : List (Option Stand)). get_or xs j None) all-is
      ∙ get_or-map (brings sys r a) (targets_of sys r) j (front_at 0) None within
      ∙ ap (λ q. brings sys q a (get_or (targets_of sys q) j (front_at 0))) r-is)
