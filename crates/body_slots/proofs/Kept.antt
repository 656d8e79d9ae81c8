-- The state of a node is made of its front and of what stands where its cells are kept.
use Rattle.std.proofs.Common.{◌≡◌, ℕ, ◌<◌, ◌==◌, ◌||◌, ◌&&◌, not, cond, Bool, true, false, List, [], ◌∷◌}
use Rattle.std.proofs.Common.{◌++◌, ◌+◌, ◌⊎◌, get_or, length-append, Bor}
use Rattle.std.proofs.Common.{length, Option, Some, None, IfSome, sym, ap, subst, ◌∙◌, refl, arith, inl, inr}
use Rattle.std.specs.Prelude.{MatchOption, leb}
use Rattle.std.specs.FinMap.{get, insert, empty, get-empty}
use Rattle.std.specs.Option.{option_copied}
use Rattle.std.proofs.Math.ListN.{get_or-append}
use Rattle.std.proofs.Math.Seq.{get_or-append_seam}
use Rattle.std.proofs.lemmas.Option.{none-some}
use Rattle.std.specs.Ordering.{nat_cmp}
use Rattle.std.proofs.lemmas.Bool.{true≢false, false≢true, eqb-true, eqb-false, and_from, and_parts}
use Rattle.table_covers.specs.tm_lattice.Tables.{Table}
use Rattle.table_covers.specs.tm_lattice.laws.TableLaws.{same_table, get-insert_here, get-insert_there}
use Rattle.sparse_tables.specs.Sparse.{Placing}
use Rattle.sparse_tables.specs.Fronts.{IsThere}
use Rattle.sparse_rows.specs.Traces.{AreCopies}
use Rattle.cell_placings.specs.CellLists.{is_in, cells_at}
use Rattle.cell_placings.specs.OwnerTrees.{owns_in, kept_in}
use Rattle.cell_placings.specs.Placed.{IsCellPlaced}
use Rattle.cell_placings.proofs.Members.{or_right, is_or_not, more_than}
use Rattle.edge_actions.specs.transfer_rows.StateForms.{Temp, Cell, State}
use Rattle.task_equations.specs.state_fits.Fits.{FitsCell}
use Rattle.task_equations.specs.Bodies.{Body}
use Rattle.task_equations.specs.Premises.{FitsBody}
use Rattle.front_constraints.specs.least_assignments.Constraints.{Assignment, AreFitting}
use Rattle.front_constraints.specs.declared.standings.Standing.{Standing}
use Rattle.front_constraints.specs.Standings.{front_in, cell_in, HasParts}
use Rattle.front_constraints.specs.Systems.{Variable, front_at, slot_at}
use Rattle.front_constraints.specs.Rules as rules
use Rattle.front_constraints.specs.Rules.{front_constraints, FitsVariable, standing}
use Rattle.slot_numbers.specs.Numberings.{numbers_of, has_slot}
use Rattle.row_checks.specs.TracedCells.{may_copy, may_be_fresh, may_pend}
use Rattle.body_systems.specs.Systems.{body_of}
use Rattle.body_fronts.specs.BodySystems.{table_with}
use Rattle.body_fronts.specs.FrontForms.{FitsFront, FitsCellAt, is_seen}
use Rattle.body_fronts.specs.laws.Made.{seen_so, so_seen}
use Rattle.body_slots.specs.Slots.{Slots, SlotSystemOf, IsSlotSystem, sparse_of}
use Rattle.body_slots.specs.laws.SeenPlaced.{is_seen_placed}
use Rattle.body_slots.specs.laws.Chosen.{numbered, slots_are_sparse}
use Rattle.body_slots.specs.reading.Tables.{place, stood, kept_cell, IsCellTraced, IsStateTraced, AreKept, IsPut}
use Rattle.body_slots.specs.reading.Tables.{IsNodeState, IsBefore, IsEarlier, IsMadeAt, state_before}

-- ## Options and tests

front_part : (P : Table Temp → Type 0) (Q : Cell → Type 0) (y : Option (Standing (Table Temp) Cell))
    → IfSome y (HasParts P Q) → IfSome (front_in y) P
front_part P Q None h = tt
front_part P Q (Some w) h = h.front

cell_part : (P : Table Temp → Type 0) (Q : Cell → Type 0) (y : Option (Standing (Table Temp) Cell))
    → IfSome y (HasParts P Q) → IfSome (cell_in y) Q
cell_part P Q None h = tt
cell_part P Q (Some w) h = h.cell

there_fits : (Q : Cell → Type 0) (y : Option Cell) → IsThere y → IfSome y Q → MatchOption y ⊥ Q
there_fits Q None h f = h
there_fits Q (Some c) h f = f

both_false : (x y : Bool) → x ≡ false → y ≡ false → (x || y) ≡ false
both_false true y h k = h
both_false false y h k = k

-- what holds at a key where something is put, and of what stands at each other key, holds after it was put
inserted : (P : ℕ → Option Cell → Type 0) (t : Table Cell) (y : ℕ) (c : Cell) → P y (Some c) → (x : ℕ)
    → ((y == x) ≡ false → P x (get t x)) → P x (get (insert t y c) x)
inserted P t y c here x there = elim (is_or_not (y == x)) [
  | inl e ↦ subst (λ k. P k (get (insert t y c) k)) (eqb-true y x e)
      (subst (P y) (sym (get-insert_here t y c y refl)) here)
  | inr e ↦ subst (P x) (sym (get-insert_there t y c x (λ q. eqb-false y x e (sym q)))) (there e)
]

at_or_not : (P : ℕ → Type 0) (y : ℕ) → P y → (x : ℕ) → ((y == x) ≡ false → P x) → P x
at_or_not P y here x there = elim (is_or_not (y == x)) [
  | inl e ↦ subst P (eqb-true y x e) here
  | inr e ↦ there e
]

not_zero : (m n : ℕ) → m < n → (n == 0) ≡ false
not_zero m n lt = elim (is_or_not (n == 0)) [
  | inl e ↦ absurd (let z = eqb-true n 0 e in omega (arith, z, lt))
  | inr e ↦ e
]

-- one more element of which it holds
pub next_made : (P : ℕ → Option State → Type 0) (xs ys : List (Option State)) (n : ℕ) (y : Option State)
    → ys ≡ xs ++ y ∷ [] → length xs ≡ n → ((k : ℕ) → k < n → P k (get_or xs k None)) → P n y
    → (length ys ≡ n + 1) × ((k : ℕ) → k < n + 1 → P k (get_or ys k None))
next_made P xs ys n y e count each next = (
  ap length e ∙ (length-append xs (y ∷ []) ∙ ap (λ m. m + 1) count),
  λ k lt. elim (less_or_same k n lt) [
    | inl l ↦ subst (P k) (sym (ap (λ zs. get_or zs k None) e
        ∙ get_or-append xs (y ∷ []) None k (omega (arith, l, count)))) (each k l)
    | inr same ↦ subst (λ m. P m (get_or ys m None)) (sym same)
        (subst (P n) (sym (ap (λ zs. get_or zs n None) e
        ∙ (ap (λ m. get_or (xs ++ y ∷ []) m None) (sym count) ∙ get_or-append_seam xs y [] None))) next)
  ],
)
  where
    less_or_same : (k m : ℕ) → k < m + 1 → (k < m) ⊎ (k ≡ m)
    less_or_same k m h = grind arith

module _ (v : SlotSystemOf) where
  abbrev b : Body
  b = body_of v.system

  abbrev s : Slots
  s = v.slots

  abbrev p : Placing
  p = place v

  -- ## Cells

  module _ (a : Assignment (Standing (Table Temp) Cell)) where
    kept_unseen : (n x : ℕ) → is_seen b x ≡ false → kept_cell v a n x ≡ None
    kept_unseen n x h = ap (λ t. cond t (cell_in (standing (sparse_of v) a (slot_at (p.kept_at n x) x))) None) h

    kept_seen : (n x : ℕ) → is_seen b x ≡ true
        → kept_cell v a n x ≡ cell_in (standing (sparse_of v) a (slot_at (kept_in s.tree n x) x))
    kept_seen n x h =
        ap (λ t. cond t (cell_in (standing (sparse_of v) a (slot_at (cond t (kept_in s.tree n x) n) x))) None) h

    -- ## The state before

    pub before_is : (n : ℕ) (r : Option (Bor State)) (table : List (Option State)) (o : Option ℕ)
        → option_copied r ≡ state_before table o → IfSome o (IsEarlier s.graph n)
        → ((k : ℕ) → k < n → IsMadeAt v a k (get_or table k None)) → IfSome r (λ t. IsBefore v a n t.now)
    before_is n None table o e early made = tt
    before_is n (Some t) table None e early made = absurd (none-some t.now (sym e))
    before_is n (Some t) table (Some m) e early made =
        (let h = subst (IsMadeAt v a m) (sym e) (made m early.before) in
        record { node = m; earlier = early; state = h.state; traced = h.traced })

    -- ## One more cell

    module _ (n y : ℕ) (rest : List ℕ) (old new : Table Cell) (kept : AreKept v a n (y ∷ rest) old) where
      put_next : (o : Option Cell) → kept_cell v a n y ≡ o
          → MatchOption o ((is_seen b y ≡ false) × (new ≡ old))
          (λ c. (new ≡ insert old y c) × IsCellTraced v y (Some c)) → AreKept v a n rest new
      put_next None e h = subst (AreKept v a n rest) (sym h.1) (record {
        given = λ x r. at_or_not (λ k. get old k ≡ kept_cell v a n k) y (kept.unseen y h.0 ∙ sym e) x
            (λ d. kept.given x (both_false (y == x) (is_in rest x) d r));
        there = λ x r seen. at_or_not (λ k. is_seen b k ≡ true → IsThere (get old k)) y
            (λ k. absurd (true≢false (sym k ∙ h.0))) x
            (λ d. kept.there x (both_false (y == x) (is_in rest x) d r)) seen;
        unseen = kept.unseen;
        traced = kept.traced;
      })
      put_next (Some c) e h = subst (AreKept v a n rest) (sym h.0) (record {
        given = λ x r. inserted (λ k z. z ≡ kept_cell v a n k) old y c (sym e) x
            (λ d. kept.given x (both_false (y == x) (is_in rest x) d r));
        there = λ x r seen. inserted (λ k z. IsThere z) old y c tt x
            (λ d. kept.there x (both_false (y == x) (is_in rest x) d r) seen);
        unseen = λ x other. inserted (λ k z. is_seen b k ≡ false → z ≡ None) old y c
            (λ none. sym e ∙ kept_unseen n y none) x (λ d. kept.unseen x) other;
        traced = λ x. inserted (IsCellTraced v) old y c h.1 x (λ d. kept.traced x);
      })

      pub kept_next : IsPut v a n y old new → AreKept v a n rest new
      kept_next h = put_next (kept_cell v a n y) refl h

    module _ (is : IsSlotSystem v) where
      nodes_are : s.graph.nodes ≡ length b.nodes
      nodes_are = (let k = is.slots in k.nodes)

      counted : (n : ℕ) → n < s.graph.nodes → n < length b.nodes
      counted n lt = subst (λ m. n < m) nodes_are lt

      listed : (x : ℕ) → is_in s.cells x ≡ is_seen b x
      listed = (let k = is.slots in k.seen)

      placed : IsCellPlaced s.graph p
      placed = (let k = is.slots in is_seen_placed (is_seen b) s.graph s.tree k.placed)

      pub above_within : (n : ℕ) → n < s.graph.nodes → n < length s.tree.above
      above_within n lt = (let k = is.slots in subst (λ m. n < m) (sym k.tree_each) lt)

      -- ## Where a cell is kept

      kept_within : (n x : ℕ) → n < s.graph.nodes → kept_in s.tree n x < s.graph.nodes
      kept_within n x lt = (let k = is.slots in let q = k.placed in q.within n x lt)

      kept_owned : (n x : ℕ) → n < s.graph.nodes → owns_in s.tree (kept_in s.tree n x) x ≡ true
      kept_owned n x lt = (let k = is.slots in let q = k.placed in q.kept n x lt)

      has_own : (n x : ℕ) → n < s.graph.nodes
          → has_slot s.numbering.variables n x ≡ (is_in s.cells x && owns_in s.tree n x)
      has_own n x lt = (let k = is.slots in let q = k.numbered in let u = q.variables in u.owned n x lt)

      pub no_slot : (n x : ℕ) → n < s.graph.nodes → has_slot s.numbering.variables (kept_in s.tree n x) x ≡ false
          → None ≡ kept_cell v a n x
      no_slot n x lt e = by (is_seen b x) refl
        where
          by : (t : Bool) → is_seen b x ≡ t → None ≡ kept_cell v a n x
          by true seen = absurd (false≢true (sym e ∙ (has_own (kept_in s.tree n x) x (kept_within n x lt)
              ∙ and_from (is_in s.cells x) (owns_in s.tree (kept_in s.tree n x) x) (listed x ∙ seen)
              (kept_owned n x lt))))
          by false other = sym (kept_unseen n x other)

      pub some_slot : (n x i : ℕ) → n < s.graph.nodes
          → has_slot s.numbering.variables (kept_in s.tree n x) x ≡ true
          → (let q = numbers_of s.numbering in i ≡ q.number (slot_at (kept_in s.tree n x) x))
          → cell_in (a i) ≡ kept_cell v a n x
      some_slot n x i lt e number =
          ap (λ j. cell_in (a j)) number
          ∙ sym (kept_seen n x (sym (listed x) ∙ (and_parts (is_in s.cells x)
          (owns_in s.tree (kept_in s.tree n x) x)
          (sym (has_own (kept_in s.tree n x) x (kept_within n x lt)) ∙ e)).0))

      -- ## The cells at first

      -- no cell is there yet, and all that the body sees are to be put
      pub none_kept : (n : ℕ) → AreKept v a n s.cells empty
      none_kept n = record {
        given = λ x r. get-empty nat_cmp x ∙ sym (kept_unseen n x (sym (listed x) ∙ r));
        there = λ x r seen. absurd (false≢true (sym r ∙ (listed x ∙ seen)));
        unseen = λ x other. get-empty nat_cmp x;
        traced = λ x. subst (IsCellTraced v x) (sym (get-empty nat_cmp x)) (record { aged = tt; held = tt });
      }

      there_at : (x : ℕ) (y : Option Cell) → is_seen b x ≡ true → FitsCell b.laid b.task x y → IsThere y
      there_at x None seen h = absurd (h (seen_so b x seen))
      there_at x (Some c) seen h = tt

      module _ (n : ℕ) (t : State) (from : IsBefore v a n t) where
        abbrev m : ℕ
        m = from.node

        abbrev e : ℕ
        e = (let h = from.earlier in h.edge)

        not_owned : (x : ℕ) → is_in (cells_at s.tree.owned n) x ≡ false → is_seen b x ≡ true → p.owns n x ≡ false
        not_owned x r seen = (let h = from.earlier in
            let k = is.slots in let q = k.numbered in let u = q.numberable in
            both_false (not (is_seen b x)) (owns_in s.tree n x) (ap not seen)
            (both_false (n == 0) (leb s.tree.cells x || is_in (cells_at s.tree.owned n) x)
            (not_zero m n h.before)
            (both_false (leb s.tree.cells x) (is_in (cells_at s.tree.owned n) x)
            (more_than s.tree.cells x (u.placed x (listed x ∙ seen))) r)))

        same_keeper : (x : ℕ) → p.owns n x ≡ false → p.kept_at m x ≡ p.kept_at n x
        same_keeper x other = (let h = from.earlier in
            ap (λ k. p.kept_at k x) (sym h.from)
            ∙ (placed.same e x h.within (ap (λ k. p.owns k x) h.to ∙ other)
            ∙ ap (λ k. p.kept_at k x) h.to))

        same_kept : (x : ℕ) → is_in (cells_at s.tree.owned n) x ≡ false → kept_cell v a m x ≡ kept_cell v a n x
        same_kept x r = by (is_seen b x) refl
          where
            by : (o : Bool) → is_seen b x ≡ o → kept_cell v a m x ≡ kept_cell v a n x
            by true seen = (let f = stood v a in ap (λ k. f.slot_of k x) (same_keeper x (not_owned x r seen)))
            by false other = kept_unseen m x other ∙ sym (kept_unseen n x other)

        -- the cells of a state before, over which what the node owns is to be put
        pub before_kept : AreKept v a n (cells_at s.tree.owned n) t.cells
        before_kept = (let st = from.state in let tr = from.traced in record {
          given = λ x r. st.cells x ∙ same_kept x r;
          there = λ x r seen. (let fit = st.fits in there_at x (get t.cells x) seen (fit.cells x));
          unseen = λ x other. st.cells x ∙ kept_unseen m x other;
          traced = λ x. record { aged = tr.aged x; held = tr.held x };
        })

      -- ## The state of a node

      module _ (fits : AreFitting (front_constraints (sparse_of v))
          (FitsVariable (sparse_of v) (FitsFront b) (FitsCellAt b)) a) where
        abbrev FrontAt : Variable → Table Temp → Type 0
        FrontAt u = rules.FitsFrontAt (sparse_of v) (FitsFront b) (FitsCellAt b) u

        abbrev CellAt : Variable → Cell → Type 0
        CellAt u = rules.FitsCellAt (sparse_of v) (FitsFront b) (FitsCellAt b) u

        front_fits : (n : ℕ) → n < length b.nodes → IfSome (front_in (a n)) (FitsFront b n)
        front_fits n lt = (let k = numbered v is in
            let q = k.number (front_at n) lt in
            front_part (FrontAt (front_at n)) (CellAt (front_at n)) (a n)
            (subst (λ u. IfSome (a n) (HasParts (FrontAt u) (CellAt u))) q.1 (fits n q.0)))

        slot_fits : (n x : ℕ) → n < length b.nodes → is_seen b x ≡ true → p.owns n x ≡ true
            → IfSome (cell_in (standing (sparse_of v) a (slot_at n x))) (FitsCellAt b x)
        slot_fits n x lt seen owned = (let k = numbered v is in
            let q = k.number (slot_at n x) (lt, seen, owned) in
            cell_part (FrontAt (slot_at n x)) (CellAt (slot_at n x)) (standing (sparse_of v) a (slot_at n x))
            (subst (λ u. IfSome (standing (sparse_of v) a (slot_at n x)) (HasParts (FrontAt u) (CellAt u))) q.1
            (fits _ q.0)))

        kept_fits : (n x : ℕ) → n < s.graph.nodes → is_seen b x ≡ true
            → IfSome (kept_cell v a n x) (FitsCellAt b x)
        kept_fits n x lt seen =
            subst (λ y. IfSome y (FitsCellAt b x)) (sym (kept_seen n x seen))
            (slot_fits (kept_in s.tree n x) x (counted (kept_in s.tree n x) (kept_within n x lt)) seen
            (or_right (not (is_seen b x)) (owns_in s.tree (kept_in s.tree n x) x) (kept_owned n x lt)))

        none_at : (x : ℕ) (y : Option Cell) → FitsCell b.laid b.task x y → is_seen b x ≡ false → y ≡ None
        none_at x None h other = refl
        none_at x (Some c) h other = absurd (true≢false (sym (so_seen b x h.0) ∙ other))

        module _ (n : ℕ) (lt : n < s.graph.nodes) (f : Table Temp) (front : front_in (a n) ≡ Some f)
            (cells : Table Cell) (kept : AreKept v a n [] cells) where
          given : (x : ℕ) → is_seen b x ≡ true → MatchOption (kept_cell v a n x) ⊥ (FitsCellAt b x)
          given x seen =
              there_fits (FitsCellAt b x) (kept_cell v a n x)
              (subst IsThere (kept.given x refl) (kept.there x refl seen)) (kept_fits n x lt seen)

          small_fits : FitsBody b n (record { temps = f; cells = table_with (kept_cell v a n) s.cells })
          small_fits = (let sp = slots_are_sparse v is in
              let made = sp.made in
              made.state_fits n f (kept_cell v a n)
              (subst (λ y. IfSome y (FitsFront b n)) front (front_fits n (counted n lt))) given)

          same_at : (x : ℕ) (o : Bool) → is_seen b x ≡ o
              → get cells x ≡ get (table_with (kept_cell v a n) s.cells) x
          same_at x true seen = (let sp = slots_are_sparse v is in
              let made = sp.made in kept.given x refl ∙ sym (made.cell_is f (kept_cell v a n) x seen))
          same_at x false other =
              kept.unseen x other
              ∙ sym (none_at x (get (table_with (kept_cell v a n) s.cells) x) (small_fits.cells x) other)

          same_cells : cells ≡ table_with (kept_cell v a n) s.cells
          same_cells = same_table cells (table_with (kept_cell v a n) s.cells) (λ x. same_at x (is_seen b x) refl)

          pub node_state : IsNodeState v a n (record { temps = f; cells = cells })
          node_state = record {
            fits = subst (λ (t : Table Cell). FitsBody b n (record { temps = f; cells = t })) (sym same_cells) small_fits;
            front = front;
            cells = λ x. kept.given x refl;
          }

          pub node_traced : ((u : ℕ) → AreCopies (may_copy s.traces) (may_be_fresh s.traces) (may_pend s.traces) u (get f u))
              → IsStateTraced v (record { temps = f; cells = cells })
          node_traced copied = record {
            copied = copied;
            aged = λ x. (let h = kept.traced x in h.aged);
            held = λ x. (let h = kept.traced x in h.held);
          }
