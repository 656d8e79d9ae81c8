-- What code checks of an edge in one state says of each smaller state which makes no other copies and fresh cells.
use Rattle.std.specs.Prelude.{◌≡◌, ℕ, Bool, true, false, min, max, ◌-◌, ◌^◌, Option, Some, None, refl}
use Rattle.std.proofs.Common.{sym, ap, subst, ◌∙◌, arith}
use Rattle.std.specs.FinMap.{get}
use Rattle.std.specs.Int.{bit_at}
use Rattle.std.proofs.lemmas.Nat.Bits.{same_from_bits, bit_at_or, bit_at_and}
use Rattle.std.proofs.lemmas.Bool.{true≢false}
use Rattle.transfer_rows.specs.cell_env.Cells.{IsWithin}
use Rattle.transfer_rows.specs.cell_env.tm_lattice.Tables.{Table}
use Rattle.transfer_rows.specs.interfere_set.Stores.{Interferences}
use Rattle.transfer_rows.specs.StateForms.{Cell, State, Temp, IsStateForm, IsStateUnder, value_of}
use Rattle.transfer_rows.specs.Accesses.{is_among, targets_at}
use Rattle.transfer_rows.specs.Actions.{Around, Action, skips, gives, refines, loads, loads_any, stores, clears}
use Rattle.transfer_rows.specs.Actions.{locks, unlocks, yields, probes}
use Rattle.transfer_rows.specs.Rows.{aged, released, taken, without}
use Rattle.transfer_rows.specs.Reports.{targets_of}
use Rattle.transfer_rows.proofs.RowsRise.{target_rises}
use Rattle.sparse_rows.specs.Checks.{IsChecked}
use Rattle.sparse_rows.specs.Looked.{Looks, IsCopyIn}
use Rattle.sparse_rows.specs.Touched.{Leaves, IsNoCopy, IsKeptBy, Passes}
use Rattle.sparse_rows.specs.Traces.{IsTraced, AreCopies, IsFreshAt, IsPendingAt, Makes}

module _ (around : Around) (touch carries looks : ℕ → Bool) (copies : ℕ → ℕ → Bool) (fresh : ℕ → Bool)
    (pending : ℕ → ℕ) where
  abbrev Checked : Action → State → Interferences → Type 0
  Checked action s store = IsChecked around touch carries looks copies fresh pending action s store

  false_where : (b c : Bool) → (b ≡ true → c ≡ true) → c ≡ false → b ≡ false
  false_where true c h other = absurd (true≢false (sym (h refl) ∙ other))
  false_where false c h other = refl

  module _ (s d : State) (s-is : IsStateForm s) (d-is : IsStateForm d) (le : IsStateUnder s d) where
    fewer : (action : Action) (x : ℕ) → is_among (targets_of action s) x ≡ true
        → is_among (targets_of action d) x ≡ true
    fewer action x = (target_rises around s d s-is d-is le action).among x

    no_copy : (t x : ℕ) → ((y : ℕ) → copies t y ≡ true → touch y ≡ true) → touch x ≡ false → (a : Option Temp)
        → AreCopies copies fresh pending t a → IsNoCopy a x
    no_copy t x within other None h = tt
    no_copy t x within other (Some e) h = λ is. true≢false (sym (within x (h x is)) ∙ other)

    copy_in : (t : ℕ) → ((y : ℕ) → copies t y ≡ true → looks y ≡ true) → (a : Option Temp)
        → AreCopies copies fresh pending t a → IsCopyIn looks a
    copy_in t within None h = tt
    copy_in t within (Some e) h = λ x is. within x (h x is)

    not_fresh : (x : ℕ) → fresh x ≡ false → (c : Cell) → (c.fresh ≡ true → fresh x ≡ true) → aged c ≡ c
    not_fresh x other c h =
        ap (λ (b : Bool). record c { fresh = b }) (sym (false_where c.fresh (fresh x) h other))

    aged_same : (x : ℕ) → fresh x ≡ false → (a : Option Cell) → IsFreshAt copies fresh pending x a → IsKeptBy aged a
    aged_same x other None h = tt
    aged_same x other (Some c) h = not_fresh x other c h

    any_kept : (f : Cell → Cell) → ((c : Cell) → f c ≡ c) → (a : Option Cell) → IsKeptBy f a
    any_kept f h None = tt
    any_kept f h (Some c) = h c

    lock_kept : (store : Interferences) (m x : ℕ) → fresh x ≡ false → ((c : Cell) → taken around store m x c ≡ c)
        → (a : Option Cell) → IsFreshAt copies fresh pending x a → IsKeptBy (λ c. aged (taken around store m x c)) a
    lock_kept store m x other same None h = tt
    lock_kept store m x other same (Some c) h = ap aged (same c) ∙ not_fresh x other c h

    -- the mutexes that are pending are fewer
    without_same : (p q m : ℕ) → IsWithin p q → without q m ≡ q → without p m ≡ p
    without_same p q m within same = same_from_bits (without p m) p (λ i. bit i)
      where
        bit : (i : ℕ) → bit_at (without p m) i ≡ bit_at p i
        bit i =
            let a = bit_at p i in
            let b = bit_at q i in
            let k = bit_at (65535 - 2 ^ m) i in
            let above : max a b ≡ b = sym (bit_at_or p q i) ∙ ap (λ n. bit_at n i) within in
            let under : min b k ≡ b = sym (bit_at_and q (65535 - 2 ^ m) i) ∙ ap (λ n. bit_at n i) same in
            bit_at_and p (65535 - 2 ^ m) i ∙ omega (arith, above, under)

    release_kept : (m x : ℕ) → without (pending x) m ≡ pending x → (a : Option Cell)
        → IsPendingAt copies fresh pending x a → IsKeptBy (released m) a
    release_kept m x same None h = tt
    release_kept m x same (Some c) h =
        ap (λ (n : ℕ). record c { pending = n }) (without_same c.pending (pending x) m h same)

    -- what was checked above says that the operation leaves below what it neither touches nor carries
    pub checked_leaves : IsTraced copies fresh pending s → (action : Action) (store : Interferences)
        → Checked action d store → (x : ℕ) → touch x ≡ false → carries x ≡ false → Leaves around action s store x
    unfolding IsChecked Leaves targets_of
    checked_leaves traced skips store h x other still = tt
    checked_leaves traced (gives target calculation) store h x other still = tt
    checked_leaves traced (refines filter) store h x other still =
        λ t filtered. no_copy t x (h t filtered) other (get s.temps t) (traced.copied t)
    checked_leaves traced (loads spots target address) store h x other still = tt
    checked_leaves traced (loads_any spots target address range) store h x other still = tt
    checked_leaves traced (stores spots address source) store h x other still =
        false_where (is_among (targets_at spots (value_of s address).pointers) x) (touch x)
        (λ among. (h x (fewer (stores spots address source) x among)).0) other
    checked_leaves traced (clears cleared) store h x other still = h x other
    checked_leaves traced (locks m) store h x other still =
        lock_kept store m x (h x other still).0 (h x other still).1 (get s.cells x) (traced.aged x)
    checked_leaves traced (unlocks m) store h x other still =
        release_kept m x (h x other still) (get s.cells x) (traced.held x)
    checked_leaves traced yields store h x other still = aged_same x (h x other still) (get s.cells x) (traced.aged x)
    checked_leaves traced (probes m target true) store h x other still = tt
    checked_leaves traced (probes m target false) store h x other still =
        any_kept (taken around store m x) (h x other still) (get s.cells x)

    -- and that it writes below no cell that it does not touch
    pub checked_passes : ((u : ℕ) → AreCopies copies fresh pending u (get s.temps u)) → (action : Action)
        (store : Interferences) → Checked action d store → (x : ℕ) → touch x ≡ false → Passes action s x
    unfolding IsChecked Passes targets_of
    checked_passes copied skips store h x other = tt
    checked_passes copied (gives target calculation) store h x other = tt
    checked_passes copied (refines filter) store h x other =
        λ t filtered. no_copy t x (h t filtered) other (get s.temps t) (copied t)
    checked_passes copied (loads spots target address) store h x other = tt
    checked_passes copied (loads_any spots target address range) store h x other = tt
    checked_passes copied (stores spots address source) store h x other =
        false_where (is_among (targets_at spots (value_of s address).pointers) x) (touch x)
        (λ among. (h x (fewer (stores spots address source) x among)).0) other
    checked_passes copied (clears cleared) store h x other = h x other
    checked_passes copied (locks m) store h x other = tt
    checked_passes copied (unlocks m) store h x other = tt
    checked_passes copied yields store h x other = tt
    checked_passes copied (probes m target answer) store h x other = tt

    -- and that it looks below at no other cells than it may: of the traces this needs copies alone
    pub checked_looks : ((u : ℕ) → AreCopies copies fresh pending u (get s.temps u))
        → ((x : ℕ) → touch x ≡ true → looks x ≡ true) → (action : Action) (store : Interferences)
        → Checked action d store → Looks looks action s
    unfolding IsChecked Looks targets_of
    checked_looks copied all skips store h = tt
    checked_looks copied all (gives target calculation) store h = tt
    checked_looks copied all (refines filter) store h =
        λ t filtered. copy_in t (λ y is. all y (h t filtered y is)) (get s.temps t) (copied t)
    checked_looks copied all (loads spots target address) store h =
        λ x among. (h x (fewer (loads spots target address) x among)).0
    checked_looks copied all (loads_any spots target address range) store h = tt
    checked_looks copied all (stores spots address source) store h = tt
    checked_looks copied all (clears cleared) store h = tt
    checked_looks copied all (locks m) store h = tt
    checked_looks copied all (unlocks m) store h = tt
    checked_looks copied all yields store h = tt
    checked_looks copied all (probes m target answer) store h = tt

    pub checked_makes : (action : Action) (store : Interferences) → Checked action d store
        → Makes copies fresh pending around action s
    unfolding IsChecked Makes targets_of
    checked_makes skips store h = tt
    checked_makes (gives target calculation) store h = tt
    checked_makes (refines filter) store h = tt
    checked_makes (loads spots target address) store h =
        λ x among. (h x (fewer (loads spots target address) x among)).1
    checked_makes (loads_any spots target address range) store h = tt
    checked_makes (stores spots address source) store h =
        λ x among. (let c = h x (fewer (stores spots address source) x among) in (c.1, c.2))
    checked_makes (clears cleared) store h = tt
    checked_makes (locks m) store h = tt
    checked_makes (unlocks m) store h = tt
    checked_makes yields store h = tt
    checked_makes (probes m target answer) store h = tt

  -- a check looks at the temporaries of a state alone
  pub checked_by_front : (action : Action) (store : Interferences) (s t : State) → s.temps ≡ t.temps
      → Checked action s store → Checked action t store
  unfolding IsChecked
  checked_by_front skips store s t same h = tt
  checked_by_front (gives target calculation) store s t same h = tt
  checked_by_front (refines filter) store s t same h = h
  checked_by_front (loads spots target address) store s t same h =
      λ x among. h x (subst (λ (q : Table Temp).
      is_among (targets_at spots (value_of (record { temps = q; cells = t.cells }) address).pointers) x ≡ true)
      (sym same) among)
  checked_by_front (loads_any spots target address range) store s t same h = tt
  checked_by_front (stores spots address source) store s t same h =
      λ x among. h x (subst (λ (q : Table Temp).
      is_among (targets_at spots (value_of (record { temps = q; cells = t.cells }) address).pointers) x ≡ true)
      (sym same) among)
  checked_by_front (clears cleared) store s t same h = h
  checked_by_front (locks m) store s t same h = h
  checked_by_front (unlocks m) store s t same h = h
  checked_by_front yields store s t same h = h
  checked_by_front (probes m target true) store s t same h = tt
  checked_by_front (probes m target false) store s t same h = h
