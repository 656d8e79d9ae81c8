-- What tasks leave in cells.
use Rattle.std.proofs.Common.{◌≡◌, ◌≢◌, ◌↔◌, ℕ, zero, suc, ◌<◌, ◌≤◌, refl, ap, sym, subst, ◌∙◌, inl, inr, Bool}
use Rattle.std.proofs.Common.{true, false, not}
use Rattle.std.proofs.Common.{List, [], ◌∷◌, length, get_or, Option, Some, None, arith}
use Rattle.std.specs.Prelude.{Contains}
use Rattle.std.specs.FinMap.{get, entries}
use Rattle.std.proofs.lemmas.Bool.{true≢false}
use Rattle.tm_lattice.specs.Tables.{Table}
use Rattle.pointer_dom.specs.Values.{Values, no_value}
use Rattle.interfere_set.specs.Stores.{Nested, value_or_none, left_in}
use Rattle.interfere_set.specs.laws.Joins.{IsOf, entry_of, of_entry}
use Rattle.post_recheck.specs.transfer_rows.Contributions.{at_task, entry_at}
use Rattle.operand_orders.specs.Reached.{SolvedBody}
use Rattle.operand_orders.specs.Order.{IsStoredByOthers}
use Rattle.operand_orders.specs.reading.Touches.{LeavesIn}

-- ## Values

pub value_is : (at : Option Values) (v : Values) → Some v ≡ at → (r : Bool) → ((r ≡ true) ↔ (v ≡ no_value))
    → (not r ≡ true) ↔ (value_or_none at ≢ no_value)
value_is at v e true h = (
  λ t. absurd (true≢false (sym t)),
  λ n. absurd (n (sym (ap value_or_none e) ∙ h.0 refl)),
)
value_is at v e false h = (
  λ t is. true≢false (sym (h.1 (ap value_or_none e ∙ is))),
  λ n. refl,
)

pub no_value_is : (at : Option Values) → None ≡ at → (false ≡ true) ↔ (value_or_none at ≢ no_value)
no_value_is at e = (λ t. absurd (true≢false (sym t)), λ n. absurd (n (sym (ap value_or_none e))))

-- ## Entries

pub of_index : {A : Type 0} (xs : List A) (i : ℕ) (x : A) → i < length xs → get_or xs i x ≡ x → IsOf xs x
of_index [] i x lt e = absurd (omega (arith, lt))
of_index (y ∷ xs) zero x lt e = inl (sym e)
of_index (y ∷ xs) (suc i) x lt e = inr (of_index xs i x (omega (arith, lt)) e)

index_of : {A : Type 0} (xs : List A) (x : A) → IsOf xs x → Contains xs x
index_of [] x h = absurd h
index_of (y ∷ xs) x (inl e) = (zero, omega arith, sym e)
index_of (y ∷ xs) x (inr h) = (let at = index_of xs x h in (suc at.0, (let lt = at.1 in omega (arith, lt)), at.2))

module _ (written : Table (Table Values)) (cell : ℕ) where
  pub leaves_by : (sets : List (ℕ × Table Values)) → sets ≡ entries written → (i : ℕ) (e : ℕ × Table Values)
      → i < length sets → e ≡ get_or sets i e → value_or_none (get e.1 cell) ≢ no_value → LeavesIn written cell
  leaves_by sets is i e lt at some = record {
    held = e.0;
    left = subst (λ x. left_in cell x ≢ no_value)
        (sym (of_entry written e (subst (λ xs. IsOf xs e) is (of_index sets i e lt (sym at))))) some;
  }

  left_case : (held : ℕ) (at : Option (Table Values)) → get written held ≡ at → left_in cell at ≢ no_value
      → (e : ℕ × Table Values) × IsOf (entries written) e × (value_or_none (get e.1 cell) ≢ no_value)
  left_case held None e some = absurd (some refl)
  left_case held (Some cells) e some = ((held, cells), entry_of written held cells e, some)

  pub leaves_none : (sets : List (ℕ × Table Values)) → sets ≡ entries written → (n : ℕ) → length sets ≤ n
      → ((k : ℕ) (e : ℕ × Table Values) → k < n → get_or sets k e ≡ e
      → value_or_none (get e.1 cell) ≢ no_value → ⊥) → LeavesIn written cell → ⊥
  leaves_none sets is n le never h =
      let found = left_case h.held (get written h.held) refl h.left in
      let at = index_of sets found.0 (subst (λ xs. IsOf xs found.0) (sym is) found.1) in
      never at.0 found.0 (let lt = at.1 in omega (arith, le, lt)) at.2 found.2

module _ (b : SolvedBody) (weak : Nested) (is : (let s = b.store in s.weak ≡ weak)) (cell : ℕ) where
  pub stored_by : (tasks : List (ℕ × Table (Table Values))) → tasks ≡ entries weak → (i : ℕ)
      (e : ℕ × Table (Table Values)) → i < length tasks → e ≡ get_or tasks i e → (e.0 ≢ b.number) × LeavesIn e.1 cell
      → IsStoredByOthers b cell
  stored_by tasks tasks-are i e lt at h = record {
    task = e.0;
    held = h.1.held;
    other = h.0;
    stored = subst (λ w. entry_at w e.0 h.1.held cell ≢ no_value) (sym is)
        (subst (λ x. at_task h.1.held cell x ≢ no_value)
        (sym (of_entry weak e (subst (λ xs. IsOf xs e) tasks-are (of_index tasks i e lt (sym at))))) h.1.left);
  }

  task_case : (task held : ℕ) (at : Option (Table (Table Values))) → get weak task ≡ at
      → at_task held cell at ≢ no_value
      → (written : Table (Table Values)) × IsOf (entries weak) (task, written) × LeavesIn written cell
  task_case task held None e some = absurd (some refl)
  task_case task held (Some written) e some =
      (written, entry_of weak task written e, record { held = held; left = some })

  pub stored_none : (tasks : List (ℕ × Table (Table Values))) → tasks ≡ entries weak → (n : ℕ) → length tasks ≤ n
      → ((k : ℕ) (e : ℕ × Table (Table Values)) → k < n → get_or tasks k e ≡ e
      → (e.0 ≢ b.number) × LeavesIn e.1 cell → ⊥) → IsStoredByOthers b cell → ⊥
  stored_none tasks tasks-are n le never h =
      let found = task_case h.task h.held (get weak h.task) refl
      (subst (λ w. entry_at w h.task h.held cell ≢ no_value) is h.stored) in
      let e : ℕ × Table (Table Values) = (h.task, found.0) in
      let at = index_of tasks e (subst (λ xs. IsOf xs e) (sym tasks-are) found.1) in
      never at.0 e (let lt = at.1 in omega (arith, le, lt)) at.2 (h.other, found.2)
