-- What stands in an entry of a store stands in those of stores above it; and whoever may see it sees it.
use Rattle.std.specs.Prelude.{◌≡◌, ◌⊎◌, ◌≤◌, ℕ, zero, suc, ◌<◌, ◌&&◌, ◌||◌, not, eqb, leb, bit_and, Bool, true}
use Rattle.std.specs.Prelude.{false}
use Rattle.std.specs.Prelude.{Option, Some, None, min}
use Rattle.std.proofs.Common.{refl, sym, ◌∙◌, inl, inr, arith}
use Rattle.std.specs.Int.{bit_at}
use Rattle.std.specs.FinMap.{get}
use Rattle.std.proofs.lemmas.Bool.{and_from, or_left, or_right, eq-eqb, ne_eqb, le-leb, not_from_false, cases_eq}
use Rattle.std.proofs.lemmas.Nat.Bits.{bit_at_and, bit_at-zero, bit_at-lt, same_from_bits}
use Rattle.program_shape.specs.tm_lattice.Tables.{Table, IsBelow, IsTableBelow}
use Rattle.program_reports.specs.pointer_dom.Pointer.{ScalarValue}
use Rattle.program_reports.specs.pointer_dom.Values.{Values, IsValueIn, IsValuesBelow}
use Rattle.program_reports.proofs.low.pointer_dom.Meaning.{value_included}
use Rattle.program_reports.specs.cell_env.Cells.{IsWithin}
use Rattle.program_reports.specs.interfere_set.Stores.{Nested, Interferences, IsStore, IsNestedBelow, Reader}
use Rattle.program_reports.specs.interfere_set.Stores.{value_or_none, left_in}
use Rattle.program_reports.specs.interfere_set.Stores.{are_apart, is_visible, visible, handed}
use Rattle.program_reports.specs.interfere_set.laws.Hearing.{visible_upper, handed_upper}
use Rattle.program_reports.specs.transfer_rows.Contributions.{at_task, entry_at}
use Rattle.program_reports.proofs.low.transfer_rows.CoverSteps.{none_has}
use Rattle.sound_tables.proofs.MutexSets.{from_bit}
use Rattle.sound_tables.proofs.Covering.{within_small}
use Rattle.sound_tables.proofs.Hearing.{Apart}

-- ## Stores above

module _ (w : ScalarValue) where
  value_up : (a b : Option Values) → IsBelow IsValuesBelow a b → IsValueIn (value_or_none a) w
      → IsValueIn (value_or_none b) w
  value_up None b le h = absurd (none_has w h)
  value_up (Some u) None le h = absurd le
  value_up (Some u) (Some v) le h = value_included u v w le h

  module _ (x : ℕ) where
    cells_up : (a b : Option (Table Values)) → IsBelow (IsTableBelow IsValuesBelow) a b → IsValueIn (left_in x a) w
        → IsValueIn (left_in x b) w
    cells_up None b le h = absurd (none_has w h)
    cells_up (Some s) None le h = absurd le
    cells_up (Some s) (Some t) le h = value_up (get s x) (get t x) (le x) h

    task_up : (l : ℕ) (a b : Option (Table (Table Values)))
        → IsBelow (IsTableBelow (IsTableBelow IsValuesBelow)) a b → IsValueIn (at_task l x a) w
        → IsValueIn (at_task l x b) w
    task_up l None b le h = absurd (none_has w h)
    task_up l (Some s) None le h = absurd le
    task_up l (Some s) (Some t) le h = cells_up (get s l) (get t l) (le l) h

    pub entry_up : (n m : Nested) → IsNestedBelow n m → (j l : ℕ) → IsValueIn (entry_at n j l x) w
        → IsValueIn (entry_at m j l x) w
    entry_up n m le j l h = task_up l (get n j) (get m j) (le j) h

    -- ## What stands in an entry

    pub record IsEntry (n : Nested) (j l : ℕ) : Type 0 where
      pub written : Table (Table Values)
      pub cells : Table Values
      pub value : Values
      pub at_writer : get n j ≡ Some written
      pub at_set : get written l ≡ Some cells
      pub at_cell : get cells x ≡ Some value
      pub holds : IsValueIn value w

    some_value : (a : Option Values) → IsValueIn (value_or_none a) w → (v : Values) × (a ≡ Some v) × IsValueIn v w
    some_value None h = absurd (none_has w h)
    some_value (Some v) h = (v, refl, h)

    some_cells : (a : Option (Table Values)) → IsValueIn (left_in x a) w
        → (t : Table Values) × (a ≡ Some t) × IsValueIn (value_or_none (get t x)) w
    some_cells None h = absurd (none_has w h)
    some_cells (Some t) h = (t, refl, h)

    some_task : (l : ℕ) (a : Option (Table (Table Values))) → IsValueIn (at_task l x a) w
        → (t : Table (Table Values)) × (a ≡ Some t) × IsValueIn (left_in x (get t l)) w
    some_task l None h = absurd (none_has w h)
    some_task l (Some t) h = (t, refl, h)

    pub entry_of : (n : Nested) (j l : ℕ) → IsValueIn (entry_at n j l x) w → IsEntry n j l
    entry_of n j l h =
        let one = some_task l (get n j) h in
        let two = some_cells (get one.0 l) one.2 in
        let three = some_value (get two.0 x) two.2 in record {
          written = one.0;
          cells = two.0;
          value = three.0;
          at_writer = one.1;
          at_set = two.1;
          at_cell = three.1;
          holds = three.2;
        }

-- ## Sets apart

low_bit : (b : ℕ) → b < 2 → (b ≡ 1 → ⊥) → b ≡ 0
low_bit zero lt ne = refl
low_bit (suc zero) lt ne = absurd (ne refl)
low_bit (suc (suc b)) lt ne = absurd (omega (arith, lt))

no_common : (l h k : ℕ) → IsWithin l 65535 → Apart l h → (bit_at l k ≡ 1) ⊎ (bit_at l k ≡ 1 → ⊥)
    → (bit_at h k ≡ 1) ⊎ (bit_at h k ≡ 1 → ⊥) → min (bit_at l k) (bit_at h k) ≡ 0
no_common l h k within apart (inl a) (inl b) =
    let small = within_small l k within a in
    absurd (apart k (record { small = small; is = from_bit l k a }) (record { small = small; is = from_bit h k b }))
no_common l h k within apart (inr a) b =
    let z = low_bit (bit_at l k) (bit_at-lt l k) a in omega (arith, z)
no_common l h k within apart (inl a) (inr b) =
    let z = low_bit (bit_at h k) (bit_at-lt h k) b in omega (arith, z)

pub sets_apart : (l h : ℕ) → IsWithin l 65535 → Apart l h → are_apart l h ≡ true
sets_apart l h within apart =
    eq-eqb (bit_and l h) 0 (same_from_bits (bit_and l h) 0 (λ k.
    bit_at_and l h k ∙ no_common l h k within apart (cases_eq (bit_at l k) 1) (cases_eq (bit_at h k) 1)
    ∙ sym (bit_at-zero k)))

-- ## Who sees what

module _ (reader : Reader) (fresh : Bool) (j l : ℕ) (within : IsWithin l 65535) (other : (j ≡ reader.task) → ⊥)
    (apart : Apart l reader.held)
    (why : (reader.priority reader.task ≤ reader.priority j) ⊎ ((fresh ≡ false) × Apart l reader.found)) where
  reason : (reader.priority reader.task ≤ reader.priority j) ⊎ ((fresh ≡ false) × Apart l reader.found)
      → (leb (reader.priority reader.task) (reader.priority j) || (not fresh && are_apart l reader.found)) ≡ true
  reason (inl le) =
      or_left (leb (reader.priority reader.task) (reader.priority j)) (not fresh && are_apart l reader.found)
      (le-leb (reader.priority reader.task) (reader.priority j) le)
  reason (inr old) =
      or_right (leb (reader.priority reader.task) (reader.priority j)) (not fresh && are_apart l reader.found)
      (and_from (not fresh) (are_apart l reader.found) (not_from_false fresh old.0)
      (sets_apart l reader.found within old.1))

  pub is_seen : is_visible reader fresh j l ≡ true
  is_seen =
      let rest = leb (reader.priority reader.task) (reader.priority j) || (not fresh && are_apart l reader.found) in
      and_from (not (eqb j reader.task)) (are_apart l reader.held && rest)
      (not_from_false (eqb j reader.task) (ne_eqb j reader.task other))
      (and_from (are_apart l reader.held) rest (sets_apart l reader.held within apart) (reason why))

  pub entry_seen : (x : ℕ) (store : Interferences) → IsStore store → (w : ScalarValue)
      → IsValueIn (entry_at store.weak j l x) w → IsValueIn (visible reader fresh x store) w
  entry_seen x store store-is w h =
      let k = entry_of w x store.weak j l h in
      value_included k.value (visible reader fresh x store) w
      (visible_upper reader x fresh store j l k.written k.cells k.value store-is.weak k.at_writer k.at_set k.at_cell
      is_seen) k.holds

pub entry_handed : (task m x j : ℕ) (store : Interferences) → IsStore store → (j ≡ task → ⊥) → (w : ScalarValue)
    → IsValueIn (entry_at store.sync j m x) w → IsValueIn (handed task m x store) w
entry_handed task m x j store store-is other w h =
    let k = entry_of w x store.sync j m h in
    value_included k.value (handed task m x store) w
    (handed_upper task m x store j k.written k.cells k.value store-is.sync k.at_writer k.at_set k.at_cell
    (ne_eqb j task other)) k.holds
