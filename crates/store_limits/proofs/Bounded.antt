-- Stores that fit a program stand no higher than its limit.
use Rattle.std.specs.Prelude.{◌≡◌, ℕ, suc, ◌+◌, ◌*◌, ◌<◌, ◌≤◌, List, [], ◌∷◌, length, Some, T, refl}
use Rattle.std.proofs.Common.{inl, inr, arith, mul-le-mul_right, suc-mul}
use Rattle.std.specs.Ordering.{nat_cmp}
use Rattle.std.specs.FinMap.{is_sorted, get, entries, entries_sorted}
use Rattle.program_equations.specs.tm_lattice.Heights.{entries_height, table_height}
use Rattle.program_equations.specs.tm_lattice.Tables.{Table}
use Rattle.program_equations.specs.tm_lattice.laws.Keys.{AllAbove, AllAbove-rest, is_sorted-rest}
use Rattle.program_equations.specs.tm_laid.Layouts.{abstract_at}
use Rattle.program_equations.specs.pointer_dom.Values.{Values}
use Rattle.program_equations.specs.cell_env.Cells.{IsWithin}
use Rattle.program_equations.specs.cell_env.laws.Bits.{within_le}
use Rattle.program_equations.specs.interfere_set.Stores.{Nested, Interferences, store_height}
use Rattle.program_equations.specs.interfere_set.laws.Joins.{IsOf, of_entry}
use Rattle.program_equations.specs.value_heights.Heights.{value_height}
use Rattle.program_equations.specs.value_heights.laws.ValueHeights.{value_heights}
use Rattle.program_equations.specs.typed_values.Types.{IsOfType}
use Rattle.program_equations.specs.state_fits.Tops.{all_values}
use Rattle.program_equations.specs.state_fits.Fits.{file_set, FitsNested}
use Rattle.program_equations.specs.temporary_types.Sorts.{IsMutex}
use Rattle.program_equations.specs.state_fits.laws.TopStates.{all_are, values_below}
use Rattle.program_equations.specs.state_fits.laws.FileSets.{in_sixteen}
use Rattle.program_equations.specs.Programs.{ProgramBodies}
use Rattle.program_equations.specs.Systems.{FitsProgram}
use Rattle.program_equations.specs.laws.EntryStates.{typed_is}
use Rattle.store_limits.specs.Limits.{table_limit, value_limit, cells_limit, entries_limit, store_limit}

-- ## Tables

module _ {V : Type 0} (height : V → ℕ) (keys most : ℕ) where
  -- the key is below the number of keys, and the value not higher than the highest
  abbrev IsLow : ℕ → V → Type 0
  IsLow k v = (k < keys) × (height v ≤ most)

  abbrev AreLow : List (ℕ × V) → Type 0
  AreLow es = (e : ℕ × V) → IsOf es e → IsLow e.0 e.1

  -- the entry of a key and so many above it
  one_more : (k j h rest : ℕ) → k < j → h ≤ most → rest + suc j * suc most ≤ keys * suc most
      → suc h + rest + suc k * suc most ≤ keys * suc most
  one_more k j h rest lt low more =
      let wide : suc k * suc most ≤ j * suc most = mul-le-mul_right (suc most) (omega (arith, lt)) in
      let whole : suc j * suc most ≡ j * suc most + suc most = suc-mul j (suc most) in
      omega (arith, wide, whole, low, more)

  -- entries above a key
  entries_above : (k : ℕ) (es : List (ℕ × V)) → k < keys → T (is_sorted nat_cmp es) → AllAbove k es → AreLow es
      → entries_height height es + suc k * suc most ≤ keys * suc most
  entries_above k [] lt sorted above low =
      let wide : suc k * suc most ≤ keys * suc most = mul-le-mul_right (suc most) (omega (arith, lt)) in
      omega (arith, wide)
  entries_above k (e ∷ es) lt sorted above low =
      let here = low e (inl refl) in
      one_more k e.0 (height e.1) (entries_height height es) above.0 here.1
      (entries_above e.0 es here.0 (is_sorted-rest e es sorted) (AllAbove-rest e es sorted) (λ d h. low d (inr h)))

  entries_low : (es : List (ℕ × V)) → T (is_sorted nat_cmp es) → AreLow es
      → entries_height height es ≤ table_limit keys most
  entries_low [] sorted low = omega arith
  entries_low (e ∷ es) sorted low =
      let here = low e (inl refl) in
      let rest = entries_above e.0 es here.0 (is_sorted-rest e es sorted) (AllAbove-rest e es sorted)
      (λ d h. low d (inr h)) in
      let whole : suc e.0 * suc most ≡ e.0 * suc most + suc most = suc-mul e.0 (suc most) in
      omega (arith, here.1, rest, whole)

  -- a table whose keys and values are low
  pub table_low : (t : Table V) → ((k : ℕ) (v : V) → get t k ≡ Some v → IsLow k v)
      → table_height height t ≤ table_limit keys most
  table_low t low = entries_low (entries t) (entries_sorted t) (λ e h. low e.0 e.1 (of_entry t e h))

-- ## Stores

module _ (p : ProgramBodies) where
  -- a value of the type of a cell
  value_low : (x : ℕ) (v : Values)
      → (let a = abstract_at p.laid x in IsOfType p.laid a.scalar v)
      → value_height v ≤ value_limit p
  value_low x v h =
      let a = abstract_at p.laid x in
      value_heights.climbs v (all_values p.laid) (typed_is p.laid x v h) (all_are p.laid)
      (values_below p.laid a.scalar v h)

  -- the entries of all tasks
  entries_bounded : (sets : ℕ) (IsSet : ℕ → Type 0) → ((l : ℕ) → IsSet l → l < sets) → (n : Nested)
      → FitsNested p.laid p.tasks IsSet n
      → table_height (table_height (table_height value_height)) n ≤ entries_limit p sets
  unfolding entries_limit
  entries_bounded sets IsSet few n fits =
      table_low (table_height (table_height value_height)) p.tasks (table_limit sets (cells_limit p)) n
      (λ j written at_j. (
        fits.writers j written at_j,
        table_low (table_height value_height) sets (cells_limit p) written
            (λ l cells at_l. (
              few l (fits.sets j l written cells at_j at_l),
              table_low value_height (length p.laid.abstract_cells) (value_limit p) cells
                  (λ x v at_x. (
                    (fits.shared j l x written cells v at_j at_l at_x).0,
                    value_low x v (fits.values j l x written cells v at_j at_l at_x),
                  )),
            )),
      ))

  sets_few : (l : ℕ) → IsWithin l (file_set p.laid) → l < 65536
  sets_few l within = let le : l ≤ 65535 = within_le l 65535 (in_sixteen p.laid l within) in omega (arith, le)

  pub store_bounded : (store : Interferences) → FitsProgram p store
      → store_height value_height store ≤ store_limit p
  store_bounded store fits =
      let weak : table_height (table_height (table_height value_height)) store.weak ≤ entries_limit p 65536 =
      entries_bounded 65536 (λ l. IsWithin l (file_set p.laid)) sets_few store.weak fits.weak in
      let sync : table_height (table_height (table_height value_height)) store.sync ≤ entries_limit p 16 =
      entries_bounded 16 (IsMutex p.laid) (λ m h. h.1) store.sync fits.sync in
      omega (arith, weak, sync)
