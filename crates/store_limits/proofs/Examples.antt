-- The heights of the example at the head of the crate, and the limit of a small table.
use Rattle.std.specs.Prelude.{◌≡◌, ℕ, suc, ◌+◌, pos, List, [], ◌∷◌, length, refl}
use Rattle.std.proofs.Common.{sym, ap, ◌∙◌, arith}
use Rattle.std.specs.Cmp.{nat_cmp_total}
use Rattle.std.specs.Ordering.{nat_cmp}
use Rattle.std.specs.FinMap as map
use Rattle.std.specs.FinMap.{entries, insert, put, len-entries, len-empty, entries-insert}
use Rattle.program_equations.specs.strided_dom.Progression.{single}
use Rattle.program_equations.specs.tm_lattice.Heights.{entries_height, table_height}
use Rattle.program_equations.specs.pointer_dom.Values.{Values}
use Rattle.program_equations.specs.interfere_set.Stores.{Interferences, no_interference, nested_entry, store_height}
use Rattle.program_equations.specs.transfer_rows.StateForms.{only_numbers}
use Rattle.program_equations.specs.value_heights.Heights.{number_count, offsets_height, value_height}
use Rattle.store_limits.specs.Limits.{table_limit}

-- ## Tables of no entry and of one

nothing_listed : {A : Type 0} (es : List A) → length es ≡ 0 → es ≡ []
nothing_listed [] none = refl
nothing_listed (e ∷ es) none = absurd (omega (arith, none))

module _ {V : Type 0} (height : V → ℕ) where
  none_listed : entries (map.empty {X = V} {R = nat_cmp}) ≡ []
  none_listed = nothing_listed (entries map.empty) (sym (len-entries map.empty) ∙ len-empty nat_cmp V)

  none_stands : table_height height map.empty ≡ 0
  none_stands = ap (entries_height height) none_listed

  one_stands : (k : ℕ) (v : V) → table_height height (insert map.empty k v) ≡ suc (height v)
  one_stands k v =
      let one : table_height height (insert map.empty k v) ≡ suc (height v) + 0 = ap (entries_height height)
      (entries-insert nat_cmp_total map.empty k v ∙ ap (put nat_cmp k v) none_listed) in
      omega (arith, one)

-- ## The example

abbrev five : Values
five = only_numbers (single (pos 5))

-- the task 0 wrote 5 to the cell 0, and held no mutex
abbrev written : Interferences
written = record no_interference { weak = nested_entry 0 0 0 five }

nothing_stands_at_zero : store_height value_height no_interference ≡ 0
nothing_stands_at_zero =
    let none = none_stands (table_height (table_height value_height)) in omega (arith, none)

five_stands_at_one : value_height five ≡ 1
unfolding number_count
five_stands_at_one = ap (λ n. 1 + (0 + 0 + n)) (none_stands offsets_height)

written_stands_at_four : store_height value_height written ≡ 4
written_stands_at_four =
    let cells = one_stands value_height 0 five in
    let sets = one_stands (table_height value_height) 0 (insert map.empty 0 five) in
    let tasks = one_stands (table_height (table_height value_height)) 0
    (insert map.empty 0 (insert map.empty 0 five)) in
    let sync = none_stands (table_height (table_height value_height)) in
    let value = five_stands_at_one in
    omega (arith, cells, sets, tasks, sync, value)

-- two entries of height 3
two_keys : table_limit 2 3 ≡ 8
two_keys = refl
