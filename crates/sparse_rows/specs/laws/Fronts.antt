-- What reports read is in the front, and what an operation adds is in the front and the touched cells.
use Rattle.std.specs.Prelude.{◌≡◌, ℕ, ◌&&◌, cond, eqb, List, [], ◌∷◌, refl}
use Rattle.std.proofs.Common.{ap, subst, ◌∙◌}
use Rattle.std.specs.FinMap as tables
use Rattle.std.specs.FinMap.{get, insert, keys}
use Rattle.tm_cint.specs.declared.Class.{Class}
use Rattle.transfer_rows.specs.cell_env.tm_lattice.Tables.{Table}
use Rattle.transfer_rows.specs.interfere_set.pointer_dom.Values.{Values, no_value}
use Rattle.transfer_rows.specs.StateForms.{Cell, State, Temp, is_no_value}
use Rattle.transfer_rows.specs.Actions.{Around, Action, Filter, skips, gives, refines, loads, loads_any, stores, clears}
use Rattle.transfer_rows.specs.Actions.{locks, unlocks, yields, probes, usable, numbers_compare, pointers_compare}
use Rattle.transfer_rows.specs.Actions.{Calculation, constant, copied, negated, complemented, operated, converted}
use Rattle.transfer_rows.specs.Actions.{compared, part, element, moved, dereferenced}
use Rattle.transfer_rows.specs.Rows.{holds}
use Rattle.transfer_rows.specs.Reports.{targets_of, CalculationMayFail, FilterMayFail, IsListed, left_by, weak_of}
use Rattle.transfer_rows.specs.Reports.{sync_of}
use Rattle.transfer_rows.specs.Contributions.{cells_added, nested_under, added}

module _ (p : Table Temp) (c d : Table Cell) where
  abbrev one : State
  one = record { temps = p; cells = c }

  abbrev two : State
  two = record { temps = p; cells = d }

  targets_same : (action : Action) → targets_of action one ≡ targets_of action two
  unfolding targets_of
  targets_same skips = refl
  targets_same (gives target calculation) = refl
  targets_same (refines filter) = refl
  targets_same (loads spots target address) = refl
  targets_same (loads_any spots target address range) = refl
  targets_same (stores spots address source) = refl
  targets_same (clears cleared) = refl
  targets_same (locks m) = refl
  targets_same (unlocks m) = refl
  targets_same yields = refl
  targets_same (probes m target answer) = refl

  fails_same : (calculation : Calculation) (class : Class) → CalculationMayFail calculation one class
      → CalculationMayFail calculation two class
  unfolding CalculationMayFail
  fails_same (constant value) class h = h
  fails_same (copied source) class h = h
  fails_same (negated type source) class h = h
  fails_same (complemented type source) class h = h
  fails_same (operated op type left right) class h = h
  fails_same (converted type source) class h = h
  fails_same (compared equal left right) class h = h
  fails_same (part size source) class h = h
  fails_same (element count size source index) class h = h
  fails_same (moved forward size source count) class h = h
  fails_same (dereferenced alive stands source) class h = h

  filter_same : (filter : Filter) (class : Class) → FilterMayFail filter one class → FilterMayFail filter two class
  filter_same (usable source) class h = h
  filter_same (numbers_compare op left right) class h = h
  filter_same (pointers_compare equal left right) class h = h

  listed_same : (around : Around) (action : Action) (class : Class) → IsListed around action one class
      → IsListed around action two class
  unfolding IsListed
  listed_same around skips class h = h
  listed_same around (gives target calculation) class h = fails_same calculation class h
  listed_same around (refines filter) class h = filter_same filter class h
  listed_same around (loads spots target address) class h = h
  listed_same around (loads_any spots target address range) class h = h
  listed_same around (stores spots address source) class h = h
  listed_same around (clears cleared) class h = h
  listed_same around (locks m) class h = h
  listed_same around (unlocks m) class h = h
  listed_same around yields class h = h
  listed_same around (probes m target answer) class h = h

  cells_same : (f g : ℕ → Values) → ((x : ℕ) → f x ≡ g x) → (xs : List ℕ) → cells_added f xs ≡ cells_added g xs
  cells_same f g same [] = refl
  cells_same f g same (x ∷ xs) =
      ap (λ (v : Values). cond (is_no_value v) (cells_added f xs) (insert (cells_added f xs) x v)) (same x)
      ∙ ap (λ (t : Table Values). cond (is_no_value (g x)) t (insert t x (g x))) (cells_same f g same xs)

  -- an unlock adds what is pending, so it wants the cells that are
  module _ (around : Around) (m : ℕ) (same : (x : ℕ) → left_by m (get c x) ≡ left_by m (get d x))
      (domain : keys c ≡ keys d) where
    sync_same : (n x : ℕ) → sync_of around (unlocks m) one n x ≡ sync_of around (unlocks m) two n x
    unfolding sync_of
    sync_same n x = ap (λ (v : Values). cond (around.is_shared x && (eqb n m && holds around m)) v no_value) (same x)

    pub unlock_adds : added around (unlocks m) one ≡ added around (unlocks m) two
    unfolding added
    unlock_adds =
        ap (λ (t : Table Values). record { weak = tables.empty; sync = nested_under around.reader.task m t })
        (ap (λ (xs : List ℕ). cells_added (sync_of around (unlocks m) one m) xs) domain
        ∙ cells_same (sync_of around (unlocks m) one m) (sync_of around (unlocks m) two m) (sync_same m) (keys d))

  pub store_adds : (around : Around) (action : Action) → ((m : ℕ) → action ≡ unlocks m → ⊥)
      → added around action one ≡ added around action two
  unfolding added weak_of targets_of
  store_adds around skips other = refl
  store_adds around (gives target calculation) other = refl
  store_adds around (refines filter) other = refl
  store_adds around (loads spots target address) other = refl
  store_adds around (loads_any spots target address range) other = refl
  store_adds around (stores spots address source) other = refl
  store_adds around (clears cleared) other = refl
  store_adds around (locks m) other = refl
  store_adds around (unlocks m) other = absurd (other m refl)
  store_adds around yields other = refl
  store_adds around (probes m target answer) other = refl

-- the report reads the front alone
pub front_targets : (s t : State) → s.temps ≡ t.temps → (action : Action) → targets_of action s ≡ targets_of action t
front_targets s t same action =
    subst (λ (q : Table Temp). targets_of action s ≡ targets_of action (record { temps = q; cells = t.cells })) same
    (targets_same s.temps s.cells t.cells action)

pub front_listed : (around : Around) (s t : State) → s.temps ≡ t.temps → (action : Action) (class : Class)
    → IsListed around action s class → IsListed around action t class
front_listed around s t same action class h =
    subst (λ (q : Table Temp). IsListed around action (record { temps = q; cells = t.cells }) class) same
    (listed_same s.temps s.cells t.cells around action class h)

-- what an operation adds is in the front too, but at an unlock
pub front_adds : (around : Around) (s t : State) → s.temps ≡ t.temps → (action : Action)
    → ((m : ℕ) → action ≡ unlocks m → ⊥) → added around action s ≡ added around action t
front_adds around s t same action other =
    subst (λ (q : Table Temp). added around action s ≡ added around action (record { temps = q; cells = t.cells })) same
    (store_adds s.temps s.cells t.cells around action other)
