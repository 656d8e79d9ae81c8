-- A sparse table of a body whose edges were checked is the least solution of the equations of the body.
use Rattle.std.specs.Prelude.{◌≡◌, ℕ, ℤ, ◌==◌, Bool, true, false, cond, List, Option, Some, None, IfSome, refl, is_some}
use Rattle.std.proofs.Common.{ap, ◌∙◌}
use Rattle.std.specs.FinMap.{get}
use Rattle.std.specs.List.{list_any}
use Rattle.sparse_rows.specs.transfer_rows.interfere_set.Stores.{Interferences}
use Rattle.sparse_rows.specs.transfer_rows.StateForms.{State, Cell}
use Rattle.std.proofs.lemmas.Bool.{true≢false}
use Rattle.sparse_rows.specs.transfer_rows.cell_env.tm_lattice.Tables.{rounded_among}
use Rattle.sparse_rows.specs.transfer_rows.cell_env.tm_lattice.laws.SelectedLaws.{changed_at, get-changed_table}
use Rattle.sparse_rows.specs.transfer_rows.cell_env.Cells.{rounded_cell}
use Rattle.sparse_rows.specs.transfer_rows.interfere_set.pointer_dom.Values.{rounded_values}
use Rattle.sparse_rows.specs.transfer_rows.Rows.{after}
use Rattle.task_equations.specs.state_fits.temporary_types.Sorts.{Sort}
use Rattle.task_equations.specs.state_fits.Fits.{FitsStore}
use Rattle.task_equations.specs.state_fits.laws.PlacesFit.{states_order, states_join}
use Rattle.task_equations.specs.table_covers.Solutions.{NodeTable, IsLeastSolution}
use Rattle.task_equations.specs.Bodies.{Body, copy_at}
use Rattle.task_equations.specs.Equations.{action_along, around_along, led, cells_at, rounded_at, equations_of}
use Rattle.task_equations.specs.Premises.{IsBody, FitsBody}
use Rattle.task_equations.specs.laws.Lawful as lawful
use Rattle.sparse_rows.specs.sparse_tables.Sparse.{Placing, IsPlaced, IsSparseLeast}
use Rattle.sparse_rows.specs.StateParts.{states, state_parts}
use Rattle.sparse_rows.specs.Traces.{IsTraced}
use Rattle.sparse_rows.specs.laws.Bodies as bodies
use Rattle.sparse_rows.specs.laws.Bodies.{AreRows, rounded_to}
use Rattle.sparse_rows.specs.Checks.{AreChecked}
use Rattle.sparse_bodies.specs.Carries.{carry_along}

led_is : (to : Option ℕ) (y : Option State) → led to y ≡ cond (is_some to) y None
led_is None y = refl
led_is (Some n) y = refl

rounding_is : (marks : List ℤ) (cells : Option (List ℕ)) (s : State) → rounded_at marks cells s ≡ rounded_to marks cells s
rounding_is marks None s = refl
rounding_is marks (Some cells) s = refl

cond_other : (b : Bool) (c d : Cell) → b ≡ false → cond b c d ≡ d
cond_other true c d is = absurd (true≢false is)
cond_other false c d is = refl

changed_other : (round : Cell → Cell) (keys : List ℕ) (x : ℕ) → list_any (λ k. k == x) keys ≡ false
    → (a : Option Cell) → changed_at (rounded_among round keys) x a ≡ a
changed_other round keys x other None = refl
changed_other round keys x other (Some c) = ap Some (cond_other (list_any (λ k. k == x) keys) (round c) c other)

plain_at : (marks : List ℤ) (cells : Option (List ℕ)) (x : ℕ)
    → IfSome cells (λ keys. list_any (λ k. k == x) keys ≡ false) → (s : State)
    → (let t = rounded_at marks cells s in get t.cells x ≡ get s.cells x)
plain_at marks None x other s = refl
plain_at marks (Some keys) x other s =
    get-changed_table (rounded_among (rounded_cell (rounded_values marks)) keys) s.cells x
    ∙ changed_other (rounded_cell (rounded_values marks)) keys x other (get s.cells x)

-- where nodes own the cells that are rounded there, rounding leaves those that they do not own
pub plain_where : (b : Body) (place : Placing)
    → ((n x : ℕ) → place.owns n x ≡ false → IfSome (cells_at b n) (λ keys. list_any (λ k. k == x) keys ≡ false))
    → (n x : ℕ) (s : State) → place.owns n x ≡ false
    → (let t = rounded_at b.marks (cells_at b n) s in get t.cells x ≡ get s.cells x)
plain_where b place listed n x s other = plain_at b.marks (cells_at b n) x (listed n x other) s

module _ (b : Body) (sorts : List Sort) (is : IsBody b sorts) (tasks : ℕ) (store : Interferences)
    (store_fits : FitsStore b.laid tasks store) (entry : Option State) (entry_fits : IfSome entry (FitsBody b 0))
  where
    pub rows : AreRows (FitsBody b) (equations_of b entry store) (λ e. around_along b (copy_at b e))
        (λ e. action_along b (copy_at b e)) (λ e. (let c = copy_at b e in is_some c.to)) store b.marks (cells_at b)
    rows = record {
      after_is = λ e s lt. (let c = copy_at b e in led_is c.to (after (around_along b c) (action_along b c) s store));
      outward_is = λ n s. rounding_is b.marks (cells_at b n) s;
      form = λ n s fits. fits.form;
    }

    -- The law: the least sparse table of a body is the least solution of its equations.
    pub sparse_body_is_least : (place : Placing) (copies : ℕ → ℕ → Bool) (fresh : ℕ → Bool) (pending : ℕ → ℕ) (table : NodeTable State)
        → IsPlaced states (FitsBody b) (equations_of b entry store) (state_parts (carry_along b store)) place
        → AreChecked (FitsBody b) (equations_of b entry store) (λ e. around_along b (copy_at b e))
        (λ e. action_along b (copy_at b e)) store place copies fresh pending table
        → IfSome entry (IsTraced copies fresh pending)
        → IsSparseLeast states (FitsBody b) (equations_of b entry store) (state_parts (carry_along b store)) place table
        → IsLeastSolution states (FitsBody b) (equations_of b entry store) table
    sparse_body_is_least place copies fresh pending table placed checked traced sparse =
        bodies.checked_is_least (FitsBody b) (equations_of b entry store) (λ e. around_along b (copy_at b e))
        (λ e. action_along b (copy_at b e)) (λ e. (let c = copy_at b e in is_some c.to)) store b.marks (cells_at b)
        rows place copies fresh pending states_order states_join
        (lawful.equations_are_lawful b sorts is tasks store store_fits entry entry_fits) placed table checked traced
        sparse
