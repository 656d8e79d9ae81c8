-- Numbers that integer cells hold are within the bounds of their objects.
use Rattle.std.proofs.Common.{◌≡◌, refl, sym, subst, ap, ◌∙◌, ℕ, ◌<◌, ◌≤◌, ◌^◌, Bool, true, false, List, length, get_or, Option}
use Rattle.std.proofs.Common.{Some, None, arith}
use Rattle.std.specs.Prelude.{ℤ, cond, nat_lt, is_none}
use Rattle.std.proofs.lemmas.Bool.{ltb-true}
use Rattle.sound_tables.specs.tm_laid.declared.objects.Initial.{Initial}
use Rattle.sound_tables.specs.tm_laid.declared.objects.Initial.TheVariants as Initials
use Rattle.sound_tables.specs.tm_laid.Layouts.{LaidTree, cell_at, object_at}
use Rattle.sound_tables.specs.concrete_values.declared.values.Value.TheVariants.{Number}
use Rattle.sound_tables.specs.concrete_steps.declared.worlds.Content.TheVariants.{Is}
use Rattle.sound_tables.specs.concrete_steps.Worlds.{World}
use Rattle.sound_tables.specs.concrete_steps.Occurring.{IsReached}
use Rattle.sound_tables.specs.interfere_set.Stores.{Interferences}
use Rattle.sound_tables.specs.transfer_rows.StateForms.{State}
use Rattle.sound_tables.specs.program_reports.table_covers.Solutions.{NodeTable}
use Rattle.sound_tables.specs.program_equations.Programs.{ProgramBodies, IsProgram}
use Rattle.sound_tables.specs.program_equations.Solutions.{tables_of as lists_of, IsPair}
use Rattle.sound_tables.specs.program_shape.Shape.{IsShared, abstract_of_cell}
use Rattle.sound_tables.specs.Memberships.{found_at, number_at}
use Rattle.sound_tables.specs.Starting.{initial_as}
use Rattle.value_ranges.specs.declared.object_bounds.ObjectBounds.{ObjectBounds}
use Rattle.value_ranges.specs.declared.object_bounds.Grouping.TheVariants as Groupings
use Rattle.value_ranges.specs.Ranges.{IsIntegerCell, IsToldNumber, IsNumberBy, IsNumberOf, AreRanges, AreBoundsIf}
use Rattle.value_ranges.specs.Ranges.{AreCellRanges}
use Rattle.value_ranges.specs.Ranges.IsToldNumber.{at_first as first_told, at_node as node_told}
use Rattle.value_ranges.specs.Ranges.IsToldNumber.{in_store as store_told}
use Rattle.sound_core.specs.Sound.{IsProgramFrom}
use Rattle.sound_core.specs.Known.{IsTold, at_first, at_node, in_store, HoldsTold}
use Rattle.sound_core.specs.Ranges.{HoldsNumber, IsWithin, IsWithinCell, StayWithinCells}
use Rattle.sound_core.proofs.Contents.{all_told}

number_first : (i : Initial) (n : ℤ) → Number n ≡ initial_as i → i ≡ Initials.Number n
number_first (Initials.Number z) n e = let same : n ≡ z = cc in ap (λ y. Initials.Number y) (sym same)
number_first Initials.Null n e = absurd cc
number_first (Initials.To object offset) n e = absurd cc

owned_by_none : (o : Option ℕ) → is_none o ≡ true → o ≡ None
owned_by_none None e = refl
owned_by_none (Some path) e = absurd cc

found_some : (table : NodeTable State) (o : Option ℕ) (s : State) → found_at table o ≡ Some s
    → (m : ℕ) × (table m ≡ Some s)
found_some table None s h = absurd cc
found_some table (Some m) s h = (m, h)

-- an abstract cell that there is stands for the cell only where there is the cell
cell_there : (count none a x : ℕ) (cell : ℕ) (b : Bool) → nat_lt cell count ≡ b → x < none → cond b a none ≡ x
    → (cell < count) × (a ≡ x)
cell_there count none a x cell true t lt e = (ltb-true cell count t, e)
cell_there count none a x cell false t lt e = absurd (omega (arith, lt, e))

module _ (p : ProgramBodies) (tables : List (List (Option State))) (store : Interferences) where
  number_told : (object x : ℕ) (n : ℤ) → IsIntegerCell p.laid object x → IsTold p tables store x (Number n)
      → IsToldNumber p (lists_of tables) store x n
  number_told object x n of (at_first cell i e is v) =
      let c = cell_at p.laid cell in
      let there = cell_there (length p.laid.cells) (length p.laid.abstract_cells) c.abstract_cell x cell
      (nat_lt cell (length p.laid.cells)) refl of.within e in
      first_told cell there.0 there.1 (is ∙ ap Some (number_first i n v))
  number_told object x n of (at_node body node s st has) =
      let there = found_some (lists_of tables body) (number_at p body node) s st.is in
      node_told body there.0 s there.1 has
  number_told object x n of (in_store task held has) = store_told task held has

  pub shared : (object x : ℕ) → IsIntegerCell p.laid object x → IsShared p.laid x
  shared object x of = record {
    within = of.within;
    static = ap (λ o. (object_at p.laid o).owner) of.of ∙ owned_by_none (object_at p.laid object).owner of.static;
  }

module _ (laid : LaidTree) (p : ProgramBodies) (from : IsProgramFrom laid p) (is : IsProgram p)
    (few : length laid.objects ≤ 2 ^ 32) (tables : List (List (Option State))) (store : Interferences)
    (pair : IsPair p tables store) where
  number_told_of : (w : World) → IsReached laid w → (object cell : ℕ) (n : ℤ) → HoldsNumber p w object cell n
      → IsToldNumber p (lists_of tables) store (abstract_of_cell p.laid cell) n
  number_told_of w reached object cell n h =
      let x = abstract_of_cell p.laid cell in
      let t : HoldsTold p tables store w cell =
      all_told laid p from is few tables store pair w reached cell (shared p tables store object x h.of) in
      let e : Is t.value ≡ Is (Number n) = sym t.holds ∙ h.holds in
      let f : t.value ≡ Number n = cc in
      number_told p tables store object x n h.of (subst (IsTold p tables store x) f t.told)

  number_of : (w : World) → IsReached laid w → (object cell : ℕ) (n : ℤ) → HoldsNumber p w object cell n
      → IsNumberOf p (lists_of tables) store object n
  number_of w reached object cell n h = record {
    cell = abstract_of_cell p.laid cell;
    of = h.of;
    told = number_told_of w reached object cell n h;
  }

  pub within : (list : List ObjectBounds) → AreRanges p (lists_of tables) store list → (w : World) → IsReached laid w
      → (object cell : ℕ) (n : ℤ) → HoldsNumber p w object cell n → IsWithin list object n
  within list are w reached object cell n h =
      let number = number_of w reached object cell n h in
      let l = are.all object n number in
      let b = are.each l.bounds l.has in
      let same = subst (λ o. IsNumberOf p (lists_of tables) store o n) (sym l.of) number in
      record { bounds = l.bounds; has = l.has; of = l.of; low = b.least n same; high = b.greatest n same }

  number_in : (w : World) → IsReached laid w → (object cell : ℕ) (n : ℤ) → HoldsNumber p w object cell n
      → IsNumberBy p (lists_of tables) store Groupings.Cells (abstract_of_cell p.laid cell) n
  number_in w reached object cell n h =
      let x = abstract_of_cell p.laid cell in
      let of = h.of in
      record {
        cell = x;
        of = (refl, subst (λ o. IsIntegerCell p.laid o x) (sym of.of) of);
        told = number_told_of w reached object cell n h;
      }

  -- the bounds of the abstract cell
  by_bounds : (x : ℕ) (n : ℤ) → IsNumberBy p (lists_of tables) store Groupings.Cells x n
      → (bounds : List (Option ObjectBounds)) (own : Option ObjectBounds) → get_or bounds x None ≡ own
      → AreBoundsIf p (lists_of tables) store Groupings.Cells x own → IsWithinCell bounds x n
  by_bounds x n number bounds None e b = absurd (b n number)
  by_bounds x n number bounds (Some own) e b =
      record { own = own; is = e; low = b.least n number; high = b.greatest n number }

  pub within_cells : (bounds : List (Option ObjectBounds)) → AreCellRanges p (lists_of tables) store bounds
      → StayWithinCells laid p bounds
  within_cells bounds are w reached object cell n h =
      let x = abstract_of_cell p.laid cell in
      by_bounds x n (number_in w reached object cell n h) bounds (get_or bounds x None) refl (are.each x)
