-- What is noted of objects by the ends of their cells is what the tables and the store tell of them.
use Rattle.std.proofs.Common.{◌≡◌, ◌↔◌, ℕ, ◌+◌, ◌<◌, refl, sym, subst, ◌∙◌, inl, inr, List, length, Option}
use Rattle.std.proofs.Common.{Some, None, arith}
use Rattle.std.specs.Prelude.{ℤ, ◌≤ℤ◌}
use Rattle.std.specs.Int.Signed.{≤ℤ_refl}
use Rattle.std.proofs.lemmas.Int.{ints}
use Rattle.tm_laid.specs.Layouts.{LaidTree}
use Rattle.interfere_set.specs.Stores.{Interferences}
use Rattle.program_reports.specs.post_recheck.transfer_rows.StateForms.{State}
use Rattle.program_reports.specs.post_recheck.program_equations.Readings.{read_layout}
use Rattle.program_reports.specs.post_recheck.program_equations.Programs.{ProgramBodies}
use Rattle.program_reports.specs.post_recheck.program_equations.Solutions.{tables_of}
use Rattle.value_ranges.specs.declared.object_bounds.ObjectBounds.{ObjectBounds}
use Rattle.value_ranges.specs.declared.object_bounds.Grouping.TheVariants as Groupings
use Rattle.value_ranges.specs.Ranges.{IsIntegerCell, IsToldNumber, IsNumberBy, IsNumberOf, AreBoundsIf, AreRanges}
use Rattle.value_ranges.specs.Ranges.{AreCellRanges}
use Rattle.value_ranges.specs.reading.Notes.{Noted, noted_at, IsIn, IsWidened, AreWidened, HasNoted, Below, AreListed}
use Rattle.value_ranges.specs.reading.CellEnds.{IsProper, AreProper, IsEnd, IsEndOf, AreOfFirst, AreOfCells}
use Rattle.value_ranges.proofs.Widening.{either, same_noted, noted_both, all_as, noted_of, below_cases, below_before}
use Rattle.value_ranges.proofs.Widening.{below_here, none_below}
use Rattle.value_ranges.proofs.Told.{read_cell, cell_read, ranges_told}

-- ## One cell

ends_within : (b : ObjectBounds) → b.low ≤ℤ b.high → (n : ℤ) → IsEnd (Some b) n → (b.low ≤ℤ n) × (n ≤ℤ b.high)
ends_within b proper n (inl e) =
    (subst (λ m. b.low ≤ℤ m) (sym e) (≤ℤ_refl b.low), subst (λ m. m ≤ℤ b.high) (sym e) proper)
ends_within b proper n (inr e) =
    (subst (λ m. b.low ≤ℤ m) (sym e) proper, subst (λ m. m ≤ℤ b.high) (sym e) (≤ℤ_refl b.high))

module _ (laid : LaidTree) (cells : List Noted) (x : ℕ) where
  module _ (object : ℕ) (b : ObjectBounds) (is : noted_at cells x ≡ Some b) (cell : IsIntegerCell laid object x) where
    there : (o : ℕ) (n : ℤ) → (object ≡ o) × IsEnd (Some b) n → IsEndOf laid cells o n x
    there o n h = (subst (λ z. IsIntegerCell laid z x) h.0 cell, subst (λ z. IsEnd z n) (sym is) h.1)

    back : (o : ℕ) (n : ℤ) → IsEndOf laid cells o n x → (object ≡ o) × IsEnd (Some b) n
    back o n h = ((let u = cell.of in let c = h.0 in sym u ∙ c.of), subst (λ z. IsEnd z n) is h.1)

    pub cell_noted : AreProper cells → (noted new : List Noted) → object < length noted
        → HasNoted (record { object = object; low = b.low; high = b.high }) noted new
        → AreWidened (λ o n. IsEndOf laid cells o n x) noted new
    cell_noted proper noted new lt h =
        let within : b.low ≤ℤ b.high = subst IsProper is (proper x) in
        all_as (λ o n. (object ≡ o) × IsEnd (Some b) n) (λ o n. IsEndOf laid cells o n x) noted new there back
        (noted_of (IsEnd (Some b)) (record { object = object; low = b.low; high = b.high }) noted new lt h (inl refl)
        (inr refl) (ends_within b within))

  pub no_bounds : noted_at cells x ≡ None → (o : ℕ) (n : ℤ) → IsEndOf laid cells o n x → ⊥
  no_bounds e o n h = subst (λ z. IsEnd z n) e h.1

  pub no_object : (r : Option ℕ) → ((o : ℕ) → (r ≡ Some o) ↔ IsIntegerCell laid o x) → r ≡ None → (o : ℕ) (n : ℤ)
      → IsEndOf laid cells o n x → ⊥
  no_object r are none o n h = absurd (let clash : None ≡ Some o = sym none ∙ (are o).1 h.0 in cc)

-- ## The first cells

module _ (laid : LaidTree) (cells : List Noted) where
  pub first_none : (noted : List Noted) → length noted ≡ length laid.objects
      → ((o : ℕ) → noted_at noted o ≡ None) → AreOfFirst laid cells 0 noted
  first_none noted count none = record {
    count = count;
    each = λ o. subst (λ z. IsWidened (λ n. Below (IsEndOf laid cells o n) 0) o None z) (sym (none o))
        (same_noted (λ n. Below (IsEndOf laid cells o n) 0) o None (λ n h. none_below (IsEndOf laid cells o n) h));
  }

  pub first_more : (i : ℕ) (a b : List Noted) → AreOfFirst laid cells i a
      → AreWidened (λ o n. IsEndOf laid cells o n i) a b → AreOfFirst laid cells (i + 1) b
  first_more i a b p q = record {
    count = q.count ∙ p.count;
    each = λ o.
        let End = λ (n : ℤ). IsEndOf laid cells o n in
        noted_both (λ n. Below (End n) i) (λ n. End n i) (λ n. Below (End n) (i + 1)) o None (noted_at a o)
        (noted_at b o) (λ n h. below_before (End n) i h) (λ n h. below_here (End n) i h)
        (λ n h. below_cases (End n) i h) (p.each o) (q.each o);
  }

-- ## All cells

between : (o : Noted) (low high n : ℤ) → IsIn o low → IsIn o high → low ≤ℤ n → n ≤ℤ high → IsIn o n
between None low high n l h a b = absurd l
between (Some x) low high n l h a b = (
  (let u = l.0 in omega (arith, ints, u, a)),
  (let u = h.1 in omega (arith, ints, u, b)),
)

module _ (p : ProgramBodies) (lists : List (List (Option State))) (store : Interferences) (cells : List Noted)
    (are : AreCellRanges p (tables_of lists) store cells) where
  proper_if : (x : ℕ) (o : Noted) → AreBoundsIf p (tables_of lists) store Groupings.Cells x o → IsProper o
  proper_if x None h = tt
  proper_if x (Some b) h = h.least b.high h.high_is

  pub cells_are_proper : AreProper cells
  cells_are_proper x = proper_if x (noted_at cells x) (are.each x)

  module _ (laid : LaidTree) (read : p.laid ≡ read_layout laid) where
    in_program : (object x : ℕ) → IsIntegerCell laid object x → IsIntegerCell p.laid object x
    in_program object x h =
        subst (λ (m : LaidTree). IsIntegerCell m object x) (sym read) (read_cell Groupings.Objects laid object x h)

    in_layout : (object x : ℕ) → IsIntegerCell p.laid object x → IsIntegerCell laid object x
    in_layout object x h =
        cell_read Groupings.Objects laid object x (subst (λ (m : LaidTree). IsIntegerCell m object x) read h)

    Number : ℕ → ℤ → Type 0
    Number object n = IsNumberOf p (tables_of lists) store object n

    -- an end of a cell's bounds is told of it
    cell_number : (object x : ℕ) (m n : ℤ) → IsIntegerCell laid object x
        → IsNumberBy p (tables_of lists) store Groupings.Cells x m → n ≡ m → Number object n
    unfolding Number
    cell_number object x m n cell number e = record {
      cell = x;
      of = in_program object x cell;
      told = subst (λ k. IsToldNumber p (tables_of lists) store x k) (sym e)
          (subst (λ y. IsToldNumber p (tables_of lists) store y m) (sym (number.of.0)) number.told);
    }

    end_told : (object x : ℕ) (n : ℤ) (o : Noted) → IsIntegerCell laid object x
        → AreBoundsIf p (tables_of lists) store Groupings.Cells x o → IsEnd o n → Number object n
    end_told object x n None cell h end = absurd end
    end_told object x n (Some b) cell h (inl e) = cell_number object x b.low n cell h.low_is e
    end_told object x n (Some b) cell h (inr e) = cell_number object x b.high n cell h.high_is e

    -- a number of an object lies between the ends of its cell's bounds
    number_in : (object x : ℕ) (n : ℤ) (o new : Noted) → IsNumberBy p (tables_of lists) store Groupings.Cells x n
        → AreBoundsIf p (tables_of lists) store Groupings.Cells x o → ((m : ℤ) → IsEnd o m → IsIn new m) → IsIn new n
    number_in object x n None new number h ends = absurd (h n number)
    number_in object x n (Some b) new number h ends =
        between new b.low b.high n (ends b.low (inl refl)) (ends b.high (inr refl)) (h.least n number)
        (h.greatest n number)

    module _ (noted : List Noted) (of : AreOfCells laid cells noted) (object : ℕ) where
      has_number : (n : ℤ) → Number object n → IsIn (noted_at noted object) n
      unfolding Number
      has_number n number =
          let x = number.cell in
          let cell = number.of in
          let counted = are.count in
          let lt : x < length cells = (let inside = cell.within in omega (arith, inside, counted)) in
          let w = of.each object in
          number_in object x n (noted_at cells x) (noted_at noted object)
          (record {
            cell = x;
            of = (
              refl,
              subst (λ o. IsIntegerCell p.laid o x) (let same = cell.of in sym same) cell,
            );
            told = number.told;
          })
          (are.each x)
          (λ m end. w.has m (x, lt, (in_layout object x cell, end)))

      widened : IsWidened (Number object) object None (noted_at noted object)
      widened =
          let w = of.each object in
          let told = λ (n : ℤ) (h : Below (IsEndOf laid cells object n) (length cells)).
          end_told object h.0 n (noted_at cells h.0) h.2.0 (are.each h.0) h.2.1 in
          record {
            keeps = w.keeps;
            has = has_number;
            low = λ n h. either (λ l. inl l) (λ k. inr (told n k)) (w.low n h);
            high = λ n h. either (λ l. inl l) (λ k. inr (told n k)) (w.high n h);
            named = w.named;
          }

    pub ranges_grouped : (noted : List Noted) → AreOfCells laid cells noted → (list : List ObjectBounds)
        → AreListed noted (length noted) list → AreRanges p (tables_of lists) store list
    unfolding Number
    ranges_grouped noted of =
        ranges_told p lists store noted
        (of.count ∙ sym (let same : length p.laid.objects ≡ length laid.objects = ap_objects in same))
        (λ object. widened noted of object)
      where
        ap_objects : length p.laid.objects ≡ length laid.objects
        ap_objects = subst (λ (m : LaidTree). length m.objects ≡ length laid.objects) (sym read) refl
