-- The scalars of a type, from those of its parts.
use Rattle.std.proofs.Common.{◌≡◌, refl, ap, sym, subst, ◌∙◌, ℕ, zero, suc, ◌+◌, ◌-◌, ◌*◌, ◌%◌, ◌<◌, ◌≤◌, ltb, Bool, true, false, cond, if◌then◌else◌, List, [], ◌∷◌, ◌++◌, length, map, Option, Some, None, slice_get, arith}
use Rattle.std.proofs.lemmas.Bool.{lt-ltb, ltb-true, ltb-false}
use Rattle.std.proofs.lemmas.Option.{slice_get_past}
use Rattle.tm_typed.specs.declared.types.CType.{CType}
use Rattle.tm_typed.specs.declared.types.CType.TheVariants as Types
use Rattle.tm_typed.specs.declared.types.TypeEntry.{TypeEntry}
use Rattle.tm_typed.specs.declared.types.Scalar.{Scalar}
use Rattle.tm_typed.specs.declared.types.Scalar.TheVariants as Scalars
use Rattle.tm_typed.specs.declared.scopes.Member.{Member}
use Rattle.tm_typed.specs.Scopes.{cells_of}
use Rattle.tm_typed.specs.Files.{TypedFileTree}
use Rattle.tm_laid.specs.TypeCells.{TypeCell, entry_of, structure_in, is_smashed, summed, count_by}
use Rattle.tm_laid.specs.TypeCells.{cell_count, abstract_cells_of_type, type_depth, cells_of_type}
use Rattle.tm_laid.specs.TypeCells.{elements, in_members, cells_by, type_cells}
use Rattle.tm_laid.specs.Layouts.{scalars_of_type}
use Rattle.tm_laid.specs.Layable.{tables_of, IsLayable}
use Rattle.tm_laid.proofs.TypeDepth.{cells_open, type_cells_open}
use Rattle.tm_laid.proofs.Columns.{cells_counted}
use Rattle.cell_types.specs.declared.descents.Inside.{Inside}
use Rattle.cell_types.specs.reading.Descents.{member_at}
use Rattle.cell_types.proofs.Lists.{get_front, get_behind, repeated, length_append, length_repeated, get_repeated}

abbrev pub scalars : List TypeCell → List Scalar
scalars cs = map (λ c. c.scalar) cs

map_append : (xs ys : List TypeCell) → scalars (xs ++ ys) ≡ scalars xs ++ scalars ys
map_append [] ys = refl
map_append (x ∷ xs) ys = ap (λ z. x.scalar ∷ z) (map_append xs ys)

length_scalars : (xs : List TypeCell) → length (scalars xs) ≡ length xs
length_scalars [] = refl
length_scalars (x ∷ xs) = ap suc (length_scalars xs)

-- the scalars of members, one behind the other
abbrev pub joined : (ℕ → List Scalar) → List Member → List Scalar
joined of [] = []
joined of (m ∷ ms) = of m.part.of.number ++ joined of ms

-- the elements of an array have the same scalars
element_scalars : (f : ℕ → List TypeCell) (xs : List Scalar) → ((a : ℕ) → scalars (f a) ≡ xs) → (n step a : ℕ) → scalars (elements f n step a) ≡ repeated n xs
element_scalars f xs h zero step a = refl
element_scalars f xs h (suc n) step a =
    map_append (f a) (elements f n step (a + step)) ∙ ap (λ z. z ++ scalars (elements f n step (a + step))) (h a)
    ∙ ap (λ z. xs ++ z) (element_scalars f xs h n step (a + step))

member_scalars : (at : ℕ → ℕ → List TypeCell) (of : ℕ → List Scalar) → ((n a : ℕ) → scalars (at n a) ≡ of n) → (count : ℕ → ℕ) (ms : List Member) (a : ℕ)
    → scalars (in_members at count ms a) ≡ joined of ms
member_scalars at of h count [] a = refl
member_scalars at of h count (m ∷ ms) a =
    map_append (at m.part.of.number a) (in_members at count ms (a + count m.part.of.number))
    ∙ ap (λ z. z ++ scalars (in_members at count ms (a + count m.part.of.number))) (h m.part.of.number a)
    ∙ ap (λ z. of m.part.of.number ++ z) (member_scalars at of h count ms (a + count m.part.of.number))

-- the scalars by what the parts have
abbrev pub scalars_by : TypedFileTree → (ℕ → List Scalar) → TypeEntry → CType → List Scalar
scalars_by file of e Types.Void = []
scalars_by file of e (Types.Int t) = Scalars.Int t ∷ []
scalars_by file of e (Types.Pointer q) = Scalars.Pointer e.class ∷ []
scalars_by file of e (Types.Array element n) = repeated n (of element)
scalars_by file of e (Types.Struct k) = joined of (structure_in file k).members

row_scalars : (file : TypedFileTree) (at : ℕ → ℕ → List TypeCell) (of : ℕ → List Scalar) → ((n a : ℕ) → scalars (at n a) ≡ of n)
    → (count : ℕ → ℕ) (a : ℕ) (e : TypeEntry) (t : CType) → scalars (cells_by file at count a e t) ≡ scalars_by file of e t
row_scalars file at of h count a e Types.Void = refl
row_scalars file at of h count a e (Types.Int t) = refl
row_scalars file at of h count a e (Types.Pointer q) = refl
row_scalars file at of h count a e (Types.Array element n) = element_scalars (at element) (of element) (h element) n (cond (is_smashed n) 0 (count element)) a
row_scalars file at of h count a e (Types.Struct k) = member_scalars at of h count (structure_in file k).members a

-- they do not depend on where the abstract cells begin
same_scalars : (file : TypedFileTree) (d n a : ℕ) → scalars (type_cells file d n a) ≡ scalars (type_cells file d n 0)
unfolding type_cells
same_scalars file zero n a = refl
same_scalars file (suc d) n a =
    row_scalars file (type_cells file d) (λ m. scalars (type_cells file d m 0)) (same_scalars file d) (abstract_cells_of_type file) a (entry_of file n) (entry_of file n).ctype
    ∙ sym (row_scalars file (type_cells file d) (λ m. scalars (type_cells file d m 0)) (same_scalars file d) (abstract_cells_of_type file) 0 (entry_of file n) (entry_of file n).ctype)

module _ (file : TypedFileTree) (order : List ℕ) (h : IsLayable file order) where
  abbrev pub of : ℕ → List Scalar
  of n = scalars_of_type file n

  opened : (n : ℕ) → of n ≡ scalars_by file of (entry_of file n) (entry_of file n).ctype
  opened n =
      ap scalars (type_cells_open file h.ranks n 0)
      ∙ row_scalars file (type_cells file (type_depth file)) of (same_scalars file (type_depth file)) (abstract_cells_of_type file) 0 (entry_of file n) (entry_of file n).ctype

  pub opened_as : (n : ℕ) (t : CType) → (entry_of file n).ctype ≡ t → of n ≡ scalars_by file of (entry_of file n) t
  opened_as n t e = opened n ∙ ap (λ z. scalars_by file of (entry_of file n) z) e

  -- ## Their number

  length_joined : (f : ℕ → List Scalar) (count : ℕ → ℕ) → ((n : ℕ) → length (f n) ≡ count n) → (ms : List Member) → length (joined f ms) ≡ summed count ms
  length_joined f count e [] = refl
  length_joined f count e (m ∷ ms) =
      length_append (f m.part.of.number) (joined f ms) ∙ (let a = e m.part.of.number in let b = length_joined f count e ms in omega (arith, a, b))

  length_row : (f : ℕ → List Scalar) (count : ℕ → ℕ) → ((n : ℕ) → length (f n) ≡ count n) → (e : TypeEntry) (t : CType) → length (scalars_by file f e t) ≡ count_by file count t
  length_row f count x e Types.Void = refl
  length_row f count x e (Types.Int t) = refl
  length_row f count x e (Types.Pointer q) = refl
  length_row f count x e (Types.Array element n) = length_repeated n (f element) ∙ ap (λ z. n * z) (x element)
  length_row f count x e (Types.Struct k) = length_joined f count x (structure_in file k).members

  length_deep : (d n : ℕ) → length (scalars (type_cells file d n 0)) ≡ cell_count file d n
  unfolding type_cells cell_count
  length_deep zero n = refl
  length_deep (suc d) n =
      ap length (row_scalars file (type_cells file d) (λ m. scalars (type_cells file d m 0)) (same_scalars file d) (abstract_cells_of_type file) 0 (entry_of file n) (entry_of file n).ctype)
      ∙ length_row (λ m. scalars (type_cells file d m 0)) (cell_count file d) (length_deep d) (entry_of file n) (entry_of file n).ctype

  pub length_of : (n : ℕ) → length (of n) ≡ cells_of_type file n
  length_of n = length_deep (type_depth file) n

  -- ## Going down

  -- the column, where the type is small
  pub column : (n : ℕ) → cells_of_type file n ≤ 65536 → cells_of (tables_of file) n ≡ cells_of_type file n
  column n small = let e = cells_counted file order h n in omega (arith, e, small)

  pub column_of : (n : ℕ) → cells_of (tables_of file) n ≤ 65536 → cells_of_type file n ≡ cells_of (tables_of file) n
  column_of n small = let e = cells_counted file order h n in omega (arith, e, small)

  pub large : (n : ℕ) → 65536 < cells_of (tables_of file) n → 65536 < cells_of_type file n
  large n l = let e = cells_counted file order h n in omega (arith, e, l)

  cells_as : (n : ℕ) (t : CType) → (entry_of file n).ctype ≡ t → cells_of_type file n ≡ count_by file (cells_of_type file) t
  cells_as n t e = cells_open file h.ranks n ∙ ap (λ z. count_by file (cells_of_type file) z) e

  factor : (m c : ℕ) → suc m * c ≤ 65536 → c ≤ 65536
  factor m c l = let q : suc m * c ≡ c + m * c = omega arith in omega (arith, q, l)

  -- a cell of an array is one of its element type
  pub record IsDown (n cell e down : ℕ) : Type 0 where
    pub same : slice_get (of n) cell ≡ slice_get (of e) down
    pub small : cells_of_type file e ≤ 65536

  array_by : (n e m cell : ℕ) → (entry_of file n).ctype ≡ Types.Array e m → cells_of_type file n ≤ 65536 → cell < m * cells_of (tables_of file) e
      → IsDown n cell e (cell % cells_of (tables_of file) e)
  array_by n e zero cell is small lt = absurd (let q : zero * cells_of (tables_of file) e ≡ 0 = omega arith in omega (arith, lt, q))
  array_by n e (suc m) cell is small lt =
      let total = cells_as n (Types.Array e (suc m)) is in
      let part : cells_of_type file e ≤ 65536 = factor m (cells_of_type file e) (omega (arith, total, small)) in
      let exact : cells_of (tables_of file) e ≡ length (of e) = column e part ∙ sym (length_of e) in
      record {
        same =
            ap (λ xs. slice_get xs cell) (opened_as n (Types.Array e (suc m)) is)
            ∙ get_repeated (suc m) (of e) cell (cells_of (tables_of file) e) exact lt;
        small = part;
      }

  pub array_down : (n e m cell : ℕ) → (entry_of file n).ctype ≡ Types.Array e m → cells_of_type file n ≤ 65536 → cell < m * cells_of (tables_of file) e
      → IsDown n cell e (cell % cells_of (tables_of file) e)
  array_down n e m cell is small lt = array_by n e m cell is small lt

  past_by : (n e m cell : ℕ) → (entry_of file n).ctype ≡ Types.Array e m → cells_of_type file n ≤ 65536 → m * cells_of (tables_of file) e ≤ cell
      → cells_of_type file n ≤ cell
  past_by n e zero cell is small ge = let total = cells_as n (Types.Array e zero) is in let q : zero * cells_of_type file e ≡ 0 = omega arith in omega (arith, total, q)
  past_by n e (suc m) cell is small ge =
      let total = cells_as n (Types.Array e (suc m)) is in
      let part : cells_of_type file e ≤ 65536 = factor m (cells_of_type file e) (omega (arith, total, small)) in
      subst (λ z. z ≤ cell) (sym (total ∙ ap (λ z. suc m * z) (sym (column e part)))) ge

  pub array_past : (n e m cell : ℕ) → (entry_of file n).ctype ≡ Types.Array e m → cells_of_type file n ≤ 65536 → m * cells_of (tables_of file) e ≤ cell
      → slice_get (of n) cell ≡ None
  array_past n e m cell is small ge = slice_get_past (of n) cell (let a = length_of n in let b = past_by n e m cell is small ge in omega (arith, a, b))

  -- a cell of a structure is one of a member
  abbrev found_in : List Member → ℕ → Option Inside → Type 0
  found_in ms cell None = slice_get (joined of ms) cell ≡ None
  found_in ms cell (Some x) = (slice_get (joined of ms) cell ≡ slice_get (of x.of) x.cell) × (cells_of_type file x.of ≤ 65536)

  found_by : (m : Member) (ms : List Member) (cell : ℕ) → cells_of_type file m.part.of.number + summed (cells_of_type file) ms ≤ 65536
      → (b : Bool) → ltb cell (cells_of (tables_of file) m.part.of.number) ≡ b
      → found_in ms (cell - cells_of (tables_of file) m.part.of.number) (member_at (cells_of (tables_of file)) ms (cell - cells_of (tables_of file) m.part.of.number))
      → found_in (m ∷ ms) cell (if b then Some (record { of = m.part.of.number; cell = cell }) else member_at (cells_of (tables_of file)) ms (cell - cells_of (tables_of file) m.part.of.number))
  found_by m ms cell small true e further =
      let part : cells_of_type file m.part.of.number ≤ 65536 = omega (arith, small) in
      let exact : cells_of (tables_of file) m.part.of.number ≡ length (of m.part.of.number) = column m.part.of.number part ∙ sym (length_of m.part.of.number) in
      let lt = ltb-true cell (cells_of (tables_of file) m.part.of.number) e in
      (get_front (of m.part.of.number) (joined of ms) cell (omega (arith, lt, exact)), part)
  found_by m ms cell small false e further =
      let part : cells_of_type file m.part.of.number ≤ 65536 = omega (arith, small) in
      let exact : cells_of (tables_of file) m.part.of.number ≡ length (of m.part.of.number) = column m.part.of.number part ∙ sym (length_of m.part.of.number) in
      let ge = ltb-false cell (cells_of (tables_of file) m.part.of.number) e in
      moved (member_at (cells_of (tables_of file)) ms (cell - cells_of (tables_of file) m.part.of.number))
      (get_behind (of m.part.of.number) (joined of ms) cell (omega (arith, ge, exact)) ∙ ap (λ z. slice_get (joined of ms) (cell - z)) (sym exact)) further
    where
      moved : (x : Option Inside) → slice_get (joined of (m ∷ ms)) cell ≡ slice_get (joined of ms) (cell - cells_of (tables_of file) m.part.of.number)
          → found_in ms (cell - cells_of (tables_of file) m.part.of.number) x → found_in (m ∷ ms) cell x
      moved None e f = e ∙ f
      moved (Some x) e f = (e ∙ f.0, f.1)

  found_all : (ms : List Member) (cell : ℕ) → summed (cells_of_type file) ms ≤ 65536 → found_in ms cell (member_at (cells_of (tables_of file)) ms cell)
  found_all [] cell small = refl
  found_all (m ∷ ms) cell small =
      found_by m ms cell small (ltb cell (cells_of (tables_of file) m.part.of.number)) refl
      (found_all ms (cell - cells_of (tables_of file) m.part.of.number) (omega (arith, small)))

  pub structure_down : (n k cell : ℕ) (x : Inside) → (entry_of file n).ctype ≡ Types.Struct k → cells_of_type file n ≤ 65536
      → member_at (cells_of (tables_of file)) (structure_in file k).members cell ≡ Some x → IsDown n cell x.of x.cell
  structure_down n k cell x is small e =
      let total = cells_as n (Types.Struct k) is in
      let found = subst (λ z. found_in (structure_in file k).members cell z) e (found_all (structure_in file k).members cell (omega (arith, total, small))) in
      record { same = ap (λ xs. slice_get xs cell) (opened_as n (Types.Struct k) is) ∙ found.0; small = found.1 }

  pub structure_past : (n k cell : ℕ) → (entry_of file n).ctype ≡ Types.Struct k → cells_of_type file n ≤ 65536
      → member_at (cells_of (tables_of file)) (structure_in file k).members cell ≡ None → slice_get (of n) cell ≡ None
  structure_past n k cell is small e =
      let total = cells_as n (Types.Struct k) is in
      ap (λ xs. slice_get xs cell) (opened_as n (Types.Struct k) is)
      ∙ subst (λ z. found_in (structure_in file k).members cell z) e (found_all (structure_in file k).members cell (omega (arith, total, small)))

  -- a scalar type has one cell
  one_cell : (s : Scalar) (cell : ℕ) → slice_get (s ∷ []) cell ≡ (if ltb 0 cell then None else Some s)
  one_cell s zero = refl
  one_cell s (suc cell) = ap (λ b. if b then None else Some s) (sym (lt-ltb 0 (suc cell) (omega arith)))
