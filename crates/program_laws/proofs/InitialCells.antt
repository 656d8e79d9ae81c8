-- Cells of static storage hold values of their types at first.
use Rattle.std.proofs.Common.{◌≡◌, refl, ap, sym, subst, ◌∙◌, ℕ, zero, suc, ◌+◌, ◌-◌, ◌<◌, ◌≤◌, inl, inr, Bool, true}
use Rattle.std.proofs.Common.{false}
use Rattle.std.proofs.Common.{cond, List, [], ◌∷◌, ◌++◌, length, map, get_or, Some, None, slice_get, arith}
use Rattle.std.specs.Prelude.{slice_set, All}
use Rattle.std.proofs.lemmas.Bool.{false≢true, cases_lt, ltb-false}
use Rattle.std.proofs.lemmas.Option.{same_Some, slice_get-get_or}
use Rattle.std.proofs.lemmas.List.{length-map, length-append, length-set, map-append, get_or_past}
use Rattle.std.proofs.lemmas.List.Elements.{All-head, All-tail, All-weaker}
use Rattle.layout_laws.specs.tm_terms.declared.refusals.Limit.TheVariants as Limits
use Rattle.layout_laws.specs.tm_typed.declared.types.Scalar.{Scalar}
use Rattle.layout_laws.specs.tm_typed.declared.types.Scalar.TheVariants as Scalars
use Rattle.layout_laws.specs.tm_typed.declared.files.StaticCell.{StaticCell}
use Rattle.layout_laws.specs.tm_typed.declared.files.StaticValue.{StaticValue}
use Rattle.layout_laws.specs.tm_typed.declared.files.StaticValue.TheVariants as Values
use Rattle.layout_laws.specs.tm_typed.States.{Static, no_static}
use Rattle.layout_laws.specs.tm_typed.Files.{TypedFileTree}
use Rattle.layout_laws.specs.tm_laid.declared.objects.DeclaredObject.{DeclaredObject}
use Rattle.layout_laws.specs.tm_laid.declared.objects.LaidObject.{LaidObject}
use Rattle.layout_laws.specs.tm_laid.declared.objects.Initial.{Initial}
use Rattle.layout_laws.specs.tm_laid.declared.cells.LaidCell.{LaidCell}
use Rattle.layout_laws.specs.tm_laid.declared.scales.Scale.TheVariants as Scales
use Rattle.layout_laws.specs.tm_laid.TypeCells.{TypeCell, type_cells, type_depth, cells_of_type, abstract_cells_of_type}
use Rattle.layout_laws.specs.tm_laid.Objects.{static_objects, path_objects, static_numbers, objects_from, laid_cell}
use Rattle.layout_laws.specs.tm_laid.Objects.{cells_from}
use Rattle.layout_laws.specs.tm_laid.Objects.{nothing_given, value_given, with_given, initial_values}
use Rattle.layout_laws.specs.tm_laid.Paths.{paths_of}
use Rattle.layout_laws.specs.tm_laid.Layable.{IsLayable}
use Rattle.layout_laws.specs.tm_laid.Layouts.{LaidTree, no_object, no_cell, cell_at, abstract_at, scalars_of_type}
use Rattle.layout_laws.specs.tm_laid.Layouts.{summed_types}
use Rattle.layout_laws.specs.tm_laid.Layouts.{declared_objects, layout_along, layout_of, is_exceeded, laid_count}
use Rattle.layout_laws.specs.tm_laid.Layouts.{over_objects}
use Rattle.layout_laws.proofs.low.cell_layout.CellPairs.{cells_of_objects}
use Rattle.operation_laws.proofs.low.cell_types.Types.{length_of}
use Rattle.operation_laws.specs.typed_file_laws.Sites.{is_defined_object}
use Rattle.operation_laws.specs.next_action_laws.InitialValues.{IsValueFor, IsFilled, AreFilled}
use Rattle.operation_laws.proofs.low.next_action_laws.ObjectPlaces.{count_is, scalars_are, laid_at, static_declared}
use Rattle.operation_laws.proofs.low.next_action_laws.PathPlaces.{all_cells}
use Rattle.operation_laws.proofs.low.next_action_laws.StartingCells.{given_scalar}
use Rattle.program_systems.specs.typed_values.Types.{IsOfType}
use Rattle.program_systems.specs.program_equations.Entries.{initial_or_none, initial_at}
use Rattle.program_laws.proofs.InitialValues.{Fits, number_fits, null_fits, address_fits, nothing_fits}

-- ## Lists of values

module _ (laid : LaidTree) where
  -- values of these types
  abbrev AreFit : List Initial → List Scalar → Type 0
  AreFit [] ss = Unit {0}
  AreFit (v ∷ vs) [] = ⊥
  AreFit (v ∷ vs) (s ∷ ss) = Fits laid s v × AreFit vs ss

  abbrev scalars_in : List LaidCell → List Scalar
  scalars_in cs = map (λ (c : LaidCell). c.scalar) cs

  fit_at : (vs : List Initial) (cs : List LaidCell) → AreFit vs (scalars_in cs) → (k : ℕ) → k < length vs
      → (k < length cs)
      × IsOfType laid (let c : LaidCell = get_or cs k no_cell in c.scalar) (initial_or_none laid (slice_get vs k))
  fit_at [] cs h k lt = absurd (omega (arith, lt))
  fit_at (v ∷ vs) [] h k lt = absurd h
  fit_at (v ∷ vs) (c ∷ cs) h zero lt = (omega arith, h.0)
  fit_at (v ∷ vs) (c ∷ cs) h (suc k) lt =
      let r = fit_at vs cs h.1 k (omega (arith, lt)) in
      let l = r.0 in
      (omega (arith, l), r.1)

  fit_join : (vs ws : List Initial) (ss ts : List Scalar) → length vs ≡ length ss → AreFit vs ss → AreFit ws ts
      → AreFit (vs ++ ws) (ss ++ ts)
  fit_join [] ws [] ts n h k = k
  fit_join [] ws (s ∷ ss) ts n h k = absurd (omega (arith, n))
  fit_join (v ∷ vs) ws [] ts n h k = absurd h
  fit_join (v ∷ vs) ws (s ∷ ss) ts n h k = (h.0, fit_join vs ws ss ts (omega (arith, n)) h.1 k)

  set_fit : (vs : List Initial) (ss : List Scalar) (k : ℕ) (v : Initial) (s : Scalar) → AreFit vs ss
      → slice_get ss k ≡ Some s → Fits laid s v → AreFit (slice_set vs k v) ss
  set_fit [] ss k v s h e g = tt
  set_fit (w ∷ vs) [] k v s h e g = absurd h
  set_fit (w ∷ vs) (t ∷ ss) zero v s h e g =
      (subst (λ (z : Scalar). Fits laid z v) (sym (same_Some t s e)) g, h.1)
  set_fit (w ∷ vs) (t ∷ ss) (suc k) v s h e g = (h.0, set_fit vs ss k v s h.1 e g)

  none_given_fit : (cs : List TypeCell)
      → AreFit (map (λ (c : TypeCell). nothing_given c.scalar) cs) (map (λ (c : TypeCell). c.scalar) cs)
  none_given_fit [] = tt
  none_given_fit (c ∷ cs) = (nothing_fits laid c.scalar, none_given_fit cs)

  -- a given value for a cell of this type
  record IsGood (numbers : List ℕ) (ss : List Scalar) (g : StaticCell) : Type 0 where
    type : Scalar
    cell : slice_get ss g.cell ≡ Some type
    value : Fits laid type (value_given numbers g.value)

  given_fit : (numbers : List ℕ) (gs : List StaticCell) (vs : List Initial) (ss : List Scalar)
      → All (IsGood numbers ss) gs → AreFit vs ss → AreFit (with_given numbers gs vs) ss
  given_fit numbers [] vs ss k h = h
  given_fit numbers (g ∷ gs) vs ss k h =
      let x = All-head (IsGood numbers ss) g gs k in
      given_fit numbers gs (slice_set vs g.cell (value_given numbers g.value)) ss (All-tail (IsGood numbers ss) g gs k)
      (set_fit vs ss g.cell (value_given numbers g.value) x.type h x.cell x.value)

  as_many : (numbers : List ℕ) (gs : List StaticCell) (vs : List Initial)
      → length (with_given numbers gs vs) ≡ length vs
  as_many numbers [] vs = refl
  as_many numbers (g ∷ gs) vs =
      as_many numbers gs (slice_set vs g.cell (value_given numbers g.value))
      ∙ length-set vs g.cell (value_given numbers g.value)

-- ## Objects of static storage

module _ (file : TypedFileTree) (order : List ℕ) (h : IsLayable file order)
    (within : is_exceeded Scales.Large file Limits.Cells ≡ false) where
  abbrev L : LaidTree
  L = layout_along file (paths_of file)

  abbrev ds : List DeclaredObject
  ds = declared_objects file (paths_of file)

  abbrev numbers : List ℕ
  numbers = static_numbers 0 file.statics

  total : summed_types (cells_of_type file) ds ≤ 65536
  unfolding laid_count
  total =
      let e = all_cells file (cells_of_type file) in
      let l = ltb-false 65536 (over_objects file (cells_of_type file)) within in
      omega (arith, e, l)

  -- an object that the file defines is laid out
  defined_there : (o : ℕ) → is_defined_object file o ≡ true → get_or numbers o 0 < length L.objects
  defined_there o d = elim (cases_lt o (length file.statics)) [
    | inr ge ↦ absurd (false≢true
        (sym (ap (λ (x : Static). x.defined) (get_or_past file.statics o no_static ge)) ∙ d))
    | inl lt ↦
        (let x : Static = get_or file.statics o no_static in
        let e = static_declared file (paths_of file) o x (slice_get-get_or file.statics o no_static lt) d in
        let y = laid_at file order h 0 0 0 ds (get_or numbers o 0) e.declared e.is in
        y.there)
  ]

  value_fits : (s : Scalar) (v : StaticValue) → IsValueFor file s v → Fits L s (value_given numbers v)
  value_fits (Scalars.Int t) (Values.Number z) i = number_fits L t z i
  value_fits (Scalars.Int t) Values.Null i = absurd i
  value_fits (Scalars.Int t) (Values.Address o k) i = absurd i
  value_fits (Scalars.Pointer c) (Values.Number z) i = absurd i
  value_fits (Scalars.Pointer c) Values.Null i = null_fits L c
  value_fits (Scalars.Pointer c) (Values.Address o k) i =
      address_fits L c (get_or numbers o 0) k (defined_there o i.0)

  good : (n : ℕ) → cells_of_type file n ≤ 65536 → (g : StaticCell) → IsFilled file n g
      → IsGood L numbers (scalars_of_type file n) g
  good n le g f = record {
    type = f.type;
    cell = given_scalar file order h n g.cell f.type
        (let e = length_of file order h n in omega (arith, e, le)) f.cell;
    value = value_fits f.type g.value f.value;
  }

  abbrev object_cells : Static → List Initial
  object_cells s = with_given numbers s.given
      (map (λ (c : TypeCell). nothing_given c.scalar) (type_cells file (type_depth file) s.of.number 0))

  -- the cells that begin with those of these objects, and their initial values
  abbrev Begins : List DeclaredObject → List Initial → ℕ → ℕ → ℕ → Type 0
  Begins os vs number c a = AreFit L vs (scalars_in L (cells_from file number (objects_from file c a os)))

  object_begins : (s : Static) (os : List DeclaredObject) (vs : List Initial) (number c a : ℕ)
      → All (IsFilled file s.of.number) s.given → cells_of_type file s.of.number ≤ 65536
      → Begins os vs (suc number) (c + cells_of_type file s.of.number) (a + abstract_cells_of_type file s.of.number)
      → Begins (record { name = s.name; place = s.place; of = s.of; owner = None } ∷ os) (object_cells s ++ vs)
      number c a
  object_begins s os vs number c a f le rest =
      let n : ℕ = s.of.number in
      let here : List LaidCell = map (laid_cell number) (type_cells file (type_depth file) n a) in
      let more : List LaidCell =
      cells_from file (suc number) (objects_from file (c + cells_of_type file n) (a + abstract_cells_of_type file n) os)
      in
      let base : List TypeCell = type_cells file (type_depth file) n 0 in
      let count : length (object_cells s) ≡ cells_of_type file n =
      as_many L numbers s.given (map (λ (c : TypeCell). nothing_given c.scalar) base)
      ∙ length-map base (λ (c : TypeCell). nothing_given c.scalar) ∙ count_is file order h n 0 in
      let own_fit : AreFit L (object_cells s) (scalars_of_type file n) =
      given_fit L numbers s.given (map (λ (c : TypeCell). nothing_given c.scalar) base) (scalars_of_type file n)
      (All-weaker (IsFilled file n) (IsGood L numbers (scalars_of_type file n)) (λ g k. good n le g k) s.given f)
      (none_given_fit L base) in
      let same : scalars_of_type file n ++ scalars_in L more ≡ scalars_in L (here ++ more) =
      ap (λ xs. xs ++ scalars_in L more) (sym (scalars_are file order h n number a))
      ∙ sym (map-append (λ (x : LaidCell). x.scalar) here more) in
      subst (λ ss. AreFit L (object_cells s ++ vs) ss) same
      (fit_join L (object_cells s) vs (scalars_of_type file n) (scalars_in L more)
      (count ∙ sym (length_of file order h n)) own_fit rest)

  one_begins : (s : Static) (ss : List Static) (more : List DeclaredObject) (number c a : ℕ)
      → All (IsFilled file s.of.number) s.given
      → ((number c a : ℕ) → summed_types (cells_of_type file) (static_objects ss ++ more) ≤ 65536
      → Begins (static_objects ss ++ more) (initial_values file numbers ss) number c a) → (b : Bool)
      → summed_types (cells_of_type file)
      (cond b (record { name = s.name; place = s.place; of = s.of; owner = None } ∷ static_objects ss)
      (static_objects ss) ++ more) ≤ 65536
      → Begins (cond b (record { name = s.name; place = s.place; of = s.of; owner = None } ∷ static_objects ss)
      (static_objects ss) ++ more)
      (cond b (object_cells s ++ initial_values file numbers ss) (initial_values file numbers ss)) number c a
  one_begins s ss more number c a f rest true k =
      object_begins s (static_objects ss ++ more) (initial_values file numbers ss) number c a f (omega (arith, k))
      (rest (suc number) (c + cells_of_type file s.of.number) (a + abstract_cells_of_type file s.of.number)
      (omega (arith, k)))
  one_begins s ss more number c a f rest false k = rest number c a k

  all_begin : (ss : List Static) (more : List DeclaredObject) (number c a : ℕ)
      → All (λ (s : Static). All (IsFilled file s.of.number) s.given) ss
      → summed_types (cells_of_type file) (static_objects ss ++ more) ≤ 65536
      → Begins (static_objects ss ++ more) (initial_values file numbers ss) number c a
  all_begin [] more number c a f le = tt
  all_begin (s ∷ ss) more number c a f le =
      one_begins s ss more number c a (All-head (λ (s : Static). All (IsFilled file s.of.number) s.given) s ss f)
      (λ n d b k. all_begin ss more n d b
      (All-tail (λ (s : Static). All (IsFilled file s.of.number) s.given) s ss f) k) s.defined le

  -- ## The object and the offset of a cell

  -- the cell with this number is that of an object, where the cells of the first object begin with this one
  record IsFound (c i : ℕ) (os : List LaidObject) : Type 0 where
    object : ℕ
    offset : ℕ
    there : object < length os
    inside : offset < (let o : LaidObject = get_or os object no_object in o.cells)
    is : (let o : LaidObject = get_or os object no_object in o.first_cell + offset ≡ c + i)

  found : (number c a : ℕ) (xs : List DeclaredObject) (i : ℕ)
      → i < length (cells_from file number (objects_from file c a xs)) → IsFound c i (objects_from file c a xs)
  found number c a [] i lt = absurd (omega (arith, lt))
  found number c a (d ∷ xs) i lt =
      let n : ℕ = cells_of_type file d.of.number in
      let cs : List TypeCell = type_cells file (type_depth file) d.of.number a in
      elim (cases_lt i n) [
        | inl own ↦ record { object = 0; offset = i; there = omega arith; inside = own; is = refl }
        | inr past ↦
            (let rest : List LaidObject = objects_from file (c + n) (a + abstract_cells_of_type file d.of.number) xs in
            let l = length-append (map (laid_cell number) cs) (cells_from file (suc number) rest) in
            let m = length-map cs (laid_cell number) in
            let k = count_is file order h d.of.number a in
            let f : IsFound (c + n) (i - n) rest =
            found (suc number) (c + n) (a + abstract_cells_of_type file d.of.number) xs (i - n)
            (omega (arith, lt, l, m, k, past)) in
            let there = f.there in
            let is = f.is in
            record {
              object = suc f.object;
              offset = f.offset;
              there = omega (arith, there);
              inside = f.inside;
              is = omega (arith, is, past);
            })
      ]

  -- ## All cells

  values_fit : AreFilled file → (cell : ℕ) → cell < length L.initial
      → (cell < length L.cells) × IsOfType L (cell_at L cell).scalar (initial_at L cell)
  values_fit f cell lt =
      fit_at L L.initial L.cells (all_begin file.statics (path_objects file 0 (paths_of file)) 0 0 0 f total) cell lt

-- an abstract cell has the type of each cell for which it stands
abstract_scalar : (file : TypedFileTree) (order : List ℕ) → IsLayable file order
    → is_exceeded Scales.Large file Limits.Cells ≡ false → (cell : ℕ) → cell < length (layout_of file).cells
    → (let L = layout_of file in (abstract_at L (cell_at L cell).abstract_cell).scalar ≡ (cell_at L cell).scalar)
unfolding layout_of
abstract_scalar file order h within cell lt =
    let L : LaidTree = layout_along file (paths_of file) in
    let f = found file order h within 0 0 0 (declared_objects file (paths_of file)) cell lt in
    let c = cells_of_objects file order h f.object f.offset f.there f.inside in
    subst (λ k. (abstract_at L (cell_at L k).abstract_cell).scalar ≡ (cell_at L k).scalar)
    (f.is ∙ (let same : 0 + cell ≡ cell = omega arith in same)) c.scalar

pub initial_fits : (file : TypedFileTree) (order : List ℕ) → IsLayable file order
    → is_exceeded Scales.Large file Limits.Cells ≡ false → AreFilled file → (cell : ℕ) → cell < length (layout_of file).initial
    → (let L = layout_of file in
    IsOfType L (abstract_at L (cell_at L cell).abstract_cell).scalar (initial_at L cell))
unfolding layout_of
initial_fits file order h within filled cell lt =
    let L : LaidTree = layout_along file (paths_of file) in
    let v = values_fit file order h within filled cell lt in
    subst (λ s. IsOfType L s (initial_at L cell)) (sym (abstract_scalar file order h within cell v.0)) v.1
