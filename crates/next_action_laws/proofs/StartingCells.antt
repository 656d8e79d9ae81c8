-- Cells hold values of their types at the start.
use Rattle.std.proofs.Common.{◌≡◌, refl, ap, sym, subst, ◌∙◌, ℕ, zero, suc, ◌+◌, ◌*◌, ◌≤◌, inl, inr, Bool, true, false}
use Rattle.std.proofs.Common.{cond, List, [], ◌∷◌, ◌++◌, length, map, drop, get_or, Option, Some, None, slice_get}
use Rattle.std.proofs.Common.{arith}
use Rattle.std.specs.Prelude.{pos, slice_set, All, nat_lt, is_some}
use Rattle.std.proofs.lemmas.Bool.{false≢true, cases_lt, ltb-true, ltb-false, and_parts, and_from, eq-eqb}
use Rattle.std.proofs.lemmas.Option.{none-some, same_Some, slice_get-get_or}
use Rattle.std.proofs.lemmas.List.{drop-drop, drop_at, length-map, length-append, length-set, map-append, append_assoc}
use Rattle.std.proofs.lemmas.List.{get_or_past}
use Rattle.std.proofs.lemmas.List.Elements.{All-head, All-tail, All-weaker}
use Rattle.cell_layout.specs.tm_terms.declared.refusals.Limit.TheVariants as Limits
use Rattle.cell_layout.specs.tm_typed.declared.types.CType.{CType}
use Rattle.cell_layout.specs.tm_typed.declared.types.CType.TheVariants as Types
use Rattle.cell_layout.specs.tm_typed.declared.types.Scalar.{Scalar}
use Rattle.cell_layout.specs.tm_typed.declared.types.Scalar.TheVariants as Scalars
use Rattle.cell_layout.specs.tm_typed.declared.scopes.Member.{Member}
use Rattle.cell_layout.specs.tm_typed.declared.scopes.Part.{Part}
use Rattle.cell_layout.specs.tm_typed.declared.files.StaticCell.{StaticCell}
use Rattle.cell_layout.specs.tm_typed.declared.files.StaticValue.{StaticValue}
use Rattle.cell_layout.specs.tm_typed.declared.files.StaticValue.TheVariants as Values
use Rattle.cell_layout.specs.tm_typed.Scopes.{cells_of}
use Rattle.cell_layout.specs.tm_typed.Types.{int_index}
use Rattle.cell_layout.specs.tm_typed.TypeRows.{clipped}
use Rattle.cell_layout.specs.tm_typed.Initialisers.{part_number, part_of, part_in}
use Rattle.cell_layout.specs.tm_typed.States.{Static, no_static}
use Rattle.cell_layout.specs.tm_typed.Files.{TypedFileTree}
use Rattle.cell_layout.specs.tm_laid.declared.objects.DeclaredObject.{DeclaredObject}
use Rattle.cell_layout.specs.tm_laid.declared.objects.Initial.{Initial}
use Rattle.cell_layout.specs.tm_laid.declared.cells.LaidCell.{LaidCell}
use Rattle.cell_layout.specs.tm_laid.declared.scales.Scale.TheVariants as Scales
use Rattle.cell_layout.specs.tm_laid.TypeCells.{TypeCell, entry_of, structure_in, type_cells, type_depth, cells_of_type}
use Rattle.cell_layout.specs.tm_laid.TypeCells.{abstract_cells_of_type}
use Rattle.cell_layout.specs.tm_laid.Objects.{static_objects, path_objects, static_numbers, objects_from, laid_cell}
use Rattle.cell_layout.specs.tm_laid.Objects.{cells_from}
use Rattle.cell_layout.specs.tm_laid.Objects.{nothing_given, value_given, with_given, initial_values}
use Rattle.cell_layout.specs.tm_laid.Paths.{paths_of}
use Rattle.cell_layout.specs.tm_laid.Layable.{tables_of, IsLayable}
use Rattle.cell_layout.specs.tm_laid.Layouts.{LaidTree, no_cell, begins_with, scalars_of_type, summed_types}
use Rattle.cell_layout.specs.tm_laid.Layouts.{is_same_scalar}
use Rattle.cell_layout.specs.tm_laid.Layouts.{declared_objects, layout_along, layout_of, is_exceeded, laid_count}
use Rattle.cell_layout.specs.tm_laid.Layouts.{over_objects}
use Rattle.cell_types.proofs.Types.{length_of, column}
use Rattle.cell_types.specs.concrete_values.declared.values.Pointer.TheVariants as Pointers
use Rattle.cell_types.specs.concrete_values.declared.values.Value.{Value}
use Rattle.cell_types.specs.concrete_values.declared.values.Value.TheVariants.{Number, Pointer as APointer}
use Rattle.cell_types.specs.concrete_values.Actions.{is_of}
use Rattle.concrete_steps.specs.declared.worlds.Content.{Content}
use Rattle.concrete_steps.specs.declared.worlds.Content.TheVariants.{Open, Is}
use Rattle.concrete_steps.specs.Worlds.{start, start_contents, initial_content, cleared_content}
use Rattle.typed_file_laws.specs.Sites.{is_defined_object}
use Rattle.cell_layout.proofs.low.tm_cint.Values.{zero_in}
use Rattle.cell_layout.proofs.low.tm_cint.Ranges.{is_in-true}
use Rattle.next_action_laws.specs.Regular.{PartBegins, whole, inner, HasScalar}
use Rattle.next_action_laws.specs.Worlds.{HoldsTypes, StartsHold}
use Rattle.next_action_laws.specs.InitialValues.{IsValueFor, IsFilled, AreFilled}
use Rattle.next_action_laws.proofs.Addresses.{pointer_is}
use Rattle.next_action_laws.proofs.TypePlaces.{Stands, same_scalar, structure_part, array_part, scalar_part}
use Rattle.next_action_laws.proofs.ObjectPlaces.{count_is, scalars_are, laid_at, static_declared, one_of_sum}
use Rattle.next_action_laws.proofs.PathPlaces.{all_cells}
use Rattle.next_action_laws.proofs.RegularFiles.{initial_values_fit}
use Rattle.next_action_laws.proofs.Answered.{comes}

-- ## Where the scalar of a given cell stands

length_dropped : (n : ℕ) (xs : List Scalar) → n ≤ length xs → length (drop n xs) + n ≡ length xs
length_dropped zero xs h = omega arith
length_dropped (suc n) [] h = absurd (omega (arith, h))
length_dropped (suc n) (x ∷ xs) h = let e = length_dropped n xs (omega (arith, h)) in omega (arith, e)

stands_further : (xs vs : List Scalar) (c d : ℕ) → c ≤ length xs → Stands (drop c xs) vs d → Stands xs vs (c + d)
stands_further xs vs c d le s =
    let l = length_dropped c xs le in
    let e = s.ends in
    record {
      begins = ap (λ x. begins_with x vs) (sym (drop-drop d c xs)) ∙ s.begins;
      ends = omega (arith, l, e, le);
    }

begins_itself : (xs : List Scalar) → begins_with xs xs ≡ true
begins_itself [] = refl
begins_itself (x ∷ xs) = and_from (is_same_scalar x x) (begins_with xs xs) (itself x) (begins_itself xs)
  where
    itself : (s : Scalar) → is_same_scalar s s ≡ true
    itself (Scalars.Int t) = eq-eqb (int_index t) (int_index t) refl
    itself (Scalars.Pointer c) = eq-eqb c c refl

first_is : (xs : List Scalar) (c : ℕ) (s : Scalar) → begins_with (drop c xs) (s ∷ []) ≡ true → slice_get xs c ≡ Some s
first_is [] zero s b = absurd (false≢true b)
first_is [] (suc c) s b = absurd (false≢true b)
first_is (x ∷ xs) zero s b =
    ap Some (same_scalar x s (and_parts (is_same_scalar x s) (begins_with xs []) b).0)
first_is (x ∷ xs) (suc c) s b = first_is xs c s b

module _ (file : TypedFileTree) (order : List ℕ) (h : IsLayable file order) where
  -- ## The scalar of a given cell

  module _ (xs : List Scalar) (small : length xs ≤ 65536) where
    abbrev Here : ℕ → ℕ → Type 0
    Here c m = Stands xs (scalars_of_type file m) c

    short : (c m : ℕ) → Here c m → (c ≤ length xs) × (length (drop c xs) ≤ 65536)
    short c m s =
        let e = s.ends in
        let le : c ≤ length xs = omega (arith, e) in
        let l = length_dropped c xs le in
        (le, omega (arith, l, small))

    array_at : (c m e l i : ℕ) (q : Part) → Here c m → (entry_of file m).ctype ≡ Types.Array e l → (b : Bool)
        → nat_lt i l ≡ b → cond b (Some (part_number e (clipped (i * cells_of (tables_of file) e)))) None ≡ Some q
        → Here (clipped (c + q.cell)) q.of.number
    array_at c m e l i q p t false u f = absurd (none-some q f)
    array_at c m e l i q p t true u f =
        let is : part_number e (clipped (i * cells_of (tables_of file) e)) ≡ q =
        same_Some (part_number e (clipped (i * cells_of (tables_of file) e))) q f in
        let k = short c m p in
        let there : Here (c + i * cells_of (tables_of file) e) e =
        stands_further xs (scalars_of_type file e) c (i * cells_of (tables_of file) e) k.0
        (array_part file order h (drop c xs) m e l i t (ltb-true i l u) p.begins k.1) in
        let a = there.ends in
        let z : c + i * cells_of (tables_of file) e ≡ clipped (c + clipped (i * cells_of (tables_of file) e)) =
        omega (arith, a, small) in
        subst (λ (x : Part). Here (clipped (c + x.cell)) x.of.number) is (subst (λ x. Here x e) z there)

    structure_at : (c m j i : ℕ) (q : Part) → Here c m → (entry_of file m).ctype ≡ Types.Struct j → (x : Option Member)
        → slice_get (structure_in file j).members i ≡ x → part_of x ≡ Some q → Here (clipped (c + q.cell)) q.of.number
    structure_at c m j i q p t None e f = absurd (none-some q f)
    structure_at c m j i q p t (Some x) e f =
        let is : x.part ≡ q = same_Some x.part q f in
        let k = short c m p in
        let there : Here (c + x.part.cell) x.part.of.number =
        stands_further xs (scalars_of_type file x.part.of.number) c x.part.cell k.0
        (structure_part file order h (drop c xs) m j i x t e p.begins k.1) in
        let a = there.ends in
        let z : c + x.part.cell ≡ clipped (c + x.part.cell) = omega (arith, a, small) in
        subst (λ (y : Part). Here (clipped (c + y.cell)) y.of.number) is
        (subst (λ y. Here y x.part.of.number) z there)

    part_at : (c m i : ℕ) (q : Part) → Here c m → (t : CType) → (entry_of file m).ctype ≡ t
        → part_in (tables_of file) t i ≡ Some q → Here (clipped (c + q.cell)) q.of.number
    part_at c m i q p (Types.Array e l) t f = array_at c m e l i q p t (nat_lt i l) refl f
    part_at c m i q p (Types.Struct j) t f =
        structure_at c m j i q p t (slice_get (structure_in file j).members i) refl f
    part_at c m i q p Types.Void t f = absurd (none-some q f)
    part_at c m i q p (Types.Int u) t f = absurd (none-some q f)
    part_at c m i q p (Types.Pointer u) t f = absurd (none-some q f)

    begun : (n c m : ℕ) → Here 0 n → PartBegins (tables_of file) n c m → Here c m
    begun n _ _ p whole = p
    begun n _ _ p (inner c m i q b e) = part_at c m i q (begun n c m p b) (entry_of file m).ctype refl e

    scalar_of_cell : (n c : ℕ) (s : Scalar) → Here 0 n → HasScalar (tables_of file) n c s → slice_get xs c ≡ Some s
    scalar_of_cell n c s p x =
        let b = begun n c x.type p x.begins in
        first_is xs c s
        (subst (λ ys. begins_with (drop c xs) ys ≡ true) (scalar_part file order h x.type s x.scalar) b.begins)

  pub given_scalar : (n c : ℕ) (s : Scalar) → length (scalars_of_type file n) ≤ 65536
      → HasScalar (tables_of file) n c s → slice_get (scalars_of_type file n) c ≡ Some s
  given_scalar n c s small x =
      scalar_of_cell (scalars_of_type file n) small n c s
      (record { begins = begins_itself (scalars_of_type file n); ends = omega arith }) x

-- ## Lists of contents

module _ (laid : LaidTree) where
  -- the content is open, or a value of the type
  abbrev Held : Scalar → Content → Type 0
  Held s x = (v : Value) → x ≡ Is v → is_of laid s v ≡ true

  -- contents of cells of these types, each of which is so
  abbrev AreHeld : List Content → List Scalar → Type 0
  AreHeld [] ss = Unit {0}
  AreHeld (x ∷ xs) [] = ⊥
  AreHeld (x ∷ xs) (s ∷ ss) = Held s x × AreHeld xs ss

  abbrev scalars_in : List LaidCell → List Scalar
  scalars_in cs = map (λ (c : LaidCell). c.scalar) cs

  abbrev clear : List LaidCell → List Content
  clear cs = map (λ (c : LaidCell). cleared_content c.scalar) cs

  is_value : (v : Value) (s : Scalar) → is_of laid s v ≡ true → Held s (Is v)
  is_value v s h u e = let same : v ≡ u = cc in subst (λ (x : Value). is_of laid s x ≡ true) same h

  held_at : (xs : List Content) (cs : List LaidCell) → AreHeld xs (scalars_in cs) → (c : ℕ) (v : Value)
      → get_or xs c Open ≡ Is v → is_of laid (let x : LaidCell = get_or cs c no_cell in x.scalar) v ≡ true
  held_at [] cs h c v e =
      let past : get_or [] c Open ≡ Open = get_or_past [] c Open (omega arith) in
      absurd (let clash : Open ≡ Is v = sym past ∙ e in cc)
  held_at (x ∷ xs) [] h c v e = absurd h
  held_at (x ∷ xs) (y ∷ cs) h zero v e = h.0 v e
  held_at (x ∷ xs) (y ∷ cs) h (suc c) v e = held_at xs cs h.1 c v e

  held_join : (xs ys : List Content) (ss ts : List Scalar) → length xs ≡ length ss → AreHeld xs ss → AreHeld ys ts
      → AreHeld (xs ++ ys) (ss ++ ts)
  held_join [] ys [] ts n h k = k
  held_join [] ys (s ∷ ss) ts n h k = absurd (omega (arith, n))
  held_join (x ∷ xs) ys [] ts n h k = absurd h
  held_join (x ∷ xs) ys (s ∷ ss) ts n h k = (h.0, held_join xs ys ss ts (omega (arith, n)) h.1 k)

  clear_is : (s : Scalar) → Held s (cleared_content s)
  unfolding is_of
  clear_is (Scalars.Int t) v e = absurd cc
  clear_is (Scalars.Pointer c) v e =
      let same : APointer Pointers.Invalid ≡ v = cc in
      subst (λ (x : Value). is_of laid (Scalars.Pointer c) x ≡ true) same refl

  clear_held : (cs : List LaidCell) → AreHeld (clear cs) (scalars_in cs)
  clear_held [] = tt
  clear_held (c ∷ cs) = (clear_is c.scalar, clear_held cs)

  -- ## What is given

  abbrev contents_of : List Initial → List Content
  contents_of xs = map initial_content xs

  set_held : (xs : List Initial) (ss : List Scalar) (k : ℕ) (x : Initial) (s : Scalar) → AreHeld (contents_of xs) ss
      → slice_get ss k ≡ Some s → Held s (initial_content x) → AreHeld (contents_of (slice_set xs k x)) ss
  set_held [] ss k x s h e g = tt
  set_held (y ∷ xs) [] k x s h e g = absurd h
  set_held (y ∷ xs) (t ∷ ss) zero x s h e g =
      (subst (λ (z : Scalar). Held z (initial_content x)) (sym (same_Some t s e)) g, h.1)
  set_held (y ∷ xs) (t ∷ ss) (suc k) x s h e g = (h.0, set_held xs ss k x s h.1 e g)

  nothing_is : (s : Scalar) → Held s (initial_content (nothing_given s))
  unfolding is_of
  nothing_is (Scalars.Int t) v e =
      let same : Number (pos 0) ≡ v = cc in
      subst (λ (x : Value). is_of laid (Scalars.Int t) x ≡ true) same (is_in-true t (pos 0) (zero_in t))
  nothing_is (Scalars.Pointer c) v e =
      let same : APointer Pointers.Null ≡ v = cc in
      subst (λ (x : Value). is_of laid (Scalars.Pointer c) x ≡ true) same refl

  nothing_held : (cs : List TypeCell)
      → AreHeld (contents_of (map (λ (c : TypeCell). nothing_given c.scalar) cs)) (map (λ (c : TypeCell). c.scalar) cs)
  nothing_held [] = tt
  nothing_held (c ∷ cs) = (nothing_is c.scalar, nothing_held cs)

  -- a given value for a cell of this type
  record IsGood (numbers : List ℕ) (ss : List Scalar) (g : StaticCell) : Type 0 where
    type : Scalar
    cell : slice_get ss g.cell ≡ Some type
    value : Held type (initial_content (value_given numbers g.value))

  given_held : (numbers : List ℕ) (gs : List StaticCell) (xs : List Initial) (ss : List Scalar)
      → All (IsGood numbers ss) gs → AreHeld (contents_of xs) ss → AreHeld (contents_of (with_given numbers gs xs)) ss
  given_held numbers [] xs ss k h = h
  given_held numbers (g ∷ gs) xs ss k h =
      let x = All-head (IsGood numbers ss) g gs k in
      given_held numbers gs (slice_set xs g.cell (value_given numbers g.value)) ss (All-tail (IsGood numbers ss) g gs k)
      (set_held xs ss g.cell (value_given numbers g.value) x.type h x.cell x.value)

  as_many : (numbers : List ℕ) (gs : List StaticCell) (xs : List Initial)
      → length (with_given numbers gs xs) ≡ length xs
  as_many numbers [] xs = refl
  as_many numbers (g ∷ gs) xs =
      as_many numbers gs (slice_set xs g.cell (value_given numbers g.value))
      ∙ length-set xs g.cell (value_given numbers g.value)

-- ## Objects of static storage

module _ (file : TypedFileTree) (order : List ℕ) (h : IsLayable file order)
    (within : is_exceeded Scales.Large file Limits.Cells ≡ false)
    (few : length (layout_along file (paths_of file)).objects ≤ 4294967296) where
  abbrev L : LaidTree
  L = layout_along file (paths_of file)

  abbrev ds : List DeclaredObject
  ds = declared_objects file (paths_of file)

  abbrev numbers : List ℕ
  numbers = static_numbers 0 file.statics

  total : summed_types (cells_of_type file) ds ≤ 65536
  unfolding laid_count
  total =
      let e = all_cells file (cells_of_type file) in
      let l = ltb-false 65536 (over_objects file (cells_of_type file)) within in
      omega (arith, e, l)

  address_by : (c o k : ℕ) → is_defined_object file o ≡ true
      → k ≤ cells_of (tables_of file) (let x : Static = get_or file.statics o no_static in x.of.number)
      → is_of L (Scalars.Pointer c) (APointer (Pointers.To (get_or numbers o 0) k)) ≡ true
  unfolding is_of
  address_by c o k d le = elim (cases_lt o (length file.statics)) [
    | inr ge ↦ absurd (false≢true
        (sym (ap (λ (x : Static). x.defined) (get_or_past file.statics o no_static ge)) ∙ d))
    | inl lt ↦
        (let x : Static = get_or file.statics o no_static in
        let q : ℕ = get_or numbers o 0 in
        let e = static_declared file (paths_of file) o x (slice_get-get_or file.statics o no_static lt) d in
        let y = laid_at file order h 0 0 0 ds q e.declared e.is in
        let s = one_of_sum (cells_of_type file) ds q e.declared e.is in
        let t = total in
        let n = ap (cells_of_type file) e.type in
        let col = column file order h x.of.number (omega (arith, s, t, n)) in
        let cells = y.cells in
        ap is_some (pointer_is L few q k y.there (omega (arith, le, col, cells, n))))
  ]

  value_held : (s : Scalar) (v : StaticValue) → IsValueFor file s v → Held L s (initial_content (value_given numbers v))
  unfolding is_of
  value_held (Scalars.Int t) (Values.Number z) i =
      is_value L (Number z) (Scalars.Int t) (is_in-true t z i)
  value_held (Scalars.Int t) Values.Null i = absurd i
  value_held (Scalars.Int t) (Values.Address o k) i = absurd i
  value_held (Scalars.Pointer c) (Values.Number z) i = absurd i
  value_held (Scalars.Pointer c) Values.Null i = is_value L (APointer Pointers.Null) (Scalars.Pointer c) refl
  value_held (Scalars.Pointer c) (Values.Address o k) i =
      is_value L (APointer (Pointers.To (get_or numbers o 0) k)) (Scalars.Pointer c) (address_by c o k i.0 i.1)

  good : (n : ℕ) → cells_of_type file n ≤ 65536 → (g : StaticCell) → IsFilled file n g
      → IsGood L numbers (scalars_of_type file n) g
  good n le g f = record {
    type = f.type;
    cell = given_scalar file order h n g.cell f.type
        (let e = length_of file order h n in omega (arith, e, le)) f.cell;
    value = value_held f.type g.value f.value;
  }

  abbrev object_cells : Static → List Initial
  object_cells s = with_given numbers s.given
      (map (λ (c : TypeCell). nothing_given c.scalar) (type_cells file (type_depth file) s.of.number 0))

  -- the cells that begin with those of objects of static storage, where these have the initial values
  abbrev Begins : List DeclaredObject → List Initial → ℕ → ℕ → ℕ → Type 0
  Begins os is number c a =
      AreHeld L (contents_of L is ++ clear L (drop (length is) (cells_from file number (objects_from file c a os))))
      (scalars_in L (cells_from file number (objects_from file c a os)))

  object_begins : (s : Static) (os : List DeclaredObject) (is : List Initial) (d : DeclaredObject) (number c a : ℕ)
      → d.of.number ≡ s.of.number → All (IsFilled file s.of.number) s.given → cells_of_type file s.of.number ≤ 65536
      → Begins os is (suc number) (c + cells_of_type file d.of.number) (a + abstract_cells_of_type file d.of.number)
      → Begins (d ∷ os) (object_cells s ++ is) number c a
  object_begins s os is d number c a same f le rest =
      let n : ℕ = d.of.number in
      let here : List LaidCell = map (laid_cell number) (type_cells file (type_depth file) n a) in
      let more : List LaidCell =
      cells_from file (suc number) (objects_from file (c + cells_of_type file n) (a + abstract_cells_of_type file n) os)
      in
      let own : List Initial = object_cells s in
      let base : List TypeCell = type_cells file (type_depth file) s.of.number 0 in
      let count : length own ≡ cells_of_type file s.of.number =
      as_many L numbers s.given (map (λ (c : TypeCell). nothing_given c.scalar) base)
      ∙ length-map base (λ (c : TypeCell). nothing_given c.scalar) ∙ count_is file order h s.of.number 0 in
      let counted : length here ≡ length own =
      length-map (type_cells file (type_depth file) n a) (laid_cell number) ∙ count_is file order h n a
      ∙ ap (cells_of_type file) same ∙ sym count in
      let own_held : AreHeld L (contents_of L own) (scalars_of_type file s.of.number) =
      given_held L numbers s.given (map (λ (c : TypeCell). nothing_given c.scalar) base)
      (scalars_of_type file s.of.number)
      (All-weaker (IsFilled file s.of.number) (IsGood L numbers (scalars_of_type file s.of.number))
      (λ g k. good s.of.number le g k) s.given f) (nothing_held L base) in
      let scalars : scalars_in L here ≡ scalars_of_type file s.of.number =
      scalars_are file order h n number a ∙ ap (scalars_of_type file) same in
      let behind : drop (length (own ++ is)) (here ++ more) ≡ drop (length is) more =
      ap (λ k. drop k (here ++ more)) (length-append own is)
      ∙ sym (drop-drop (length is) (length own) (here ++ more))
      ∙ ap (drop (length is)) (drop_at here more (length own) counted) in
      let first : contents_of L own ++ (contents_of L is ++ clear L (drop (length is) more))
      ≡ contents_of L (own ++ is) ++ clear L (drop (length (own ++ is)) (here ++ more)) =
      sym (append_assoc (contents_of L own) (contents_of L is) (clear L (drop (length is) more)))
      ∙ ap (λ xs. xs ++ clear L (drop (length is) more)) (sym (map-append initial_content own is))
      ∙ ap (λ cs. contents_of L (own ++ is) ++ clear L cs) (sym behind) in
      let second : scalars_of_type file s.of.number ++ scalars_in L more ≡ scalars_in L (here ++ more) =
      ap (λ xs. xs ++ scalars_in L more) (sym scalars) ∙ sym (map-append (λ (x : LaidCell). x.scalar) here more) in
      subst (λ xs. AreHeld L xs (scalars_in L (here ++ more))) first
      (subst (λ ss. AreHeld L (contents_of L own ++ (contents_of L is ++ clear L (drop (length is) more))) ss) second
      (held_join L (contents_of L own) (contents_of L is ++ clear L (drop (length is) more))
      (scalars_of_type file s.of.number) (scalars_in L more)
      (length-map own initial_content ∙ count ∙ sym (length_of file order h s.of.number)) own_held rest))

  one_begins : (s : Static) (ss : List Static) (more : List DeclaredObject) (number c a : ℕ)
      → All (IsFilled file s.of.number) s.given
      → ((number c a : ℕ) → summed_types (cells_of_type file) (static_objects ss ++ more) ≤ 65536
      → Begins (static_objects ss ++ more) (initial_values file numbers ss) number c a) → (b : Bool)
      → summed_types (cells_of_type file)
      (cond b (record { name = s.name; place = s.place; of = s.of; owner = None } ∷ static_objects ss)
      (static_objects ss) ++ more) ≤ 65536
      → Begins (cond b (record { name = s.name; place = s.place; of = s.of; owner = None } ∷ static_objects ss)
      (static_objects ss) ++ more)
      (cond b (object_cells s ++ initial_values file numbers ss) (initial_values file numbers ss)) number c a
  one_begins s ss more number c a f rest true k =
      object_begins s (static_objects ss ++ more) (initial_values file numbers ss)
      (record { name = s.name; place = s.place; of = s.of; owner = None }) number c a refl f (omega (arith, k))
      (rest (suc number) (c + cells_of_type file s.of.number) (a + abstract_cells_of_type file s.of.number)
      (omega (arith, k)))
  one_begins s ss more number c a f rest false k = rest number c a k

  all_begin : (ss : List Static) (more : List DeclaredObject) (number c a : ℕ)
      → All (λ (s : Static). All (IsFilled file s.of.number) s.given) ss
      → summed_types (cells_of_type file) (static_objects ss ++ more) ≤ 65536
      → Begins (static_objects ss ++ more) (initial_values file numbers ss) number c a
  all_begin [] more number c a f le = clear_held L (cells_from file number (objects_from file c a more))
  all_begin (s ∷ ss) more number c a f le =
      one_begins s ss more number c a (All-head (λ (s : Static). All (IsFilled file s.of.number) s.given) s ss f)
      (λ n d b k. all_begin ss more n d b
      (All-tail (λ (s : Static). All (IsFilled file s.of.number) s.given) s ss f) k) s.defined le

  start_held : AreFilled file → HoldsTypes L (start L)
  unfolding start
  start_held f c v e =
      held_at L (start_contents L) L.cells
      (all_begin file.statics (path_objects file 0 (paths_of file)) 0 0 0 f total) c v e

pub cells_hold : (file : TypedFileTree) (order : List ℕ) → IsLayable file order
    → is_exceeded Scales.Large file Limits.Cells ≡ false → length (layout_of file).objects ≤ 4294967296 → AreFilled file
    → HoldsTypes (layout_of file) (start (layout_of file))
unfolding layout_of
cells_hold file order h within few f = start_held file order h within few f

pub starts_hold : StartsHold
starts_hold main items file typed order laid h =
    let c = comes file order laid h in
    let P : LaidTree → Type 0 = λ l. length l.objects ≤ 4294967296 → HoldsTypes l (start l) in
    subst P c.is (λ few. cells_hold file order h.layable c.within few (initial_values_fit main items file typed)) h.few
