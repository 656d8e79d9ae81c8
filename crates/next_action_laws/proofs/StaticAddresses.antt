-- What constant expressions give: numbers of their types, and addresses within their objects.
use Rattle.std.proofs.Common.{◌≡◌, refl, ap, sym, subst, ◌∙◌, ℕ, zero, suc, ◌+◌, ◌-◌, ◌*◌, ◌<◌, ◌≤◌, inl, inr, Bool}
use Rattle.std.proofs.Common.{true, false}
use Rattle.std.proofs.Common.{cond, List, [], ◌∷◌, length, Option, Some, None, slice_get, arith}
use Rattle.std.specs.Prelude.{ℤ, pos, negsuc, ◌%◌, ◌||◌, ◌==◌, nat_le, nat_lt, option_map}
use Rattle.std.proofs.lemmas.Bool.{false≢true, cases_lt, ltb-true, leb-true, and_parts, eqb-true}
use Rattle.std.proofs.lemmas.Option.{none-some, same_Some, get_or_from_slice_get}
use Rattle.std.proofs.lemmas.List.{get_or_past}
use Rattle.cell_layout.specs.tm_cint.declared.int_types.IntType.{IntType}
use Rattle.cell_layout.specs.tm_cint.IntTypes.{IsIn}
use Rattle.cell_layout.specs.tm_typed.declared.types.CType.{CType}
use Rattle.cell_layout.specs.tm_typed.declared.types.CType.TheVariants as Types
use Rattle.cell_layout.specs.tm_typed.declared.types.TypeEntry.{TypeEntry}
use Rattle.cell_layout.specs.tm_typed.declared.types.Scalar.{Scalar}
use Rattle.cell_layout.specs.tm_typed.declared.types.Scalar.TheVariants as Scalars
use Rattle.cell_layout.specs.tm_typed.declared.scopes.Member.{Member}
use Rattle.cell_layout.specs.tm_typed.declared.scopes.ObjectNumber.TheVariants as Objects
use Rattle.cell_layout.specs.tm_typed.declared.files.StaticValue.{StaticValue}
use Rattle.cell_layout.specs.tm_typed.declared.files.StaticValue.TheVariants as Values
use Rattle.cell_layout.specs.tm_typed.Scopes.{Scope, Structure, no_structure, structure, entry, ctype_of, cells_by}
use Rattle.cell_layout.specs.tm_typed.Scopes.{cells_of}
use Rattle.cell_layout.specs.tm_typed.Scopes.{or_else}
use Rattle.cell_layout.specs.tm_typed.TypeRows.{clipped, cells_in}
use Rattle.cell_layout.specs.tm_typed.TypedTrees.{RvalueTree, a_constant, a_folded, a_null, a_load, an_address}
use Rattle.cell_layout.specs.tm_typed.TypedTrees.{a_structure}
use Rattle.cell_layout.specs.tm_typed.TypedTrees.{the_same, a_unary, a_binary, a_comparison_of_pointers, a_move, a_not}
use Rattle.cell_layout.specs.tm_typed.TypedTrees.{an_and}
use Rattle.cell_layout.specs.tm_typed.TypedTrees.{an_or, a_choice, an_assignment, a_compound, a_compound_move}
use Rattle.cell_layout.specs.tm_typed.TypedTrees.{a_unit_step}
use Rattle.cell_layout.specs.tm_typed.TypedTrees.{a_pointer_step, a_function_call, an_input_value, a_probe, a_comma}
use Rattle.cell_layout.specs.tm_typed.TypedTrees.{a_conversion}
use Rattle.cell_layout.specs.tm_typed.TypedTrees.{a_discard, LvalueTree, an_object, an_element, a_pointed_element}
use Rattle.cell_layout.specs.tm_typed.TypedTrees.{a_pointed}
use Rattle.cell_layout.specs.tm_typed.TypedTrees.{an_arrow, a_part}
use Rattle.cell_layout.specs.tm_typed.States.{State, Static, no_static, static_type}
use Rattle.cell_layout.specs.tm_typed.StaticValues.{Found, a_scalar, inside, nowhere, part_at, inside_part, look_in}
use Rattle.cell_layout.specs.tm_typed.StaticValues.{scalar_in}
use Rattle.cell_layout.specs.tm_typed.StaticValues.{scalar_at, is_same_scalar, stand_from, stands_at, is_near}
use Rattle.cell_layout.specs.tm_typed.StaticValues.{cell_inside}
use Rattle.cell_layout.specs.tm_typed.StaticValues.{address_at, size_of_static, offset, moved, behind, element_of}
use Rattle.cell_layout.specs.tm_typed.StaticValues.{pointed_to}
use Rattle.cell_layout.specs.tm_typed.StaticValues.{as_converted, static_value, static_cell}
use Rattle.cell_layout.specs.tm_typed.WellTyped.{ValueKind, a_number, a_pointer, no_value, Context, HasPart, IsRvalue}
use Rattle.cell_layout.specs.tm_typed.WellTyped.{IsLvalue}
use Rattle.cell_layout.specs.tm_laid.TypeCells.{summed}
use Rattle.typed_file_laws.specs.Tables.{AreMembers, AreLawfulTables}
use Rattle.typed_file_laws.specs.Lawful.{context, IsLawfulState}
use Rattle.typed_file_laws.specs.Mentions.{Mentions, LvalueMentions}
use Rattle.typed_file_laws.proofs.low.c_folds.ConvertedValues.{converted_is_in}
use Rattle.typed_file_laws.proofs.TableRows.{row_at}
use Rattle.typed_file_laws.proofs.TableStructures.{structure_at}
use Rattle.next_action_laws.proofs.TypePlaces.{part_is_member}
use Rattle.next_action_laws.proofs.RegularCells.{is_type_of}

-- ## Sizes

times_room : (c i n : ℕ) → i < n → c * i + c ≤ n * c
times_room c i zero lt = absurd (omega (arith, lt))
times_room c zero (suc n) lt =
    let z : c * zero ≡ 0 = omega arith in
    let q : suc n * c ≡ c + n * c = omega arith in
    omega (arith, z, q)
times_room c (suc i) (suc n) lt =
    let r = times_room c i n (omega (arith, lt)) in
    let z : c * suc i ≡ c * i + c = omega arith in
    let q : suc n * c ≡ c + n * c = omega arith in
    omega (arith, z, q, r)

-- the last member that does not begin behind a cell
record IsPartAt (ms : List Member) (c : ℕ) (m : Member) : Type 0 where
  number : ℕ
  is : slice_get ms number ≡ Some m
  least : m.part.cell ≤ c

part_here : (c : ℕ) (x : Member) (ms : List Member) (m : Member) (b : Bool) → nat_le x.part.cell c ≡ b
    → cond b (Some x) None ≡ Some m → IsPartAt (x ∷ ms) c m
part_here c x ms m true q e =
    subst (λ (y : Member). IsPartAt (x ∷ ms) c y) (same_Some x m e)
    (record { number = 0; is = refl; least = leb-true x.part.cell c q })
part_here c x ms m false q e = absurd (none-some m e)

part_by : (c : ℕ) (x : Member) (ms : List Member) (m : Member) (o : Option Member) → (o ≡ Some m → IsPartAt ms c m)
    → or_else o (cond (nat_le x.part.cell c) (Some x) None) ≡ Some m → IsPartAt (x ∷ ms) c m
part_by c x ms m (Some y) h e = let r = h e in record { number = suc r.number; is = r.is; least = r.least }
part_by c x ms m None h e = part_here c x ms m (nat_le x.part.cell c) refl e

part_at_is : (c : ℕ) (ms : List Member) (m : Member) → part_at c ms ≡ Some m → IsPartAt ms c m
part_at_is c [] m e = absurd (none-some m e)
part_at_is c (x ∷ ms) m e = part_by c x ms m (part_at c ms) (part_at_is c ms m) e

nowhere_none : (v : Scope) (d : ℕ) (s : Scalar) → scalar_in v d nowhere ≡ Some s → ⊥
unfolding scalar_in
nowhere_none v zero s e = none-some s e
nowhere_none v (suc d) s e = none-some s e

module _ (v : Scope) (h : AreLawfulTables v) where
  -- a member ends within its structure
  member_room : (start : ℕ) (ms : List Member) (i : ℕ) (x : Member) → AreMembers v start ms → slice_get ms i ≡ Some x
      → clipped (x.part.cell + cells_of v x.part.of.number) ≤ clipped (start + summed (cells_of v) ms)
  member_room start [] i x a e = absurd (none-some x e)
  member_room start (m ∷ ms) zero x a e =
      subst (λ (y : Member). clipped (y.part.cell + cells_of v y.part.of.number)
      ≤ clipped (start + summed (cells_of v) (m ∷ ms))) (same_Some m x e)
      (let c = a.0 in omega (arith, c))
  member_room start (m ∷ ms) (suc i) x a e =
      let r = member_room (start + cells_of v m.part.of.number) ms i x a.2 e in omega (arith, r)

  structure_room : (k i : ℕ) (x : Member) → slice_get (structure v k).members i ≡ Some x
      → clipped (x.part.cell + cells_of v x.part.of.number) ≤ (structure v k).cells
  structure_room k i x e = elim (cases_lt k (length v.structs)) [
    | inl lt ↦
        (let s = structure_at v h k lt in
        let c = s.cells in
        let r = member_room 0 (structure v k).members i x s.members e in omega (arith, c, r))
    | inr ge ↦ absurd (none-some x
        (sym (ap (λ (s : Structure). slice_get s.members i) (get_or_past v.structs k no_structure ge) ∙ nothing_at i)
        ∙ e))
  ]
    where
      nothing_at : (i : ℕ) → slice_get (let ms : List Member = [] in ms) i ≡ None
      nothing_at zero = refl
      nothing_at (suc i) = refl

  struct_cells : (n k : ℕ) → ctype_of v n ≡ Types.Struct k → cells_of v n ≡ (structure v k).cells
  struct_cells n k t = ap (λ x. cells_by v (entry v n) x) t

  row_cells : (n : ℕ) (t : CType) → ctype_of v n ≡ t → (t ≡ Types.Void → ⊥) → (entry v n).cells ≡ cells_in v t
  row_cells n t e other = (row_at v h.rows n (is_type_of v n t e other)).cells ∙ ap (cells_in v) e

  array_cells : (n e l : ℕ) → ctype_of v n ≡ Types.Array e l → cells_of v n ≡ clipped (l * cells_of v e)
  array_cells n e l t = ap (λ x. cells_by v (entry v n) x) t ∙ row_cells n (Types.Array e l) t (λ z. absurd cc)

  scalar_cells : (n : ℕ) (t : IntType) → ctype_of v n ≡ Types.Int t → cells_of v n ≡ 1
  scalar_cells n t e = ap (λ x. cells_by v (entry v n) x) e ∙ row_cells n (Types.Int t) e (λ z. absurd cc)

  -- ## Scalars stand within their types

  one_room : (d n c : ℕ) (s : Scalar) (b : Bool) → (c == 0) ≡ b → (f : Found) → cells_of v n ≡ 1
      → scalar_in v d (cond b f nowhere) ≡ Some s → clipped (suc c) ≤ cells_of v n
  one_room d n c s true q f z e = let x = eqb-true c 0 q in omega (arith, x, z)
  one_room d n c s false q f z e = absurd (nowhere_none v d s e)

  room_by : (d n c : ℕ) (s : Scalar) → ((m k : ℕ) → scalar_in v d (inside m k) ≡ Some s
      → clipped (suc k) ≤ cells_of v m)
      → (t : CType) → ctype_of v n ≡ t → scalar_in v d (look_in v (entry v n) t c) ≡ Some s
      → clipped (suc c) ≤ cells_of v n
  room_by d n c s deep Types.Void t e = absurd (nowhere_none v d s e)
  room_by d n c s deep (Types.Int u) t e = one_room d n c s (c == 0) refl (a_scalar (Scalars.Int u))
      (scalar_cells n u t) e
  room_by d n c s deep (Types.Pointer q) t e =
      one_room d n c s (c == 0) refl (a_scalar (Scalars.Pointer (let x : TypeEntry = entry v n in x.class)))
      (ap (λ x. cells_by v (entry v n) x) t ∙ row_cells n (Types.Pointer q) t (λ z. absurd cc)) e
  room_by d n c s deep (Types.Array x l) t e = by_test (nat_lt c (l * cells_of v x)) refl e
    where
      by_test : (b : Bool) → nat_lt c (l * cells_of v x) ≡ b
          → scalar_in v d (cond b (inside x (c % cells_of v x)) nowhere) ≡ Some s → clipped (suc c) ≤ cells_of v n
      by_test true u f =
          let lt = ltb-true c (l * cells_of v x) u in let q = array_cells n x l t in omega (arith, lt, q)
      by_test false u f = absurd (nowhere_none v d s f)
  room_by d n c s deep (Types.Struct k) t e = by_part (part_at c (structure v k).members) refl e
    where
      by_part : (o : Option Member) → part_at c (structure v k).members ≡ o
          → scalar_in v d (inside_part c o) ≡ Some s → clipped (suc c) ≤ cells_of v n
      by_part None u f = absurd (nowhere_none v d s f)
      by_part (Some m) u f =
          let p = part_at_is c (structure v k).members m u in
          let r = structure_room k p.number m p.is in
          let i = deep m.part.of.number (c - m.part.cell) f in
          let l = p.least in
          let q = struct_cells n k t in
          omega (arith, r, i, l, q)

  scalar_room : (d n c : ℕ) (s : Scalar) → scalar_in v d (inside n c) ≡ Some s → clipped (suc c) ≤ cells_of v n
  unfolding scalar_in
  scalar_room zero n c s e = absurd (none-some s e)
  scalar_room (suc d) n c s e = room_by d n c s (λ m k f. scalar_room d m k s f) (ctype_of v n) refl e

  some_left : (x y : Option Scalar) → is_same_scalar x y ≡ true → (s : Scalar) × (x ≡ Some s)
  some_left (Some s) y e = (s, refl)
  some_left None y e = absurd (false≢true e)

  -- what stands at a cell of a type ends within it
  stand_room : (n c m k : ℕ) → clipped c ≤ cells_of v n → stand_from v n c m k ≡ true → clipped (c + k) ≤ cells_of v n
  unfolding stand_from
  stand_room n c m zero le e = let z : c + 0 ≡ c = omega arith in subst (λ x. clipped x ≤ cells_of v n) (sym z) le
  stand_room n c m (suc k) le e =
      let both = and_parts (is_same_scalar (scalar_at v n (c + k)) (scalar_at v m k)) (stand_from v n c m k) e in
      let x = some_left (scalar_at v n (c + k)) (scalar_at v m k) both.0 in
      let r = scalar_room (suc (suc (length v.types))) n (c + k) x.0 x.1 in
      omega (arith, r)

-- ## Values

module _ (m : ℕ) (s : State) (h : IsLawfulState m s) (u : ℕ → Bool) (calls : List ℕ) where
  abbrev v : Scope
  v = s.scope

  abbrev w : Context
  w = context m s

  -- an address in an object that passes, with so many cells behind it
  abbrev pub IsAt : ℕ → ℕ → ℕ → Type 0
  IsAt o c room = (c ≤ 65537) × (clipped (c + room) ≤ size_of_static s o) × (u o ≡ true)

  -- what a constant of this kind may be
  abbrev pub Suits : ValueKind → Option StaticValue → Type 0
  Suits k None = Unit {0}
  Suits (a_number t) (Some (Values.Number z)) = IsIn t z
  Suits (a_number t) (Some Values.Null) = ⊥
  Suits (a_number t) (Some (Values.Address o c)) = ⊥
  Suits a_pointer (Some (Values.Number z)) = ⊥
  Suits a_pointer (Some Values.Null) = Unit {0}
  Suits a_pointer (Some (Values.Address o c)) = IsAt o c 0
  Suits no_value (Some x) = ⊥

  -- the address of an object of this type
  abbrev Designates : ℕ → Option StaticValue → Type 0
  Designates room None = Unit {0}
  Designates room (Some (Values.Number z)) = ⊥
  Designates room (Some Values.Null) = ⊥
  Designates room (Some (Values.Address o c)) = IsAt o c room

  converted_suits : (f t : IntType) (x : Option StaticValue) → Suits (a_number f) x
      → Suits (a_number t) (as_converted t x)
  converted_suits f t None i = tt
  converted_suits f t (Some (Values.Number z)) i = converted_is_in t z
  converted_suits f t (Some Values.Null) i = tt
  converted_suits f t (Some (Values.Address o c)) i = tt

  inside_suits : (o : ℕ) (z : ℤ) → u o ≡ true → Suits a_pointer (address_at o (cell_inside (size_of_static s o) z))
  inside_suits o (negsuc c) i = tt
  inside_suits o (pos c) i = by_test (nat_le c (size_of_static s o)) refl (nat_lt 65536 (size_of_static s o)) refl
    where
      by_test : (a : Bool) → nat_le c (size_of_static s o) ≡ a → (b : Bool) → nat_lt 65536 (size_of_static s o) ≡ b
          → Suits a_pointer (address_at o (cond (a || b) (Some (clipped c)) None))
      by_test true e b f = let l = leb-true c (size_of_static s o) e in (omega arith, omega (arith, l), i)
      by_test false e true f = let l = ltb-true 65536 (size_of_static s o) f in (omega arith, omega (arith, l), i)
      by_test false e false f = tt

  moved_suits : (minus : Bool) (cells : ℕ) (t : IntType) (x y : Option StaticValue) → Suits a_pointer x
      → Suits (a_number t) y → Suits a_pointer (moved s minus cells x y)
  moved_suits minus cells t None y i j = tt
  moved_suits minus cells t (Some (Values.Number z)) y i j = tt
  moved_suits minus cells t (Some Values.Null) y i j = tt
  moved_suits minus cells t (Some (Values.Address o c)) None i j = tt
  moved_suits minus cells t (Some (Values.Address o c)) (Some Values.Null) i j = tt
  moved_suits minus cells t (Some (Values.Address o c)) (Some (Values.Address p d)) i j = tt
  moved_suits minus cells t (Some (Values.Address o c)) (Some (Values.Number z)) i j = by_test (is_near z)
    where
      by_test : (b : Bool)
          → Suits a_pointer (cond b (address_at o (cell_inside (size_of_static s o) (offset minus c cells z))) None)
      by_test true = inside_suits o (offset minus c cells z) i.2
      by_test false = tt

  pointed_designates : (n : ℕ) (x : Option StaticValue) → Suits a_pointer x
      → Designates (cells_of v n) (pointed_to s n x)
  pointed_designates n None i = tt
  pointed_designates n (Some (Values.Number z)) i = tt
  pointed_designates n (Some Values.Null) i = tt
  pointed_designates n (Some (Values.Address o c)) i = by_test (stands_at v (static_type s o).number c n) refl
    where
      by_test : (b : Bool) → stands_at v (static_type s o).number c n ≡ b
          → Designates (cells_of v n) (cond b (Some (Values.Address o c)) None)
      by_test true e =
          let z : c + 0 ≡ c = omega arith in
          let le : clipped c ≤ size_of_static s o = subst (λ x. clipped x ≤ size_of_static s o) z i.1 in
          (i.0, stand_room v h.tables (static_type s o).number c n (cells_of v n) le e, i.2)
      by_test false e = tt

  -- a part of what is designated
  behind_designates : (all c room : ℕ) (x : Option StaticValue) → clipped (c + room) ≤ clipped all → Designates all x
      → Designates room (behind c x)
  behind_designates all c room None le i = tt
  behind_designates all c room (Some (Values.Number z)) le i = absurd i
  behind_designates all c room (Some Values.Null) le i = absurd i
  behind_designates all c room (Some (Values.Address o d)) le i =
      let a = i.0 in let b = i.1 in (omega arith, omega (arith, a, b, le), i.2)

  element_designates : (n m c : ℕ) (t : IntType) (a : ℕ) (x y : Option StaticValue) → c ≡ cells_of v n
      → ctype_of v a ≡ Types.Array n m → Designates (cells_of v a) x → Suits (a_number t) y
      → Designates (cells_of v n) (element_of m c x y)
  element_designates n m c t a x None q e i j = tt
  element_designates n m c t a x (Some Values.Null) q e i j = tt
  element_designates n m c t a x (Some (Values.Address o d)) q e i j = tt
  element_designates n m c t a x (Some (Values.Number (negsuc k))) q e i j = tt
  element_designates n m c t a x (Some (Values.Number (pos k))) q e i j = by_test (nat_lt k m) refl
    where
      by_test : (b : Bool) → nat_lt k m ≡ b → Designates (cells_of v n) (cond b (behind (c * k) x) None)
      by_test true f =
          let r = times_room c k m (ltb-true k m f) in
          let z = array_cells v h.tables a n m e in
          let y : m * c ≡ m * cells_of v n = ap (λ x. m * x) q in
          behind_designates (cells_of v a) (c * k) (cells_of v n) x (omega (arith, r, z, q, y)) i
      by_test false f = tt

  part_designates : (k c n m : ℕ) (x : Option StaticValue) → ctype_of v m ≡ Types.Struct k → HasPart v k c n
      → Designates (cells_of v m) x → Designates (cells_of v n) (behind c x)
  part_designates k c n m x t p i =
      let y = part_is_member v k c n p in
      let r = structure_room v h.tables k y.number p.member y.is in
      let q = struct_cells v h.tables m k t in
      let a = p.cell in
      let b = ap (cells_of v) p.type in
      behind_designates (cells_of v m) c (cells_of v n) x (omega (arith, r, q, a, b)) i

  address_suits : (room : ℕ) (x : Option StaticValue) → Designates room x → Suits a_pointer x
  address_suits room None i = tt
  address_suits room (Some (Values.Number z)) i = absurd i
  address_suits room (Some Values.Null) i = absurd i
  address_suits room (Some (Values.Address o c)) i = let a = i.1 in (i.0, omega (arith, a), i.2)

  object_designates : (k n : ℕ) (x : Option Static) → slice_get s.statics k ≡ x
      → option_map (λ (o : Static). o.of.number) x ≡ Some n → u k ≡ true → IsAt k 0 (cells_of v n)
  object_designates k n None q e i = absurd (none-some n e)
  object_designates k n (Some o) q e i =
      let is : (static_type s k).number ≡ n =
      ap (λ (x : Static). x.of.number) (get_or_from_slice_get s.statics k o no_static q) ∙ same_Some o.of.number n e in
      let z : size_of_static s k ≡ cells_of v n = ap (cells_of v) is in
      (omega arith, omega (arith, z), i)

  mutual
    pub rvalue_suits : (k : ValueKind) (e : RvalueTree) → IsRvalue w k e → Mentions u calls e
        → Suits k (static_value s e)
    rvalue_suits k (a_constant t z p) i j = subst (λ x. Suits x (Some (Values.Number z))) (sym i.0) i.1
    rvalue_suits k (a_folded z e) i j = subst (λ x. Suits x (Some (Values.Number z))) (sym i.0) i.1
    rvalue_suits k (a_null p) i j = subst (λ x. Suits x (Some Values.Null)) (sym i) tt
    rvalue_suits k (a_load c b l) i j = tt
    rvalue_suits k (an_address l p) i j =
        subst (λ x. Suits x (static_cell s l)) (sym i.1)
        (address_suits (cells_of v i.0) (static_cell s l) (lvalue_designates i.0 l i.2 j))
    rvalue_suits k (a_structure l) i j = tt
    rvalue_suits k (the_same e p) i j = rvalue_suits k e i j
    rvalue_suits k (a_unary o t e p) i j = tt
    rvalue_suits k (a_binary o t l r p) i j = tt
    rvalue_suits k (a_comparison_of_pointers b l r p) i j = tt
    rvalue_suits k (a_move b c f e x p) i j =
        subst (λ y. Suits y (moved s b c (static_value s e) (static_value s x))) (sym i.1)
        (moved_suits b c i.0 (static_value s e) (static_value s x) (rvalue_suits a_pointer e i.2 j.0)
        (rvalue_suits (a_number i.0) x i.3 j.1))
    rvalue_suits k (a_not e p) i j = tt
    rvalue_suits k (an_and l r p) i j = tt
    rvalue_suits k (an_or l r p) i j = tt
    rvalue_suits k (a_choice c x y p) i j = tt
    rvalue_suits k (an_assignment c l e p) i j = tt
    rvalue_suits k (a_compound o c t b l e p) i j = tt
    rvalue_suits k (a_compound_move b c d l e p) i j = tt
    rvalue_suits k (a_unit_step x c t b l p) i j = tt
    rvalue_suits k (a_pointer_step x c d l p) i j = tt
    rvalue_suits k (a_function_call f x es p) i j = tt
    rvalue_suits k (an_input_value low high p) i j = tt
    rvalue_suits k (a_probe x p) i j = tt
    rvalue_suits k (a_comma l r p) i j = tt
    rvalue_suits k (a_conversion f t e p) i j =
        subst (λ x. Suits x (as_converted t (static_value s e))) (sym i.0)
        (converted_suits f t (static_value s e) (rvalue_suits (a_number f) e i.1 j))
    rvalue_suits k (a_discard e p) i j = tt

    lvalue_designates : (n : ℕ) (l : LvalueTree) → IsLvalue w n l → LvalueMentions u calls l
        → Designates (cells_of v n) (static_cell s l)
    lvalue_designates n (an_object (Objects.Static k) p) i j = object_designates k n (slice_get s.statics k) refl i j
    lvalue_designates n (an_object (Objects.Local k) p) i j = tt
    lvalue_designates n (an_element l x c k p) i j =
        element_designates n c k i.1 i.0 (static_cell s l) (static_value s x) i.4 i.2 (lvalue_designates i.0 l i.5 j.0)
        (rvalue_suits (a_number i.1) x i.6 j.1)
    lvalue_designates n (a_pointed_element e x c k p) i j =
        subst (λ y. Designates (cells_of v y) (pointed_to s k (moved s false c (static_value s e) (static_value s x))))
        i.1
        (pointed_designates k (moved s false c (static_value s e) (static_value s x))
        (moved_suits false c i.0 (static_value s e) (static_value s x) (rvalue_suits a_pointer e i.4 j.0)
        (rvalue_suits (a_number i.0) x i.5 j.1)))
    lvalue_designates n (a_pointed e k p) i j =
        subst (λ y. Designates (cells_of v y) (pointed_to s k (static_value s e))) i.0
        (pointed_designates k (static_value s e) (rvalue_suits a_pointer e i.2 j))
    lvalue_designates n (an_arrow e k c p) i j =
        part_designates i.0 c n k (pointed_to s k (static_value s e)) i.1 i.2
        (pointed_designates k (static_value s e) (rvalue_suits a_pointer e i.3 j))
    lvalue_designates n (a_part l c p) i j =
        part_designates i.1 c n i.0 (static_cell s l) i.2 i.3 (lvalue_designates i.0 l i.4 j)
