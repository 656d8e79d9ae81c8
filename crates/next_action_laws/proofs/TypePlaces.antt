-- Where a type stands, its parts stand.
use Rattle.std.proofs.Common.{◌≡◌, refl, ap, sym, subst, ◌∙◌, ℕ, zero, suc, ◌+◌, ◌*◌, ◌<◌, ◌≤◌, Bool, true, false, cond}
use Rattle.std.proofs.Common.{List, [], ◌∷◌, ◌++◌, length, map, take, drop, Option, Some, None, slice_get, arith}
use Rattle.std.specs.Prelude.{option_map, nat_lt}
use Rattle.std.proofs.lemmas.Bool.{false≢true, and_parts, and_from, ltb-true, eqb-true}
use Rattle.std.proofs.lemmas.Option.{get_or_from_slice_get, none-some, same_Some}
use Rattle.std.proofs.lemmas.List.{drop-drop, drop-map}
use Rattle.cell_layout.specs.tm_cint.declared.int_types.IntType.{IntType}
use Rattle.cell_layout.specs.tm_cint.declared.int_types.IntType.TheVariants as Ints
use Rattle.cell_layout.specs.tm_terms.declared.tokens.Name.{Name}
use Rattle.cell_layout.specs.tm_terms.Names.{is_same_name}
use Rattle.cell_layout.specs.tm_typed.declared.types.CType.{CType}
use Rattle.cell_layout.specs.tm_typed.declared.types.CType.TheVariants as Types
use Rattle.cell_layout.specs.tm_typed.declared.types.Scalar.{Scalar}
use Rattle.cell_layout.specs.tm_typed.declared.types.Scalar.TheVariants as Scalars
use Rattle.cell_layout.specs.tm_typed.declared.scopes.Member.{Member}
use Rattle.cell_layout.specs.tm_typed.declared.scopes.Part.{Part}
use Rattle.cell_layout.specs.tm_typed.Types.{is_same_int}
use Rattle.cell_layout.specs.tm_typed.Scopes.{Scope, Structure, cells_of, structure, last_declared, or_else}
use Rattle.cell_layout.specs.tm_typed.TypeRows.{clipped}
use Rattle.cell_layout.specs.tm_typed.Operands.{scalar_by}
use Rattle.cell_layout.specs.tm_typed.Initialisers.{part_number, part_of, part_in}
use Rattle.cell_layout.specs.tm_typed.WellTyped.{HasPart}
use Rattle.cell_layout.specs.tm_typed.Files.{TypedFileTree}
use Rattle.cell_layout.specs.tm_laid.declared.cells.LaidCell.{LaidCell}
use Rattle.cell_layout.specs.tm_laid.TypeCells.{entry_of, structure_in}
use Rattle.cell_layout.specs.tm_laid.Layable.{tables_of, AreParts, IsLayable}
use Rattle.cell_layout.specs.tm_laid.Layouts.{LaidTree, object_at, cell_at, cell_of, no_cell, is_same_scalar}
use Rattle.cell_layout.specs.tm_laid.Layouts.{begins_with}
use Rattle.cell_layout.specs.tm_laid.Layouts.{scalars_of_type, scalars_from}
use Rattle.cell_layout.proofs.low.tm_laid.Columns.{structure_of}
use Rattle.cell_types.proofs.Lists.{repeated, length_append}
use Rattle.cell_types.proofs.Types.{joined, opened_as, length_of, column}
use Rattle.cell_types.proofs.Standing.{cell_inside}
use Rattle.next_action_laws.specs.Actions.{IsCell, IsPlace}
use Rattle.next_action_laws.specs.Regular.{PartBegins, whole, inner, HasScalar}

-- ## Lists that begin with others

pub begins_left : (xs ys zs : List Scalar) → begins_with xs (ys ++ zs) ≡ true → begins_with xs ys ≡ true
begins_left xs [] zs h = refl
begins_left [] (y ∷ ys) zs h = absurd (false≢true h)
begins_left (x ∷ xs) (y ∷ ys) zs h =
    let both = and_parts (is_same_scalar x y) (begins_with xs (ys ++ zs)) h in
    and_from (is_same_scalar x y) (begins_with xs ys) both.0 (begins_left xs ys zs both.1)

pub begins_right : (xs ys zs : List Scalar) → begins_with xs (ys ++ zs) ≡ true
    → begins_with (drop (length ys) xs) zs ≡ true
begins_right xs [] zs h = h
begins_right [] (y ∷ ys) zs h = absurd (false≢true h)
begins_right (x ∷ xs) (y ∷ ys) zs h =
    begins_right xs ys zs (and_parts (is_same_scalar x y) (begins_with xs (ys ++ zs)) h).1

pub begins_length : (xs ys : List Scalar) → begins_with xs ys ≡ true → length ys ≤ length xs
begins_length xs [] h = omega arith
begins_length [] (y ∷ ys) h = absurd (false≢true h)
begins_length (x ∷ xs) (y ∷ ys) h = let e =
    begins_length xs ys (and_parts (is_same_scalar x y) (begins_with xs ys) h).1 in omega (arith, e)

-- a list of scalars stands at a place of another
pub record Stands (xs ys : List Scalar) (c : ℕ) : Type 0 where
  pub begins : begins_with (drop c xs) ys ≡ true
  pub ends : c + length ys ≤ length xs

at_once : (xs ys zs : List Scalar) → begins_with xs (ys ++ zs) ≡ true → Stands xs ys 0
at_once xs ys zs h = record {
  begins = begins_left xs ys zs h;
  ends = let e = begins_length xs ys (begins_left xs ys zs h) in omega (arith, e);
}

length_dropped : (n : ℕ) (xs : List Scalar) → n ≤ length xs → length (drop n xs) + n ≡ length xs
length_dropped zero xs h = omega arith
length_dropped (suc n) [] h = absurd (omega (arith, h))
length_dropped (suc n) (x ∷ xs) h = let e = length_dropped n xs (omega (arith, h)) in omega (arith, e)

-- behind the first part
later : (xs ys zs vs : List Scalar) (c : ℕ) → begins_with xs (ys ++ zs) ≡ true → Stands (drop (length ys) xs) vs c
    → Stands xs vs (length ys + c)
later xs ys zs vs c h s =
    let le = begins_length xs ys (begins_left xs ys zs h) in
    let l = length_dropped (length ys) xs le in
    let e = s.ends in
    record {
      begins = ap (λ x. begins_with x vs) (sym (drop-drop c (length ys) xs)) ∙ s.begins;
      ends = omega (arith, l, e, le);
    }

-- an element of a list that is repeated
pub element_stands : (l : ℕ) (xs ys : List Scalar) (i : ℕ) → i < l → begins_with xs (repeated l ys) ≡ true
    → Stands xs ys (i * length ys)
element_stands zero xs ys i lt h = absurd (omega (arith, lt))
element_stands (suc l) xs ys zero lt h =
    let q : zero * length ys ≡ 0 = omega arith in
    subst (λ c. Stands xs ys c) (sym q) (at_once xs ys (repeated l ys) h)
element_stands (suc l) xs ys (suc i) lt h =
    let q : length ys + i * length ys ≡ suc i * length ys = omega arith in
    subst (λ c. Stands xs ys c) q
    (later xs ys (repeated l ys) ys (i * length ys) h
    (element_stands l (drop (length ys) xs) ys i (omega (arith, lt)) (begins_right xs ys (repeated l ys) h)))

-- ## Scalars

same_int : (a b : IntType) → is_same_int a b ≡ true → a ≡ b
same_int Ints.Bool Ints.Bool e = refl
same_int Ints.Char Ints.Char e = refl
same_int Ints.UChar Ints.UChar e = refl
same_int Ints.Short Ints.Short e = refl
same_int Ints.UShort Ints.UShort e = refl
same_int Ints.Int Ints.Int e = refl
same_int Ints.UInt Ints.UInt e = refl
same_int Ints.Long Ints.Long e = refl
same_int Ints.ULong Ints.ULong e = refl
same_int Ints.LLong Ints.LLong e = refl
same_int Ints.ULLong Ints.ULLong e = refl
same_int a b e = absurd cc

pub same_scalar : (x y : Scalar) → is_same_scalar x y ≡ true → x ≡ y
same_scalar (Scalars.Int t) (Scalars.Int u) e = ap Scalars.Int (same_int t u e)
same_scalar (Scalars.Pointer c) (Scalars.Pointer d) e = ap Scalars.Pointer (eqb-true c d e)
same_scalar x y e = absurd (false≢true e)

-- ## Members

-- what a look-up by name finds is a member
pub record IsMember (ms : List Member) (m : Member) : Type 0 where
  pub number : ℕ
  pub is : slice_get ms number ≡ Some m

last_here : (x : Member) (xs : List Member) (m : Member) (b : Bool) → cond b (Some x) None ≡ Some m
    → IsMember (x ∷ xs) m
last_here x xs m true e = record { number = 0; is = e }
last_here x xs m false e = absurd (none-some m e)

last_by : (x : Member) (xs : List Member) (m : Member) (o : Option Member) (b : Bool) → (o ≡ Some m → IsMember xs m)
    → or_else o (cond b (Some x) None) ≡ Some m → IsMember (x ∷ xs) m
last_by x xs m (Some y) b h e = let r = h e in record { number = suc r.number; is = r.is }
last_by x xs m None b h e = last_here x xs m b e

last_is : (n : Name) (ms : List Member) (m : Member) → last_declared (λ x. x.name) n ms ≡ Some m → IsMember ms m
last_is n [] m e = absurd (none-some m e)
last_is n (x ∷ xs) m e = last_by x xs m (last_declared (λ y. y.name) n xs) (is_same_name x.name n) (last_is n xs m) e

found_in : (s : Structure) (b : Bool) (n : Name) (m : Member)
    → last_declared (λ x. x.name) n (cond b s.members []) ≡ Some m → IsMember s.members m
found_in s true n m e = last_is n s.members m e
found_in s false n m e = absurd (none-some m e)

pub part_is_member : (scope : Scope) (k c n : ℕ) → (h : HasPart scope k c n)
    → IsMember (structure scope k).members h.member
part_is_member scope k c n h = found_in (structure scope k) (structure scope k).complete h.name h.member h.found

module _ (file : TypedFileTree) (order : List ℕ) (h : IsLayable file order) where
  scalars_of : ℕ → List Scalar
  scalars_of n = scalars_of_type file n

  -- a member stands where the members before it end
  record IsAt (xs : List Scalar) (ms : List Member) (start : ℕ) (m : Member) : Type 0 where
    place : ℕ
    cell : m.part.cell ≡ clipped (start + place)
    stands : Stands xs (scalars_of_type file m.part.of.number) place

  small_first : (m : Member) (ms : List Member) → length (joined (scalars_of_type file) (m ∷ ms)) ≤ 65536
      → cells_of (tables_of file) m.part.of.number ≡ length (scalars_of_type file m.part.of.number)
  small_first m ms le =
      let l = length_append (scalars_of_type file m.part.of.number) (joined (scalars_of_type file) ms) in
      let e = length_of file order h m.part.of.number in
      column file order h m.part.of.number (omega (arith, l, e, le)) ∙ sym e

  small_rest : (m : Member) (ms : List Member) → length (joined (scalars_of_type file) (m ∷ ms)) ≤ 65536
      → length (joined (scalars_of_type file) ms) ≤ 65536
  small_rest m ms le = let l =
      length_append (scalars_of_type file m.part.of.number) (joined (scalars_of_type file) ms) in omega (arith, l, le)

  member_at : (xs : List Scalar) (ms : List Member) (start i : ℕ) (m : Member) → AreParts file start ms
      → slice_get ms i ≡ Some m → begins_with xs (joined (scalars_of_type file) ms) ≡ true
      → length (joined (scalars_of_type file) ms) ≤ 65536 → IsAt xs ms start m
  member_at xs [] start i m a e b le = absurd (none-some m e)
  member_at xs (x ∷ ms) start zero m a e b le =
      let is : x ≡ m = same_Some x m e in
      subst (λ (y : Member). IsAt xs (x ∷ ms) start y) is
      (record {
        place = 0;
        cell = a.0 ∙ ap clipped (let q : start ≡ start + 0 = omega arith in q);
        stands = at_once xs (scalars_of_type file x.part.of.number) (joined (scalars_of_type file) ms) b;
      })
  member_at xs (x ∷ ms) start (suc i) m a e b le =
      let ys : List Scalar = scalars_of_type file x.part.of.number in
      let zs : List Scalar = joined (scalars_of_type file) ms in
      let r = member_at (drop (length ys) xs) ms (start + cells_of (tables_of file) x.part.of.number) i m a.2 e
      (begins_right xs ys zs b) (small_rest x ms le) in
      let q = small_first x ms le in
      record {
        place = length ys + r.place;
        cell = r.cell ∙ ap clipped
            (let z : start + cells_of (tables_of file) x.part.of.number + r.place ≡ start + (length ys + r.place) =
            omega (arith, q) in z);
        stands = later xs ys zs (scalars_of_type file m.part.of.number) r.place b r.stands;
      }

  -- ## Parts of a type that stands

  pub structure_part : (xs : List Scalar) (n k i : ℕ) (m : Member) → (entry_of file n).ctype ≡ Types.Struct k
      → slice_get (structure_in file k).members i ≡ Some m
      → begins_with xs (scalars_of_type file n) ≡ true → length xs ≤ 65536
      → Stands xs (scalars_of_type file m.part.of.number) m.part.cell
  structure_part xs n k i m t e b le =
      let is : scalars_of_type file n ≡ joined (scalars_of_type file) (structure_in file k).members =
      opened_as file order h n (Types.Struct k) t in
      let b' : begins_with xs (joined (scalars_of_type file) (structure_in file k).members) ≡ true =
      subst (λ ys. begins_with xs ys ≡ true) is b in
      let l = begins_length xs (joined (scalars_of_type file) (structure_in file k).members) b' in
      let r = member_at xs (structure_in file k).members 0 i m (structure_of file order h k).parts e b'
      (omega (arith, l, le)) in
      let c = r.cell in
      let z = r.stands.ends in
      let same : r.place ≡ m.part.cell = omega (arith, c, z, le) in
      subst (λ c. Stands xs (scalars_of_type file m.part.of.number) c) same r.stands

  pub array_part : (xs : List Scalar) (n e l i : ℕ) → (entry_of file n).ctype ≡ Types.Array e l → i < l
      → begins_with xs (scalars_of_type file n) ≡ true → length xs ≤ 65536
      → Stands xs (scalars_of_type file e) (i * cells_of (tables_of file) e)
  array_part xs n e l i t lt b le =
      let is : scalars_of_type file n ≡ repeated l (scalars_of_type file e) =
      opened_as file order h n (Types.Array e l) t in
      let r = element_stands l xs (scalars_of_type file e) i lt (subst (λ ys. begins_with xs ys ≡ true) is b) in
      let z = r.ends in
      let len = length_of file order h e in
      let q : cells_of (tables_of file) e ≡ length (scalars_of_type file e) =
      column file order h e (omega (arith, z, le, len)) ∙ sym len in
      subst (λ c. Stands xs (scalars_of_type file e) (i * c)) (sym q) r

  pub scalar_part : (n : ℕ) (s : Scalar) → scalar_by (entry_of file n) (entry_of file n).ctype ≡ Some s
      → scalars_of_type file n ≡ s ∷ []
  scalar_part n s e = by_type (entry_of file n).ctype refl e
    where
      by_type : (t : CType) → (entry_of file n).ctype ≡ t → scalar_by (entry_of file n) t ≡ Some s
          → scalars_of_type file n ≡ s ∷ []
      by_type Types.Void q f = absurd cc
      by_type (Types.Int t) q f = opened_as file order h n (Types.Int t) q
          ∙ ap (λ x. x ∷ []) (same_Some (Scalars.Int t) s f)
      by_type (Types.Pointer r) q f = opened_as file order h n (Types.Pointer r) q
          ∙ ap (λ x. x ∷ []) (same_Some (Scalars.Pointer (entry_of file n).class) s f)
      by_type (Types.Array x m) q f = absurd cc
      by_type (Types.Struct k) q f = absurd cc

-- ## In an object

from_further : (laid : LaidTree) (o k c : ℕ) → drop c (scalars_from laid o k) ≡ scalars_from laid o (k + c)
from_further laid o k c =
    let cells : List LaidCell = take (object_at laid o).cells (drop (object_at laid o).first_cell laid.cells) in
    drop-map (λ (x : LaidCell). x.scalar) c (drop k cells) ∙ ap (map (λ (x : LaidCell). x.scalar)) (drop-drop c k cells)

length_taken : {A : Type 0} (n : ℕ) (xs : List A) → length (take n xs) ≤ n
length_taken zero xs = omega arith
length_taken (suc n) [] = omega arith
length_taken (suc n) (x ∷ xs) = let e = length_taken n xs in omega (arith, e)

length_left : {A : Type 0} (n k : ℕ) (xs : List A) → length xs ≤ n → k ≤ n → length (drop k xs) + k ≤ n
length_left n zero xs h le = omega (arith, h)
length_left zero (suc k) xs h le = absurd (omega (arith, le))
length_left (suc n) (suc k) [] h le = omega (arith, le)
length_left (suc n) (suc k) (x ∷ xs) h le = let e = length_left n k xs (omega (arith, h)) (omega (arith, le)) in
    omega (arith, e)

length_mapped : (xs : List LaidCell) → length (map (λ (c : LaidCell). c.scalar) xs) ≡ length xs
length_mapped [] = refl
length_mapped (x ∷ xs) = ap suc (length_mapped xs)

from_length : (laid : LaidTree) (o k : ℕ) → k ≤ (object_at laid o).cells
    → length (scalars_from laid o k) + k ≤ (object_at laid o).cells
from_length laid o k le =
    let cells : List LaidCell = take (object_at laid o).cells (drop (object_at laid o).first_cell laid.cells) in
    let a = length_mapped (drop k cells) in
    let b = length_left (object_at laid o).cells k cells
    (length_taken (object_at laid o).cells (drop (object_at laid o).first_cell laid.cells)) le in
    omega (arith, a, b)

module _ (laid : LaidTree) (order : List ℕ) (h : IsLayable laid.file order) (body : ℕ)
    (small : (o : ℕ) → o < length laid.objects → (object_at laid o).cells ≤ 65536) where
  short : (o k n : ℕ) → IsPlace laid body o k n → length (scalars_from laid o k) ≤ 65536
  short o k n p = let a = from_length laid o k p.inside in let b = small o p.object in omega (arith, a, b)

  further : (o k c n m : ℕ) → IsPlace laid body o k n → Stands (scalars_from laid o k) (scalars_of_type laid.file m) c
      → IsPlace laid body o (k + c) m
  further o k c n m p s = record {
    object = p.object;
    usable = p.usable;
    inside = (let a = from_length laid o k p.inside in let b = s.ends in omega (arith, a, b));
    stands = ap (λ xs. begins_with xs (scalars_of_type laid.file m)) (sym (from_further laid o k c)) ∙ s.begins;
  }

  pub member_place : (o k n j i : ℕ) (m : Member) → IsPlace laid body o k n
      → (entry_of laid.file n).ctype ≡ Types.Struct j → slice_get (structure_in laid.file j).members i ≡ Some m
      → IsPlace laid body o (k + m.part.cell) m.part.of.number
  member_place o k n j i m p t e =
      further o k m.part.cell n m.part.of.number p
      (structure_part laid.file order h (scalars_from laid o k) n j i m t e p.stands (short o k n p))

  pub element_place : (o k n e l i : ℕ) → IsPlace laid body o k n → (entry_of laid.file n).ctype ≡ Types.Array e l
      → i < l → IsPlace laid body o (k + i * cells_of (tables_of laid.file) e) e
  element_place o k n e l i p t lt =
      further o k (i * cells_of (tables_of laid.file) e) n e p
      (array_part laid.file order h (scalars_from laid o k) n e l i t lt p.stands (short o k n p))

  scalar_there : (o k : ℕ) (s : Scalar) → begins_with (scalars_from laid o k) (s ∷ []) ≡ true
      → slice_get (scalars_from laid o k) 0 ≡ Some s
  scalar_there o k s b = by_list (scalars_from laid o k) b
    where
      by_list : (xs : List Scalar) → begins_with xs (s ∷ []) ≡ true → slice_get xs 0 ≡ Some s
      by_list [] b = absurd (false≢true b)
      by_list (x ∷ xs) b = ap Some (same_scalar x s (and_parts (is_same_scalar x s) (begins_with xs []) b).0)

  cell_by : (o k : ℕ) (s : Scalar) (x : Option LaidCell) → slice_get laid.cells (cell_of laid o k) ≡ x
      → option_map (λ (c : LaidCell). c.scalar) x ≡ Some s → (cell_at laid (cell_of laid o k)).scalar ≡ s
  cell_by o k s (Some c) e f =
      ap (λ (y : LaidCell). y.scalar) (get_or_from_slice_get laid.cells (cell_of laid o k) c no_cell e)
      ∙ same_Some c.scalar s f
  cell_by o k s None e f = absurd (none-some s f)

  pub scalar_cell : (o k n : ℕ) (s : Scalar) → IsPlace laid body o k n
      → scalar_by (entry_of laid.file n) (entry_of laid.file n).ctype ≡ Some s → IsCell laid body o k s
  scalar_cell o k n s p e =
      let b : begins_with (scalars_from laid o k) (s ∷ []) ≡ true =
      subst (λ ys. begins_with (scalars_from laid o k) ys ≡ true) (scalar_part laid.file order h n s e) p.stands in
      let x = scalar_there o k s b in
      let l = begins_length (scalars_from laid o k) (s ∷ []) b in
      let m = from_length laid o k p.inside in
      let lt : k < (object_at laid o).cells = omega (arith, l, m) in
      let place : cell_of laid o k ≡ (object_at laid o).first_cell + (k + 0) = omega arith in
      record {
        object = p.object;
        usable = p.usable;
        inside = lt;
        scalar =
            cell_by o k s (slice_get laid.cells (cell_of laid o k)) refl
            (cell_inside laid o k 0 (cell_of laid o k)
            (option_map (λ (c : LaidCell). c.scalar) (slice_get laid.cells (cell_of laid o k))) (omega (arith, lt))
            place refl ∙ x);
      }

  -- ## Cells by their numbers in a type

  array_at : (o k m e l i : ℕ) (q : Part) → IsPlace laid body o k m → (entry_of laid.file m).ctype ≡ Types.Array e l
      → (b : Bool) → nat_lt i l ≡ b
      → cond b (Some (part_number e (clipped (i * cells_of (tables_of laid.file) e)))) None ≡ Some q
      → IsPlace laid body o (clipped (k + q.cell)) q.of.number
  array_at o k m e l i q p t false u f = absurd (none-some q f)
  array_at o k m e l i q p t true u f =
      let is : part_number e (clipped (i * cells_of (tables_of laid.file) e)) ≡ q =
      same_Some (part_number e (clipped (i * cells_of (tables_of laid.file) e))) q f in
      let there : IsPlace laid body o (k + i * cells_of (tables_of laid.file) e) e =
      element_place o k m e l i p t (ltb-true i l u) in
      let a = there.inside in
      let b = small o p.object in
      let c : k + i * cells_of (tables_of laid.file) e ≡ clipped (k + clipped (i * cells_of (tables_of laid.file) e)) =
      omega (arith, a, b) in
      subst (λ (x : Part). IsPlace laid body o (clipped (k + x.cell)) x.of.number) is
      (subst (λ x. IsPlace laid body o x e) c there)

  structure_at : (o k m j i : ℕ) (q : Part) → IsPlace laid body o k m → (entry_of laid.file m).ctype ≡ Types.Struct j
      → (x : Option Member) → slice_get (structure_in laid.file j).members i ≡ x
      → part_of x ≡ Some q → IsPlace laid body o (clipped (k + q.cell)) q.of.number
  structure_at o k m j i q p t None e f = absurd (none-some q f)
  structure_at o k m j i q p t (Some x) e f =
      let is : x.part ≡ q = same_Some x.part q f in
      let there : IsPlace laid body o (k + x.part.cell) x.part.of.number = member_place o k m j i x p t e in
      let a = there.inside in
      let b = small o p.object in
      let c : k + x.part.cell ≡ clipped (k + x.part.cell) = omega (arith, a, b) in
      subst (λ (y : Part). IsPlace laid body o (clipped (k + y.cell)) y.of.number) is
      (subst (λ y. IsPlace laid body o y x.part.of.number) c there)

  part_at : (o k m i : ℕ) (q : Part) → IsPlace laid body o k m → (t : CType) → (entry_of laid.file m).ctype ≡ t
      → part_in (tables_of laid.file) t i ≡ Some q → IsPlace laid body o (clipped (k + q.cell)) q.of.number
  part_at o k m i q p (Types.Array e l) t f = array_at o k m e l i q p t (nat_lt i l) refl f
  part_at o k m i q p (Types.Struct j) t f =
      structure_at o k m j i q p t (slice_get (structure_in laid.file j).members i) refl f
  part_at o k m i q p Types.Void t f = absurd (none-some q f)
  part_at o k m i q p (Types.Int u) t f = absurd (none-some q f)
  part_at o k m i q p (Types.Pointer u) t f = absurd (none-some q f)

  begun : (o n c m : ℕ) → IsPlace laid body o 0 n → PartBegins (tables_of laid.file) n c m → IsPlace laid body o c m
  begun o n _ _ p whole = p
  begun o n _ _ p (inner c m i q b e) = part_at o c m i q (begun o n c m p b) (entry_of laid.file m).ctype refl e

  pub given_cell : (o n c : ℕ) (s : Scalar) → IsPlace laid body o 0 n → HasScalar (tables_of laid.file) n c s
      → IsCell laid body o c s
  given_cell o n c s p x = scalar_cell o c x.type s (begun o n c x.type p x.begins) x.scalar
