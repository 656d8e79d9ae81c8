-- Where objects, parts and pointed values stand on a call path.
use Rattle.std.proofs.Common.{◌≡◌, refl, ap, sym, subst, ◌∙◌, ℕ, zero, suc, ◌+◌, ◌<◌, ◌≤◌, Bool, true, false}
use Rattle.std.proofs.Common.{List, [], ◌∷◌, length, map, take, drop, Option, Some, None, slice_get, arith}
use Rattle.std.specs.Prelude.{pos, ◌&&◌, if◌then◌else◌, nat_le, nat_lt, is_some, option_map, Ok}
use Rattle.std.proofs.lemmas.Bool.{false≢true, and_parts, ltb-true, leb-true}
use Rattle.std.proofs.lemmas.Option.{none-some, same_Some, slice_get_within, get_or_from_slice_get}
use Rattle.operation_laws.specs.tm_terms.declared.refusals.Limit.TheVariants as Limits
use Rattle.operation_laws.specs.tm_typed.declared.scopes.ObjectNumber.{ObjectNumber}
use Rattle.operation_laws.specs.tm_typed.declared.scopes.ObjectNumber.TheVariants as Objects
use Rattle.operation_laws.specs.tm_typed.declared.files.LocalEntry.{LocalEntry}
use Rattle.operation_laws.specs.tm_typed.Functions.{TypedBodyTree}
use Rattle.operation_laws.specs.tm_typed.Files.{TypedFileTree}
use Rattle.operation_laws.specs.tm_typed.WellTyped.{HasPart}
use Rattle.operation_laws.specs.tm_laid.declared.objects.DeclaredObject.{DeclaredObject}
use Rattle.operation_laws.specs.tm_laid.declared.objects.LaidObject.{LaidObject}
use Rattle.operation_laws.specs.tm_laid.declared.cells.LaidCell.{LaidCell}
use Rattle.operation_laws.specs.tm_laid.Paths.{locals_in, locals_of, paths_of}
use Rattle.operation_laws.specs.tm_laid.declared.scales.Scale.{Scale}
use Rattle.operation_laws.specs.tm_laid.declared.scales.Scale.TheVariants as Scales
use Rattle.operation_laws.specs.tm_laid.Layable.{IsLayable, tables_of}
use Rattle.operation_laws.specs.tm_laid.Layouts.{LaidTree, declared_objects, layout_along, path_at, object_at}
use Rattle.operation_laws.specs.tm_laid.Layouts.{no_object, object_of}
use Rattle.operation_laws.specs.tm_laid.Layouts.{is_alive_by, stands_at, scalars_of_type, scalars_from, is_exceeded}
use Rattle.operation_laws.specs.tm_laid.Layouts.{laid_out}
use Rattle.operation_laws.proofs.low.cell_types.Types.{length_of}
use Rattle.operation_laws.specs.concrete_values.declared.values.Pointer.TheVariants as Pointers
use Rattle.operation_laws.specs.concrete_values.Pointers.{cells_of_object, size_of, placed, pointer_in, is_object_at}
use Rattle.operation_laws.specs.typed_file_laws.Lawful.{object_type}
use Rattle.operation_laws.specs.typed_file_laws.TypedBodies.{file_context}
use Rattle.operation_laws.specs.typed_file_laws.Sites.{is_defined_object, function_of_file}
use Rattle.operation_laws.specs.next_action_laws.Actions.{IsBodyPath, MayUse, IsPlace}
use Rattle.operation_laws.specs.next_action_laws.Laws.{HasLayout}
use Rattle.operation_laws.proofs.low.next_action_laws.Answered.{parts_stand, elements_stand}
use Rattle.operation_laws.proofs.low.next_action_laws.ObjectPlaces.{laid_at, IsDeclared, local_declared}
use Rattle.operation_laws.proofs.low.next_action_laws.PathPlaces.{same_body}
use Rattle.operation_laws.proofs.low.next_action_laws.WholeBodies.{local_place, static_place}
use Rattle.sound_addresses.proofs.ExpressionKinds.{IsNamed, IsStage}

-- ## Lengths

length_taken : {A : Type 0} (n : ℕ) (xs : List A) → length (take n xs) ≤ n
length_taken zero xs = omega arith
length_taken (suc n) [] = omega arith
length_taken (suc n) (x ∷ xs) = let e = length_taken n xs in omega (arith, e)

length_left : {A : Type 0} (n k : ℕ) (xs : List A) → length xs ≤ n → k ≤ n → length (drop k xs) + k ≤ n
length_left n zero xs h le = omega (arith, h)
length_left zero (suc k) xs h le = absurd (omega (arith, le))
length_left (suc n) (suc k) [] h le = omega (arith, le)
length_left (suc n) (suc k) (x ∷ xs) h le =
    let e = length_left n k xs (omega (arith, h)) (omega (arith, le)) in
    omega (arith, e)

length_mapped : (xs : List LaidCell) → length (map (λ (c : LaidCell). c.scalar) xs) ≡ length xs
length_mapped [] = refl
length_mapped (x ∷ xs) = ap suc (length_mapped xs)

-- what stands from an offset on ends with the object
pub from_length : (laid : LaidTree) (o k : ℕ) → k ≤ (object_at laid o).cells
    → length (scalars_from laid o k) + k ≤ (object_at laid o).cells
from_length laid o k le =
    let cells : List LaidCell = take (object_at laid o).cells (drop (object_at laid o).first_cell laid.cells) in
    let a = length_mapped (drop k cells) in
    let b = length_left (object_at laid o).cells k cells
    (length_taken (object_at laid o).cells (drop (object_at laid o).first_cell laid.cells)) le in
    omega (arith, a, b)

-- what a look-up of a type finds
found_type : {A : Type 0} (f : A → ℕ) (o : Option A) (n : ℕ) → option_map f o ≡ Some n → (x : A) × (o ≡ Some x)
    × (f x ≡ n)
found_type f (Some x) n e = (x, refl, same_Some (f x) n e)
found_type f None n e = absurd (none-some n e)

module _ (file : TypedFileTree) (order : List ℕ) (h : IsLayable file order)
    (within : is_exceeded Scales.Large file Limits.Cells ≡ false) (body : ℕ) where
  abbrev pub L : LaidTree
  L = layout_along file (paths_of file)

  abbrev pub function_on : ℕ → ℕ
  function_on path = (path_at L path).function

  abbrev ds : List DeclaredObject
  ds = declared_objects file (paths_of file)

  -- ## What may be dereferenced

  alive_by : (path : ℕ) → IsBodyPath L body path → (owner : Option ℕ) → is_alive_by L path owner ≡ true
      → MayUse L body owner
  alive_by path u None e = tt
  alive_by path u (Some q) e =
      let both = and_parts (nat_le q path) (nat_lt path (q + (path_at L q).paths)) e in
      let le = leb-true q path both.0 in
      let lt = ltb-true path (q + (path_at L q).paths) both.1 in
      let w = u.within in
      let lq : q < length (paths_of file) = omega (arith, le, w) in
      let r = same_body file q path lq le lt in
      record { within = lq; same = sym r.1 ∙ u.same }

  record IsInside (o k : ℕ) : Type 0 where
    object : o < length L.objects
    inside : k ≤ (object_at L o).cells

  inside_by : (o k : ℕ) (x : Option LaidObject) → slice_get L.objects o ≡ x
      → is_some (placed (cells_of_object x) o (pos k)) ≡ true → IsInside o k
  inside_by o k None e f = absurd (false≢true f)
  inside_by o k (Some x) e f = by_test (nat_le k x.cells) refl f
    where
      by_test : (b : Bool) → nat_le k x.cells ≡ b → is_some (if b then Some (Pointers.To o k) else None) ≡ true
          → IsInside o k
      by_test true t g =
          let le = leb-true k x.cells t in
          let is = ap (λ (y : LaidObject). y.cells) (get_or_from_slice_get L.objects o x no_object e) in
          record { object = slice_get_within L.objects o x e; inside = omega (arith, le, is) }
      by_test false t g = absurd (false≢true g)

  inside_if : (o k : ℕ) (b : Bool)
      → is_some (placed (if b then cells_of_object (slice_get L.objects o) else None) o (pos k)) ≡ true → IsInside o k
  inside_if o k true f = inside_by o k (slice_get L.objects o) refl f
  inside_if o k false f = absurd (false≢true f)

  is_inside : (o k : ℕ) → is_some (pointer_in L o (pos k)) ≡ true → IsInside o k
  unfolding pointer_in size_of
  is_inside o k f = inside_if o k (nat_lt o 4294967296) f

  target : (path : ℕ) → IsBodyPath L body path → (o k n : ℕ) → is_object_at L path o k n ≡ true → IsPlace L body o k n
  target path u o k n e =
      let both = and_parts (is_some (pointer_in L o (pos k)))
      (is_alive_by L path (object_at L o).owner && stands_at L o k n) e in
      let more = and_parts (is_alive_by L path (object_at L o).owner) (stands_at L o k n) both.1 in
      let i = is_inside o k both.0 in
      record {
        object = i.object;
        usable = alive_by path u (object_at L o).owner more.0;
        inside = i.inside;
        stands = more.1;
      }

  -- ## Local objects

  locals_are : (path : ℕ) (b : TypedBodyTree) → (function_of_file file (function_on path)).body ≡ Some b → (k : ℕ)
      → option_map (λ (o : LocalEntry). o.of.number) (slice_get (locals_of file (function_on path)) k)
      ≡ option_map (λ (o : LocalEntry). o.of.number) (slice_get b.locals k)
  locals_are path b e k = ap (λ x. option_map (λ (o : LocalEntry). o.of.number) (slice_get (locals_in x) k)) e

  -- a local object has the cells of its type
  pub sizes : (path : ℕ) → IsBodyPath L body path → (b : TypedBodyTree)
      → (function_of_file file (function_on path)).body ≡ Some b → (x n : ℕ)
      → object_type file.statics b.locals (Objects.Local x) ≡ Some n
      → (object_at L (object_of L path (Objects.Local x))).cells ≤ length (scalars_of_type L.file n)
  sizes path u b e k n q =
      let o : ℕ = object_of L path (Objects.Local k) in
      let x = found_type (λ (o : LocalEntry). o.of.number) (slice_get (locals_of file (function_on path)) k) n
      (locals_are path b e k ∙ q) in
      let l : LocalEntry = x.0 in
      let d : IsDeclared ds o l.of.number (Some path) = local_declared file (paths_of file) path k l u.within x.1 in
      let y = laid_at file order h 0 0 0 ds o d.declared d.is in
      let same : d.declared.of.number ≡ n = d.type ∙ x.2 in
      let m = length_of file order h d.declared.of.number in
      let c = y.cells in
      let le : (object_at L o).cells ≤ length (scalars_of_type L.file d.declared.of.number) = omega (arith, m, c) in
      subst (λ z. (object_at L o).cells ≤ length (scalars_of_type L.file z)) same le

  -- ## All together

  module _ (scale : Scale) (out : laid_out scale file ≡ Ok L) (few : length L.objects ≤ 4294967296) where
    has_layout : HasLayout file order L
    has_layout = record { layable = h; scale = scale; is = out; few = few }

    retold : (locals : List LocalEntry) (j c n : ℕ) → HasPart (file_context file locals).scope j c n
        → HasPart (tables_of file) j c n
    retold locals j c n p =
        record { name = p.name; member = p.member; found = p.found; cell = p.cell; type = p.type }

    pub stage : (path : ℕ) → IsBodyPath L body path → (b : TypedBodyTree)
        → (function_of_file file (function_on path)).body ≡ Some b
        → IsStage L body path b.locals (is_defined_object file)
    stage path u b e = record {
      few = few;
      objects = named;
      targets = target path u;
      parts = λ o k m j c n p t x.
          (parts_stand file order L has_layout body o k m j c n p t (retold b.locals j c n x)).1;
      elements = λ o k m n l i p t lt. (elements_stand file order L has_layout body o k m n l i p t lt).1;
    }
      where
        named : (x : ObjectNumber) (n : ℕ) → object_type file.statics b.locals x ≡ Some n
            → IsNamed (is_defined_object file) x → IsPlace L body (object_of L path x) 0 n
        named (Objects.Static k) n q d = static_place file order h within body k n q d path
        named (Objects.Local k) n q d = (local_place file order h within body path u k n (locals_are path b e k ∙ q)).0
