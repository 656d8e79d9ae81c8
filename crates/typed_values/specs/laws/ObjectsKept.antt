-- What operators give on pointers leads to objects of the program, with their sizes.
use Rattle.std.proofs.Common.{◌≡◌, ℕ, ℤ, pos, Option, Some, None, List, refl, sym, ap, subst, ◌∙◌, arith}
use Rattle.std.specs.Prelude.{min, max, ◌<◌, length, Bool, true, false, IsTrue}
use Rattle.std.specs.FinMap.{get, get-empty}
use Rattle.std.specs.Ordering.{nat_cmp}
use Rattle.std.specs.Option.{option_map}
use Rattle.operator_values.specs.strided_dom.Progression.{Progression, empty, Has}
use Rattle.operator_values.specs.strided_dom.Combinations.{IsInBoth, IsProduct}
use Rattle.operator_values.proofs.low.strided_dom.Members.{no_member, not_in_empty}
use Rattle.tm_typed.specs.tm_lattice.Tables.{IsEntry, joined_at}
use Rattle.tm_typed.specs.tm_lattice.laws.TableLaws.{get-joined_table, get-rounded_table}
use Rattle.tm_laid.specs.Layouts.{LaidTree, object_at}
use Rattle.operator_values.specs.pointer_dom.Pointer.{Pointer, to}
use Rattle.operator_values.specs.pointer_dom.OffsetSets.{OffsetSet, IsOffsetSet, HasNoOffset, no_offset, IsOffsetsOf}
use Rattle.operator_values.specs.pointer_dom.OffsetSets.{joined_offsets, rounded_offsets}
use Rattle.operator_values.specs.pointer_dom.PointerSets.{Pointers, IsPointers, no_pointer, offsets_or_none, offsets_at}
use Rattle.operator_values.specs.pointer_dom.PointerSets.{IsPointer, IsMeet, IsMeetAt, joined_pointers}
use Rattle.operator_values.specs.pointer_dom.PointerSets.{rounded_pointers}
use Rattle.operator_values.specs.pointer_dom.Advances.{IsAdvance, IsInHull, IsReached, IsGivenAt, IsElementStep}
use Rattle.operator_values.specs.pointer_dom.Advances.{directed}
use Rattle.operator_values.specs.pointer_dom.Selections.{IsHullOfPointers, IsOffsetTo}
use Rattle.operator_values.specs.filters.PointerPartners.{MayBeUnequal}
use Rattle.operator_values.specs.SetsOfPointers.{common_pointers, common_pointers_are, common_pointers_fit, offset_by}
use Rattle.operator_values.specs.SetsOfPointers.{offset_by_is, offset_by_fits, indexed, indexed_is, indexed_fits}
use Rattle.operator_values.specs.SetsOfPointers.{moved, moved_is, moved_fits, IsReachable, dereferenced}
use Rattle.operator_values.specs.SetsOfPointers.{dereferenced_is, dereferenced_fits, unequal_to, unequal_to_is}
use Rattle.operator_values.specs.SetsOfPointers.{unequal_to_fits, left_pointers, right_pointers}
use Rattle.typed_values.specs.Types.{AreObjects}

-- what stands at a key has an offset
some_offset : (p : Pointers) (object : ℕ) (o : OffsetSet) → IsPointers p → get p.objects object ≡ Some o
    → o.offsets ≡ empty → ⊥
some_offset p object o p-is at = (subst (IsEntry IsOffsetSet HasNoOffset) at (p-is object)).1

pub no_objects : (laid : LaidTree) (p : Pointers) → p ≡ no_pointer → AreObjects laid p
no_objects laid p none object o at =
    absurd (let e : (let n : Option OffsetSet = None in n ≡ Some o) =
    sym (get-empty nat_cmp object) ∙ (ap (λ (q : Pointers). get q.objects object) (sym none) ∙ at) in cc)

-- each object of r is one of p, with the same size
abbrev Keeps : Pointers → Pointers → Type 0
Keeps p r = (object : ℕ) (o : OffsetSet) → get r.objects object ≡ Some o → (o' : OffsetSet)
    × ((get p.objects object ≡ Some o') × (o.size ≡ o'.size))

kept_objects : (laid : LaidTree) (p r : Pointers) → Keeps p r → AreObjects laid p → AreObjects laid r
kept_objects laid p r keeps are object o at =
    let k = keeps object o at in
    let h = are object k.0 k.1.0 in
    (h.0, k.1.1 ∙ h.1)

-- what has the offsets with a property that those of an object have
module _ (P : OffsetSet → ℤ → Type 0) (none : (v : ℤ) → P no_offset v → ⊥) (o : OffsetSet) (some : o.offsets ≡ empty
    → ⊥) where
  came_from : (a : Option OffsetSet) → (let b = offsets_or_none a in IsOffsetsOf b.size (P b) o) → (o' : OffsetSet)
      × ((a ≡ Some o') × (o.size ≡ o'.size))
  came_from None h = absurd (some (no_member o.offsets (λ v p. none v (h.offsets.sound v p))))
  came_from (Some o') h = (o', (refl, h.some some))

advance_keeps : (Step : ℤ → Type 0) (p r : Pointers) → IsPointers r → IsAdvance Step p r → Keeps p r
advance_keeps Step p r r-is h object o at =
    came_from (IsReached Step)
    (λ v reached. not_in_empty v (reached.hull empty (λ w q. absurd (not_in_empty q.from q.in_offsets)))) o
    (some_offset r object o r-is at) (get p.objects object)
    (subst (IsGivenAt (IsReached Step) (get p.objects object)) at (h.objects object))

hull_keeps : (P : Pointer → Type 0) (p r : Pointers) → IsPointers r → ((x : Pointer) → P x → IsPointer p x)
    → IsHullOfPointers P p r → Keeps p r
hull_keeps P p r r-is inside h object o at = by_entry (get p.objects object) refl
  where
    here : (let b = offsets_at p object in IsOffsetsOf b.size (IsInHull (IsOffsetTo P object)) o)
    here = subst (λ a. (let b = offsets_at p object in
        IsOffsetsOf b.size (IsInHull (IsOffsetTo P object)) (offsets_or_none a))) at (h.objects object)

    by_entry : (a : Option OffsetSet) → get p.objects object ≡ a → (o' : OffsetSet)
        × ((get p.objects object ≡ Some o') × (o.size ≡ o'.size))
    by_entry None e =
        absurd (some_offset r object o r-is at
        (no_member o.offsets (λ v q. not_in_empty v ((here.offsets.sound v q) empty (λ w x.
        let member : (let b = offsets_or_none (get p.objects object) in Has b.offsets (pos x.offset)) =
        inside (to object x.offset) x.pointer in
        absurd (not_in_empty (pos x.offset)
        (subst (λ c. (let b = offsets_or_none c in Has b.offsets (pos x.offset))) e member)))))))
    by_entry (Some o') e = (
      o',
      (
        e,
        subst (λ c. (let b = offsets_or_none c in o.size ≡ b.size)) e
            (here.some (some_offset r object o r-is at)),
      ),
    )

-- what two sets have in common
module _ (laid : LaidTree) (p q m : Pointers) (p-are : AreObjects laid p) (q-are : AreObjects laid q)
    (m-is : IsPointers m) (h : IsMeet p q m) where
  meet_at : (object : ℕ) (o : OffsetSet) → (o.offsets ≡ empty → ⊥) → (a b : Option OffsetSet)
      → get p.objects object ≡ a → get q.objects object ≡ b → IsMeetAt a b (Some o)
      → (object < length laid.objects) × (o.size ≡ (object_at laid object).cells)
  meet_at object o some None b ea eb met =
      absurd (some (no_member o.offsets (λ v x. not_in_empty v (met.offsets.sound v x).0)))
  meet_at object o some (Some a) None ea eb met =
      absurd (some (no_member o.offsets (λ v x. not_in_empty v (met.offsets.sound v x).1)))
  meet_at object o some (Some a) (Some b) ea eb met =
      let left = p-are object a ea in
      let right = q-are object b eb in
      let sizes : b.size ≡ a.size = right.1 ∙ sym left.1 in
      let size : o.size ≡ min a.size b.size = met.some some in
      let same : o.size ≡ a.size = omega (arith, sizes, size) in
      (left.0, same ∙ left.1)

  meet_objects : AreObjects laid m
  meet_objects object o at =
      meet_at object o (some_offset m object o m-is at) (get p.objects object) (get q.objects object) refl refl
      (subst (IsMeetAt (get p.objects object) (get q.objects object)) at (h.objects object))

module _ (laid : LaidTree) where
  abbrev IsObjectWith : ℕ → Option OffsetSet → Type 0
  IsObjectWith object a = (o : OffsetSet) → a ≡ Some o → (object < length laid.objects)
      × (o.size ≡ (object_at laid object).cells)

  some_object : (object : ℕ) (o : OffsetSet) → (object < length laid.objects)
      × (o.size ≡ (object_at laid object).cells) → IsObjectWith object (Some o)
  some_object object o h o' e =
      let same : o ≡ o' = cc in
      subst (λ (x : OffsetSet). (object < length laid.objects) × (x.size ≡ (object_at laid object).cells)) same h

  joined_object : (object : ℕ) (a b : Option OffsetSet) → IsObjectWith object a → IsObjectWith object b
      → IsObjectWith object (joined_at joined_offsets a b)
  joined_object object None b p q = q
  joined_object object (Some x) None p q = p
  joined_object object (Some x) (Some y) p q =
      let left = p x refl in
      let right = q y refl in
      let sizes : y.size ≡ x.size = right.1 ∙ sym left.1 in
      let same : max x.size y.size ≡ x.size = omega (arith, sizes) in
      some_object object (joined_offsets x y) (left.0, same ∙ left.1)

  pub joined_objects : (p q : Pointers) → AreObjects laid p → AreObjects laid q → AreObjects laid (joined_pointers p q)
  joined_objects p q p-are q-are object =
      subst (IsObjectWith object) (sym (get-joined_table joined_offsets p.objects q.objects object))
      (joined_object object (get p.objects object) (get q.objects object) (p-are object) (q-are object))

  rounded_object : (marks : List ℤ) (object : ℕ) (a : Option OffsetSet) → IsObjectWith object a
      → IsObjectWith object (option_map (rounded_offsets marks) a)
  rounded_object marks object None h = h
  rounded_object marks object (Some x) h = some_object object (rounded_offsets marks x) (h x refl)

  pub rounded_objects : (marks : List ℤ) (p : Pointers) → AreObjects laid p → AreObjects laid (rounded_pointers marks p)
  rounded_objects marks p are object =
      subst (IsObjectWith object) (sym (get-rounded_table (rounded_offsets marks) p.objects object))
      (rounded_object marks object (get p.objects object) (are object))

  -- nothing, parts, elements, moved pointers and those that may be dereferenced
  pub none_objects : AreObjects laid no_pointer
  none_objects = no_objects laid no_pointer refl

  pub part_objects : (cells : ℕ) (p : Pointers) → AreObjects laid p → AreObjects laid (offset_by cells p)
  part_objects cells p are =
      kept_objects laid p (offset_by cells p)
      (advance_keeps (λ step. step ≡ pos cells) p (offset_by cells p) (offset_by_fits cells p) (offset_by_is cells p))
      are

  pub element_objects : (n cells : ℕ) (s : Progression) (p : Pointers) → AreObjects laid p
      → AreObjects laid (indexed n cells s p)
  element_objects n cells s p are =
      kept_objects laid p (indexed n cells s p)
      (advance_keeps (IsElementStep n cells s) p (indexed n cells s p) (indexed_fits n cells s p)
      (indexed_is n cells s p)) are

  pub moved_objects : (forward : Bool) (cells : ℕ) (s : Progression) (p : Pointers) → AreObjects laid p
      → AreObjects laid (moved forward cells s p)
  moved_objects forward cells s p are =
      kept_objects laid p (moved forward cells s p)
      (advance_keeps (IsProduct s (directed forward cells)) p (moved forward cells s p)
      (moved_fits forward cells s p) (moved_is forward cells s p)) are

  pub reached_objects : (alive : ℕ → Bool) (stands : ℕ → ℕ → Bool) (p : Pointers) → IsPointers p → AreObjects laid p
      → AreObjects laid (dereferenced alive stands p)
  reached_objects alive stands p p-is are =
      kept_objects laid p (dereferenced alive stands p)
      (hull_keeps (IsReachable alive stands p) p (dereferenced alive stands p) (dereferenced_fits alive stands p p-is)
      (λ x h. h.0) (dereferenced_is alive stands p)) are

  -- what two sets have in common, and what is left of them in a comparison
  pub common_objects : (p q : Pointers) → IsPointers p → IsPointers q → AreObjects laid p → AreObjects laid q
      → AreObjects laid (common_pointers p q)
  common_objects p q p-is q-is p-are q-are =
      meet_objects laid p q (common_pointers p q) p-are q-are (common_pointers_fit p q p-is q-is)
      (common_pointers_are p q)

  unequal_objects : (q p : Pointers) → IsPointers p → AreObjects laid p → AreObjects laid (unequal_to q p)
  unequal_objects q p p-is are =
      kept_objects laid p (unequal_to q p)
      (hull_keeps (MayBeUnequal p q) p (unequal_to q p) (unequal_to_fits q p p-is) (λ x h. h.member)
      (unequal_to_is q p)) are

  pub left_objects : (equal : Bool) (p q : Pointers) → IsPointers p → IsPointers q → AreObjects laid p
      → AreObjects laid q → AreObjects laid (left_pointers equal p q)
  left_objects true p q p-is q-is p-are q-are = common_objects p q p-is q-is p-are q-are
  left_objects false p q p-is q-is p-are q-are = unequal_objects q p p-is p-are

  pub right_objects : (equal : Bool) (p q : Pointers) → IsPointers p → IsPointers q → AreObjects laid p
      → AreObjects laid q → AreObjects laid (right_pointers equal p q)
  right_objects true p q p-is q-is p-are q-are = common_objects p q p-is q-is p-are q-are
  right_objects false p q p-is q-is p-are q-are = unequal_objects p q q-is q-are
