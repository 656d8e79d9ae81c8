-- What stays when tables grow.
use Rattle.std.proofs.Common.{◌≡◌, ℕ, ◌<◌, ◌≤◌, suc, List, [], ◌∷◌, ◌++◌, inl, inr, length, get_or, refl, sym, subst, ap, ◌∙◌, arith}
use Rattle.std.specs.Prelude.{◌+◌, ◌*◌, Bool, true, false, cond, not, nat_le, All, map}
use Rattle.std.specs.List.{position_or_len}
use Rattle.std.proofs.lemmas.Bool.{cases_lt, false≢true}
use Rattle.std.proofs.lemmas.List.{length-append, append_assoc, append-nil, get_or_append_left, get_or_past}
use Rattle.std.proofs.lemmas.List.Elements.{All-weaker, All-nil, All-cons}
use Rattle.tm_laid.specs.tm_typed.declared.types.CType.{CType}
use Rattle.tm_laid.specs.tm_typed.declared.types.CType.TheVariants as Types
use Rattle.tm_laid.specs.tm_typed.declared.types.TypeEntry.{TypeEntry}
use Rattle.tm_laid.specs.tm_typed.declared.scopes.Member.{Member}
use Rattle.tm_laid.specs.tm_typed.declared.scopes.Tagged.{Tagged}
use Rattle.tm_laid.specs.tm_typed.declared.scopes.Tagged.TheVariants as Tagging
use Rattle.tm_laid.specs.tm_typed.Types.{no_type}
use Rattle.tm_laid.specs.tm_typed.Scopes.{Scope, Structure, entry, ctype_of, structure, is_complete_type, is_complete}
use Rattle.tm_laid.specs.tm_typed.Scopes.{cells_by, cells_of, abstract_cells_by, abstract_cells_of}
use Rattle.tm_laid.specs.tm_typed.TypeRows.{clipped, is_same_ctype, cells_in, abstract_cells_in, number_in}
use Rattle.tm_laid.specs.TypeCells.{summed}
use Rattle.typed_file_laws.specs.Tables.{IsType, IsMade, form, IsRow, AreMembers, IsStructure, IsTag}

-- Types and complete structures stay as they are, and no structure is taken away.
pub record TablesGrow (v w : Scope) : Type 0 where
  pub more : List TypeEntry
  pub types : w.types ≡ v.types ++ more
  pub count : length v.structs ≤ length w.structs
  pub structures : (k : ℕ) → (structure v k).complete ≡ true → structure w k ≡ structure v k

pub grow_none : (v : Scope) → TablesGrow v v
grow_none v = record { more = []; types = sym (append-nil v.types); count = omega arith; structures = λ k h. refl }

pub grow_on : (u v w : Scope) → TablesGrow u v → TablesGrow v w → TablesGrow u w
grow_on u v w g h = record {
  more = g.more ++ h.more;
  types = h.types ∙ ap (λ (ts : List TypeEntry). ts ++ h.more) g.types ∙ append_assoc u.types g.more h.more;
  count = omega (arith, g.count, h.count);
  structures = λ k c.
      let same : structure v k ≡ structure u k = g.structures k c in
      let P : Structure → Type 0 = λ s. s.complete ≡ true in
      h.structures k (subst P (sym same) c) ∙ same;
}

-- ## Types

pub type_stays : (v w : Scope) → TablesGrow v w → (n : ℕ) → IsType v n → IsType w n
type_stays v w g n l = let e : length w.types ≡ length v.types + length g.more = ap length g.types ∙ length-append v.types g.more in omega (arith, l, e)

pub types_more : (v w : Scope) → TablesGrow v w → length v.types ≤ length w.types
types_more v w g = let e : length w.types ≡ length v.types + length g.more = ap length g.types ∙ length-append v.types g.more in omega (arith, e)

pub entry_stays : (v w : Scope) → TablesGrow v w → (n : ℕ) → IsType v n → entry w n ≡ entry v n
entry_stays v w g n l =
    let P : List TypeEntry → Type 0 = λ ts. get_or ts n no_type ≡ get_or v.types n no_type in
    subst P (sym g.types) (get_or_append_left v.types g.more no_type n l)

-- what has a known size is a type of the table
pub known_is_type : (v : Scope) (n : ℕ) → is_complete v n ≡ true → IsType v n
known_is_type v n c = elim (cases_lt n (length v.types)) [
  | inl l ↦ l
  | inr m ↦
      let P : TypeEntry → Type 0 = λ e. is_complete_type v e.ctype ≡ true in
      absurd (false≢true (subst P (get_or_past v.types n no_type m) c))
]

type_known : (v w : Scope) → TablesGrow v w → (t : CType) → is_complete_type v t ≡ true → is_complete_type w t ≡ true
type_known v w g Types.Void c = c
type_known v w g (Types.Int t) c = c
type_known v w g (Types.Pointer q) c = c
type_known v w g (Types.Array e n) c = c
type_known v w g (Types.Struct k) c = let P : Structure → Type 0 = λ s. s.complete ≡ true in subst P (sym (g.structures k c)) c

pub known_stays : (v w : Scope) → TablesGrow v w → (n : ℕ) → is_complete v n ≡ true → is_complete w n ≡ true
known_stays v w g n c =
    let P : TypeEntry → Type 0 = λ e. is_complete_type w e.ctype ≡ true in
    subst P (sym (entry_stays v w g n (known_is_type v n c))) (type_known v w g (ctype_of v n) c)

cells_by_stay : (v w : Scope) → TablesGrow v w → (e : TypeEntry) (t : CType) → is_complete_type v t ≡ true → cells_by w e t ≡ cells_by v e t
cells_by_stay v w g e Types.Void c = refl
cells_by_stay v w g e (Types.Int t) c = refl
cells_by_stay v w g e (Types.Pointer q) c = refl
cells_by_stay v w g e (Types.Array f n) c = refl
cells_by_stay v w g e (Types.Struct k) c = ap (λ (s : Structure). s.cells) (g.structures k c)

pub cells_stay : (v w : Scope) → TablesGrow v w → (n : ℕ) → is_complete v n ≡ true → cells_of w n ≡ cells_of v n
cells_stay v w g n c =
    let P : TypeEntry → Type 0 = λ e. cells_by w e e.ctype ≡ cells_of v n in
    subst P (sym (entry_stays v w g n (known_is_type v n c))) (cells_by_stay v w g (entry v n) (ctype_of v n) c)

abstracts_by_stay : (v w : Scope) → TablesGrow v w → (e : TypeEntry) (t : CType) → is_complete_type v t ≡ true → abstract_cells_by w e t ≡ abstract_cells_by v e t
abstracts_by_stay v w g e Types.Void c = refl
abstracts_by_stay v w g e (Types.Int t) c = refl
abstracts_by_stay v w g e (Types.Pointer q) c = refl
abstracts_by_stay v w g e (Types.Array f n) c = refl
abstracts_by_stay v w g e (Types.Struct k) c = ap (λ (s : Structure). s.abstract_cells) (g.structures k c)

pub abstracts_stay : (v w : Scope) → TablesGrow v w → (n : ℕ) → is_complete v n ≡ true → abstract_cells_of w n ≡ abstract_cells_of v n
abstracts_stay v w g n c =
    let P : TypeEntry → Type 0 = λ e. abstract_cells_by w e e.ctype ≡ abstract_cells_of v n in
    subst P (sym (entry_stays v w g n (known_is_type v n c))) (abstracts_by_stay v w g (entry v n) (ctype_of v n) c)

-- ## Rows

pub made_stays : (v w : Scope) → TablesGrow v w → (t : CType) → IsMade v t → IsMade w t
made_stays v w g Types.Void m = tt
made_stays v w g (Types.Int t) m = tt
made_stays v w g (Types.Pointer q) m = type_stays v w g q.number m
made_stays v w g (Types.Array e n) m = known_stays v w g e m
made_stays v w g (Types.Struct k) m = omega (arith, m, g.count)

pub cells_in_stay : (v w : Scope) → TablesGrow v w → (t : CType) → IsMade v t → cells_in w t ≡ cells_in v t
cells_in_stay v w g Types.Void m = refl
cells_in_stay v w g (Types.Int t) m = refl
cells_in_stay v w g (Types.Pointer q) m = refl
cells_in_stay v w g (Types.Array e n) m = ap (λ (c : ℕ). clipped (n * c)) (cells_stay v w g e m)
cells_in_stay v w g (Types.Struct k) m = refl

pub abstracts_in_stay : (v w : Scope) → TablesGrow v w → (t : CType) → IsMade v t → abstract_cells_in w t ≡ abstract_cells_in v t
abstracts_in_stay v w g Types.Void m = refl
abstracts_in_stay v w g (Types.Int t) m = refl
abstracts_in_stay v w g (Types.Pointer q) m = refl
abstracts_in_stay v w g (Types.Array e n) m = ap (λ (c : ℕ). cond (nat_le 65 n) c (clipped (n * c))) (abstracts_stay v w g e m)
abstracts_in_stay v w g (Types.Struct k) m = refl

pub row_stays : (v w : Scope) → TablesGrow v w → (e : TypeEntry) → IsRow v e → IsRow w e
row_stays v w g e r = record {
  made = made_stays v w g e.ctype r.made;
  class = type_stays v w g e.class r.class;
  alike = ap (λ (f : TypeEntry). form f.ctype) (entry_stays v w g e.class r.class) ∙ r.alike;
  cells = r.cells ∙ sym (cells_in_stay v w g e.ctype r.made);
  abstract_cells = r.abstract_cells ∙ sym (abstracts_in_stay v w g e.ctype r.made);
  size = r.size;
}

pub rows_stay : (v w : Scope) → TablesGrow v w → (es : List TypeEntry) → All (IsRow v) es → All (IsRow w) es
rows_stay v w g es h = All-weaker (IsRow v) (IsRow w) (row_stays v w g) es h

-- ## Structures

pub members_stay : (v w : Scope) → TablesGrow v w → (start : ℕ) (ms : List Member) → AreMembers v start ms → AreMembers w start ms
members_stay v w g start [] h = tt
members_stay v w g start (m ∷ ms) h =
    let P : ℕ → Type 0 = λ c. AreMembers w (start + c) ms in (
      h.0,
      known_stays v w g m.part.of.number h.1,
      subst P (sym (cells_stay v w g m.part.of.number h.1)) (members_stay v w g (start + cells_of v m.part.of.number) ms h.2),
    )

pub summed_stays : (v w : Scope) → TablesGrow v w → (start : ℕ) (ms : List Member) → AreMembers v start ms → summed (cells_of w) ms ≡ summed (cells_of v) ms
summed_stays v w g start [] h = refl
summed_stays v w g start (m ∷ ms) h =
    ap (λ (c : ℕ). c + summed (cells_of w) ms) (cells_stay v w g m.part.of.number h.1)
    ∙ ap (λ (c : ℕ). cells_of v m.part.of.number + c) (summed_stays v w g (start + cells_of v m.part.of.number) ms h.2)

pub abstract_sum_stays : (v w : Scope) → TablesGrow v w → (start : ℕ) (ms : List Member) → AreMembers v start ms → summed (abstract_cells_of w) ms ≡ summed (abstract_cells_of v) ms
abstract_sum_stays v w g start [] h = refl
abstract_sum_stays v w g start (m ∷ ms) h =
    ap (λ (c : ℕ). c + summed (abstract_cells_of w) ms) (abstracts_stay v w g m.part.of.number h.1)
    ∙ ap (λ (c : ℕ). abstract_cells_of v m.part.of.number + c) (abstract_sum_stays v w g (start + cells_of v m.part.of.number) ms h.2)

pub structure_stays : (v w : Scope) → TablesGrow v w → (s : Structure) → IsStructure v s → IsStructure w s
structure_stays v w g s h = record {
  members = members_stay v w g 0 s.members h.members;
  cells = h.cells ∙ ap clipped (sym (summed_stays v w g 0 s.members h.members));
  abstract_cells = h.abstract_cells ∙ ap clipped (sym (abstract_sum_stays v w g 0 s.members h.members));
  size = h.size;
  opened = h.opened;
  empty = h.empty;
}

pub structures_stay : (v w : Scope) → TablesGrow v w → (ss : List Structure) → All (IsStructure v) ss → All (IsStructure w) ss
structures_stay v w g ss h = All-weaker (IsStructure v) (IsStructure w) (structure_stays v w g) ss h

-- the types of members have a known size
pub members_known : (v : Scope) (start : ℕ) (ms : List Member) → AreMembers v start ms → All (λ (m : Member). is_complete v m.part.of.number ≡ true) ms
members_known v start [] h = All-nil (λ (m : Member). is_complete v m.part.of.number ≡ true)
members_known v start (m ∷ ms) h = All-cons (λ (m : Member). is_complete v m.part.of.number ≡ true) m ms h.1 (members_known v (start + cells_of v m.part.of.number) ms h.2)

-- ## Tags

pub tag_stays : (v w : Scope) → TablesGrow v w → (t : Tagged) → IsTag v t → IsTag w t
tag_stays v w g (Tagging.Structure k) h = omega (arith, h, g.count)
tag_stays v w g (Tagging.Enumeration z) h = tt

-- ## Numbers

-- where the first row of a type of this form stands, or else would stand
abbrev pub place : (CType → Bool) → List TypeEntry → ℕ
place p es = position_or_len p (map (λ (e : TypeEntry). e.ctype) es)

place_step : (b : Bool) (m n k l : ℕ) → (m < k → n < l) → cond (not b) (1 + m) 0 < suc k → cond (not b) (1 + n) 0 < suc l
place_step true m n k l f h = omega arith
place_step false m n k l f h = let g : n < l = f (omega (arith, h)) in omega (arith, g)

-- what is found in a list is found in a longer one
pub place_stays : (p : CType → Bool) (es fs : List TypeEntry) → place p es < length es → place p (es ++ fs) < length (es ++ fs)
place_stays p [] fs l = absurd (omega (arith, l))
place_stays p (e ∷ es) fs l = place_step (p e.ctype) (place p es) (place p (es ++ fs)) (length es) (length (es ++ fs)) (place_stays p es fs) l

pub place_within : (p : CType → Bool) (es : List TypeEntry) → place p es ≤ length es
place_within p [] = omega arith
place_within p (e ∷ es) = by_test (p e.ctype) (place_within p es)
  where
    by_test : (b : Bool) → place p es ≤ length es → cond (not b) (1 + place p es) 0 ≤ suc (length es)
    by_test true h = omega arith
    by_test false h = omega (arith, h)

abbrev Passes : (CType → Bool) → List TypeEntry → ℕ → Type 0
Passes p es n = p (get_or es n no_type).ctype ≡ true

-- what stands there is of the form
pub passes_there : (p : CType → Bool) (es : List TypeEntry) → place p es < length es → Passes p es (place p es)
passes_there p [] l = absurd (omega (arith, l))
passes_there p (e ∷ es) l = by_test (p e.ctype) refl l (passes_there p es)
  where
    by_test : (b : Bool) → p e.ctype ≡ b → cond (not b) (1 + place p es) 0 < suc (length es) → (place p es < length es → Passes p es (place p es)) → Passes p (e ∷ es) (cond (not b) (1 + place p es) 0)
    by_test true q h f = q
    by_test false q h f =
        let same : suc (place p es) ≡ 1 + place p es = omega arith in
        let P : ℕ → Type 0 = λ n. Passes p (e ∷ es) n in
        subst P same (f (omega (arith, h)))

pub number_stays : (v w : Scope) (t : CType) → TablesGrow v w → IsType v (number_in v t) → IsType w (number_in w t)
number_stays v w t g l =
    let P : List TypeEntry → Type 0 = λ ts. place (is_same_ctype t) ts < length ts in
    subst P (sym g.types) (place_stays (is_same_ctype t) v.types g.more l)
