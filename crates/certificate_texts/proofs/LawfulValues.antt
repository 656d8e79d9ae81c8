-- The words of values of a type are lawful.
use Rattle.std.proofs.Common.{◌≡◌, refl, sym, subst, ℕ, ◌+◌, ◌-◌, ◌*◌, ◌<◌, ◌≤◌, ◌^◌, ℤ, pos}
use Rattle.std.proofs.Common.{Bool, true, false, cond, List, [], ◌∷◌, ◌++◌, length, Option, inl, inr}
use Rattle.std.proofs.Common.{arith, lit<, lit≤}
use Rattle.std.specs.Prelude.{negsuc, neg_ℤ, ◌≤ℤ◌, ◌+ℤ◌, codes}
use Rattle.std.proofs.lemmas.Int.{ints}
use Rattle.std.specs.List.{flat_map}
use Rattle.std.specs.FinMap.{entries}
use Rattle.tm_cint.specs.declared.int_types.IntType.{IntType}
use Rattle.tm_cint.specs.declared.int_types.IntType.TheVariants as Ints
use Rattle.tm_cint.specs.IntTypes.{lo_of, hi_of}
use Rattle.strided_dom.specs.Progression.{Progression, empty, single, row, Has, first_of, last_of, stride_of}
use Rattle.tm_lattice.specs.Tables.{IsEntry}
use Rattle.pointer_dom.specs.OffsetSets.{OffsetSet, IsOffsetSet, HasNoOffset}
use Rattle.pointer_dom.specs.PointerSets.{Pointers, IsPointers, no_pointer}
use Rattle.pointer_dom.specs.Values.{Values}
use Rattle.interfere_set.specs.laws.Joins.{IsOf, of_entry}
use Rattle.transfer_rows.specs.StateForms.{is_no_value, only_numbers, only_pointers}
use Rattle.tm_typed.specs.declared.types.Scalar.{Scalar}
use Rattle.tm_typed.specs.declared.types.Scalar.TheVariants as Scalars
use Rattle.tm_laid.specs.Layouts.{LaidTree, object_at}
use Rattle.post_recheck.specs.typed_values.Types.{AreObjects, IsOfType}
use Rattle.certificate_words.specs.Words.{Word, tag, number, IsWord, AreWords, Line, AreLines}
use Rattle.certificate_words.specs.Numbers.{progression_words}
use Rattle.certificate_texts.specs.ValueWords.{bit_word, object_words, pointers_words, some_words, value_words}
use Rattle.certificate_texts.proofs.Telling.{none_words, numbers_words}

-- ## Lists of words and of lines

pub words_append : (ws vs : List Word) → AreWords ws → AreWords vs → AreWords (ws ++ vs)
words_append [] vs h k = k
words_append (w ∷ ws) vs h k = (h.0, words_append ws vs h.1 k)

pub words_flat : {A : Type 0} (f : A → List Word) (xs : List A) → ((x : A) → IsOf xs x → AreWords (f x))
    → AreWords (flat_map f xs)
words_flat f [] h = tt
words_flat f (x ∷ xs) h = words_append (f x) (flat_map f xs) (h x (inl refl)) (words_flat f xs (λ y k. h y (inr k)))

pub lines_append : (ls ms : List Line) → AreLines ls → AreLines ms → AreLines (ls ++ ms)
lines_append [] ms h k = k
lines_append (l ∷ ls) ms h k = (h.0, lines_append ls ms h.1 k)

pub lines_flat : {A : Type 0} (f : A → List Line) (xs : List A) → ((x : A) → IsOf xs x → AreLines (f x))
    → AreLines (flat_map f xs)
lines_flat f [] h = tt
lines_flat f (x ∷ xs) h = lines_append (f x) (flat_map f xs) (h x (inl refl)) (lines_flat f xs (λ y k. h y (inr k)))

-- ## Sets of numbers

word_between : (z : ℤ) → neg_ℤ (pos (2 ^ 63)) ≤ℤ z → z ≤ℤ pos (2 ^ 64 - 1) → IsWord (number z)
word_between (pos n) low high = omega (arith, ints, high)
word_between (negsuc n) low high = omega (arith, ints, low)

-- the numbers lie between two ends of which each is the number of a word, and that are not too far from each other
pub record AreEnds (low high : ℤ) : Type 0 where
  pub least : neg_ℤ (pos (2 ^ 63)) ≤ℤ low
  pub greatest : high ≤ℤ pos (2 ^ 64 - 1)
  pub near : high ≤ℤ (low +ℤ pos (2 ^ 64 - 1))

pub lawful_set : (low high : ℤ) → AreEnds low high → (s : Progression)
    → ((z : ℤ) → Has s z → (low ≤ℤ z) × (z ≤ℤ high)) → AreWords (progression_words s)
unfolding Has first_of last_of stride_of
lawful_set low high ends empty all = (lit< tt, (lit< tt, (lit< tt, tt)))
lawful_set low high ends (single v) all =
    let at = all v refl in
    let a = at.0 in
    let b = at.1 in
    let l = ends.least in
    let h = ends.greatest in
    let word = word_between v (omega (arith, ints, a, l)) (omega (arith, ints, b, h)) in
    (word, (word, (lit< tt, tt)))
lawful_set low high ends (row first gap more) all =
    let step = (more + 1) * (gap + 1) in
    let start : first ≡ first +ℤ pos (0 * (gap + 1)) = omega (arith, ints) in
    let one = all first (0, (omega arith, start)) in
    let two = all (first +ℤ pos step) (more + 1, (omega arith, refl)) in
    let a = one.0 in
    let b = one.1 in
    let c = two.0 in
    let d = two.1 in
    let l = ends.least in
    let h = ends.greatest in
    let n = ends.near in
    let far : step ≤ 2 ^ 64 - 1 = omega (arith, ints, a, d, n) in
    let stride : gap + 1 ≤ step = omega arith in (
      word_between first (omega (arith, ints, a, l)) (omega (arith, ints, b, h)),
      (
        word_between (first +ℤ pos step) (omega (arith, ints, c, l)) (omega (arith, ints, d, h)),
        ((omega (arith, far, stride)), tt),
      ),
    )

-- the ends of integer types
type_ends : (t : IntType) → AreEnds (lo_of t) (hi_of t)
type_ends Ints.Bool = record { least = omega (arith, ints); greatest = omega (arith, ints); near = omega (arith, ints) }
type_ends Ints.Char = record { least = omega (arith, ints); greatest = omega (arith, ints); near = omega (arith, ints) }
type_ends Ints.UChar = record { least = omega (arith, ints); greatest = omega (arith, ints); near = omega (arith, ints) }
type_ends Ints.Short = record { least = omega (arith, ints); greatest = omega (arith, ints); near = omega (arith, ints) }
type_ends Ints.UShort = record { least = omega (arith, ints); greatest = omega (arith, ints); near = omega (arith, ints) }
type_ends Ints.Int = record { least = omega (arith, ints); greatest = omega (arith, ints); near = omega (arith, ints) }
type_ends Ints.UInt = record { least = omega (arith, ints); greatest = omega (arith, ints); near = omega (arith, ints) }
type_ends Ints.Long = record { least = omega (arith, ints); greatest = omega (arith, ints); near = omega (arith, ints) }
type_ends Ints.ULong = record { least = omega (arith, ints); greatest = omega (arith, ints); near = omega (arith, ints) }
type_ends Ints.LLong = record { least = omega (arith, ints); greatest = omega (arith, ints); near = omega (arith, ints) }
type_ends Ints.ULLong = record { least = omega (arith, ints); greatest = omega (arith, ints); near = omega (arith, ints) }

size_ends : (size : ℕ) → size < 2 ^ 64 → AreEnds (pos 0) (pos size)
size_ends size less = record {
  least = omega (arith, ints);
  greatest = omega (arith, ints, less);
  near = omega (arith, ints, less);
}

-- ## Values

module _ (laid : LaidTree) (few : length laid.objects < 2 ^ 64)
    (small : (object : ℕ) → (let o = object_at laid object in o.cells < 2 ^ 64)) where
  lawful_bit : (b : Bool) → IsWord (bit_word b)
  lawful_bit true = lit< tt
  lawful_bit false = lit< tt

  module _ (p : Pointers) (is : IsPointers p) (are : AreObjects laid p) where
    lawful_object : (e : ℕ × OffsetSet) → IsOf (entries p.objects) e → AreWords (object_words e)
    lawful_object e h =
        let at = of_entry p.objects e h in
        let there = are e.0 e.1 at in
        let key = there.0 in
        let size = there.1 in
        let cells = small e.0 in
        let set = subst (λ (o : Option OffsetSet). IsEntry IsOffsetSet HasNoOffset o) at (is e.0) in (
          omega (arith, key, few),
          lawful_set (pos 0) (pos e.1.size) (size_ends e.1.size (omega (arith, size, cells))) e.1.offsets
              (λ z has. (let offset = set.0.within z has in (offset.from, offset.to))),
        )

    lawful_pointers : AreWords (pointers_words p)
    lawful_pointers = (
      (lit≤ tt, lit≤ tt, tt),
      (lawful_bit p.null, (lawful_bit p.invalid, words_flat object_words (entries p.objects) lawful_object)),
    )

  lawful_mark : AreWords (tag (codes "e") ∷ [])
  lawful_mark = ((lit≤ tt, lit≤ tt, tt), tt)

  lawful_numbers : (t : IntType) (s : Progression) → ((z : ℤ) → Has s z → (lo_of t ≤ℤ z) × (z ≤ℤ hi_of t))
      → AreWords (value_words (only_numbers s))
  lawful_numbers t empty all = subst AreWords (sym (none_words empty refl)) lawful_mark
  lawful_numbers t (single v) all =
      subst AreWords (sym (numbers_words (single v) no_pointer (λ e. (cc))))
      ((lit≤ tt, lit≤ tt, tt), lawful_set (lo_of t) (hi_of t) (type_ends t) (single v) all)
  lawful_numbers t (row first gap more) all =
      subst AreWords (sym (numbers_words (row first gap more) no_pointer (λ e. (cc))))
      ((lit≤ tt, lit≤ tt, tt), lawful_set (lo_of t) (hi_of t) (type_ends t) (row first gap more) all)

  lawful_pointing : (p : Pointers) → IsPointers p → AreObjects laid p → AreWords (value_words (only_pointers p))
  lawful_pointing p is are = by_test (is_no_value (only_pointers p))
    where
      by_test : (b : Bool) → AreWords (cond b (tag (codes "e") ∷ []) (some_words (only_pointers p)))
      by_test true = lawful_mark
      by_test false = lawful_pointers p is are

  -- the words of a value of a type
  pub lawful_value : (scalar : Scalar) (v : Values) → IsOfType laid scalar v → AreWords (value_words v)
  lawful_value (Scalars.Int t) v h =
      let is : only_numbers v.numbers ≡ v = λ i. record { numbers = v.numbers; pointers = sym h.1 i } in
      subst (λ (w : Values). AreWords (value_words w)) is
      (lawful_numbers t v.numbers (λ z has. (let at = h.0.all z has in (at.at_least, at.at_most))))
  lawful_value (Scalars.Pointer c) v h =
      let is : only_pointers v.pointers ≡ v = λ i. record { numbers = sym h.0 i; pointers = v.pointers } in
      subst (λ (w : Values). AreWords (value_words w)) is (lawful_pointing v.pointers h.1 h.2)
