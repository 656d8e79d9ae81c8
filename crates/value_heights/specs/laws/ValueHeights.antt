-- A value's height rises where the value does.
use Rattle.std.specs.Prelude.{◌≡◌, ℕ, ◌+◌, ◌*◌, ◌≤◌, Bool, true, false, IsTrue, ℤ, refl}
use Rattle.std.proofs.Common.{sym, ap, subst, ◌∙◌, arith, le_of_mul-le-mul_right, mul-le-mul_right, pos, ◌+ℤ◌, ◌≤ℤ◌}
use Rattle.std.specs.Int.{◌∣◌}
use Rattle.std.proofs.Math.Nat.{mul_comm}
use Rattle.std.proofs.lemmas.Int.{ints}
use Rattle.std.proofs.lemmas.Nat.Gcd.{le_of_dvd}
use Rattle.pointer_dom.specs.strided_dom.Progression.{Progression, empty, single, row, Has, IsSubset, first_of, last_of}
use Rattle.pointer_dom.specs.strided_dom.Progression.{stride_of}
use Rattle.pointer_dom.proofs.low.strided_dom.Members.{IsSome, spaced_from, has_last, stride_dvd, not_in_empty}
use Rattle.pointer_dom.specs.tm_lattice.Heights.{IsHeight, table_height}
use Rattle.pointer_dom.specs.tm_lattice.Tables.{IsTable, IsTableBelow}
use Rattle.pointer_dom.specs.tm_lattice.laws.TableHeights.{table_heights}
use Rattle.pointer_dom.specs.OffsetSets.{IsOffsetSet, HasNoOffset, IsOffsetsBelow}
use Rattle.pointer_dom.specs.PointerSets.{IsPointers, IsPointersBelow}
use Rattle.pointer_dom.specs.Values.{IsValues, IsValuesBelow}
use Rattle.value_heights.specs.Heights.{number_count, flag_height, offsets_height, pointers_height, value_height}

-- ## Sets of numbers

-- a member of a set of one number, and a set with a member
one_member : (w v : ℤ) → Has (single w) v → v ≡ w
unfolding Has
one_member w v h = h

row_some : (first : ℤ) (gap more : ℕ) → IsSome (row first gap more)
unfolding Has first_of
row_some first gap more = (0, (omega arith, omega (arith, ints)))

row_next : (first : ℤ) (gap more : ℕ) → Has (row first gap more) (first +ℤ pos (gap + 1))
unfolding Has
row_next first gap more = (1, (omega arith, omega (arith, ints)))

row_first : (first : ℤ) (gap more : ℕ) → Has (row first gap more) first
unfolding Has
row_first first gap more = (0, (omega arith, omega (arith, ints)))

single_member : (w : ℤ) → Has (single w) w
unfolding Has
single_member w = refl

-- the two ends of a smaller row lie between those of a greater one, and its gaps are not smaller
record IsWithinRow (f : ℤ) (g m : ℕ) (f' : ℤ) (g' m' : ℕ) : Type 0 where
  gaps : g' ≤ g
  from : f' ≤ℤ f
  to : (f +ℤ pos ((m + 1) * (g + 1))) ≤ℤ (f' +ℤ pos ((m' + 1) * (g' + 1)))

row_within : (f : ℤ) (g m : ℕ) (f' : ℤ) (g' m' : ℕ) → IsSubset (row f g m) (row f' g' m') → IsWithinRow f g m f' g' m'
unfolding first_of last_of stride_of
row_within f g m f' g' m' le =
    let divides : (g' + 1) ∣ (g + 1) = stride_dvd (row f g m) (row f' g' m') (row_some f g m) le in
    let strides : g' + 1 ≤ g + 1 = le_of_dvd (omega arith) divides in
    let low = spaced_from (row f' g' m') f (le.within f (row_first f g m)) in
    let high = spaced_from (row f' g' m') (last_of (row f g m)) (le.within _ (has_last (row f g m) (row_some f g m))) in
    record { gaps = omega arith; from = low.from; to = high.to }

-- it has at most as many numbers
fewer : (g m g' m' : ℕ) → g' ≤ g → (m + 1) * (g + 1) ≤ (m' + 1) * (g' + 1) → m ≤ m'
fewer g m g' m' gaps span =
    let wide : (g' + 1) * (m + 1) ≤ (g + 1) * (m + 1) =
    mul-le-mul_right {m = g' + 1} {n = g + 1} (m + 1) (omega arith) in
    let a : (m + 1) * (g' + 1) ≡ (g' + 1) * (m + 1) = mul_comm (m + 1) (g' + 1) in
    let b : (m + 1) * (g + 1) ≡ (g + 1) * (m + 1) = mul_comm (m + 1) (g + 1) in
    let all : (m + 1) * (g' + 1) ≤ (m' + 1) * (g' + 1) = omega arith in
    let less : m + 1 ≤ m' + 1 = le_of_mul-le-mul_right {k = g' + 1} all (omega arith) in
    omega arith

-- and where it has as many, its gaps are the same
same_gaps : (g m g' : ℕ) → g' ≤ g → (m + 1) * (g + 1) ≤ (m + 1) * (g' + 1) → g ≡ g'
same_gaps g m g' gaps span =
    let a : (m + 1) * (g' + 1) ≡ (g' + 1) * (m + 1) = mul_comm (m + 1) (g' + 1) in
    let b : (m + 1) * (g + 1) ≡ (g + 1) * (m + 1) = mul_comm (m + 1) (g + 1) in
    let all : (g + 1) * (m + 1) ≤ (g' + 1) * (m + 1) = omega arith in
    let less : g + 1 ≤ g' + 1 = le_of_mul-le-mul_right {k = m + 1} all (omega arith) in
    omega arith

spans : (f : ℤ) (a : ℕ) (f' : ℤ) (b : ℕ) → f' ≤ℤ f → (f +ℤ pos a) ≤ℤ (f' +ℤ pos b) → a ≤ b
spans f a f' b from to = omega (arith, ints)

rows_climb : (f : ℤ) (g m : ℕ) (f' : ℤ) (g' m' : ℕ) → IsWithinRow f g m f' g' m' → m ≤ m'
rows_climb f g m f' g' m' h = fewer g m g' m' h.gaps (spans f ((m + 1) * (g + 1)) f' ((m' + 1) * (g' + 1)) h.from h.to)

same_first : (f : ℤ) (a : ℕ) (f' : ℤ) → f' ≤ℤ f → (f +ℤ pos a) ≤ℤ (f' +ℤ pos a) → f ≡ f'
same_first f a f' from to = omega (arith, ints)

same_row : (f : ℤ) (g m : ℕ) (f' : ℤ) (g' : ℕ) → IsWithinRow f g m f' g' m → row f g m ≡ row f' g' m
same_row f g m f' g' h =
    let gaps : g ≡ g' = same_gaps g m g' h.gaps (spans f ((m + 1) * (g + 1)) f' ((m + 1) * (g' + 1)) h.from h.to) in
    let ends : (f +ℤ pos ((m + 1) * (g + 1))) ≤ℤ (f' +ℤ pos ((m + 1) * (g + 1))) =
    subst (λ k. (f +ℤ pos ((m + 1) * (g + 1))) ≤ℤ (f' +ℤ pos ((m + 1) * (k + 1)))) (sym gaps) h.to in
    let firsts : f ≡ f' = same_first f ((m + 1) * (g + 1)) f' h.from ends in
    λ i. row (firsts i) (gaps i) m

two_in_one : (f : ℤ) (g m : ℕ) (w : ℤ) → IsSubset (row f g m) (single w) → ⊥
two_in_one f g m w le =
    let a : f ≡ w = one_member w f (le.within f (row_first f g m)) in
    let b : f +ℤ pos (g + 1) ≡ w = one_member w (f +ℤ pos (g + 1)) (le.within _ (row_next f g m)) in
    omega (arith, ints)

pub counts_climb : (s t : Progression) → IsSubset s t → number_count s ≤ number_count t
unfolding number_count
counts_climb empty t le = omega arith
counts_climb (single v) empty le = absurd (not_in_empty v (le.within v (single_member v)))
counts_climb (single v) (single w) le = omega arith
counts_climb (single v) (row f g m) le = omega arith
counts_climb (row f g m) empty le = absurd (not_in_empty f (le.within f (row_first f g m)))
counts_climb (row f g m) (single w) le = absurd (two_in_one f g m w le)
counts_climb (row f g m) (row f' g' m') le =
    let h = rows_climb f g m f' g' m' (row_within f g m f' g' m' le) in omega arith

pub counts_strict : (s t : Progression) → IsSubset s t → number_count t ≤ number_count s → s ≡ t
unfolding number_count
counts_strict empty empty le flat = refl
counts_strict empty (single w) le flat = absurd (omega arith)
counts_strict empty (row f g m) le flat = absurd (omega arith)
counts_strict (single v) empty le flat = absurd (not_in_empty v (le.within v (single_member v)))
counts_strict (single v) (single w) le flat = ap single (one_member w v (le.within v (single_member v)))
counts_strict (single v) (row f g m) le flat = absurd (omega arith)
counts_strict (row f g m) empty le flat = absurd (not_in_empty f (le.within f (row_first f g m)))
counts_strict (row f g m) (single w) le flat = absurd (two_in_one f g m w le)
counts_strict (row f g m) (row f' g' m') le flat =
    let inside = row_within f g m f' g' m' le in
    let less : m ≤ m' = rows_climb f g m f' g' m' inside in
    let most : m' + 2 ≤ m + 2 = flat in
    let count : m' ≡ m = omega arith in
    let same : row f g m ≡ row f' g' m = same_row f g m f' g' (subst (IsWithinRow f g m f' g') count inside) in
    same ∙ ap (row f' g') (sym count)

-- ## Offsets and pointers

pub offsets_heights : IsHeight IsOffsetSet IsOffsetsBelow offsets_height
offsets_heights = record {
  climbs = λ o p o-is p-is le.
      let counts = counts_climb o.offsets p.offsets le.offsets in
      let sizes = le.size in
      omega arith;
  strictly = λ o p o-is p-is le flat.
      let counts = counts_climb o.offsets p.offsets le.offsets in
      let sizes = le.size in
      let size : o.size ≡ p.size = omega arith in
      let offsets = counts_strict o.offsets p.offsets le.offsets (omega arith) in
      λ i. record { size = size i; offsets = offsets i };
}

flags_climb : (a b : Bool) → (IsTrue a → IsTrue b) → flag_height a ≤ flag_height b
flags_climb true true h = omega arith
flags_climb true false h = absurd (let e : false ≡ true = h refl in cc)
flags_climb false b h = omega arith

flags_strict : (a b : Bool) → (IsTrue a → IsTrue b) → flag_height b ≤ flag_height a → a ≡ b
flags_strict true true h flat = refl
flags_strict true false h flat = absurd (let e : false ≡ true = h refl in cc)
flags_strict false true h flat = absurd (omega arith)
flags_strict false false h flat = refl

abbrev objects_heights : IsHeight (IsTable IsOffsetSet HasNoOffset) (IsTableBelow IsOffsetsBelow)
    (table_height offsets_height)
objects_heights = table_heights IsOffsetSet IsOffsetsBelow HasNoOffset offsets_height offsets_heights

pub pointers_heights : IsHeight IsPointers IsPointersBelow pointers_height
pointers_heights = record {
  climbs = λ p q p-is q-is le.
      let a = flags_climb p.null q.null le.null in
      let b = flags_climb p.invalid q.invalid le.invalid in
      let c = objects_heights.climbs p.objects q.objects p-is q-is le.objects in
      omega arith;
  strictly = λ p q p-is q-is le flat.
      let a = flags_climb p.null q.null le.null in
      let b = flags_climb p.invalid q.invalid le.invalid in
      let c = objects_heights.climbs p.objects q.objects p-is q-is le.objects in
      let null = flags_strict p.null q.null le.null (omega arith) in
      let invalid = flags_strict p.invalid q.invalid le.invalid (omega arith) in
      let objects = objects_heights.strictly p.objects q.objects p-is q-is le.objects (omega arith) in
      λ i. record { null = null i; invalid = invalid i; objects = objects i };
}

-- ## Values

pub value_heights : IsHeight IsValues IsValuesBelow value_height
value_heights = record {
  climbs = λ v w v-is w-is le.
      let a = counts_climb v.numbers w.numbers le.numbers in
      let b = pointers_heights.climbs v.pointers w.pointers v-is w-is le.pointers in
      omega arith;
  strictly = λ v w v-is w-is le flat.
      let a = counts_climb v.numbers w.numbers le.numbers in
      let b = pointers_heights.climbs v.pointers w.pointers v-is w-is le.pointers in
      let numbers = counts_strict v.numbers w.numbers le.numbers (omega arith) in
      let pointers = pointers_heights.strictly v.pointers w.pointers v-is w-is le.pointers (omega arith) in
      λ i. record { numbers = numbers i; pointers = pointers i };
}
