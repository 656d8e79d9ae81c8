-- What is noted of objects, widened number by number.
use Rattle.std.proofs.Common.{◌≡◌, ◌≢◌, ◌⊎◌, ℕ, ◌+◌, ◌<◌, refl, sym, subst, ◌∙◌, inl, inr, List, length, set, get_or}
use Rattle.std.proofs.Common.{Some, None, arith}
use Rattle.std.specs.Prelude.{ℤ, ◌≤ℤ◌}
use Rattle.std.proofs.lemmas.Bool.{cases_eq}
use Rattle.std.proofs.lemmas.Int.{ints}
use Rattle.std.specs.Int.Signed.{≤ℤ_refl}
use Rattle.std.proofs.lemmas.List.{get_or-set_same, get_or-set_other, length-set}
use Rattle.strided_dom.specs.Progression.{Progression, empty, Has, IsLeastNumber, IsGreatestNumber}
use Rattle.pointer_dom.specs.Values.{Values}
use Rattle.value_ranges.specs.declared.object_bounds.ObjectBounds.{ObjectBounds}
use Rattle.value_ranges.specs.declared.cells.IntegerCell.{IntegerCell}
use Rattle.value_ranges.specs.reading.Notes.{Noted, noted_at, IsLow, IsHigh, IsWidened, AreWidened, IsJoined}
use Rattle.value_ranges.specs.reading.Notes.{HasNoted, Below, no_integer_cell, IsInCell, AreOfObjects}

pub either : {A B C : Type 0} → (A → C) → (B → C) → A ⊎ B → C
either f g (inl a) = f a
either f g (inr b) = g b

≤ℤ_trans : (x y z : ℤ) → x ≤ℤ y → y ≤ℤ z → x ≤ℤ z
≤ℤ_trans x y z h g = omega (arith, ints)

-- ## Numbers

pub nothing_in : (n : ℤ) → Has empty n → ⊥
unfolding Has
nothing_in n h = h

-- ## One object

pub same_noted : (P : ℤ → Type 0) (o : ℕ) (a : Noted) → ((n : ℤ) → P n → ⊥) → IsWidened P o a a
same_noted P o a nothing = record {
  keeps = λ n h. h;
  has = λ n h. absurd (nothing n h);
  low = λ n h. inl h;
  high = λ n h. inl h;
  named = λ h. h;
}

pub noted_both : (P Q R : ℤ → Type 0) (o : ℕ) (a b c : Noted) → ((n : ℤ) → P n → R n) → ((n : ℤ) → Q n → R n)
    → ((n : ℤ) → R n → P n ⊎ Q n) → IsWidened P o a b → IsWidened Q o b c → IsWidened R o a c
noted_both P Q R o a b c first second split p q = record {
  keeps = λ n h. q.keeps n (p.keeps n h);
  has = λ n r. either (λ h. q.keeps n (p.has n h)) (λ h. q.has n h) (split n r);
  low = λ n h. either (λ l. either (λ k. inl k) (λ k. inr (first n k)) (p.low n l)) (λ k. inr (second n k)) (q.low n h);
  high = λ n h. either (λ l. either (λ k. inl k) (λ k. inr (first n k)) (p.high n l)) (λ k. inr (second n k))
      (q.high n h);
  named = λ h. q.named (p.named h);
}

pub noted_as : (P Q : ℤ → Type 0) (o : ℕ) (a b : Noted) → ((n : ℤ) → P n → Q n) → ((n : ℤ) → Q n → P n)
    → IsWidened P o a b → IsWidened Q o a b
noted_as P Q o a b there back p = record {
  keeps = p.keeps;
  has = λ n h. p.has n (back n h);
  low = λ n h. either (λ l. inl l) (λ k. inr (there n k)) (p.low n h);
  high = λ n h. either (λ l. inl l) (λ k. inr (there n k)) (p.high n h);
  named = p.named;
}

-- bounds that are joined are those of numbers of which they are the least and the greatest
pub joined_noted : (P : ℤ → Type 0) (o : ℕ) (old : Noted) (more new : ObjectBounds) → o ≡ more.object
    → IsJoined old more new → P more.low → P more.high
    → ((n : ℤ) → P n → (more.low ≤ℤ n) × (n ≤ℤ more.high)) → IsWidened P o old (Some new)
joined_noted P o old more new o-is j has_low has_high within = record {
  keeps = j.keeps;
  has = λ n h. let w = within n h in
      (≤ℤ_trans new.low more.low n j.from w.0, ≤ℤ_trans n more.high new.high w.1 j.to);
  low = λ n e. subst (λ m. IsLow old m ⊎ P m) e (either (λ l. inl l) (λ q. inr (subst P (sym q) has_low)) j.low_is);
  high = λ n e. subst (λ m. IsHigh old m ⊎ P m) e (either (λ l. inl l) (λ q. inr (subst P (sym q) has_high)) j.high_is);
  named = λ h. j.named ∙ sym o-is;
}

pub joined_none : (old : Noted) (more : ObjectBounds) → old ≡ None → IsJoined old more more
joined_none old more e =
    subst (λ (x : Noted). IsJoined x more more) (sym e) (record {
      keeps = λ n h. absurd h;
      from = ≤ℤ_refl more.low;
      to = ≤ℤ_refl more.high;
      low_is = inr refl;
      high_is = inr refl;
      named = refl;
    })

pub joined_some : (old : Noted) (b more : ObjectBounds) → old ≡ Some b → (low high : ℤ) → low ≤ℤ b.low → low ≤ℤ more.low
    → (low ≡ b.low) ⊎ (low ≡ more.low) → b.high ≤ℤ high → more.high ≤ℤ high → (high ≡ b.high) ⊎ (high ≡ more.high)
    → IsJoined old more (record { object = more.object; low = low; high = high })
joined_some old b more e low high lb lm l hb hm h =
    subst (λ (x : Noted). IsJoined x more (record { object = more.object; low = low; high = high })) (sym e) (record {
      keeps = λ n w. (≤ℤ_trans low b.low n lb w.0, ≤ℤ_trans n b.high high w.1 hb);
      from = lm;
      to = hm;
      low_is = either (λ q. inl (sym q)) (λ q. inr q) l;
      high_is = either (λ q. inl (sym q)) (λ q. inr q) h;
      named = refl;
    })

-- ## All objects

pub same_all : (P : ℕ → ℤ → Type 0) (a : List Noted) → ((o : ℕ) (n : ℤ) → P o n → ⊥) → AreWidened P a a
same_all P a nothing = record { count = refl; each = λ o. same_noted (P o) o (noted_at a o) (nothing o) }

pub all_both : (P Q R : ℕ → ℤ → Type 0) (a b c : List Noted) → ((o : ℕ) (n : ℤ) → P o n → R o n)
    → ((o : ℕ) (n : ℤ) → Q o n → R o n) → ((o : ℕ) (n : ℤ) → R o n → P o n ⊎ Q o n) → AreWidened P a b
    → AreWidened Q b c → AreWidened R a c
all_both P Q R a b c first second split p q = record {
  count = q.count ∙ p.count;
  each = λ o. noted_both (P o) (Q o) (R o) o (noted_at a o) (noted_at b o) (noted_at c o) (first o) (second o) (split o)
      (p.each o) (q.each o);
}

pub all_as : (P Q : ℕ → ℤ → Type 0) (a b : List Noted) → ((o : ℕ) (n : ℤ) → P o n → Q o n)
    → ((o : ℕ) (n : ℤ) → Q o n → P o n) → AreWidened P a b → AreWidened Q a b
all_as P Q a b there back p = record {
  count = p.count;
  each = λ o. noted_as (P o) (Q o) o (noted_at a o) (noted_at b o) (there o) (back o) (p.each o);
}

-- one object is widened
module _ (P : ℤ → Type 0) (noted : List Noted) (object : ℕ) (lt : object < length noted) (new : ObjectBounds)
    (widened : IsWidened P object (noted_at noted object) (Some new)) where
  abbrev after : List Noted
  after = set noted object (Some new)

  abbrev Of : ℕ → ℤ → Type 0
  Of o n = (object ≡ o) × P n

  here : IsWidened (Of object) object (noted_at noted object) (noted_at after object)
  here =
      subst (λ x. IsWidened (Of object) object (noted_at noted object) x)
      (sym (get_or-set_same noted object (Some new) None lt))
      (noted_as P (Of object) object (noted_at noted object) (Some new) (λ n h. (refl, h)) (λ n h. h.1) widened)

  elsewhere : (o : ℕ) → o ≢ object → IsWidened (Of o) o (noted_at noted o) (noted_at after o)
  elsewhere o ne =
      subst (λ x. IsWidened (Of o) o (noted_at noted o) x) (sym (get_or-set_other noted object o (Some new) None ne))
      (same_noted (Of o) o (noted_at noted o) (λ n h. ne (sym h.0)))

  by_object : (o : ℕ) → (o ≡ object) ⊎ (o ≢ object) → IsWidened (Of o) o (noted_at noted o) (noted_at after o)
  by_object o (inl e) =
      subst (λ z. IsWidened (Of z) z (noted_at noted z) (noted_at after z)) (sym e) here
  by_object o (inr ne) = elsewhere o ne

  pub set_noted : AreWidened Of noted after
  set_noted = record { count = length-set noted object (Some new); each = λ o. by_object o (cases_eq o object) }

-- a number, or the numbers of a set, of one object
pub noted_of : (P : ℤ → Type 0) (more : ObjectBounds) (noted new : List Noted) → more.object < length noted
    → HasNoted more noted new → P more.low → P more.high
    → ((n : ℤ) → P n → (more.low ≤ℤ n) × (n ≤ℤ more.high))
    → AreWidened (λ o n. (more.object ≡ o) × P n) noted new
noted_of P more noted new lt h has_low has_high within =
    subst (λ (xs : List Noted). AreWidened (λ o n. (more.object ≡ o) × P n) noted xs) (sym h.is)
    (set_noted P noted more.object lt h.bounds
    (joined_noted P more.object (noted_at noted more.object) more h.bounds refl h.joined has_low has_high within))

pub number_noted : (object : ℕ) (number : ℤ) (noted new : List Noted) → object < length noted
    → HasNoted (record { object = object; low = number; high = number }) noted new
    → AreWidened (λ o n. (object ≡ o) × (n ≡ number)) noted new
number_noted object number noted new lt h =
    noted_of (λ n. n ≡ number) (record { object = object; low = number; high = number }) noted new lt h refl refl
    (λ n e. (
      subst (λ m. number ≤ℤ m) (sym e) (≤ℤ_refl number),
      subst (λ m. m ≤ℤ number) (sym e) (≤ℤ_refl number),
    ))

pub numbers_noted : (object : ℕ) (numbers : Progression) (low high : ℤ) → IsLeastNumber (Has numbers) low
    → IsGreatestNumber (Has numbers) high → (noted new : List Noted) → object < length noted
    → HasNoted (record { object = object; low = low; high = high }) noted new
    → AreWidened (λ o n. (object ≡ o) × Has numbers n) noted new
numbers_noted object numbers low high least greatest noted new lt h =
    noted_of (Has numbers) (record { object = object; low = low; high = high }) noted new lt h least.member
    greatest.member (λ n m. (least.bound n m, greatest.bound n m))

pub no_numbers : (noted : List Noted) (object : ℕ) (numbers : Progression) → numbers ≡ empty
    → AreWidened (λ o n. (object ≡ o) × Has numbers n) noted noted
no_numbers noted object numbers none =
    same_all (λ o n. (object ≡ o) × Has numbers n) noted
    (λ o n h. nothing_in n (subst (λ z. Has z n) none h.1))

-- ## Loops

pub below_cases : (Q : ℕ → Type 0) (i : ℕ) → Below Q (i + 1) → Below Q i ⊎ Q i
below_cases Q i h = elim (cases_eq h.0 i) [
  | inl same ↦ inr (subst Q same h.2)
  | inr other ↦ inl (h.0, (let lt = h.1 in omega (arith, lt, other)), h.2)
]

pub below_before : (Q : ℕ → Type 0) (i : ℕ) → Below Q i → Below Q (i + 1)
below_before Q i h = (h.0, (let lt = h.1 in omega (arith, lt)), h.2)

pub below_here : (Q : ℕ → Type 0) (i : ℕ) → Q i → Below Q (i + 1)
below_here Q i h = (i, omega arith, h)

pub none_below : (Q : ℕ → Type 0) → Below Q 0 → ⊥
none_below Q h = absurd (let lt = h.1 in omega (arith, lt))

pub begins : (Q : ℕ → ℤ → ℕ → Type 0) (a : List Noted) → AreWidened (λ o n. Below (Q o n) 0) a a
begins Q a = same_all (λ o n. Below (Q o n) 0) a (λ o n h. none_below (Q o n) h)

pub goes_on : (Q : ℕ → ℤ → ℕ → Type 0) (i : ℕ) (a b c : List Noted) → AreWidened (λ o n. Below (Q o n) i) a b
    → AreWidened (λ o n. Q o n i) b c → AreWidened (λ o n. Below (Q o n) (i + 1)) a c
goes_on Q i a b c p q =
    all_both (λ o n. Below (Q o n) i) (λ o n. Q o n i) (λ o n. Below (Q o n) (i + 1)) a b c
    (λ o n h. below_before (Q o n) i h) (λ o n h. below_here (Q o n) i h) (λ o n h. below_cases (Q o n) i h) p q

pub stays : (Q : ℕ → ℤ → ℕ → Type 0) (i : ℕ) (a b : List Noted) → AreWidened (λ o n. Below (Q o n) i) a b
    → ((o : ℕ) (n : ℤ) → Q o n i → ⊥) → AreWidened (λ o n. Below (Q o n) (i + 1)) a b
stays Q i a b p nothing =
    all_as (λ o n. Below (Q o n) i) (λ o n. Below (Q o n) (i + 1)) a b (λ o n h. below_before (Q o n) i h)
    (λ o n h. either (λ x. x) (λ x. absurd (nothing o n x)) (below_cases (Q o n) i h)) p

-- ## Cells

module _ (cells : List IntegerCell) (i : ℕ) (cell : IntegerCell) (is : cell ≡ get_or cells i no_integer_cell)
    (value : ℕ → Values) (numbers : Progression) (numbers_are : (let v = value cell.cell in v.numbers ≡ numbers)) where
  there : (o : ℕ) (n : ℤ) → (cell.object ≡ o) × Has numbers n → IsInCell cells value o n i
  there o n h =
      let C = λ (c : IntegerCell). (c.object ≡ o) × (let v = value c.cell in Has v.numbers n) in
      let both : C cell = (h.0, subst (λ z. Has z n) (sym numbers_are) h.1) in
      let moved : C (get_or cells i no_integer_cell) = subst C is both in
      record { of = moved.0; has = moved.1 }

  back : (o : ℕ) (n : ℤ) → IsInCell cells value o n i → (cell.object ≡ o) × Has numbers n
  back o n h =
      let C = λ (c : IntegerCell). (c.object ≡ o) × (let v = value c.cell in Has v.numbers n) in
      let at : C (get_or cells i no_integer_cell) = (h.of, h.has) in
      let moved : C cell = subst C (sym is) at in
      (moved.0, subst (λ z. Has z n) numbers_are moved.1)

  pub cell_noted : (a b : List Noted) → AreWidened (λ o n. (cell.object ≡ o) × Has numbers n) a b
      → AreWidened (λ o n. IsInCell cells value o n i) a b
  cell_noted a b p =
      all_as (λ o n. (cell.object ≡ o) × Has numbers n) (λ o n. IsInCell cells value o n i) a b there back p

  pub cell_silent : numbers ≡ empty → (o : ℕ) (n : ℤ) → IsInCell cells value o n i → ⊥
  cell_silent none o n h = nothing_in n (subst (λ z. Has z n) none (back o n h).1)

-- the objects of cells are of those that are noted, however they are widened
pub of_those : (cells : List IntegerCell) (old new : List Noted) → AreOfObjects cells (length old)
    → length new ≡ length old → AreOfObjects cells (length new)
of_those cells old new of same = λ k d lt. let l = of k d lt in omega (arith, l, same)
