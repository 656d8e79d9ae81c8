-- What is wrong with the pointers to one object, and with those to all objects of a table.
use Rattle.std.proofs.Common.{◌≡◌, ◌↔◌, ◌⊎◌, ℕ, ◌+◌, ◌<◌, ◌^◌, ℤ, pos, negsuc, neg_ℤ, ◌-ℤ◌, ◌+ℤ◌, ◌*ℤ◌, ◌<ℤ◌}
use Rattle.std.proofs.Common.{◌≤ℤ◌, refl, ap, sym, subst, ◌∙◌, inl, inr, Bool, true, false, List, [], ◌∷◌, ◌++◌, T}
use Rattle.std.proofs.Common.{to_z, of_z, FitsSigned, IsTrue, Option, Some, None, not, length, take, get_or, arith}
use Rattle.std.specs.Prelude.{Contains, int_lt}
use Rattle.std.specs.Int.{w128, saturate_signed}
use Rattle.std.specs.FinMap as map
use Rattle.std.specs.FinMap.{find, is_sorted, get-entries}
use Rattle.std.specs.Ordering.{nat_cmp}
use Rattle.std.proofs.lemmas.Bool.{cases_eq, false≢true}
use Rattle.std.proofs.lemmas.List.{take_more}
use Rattle.std.proofs.lemmas.Int.{ints, clamps, by_lt_z, to_z-of_z}
use Rattle.std.proofs.lemmas.List.Elements.{Contains-append_left, Contains-push, Contains-push_cases}
use Rattle.access_races.proofs.Joins.{either, grown}
use Rattle.access_races.proofs.Rising.{none, first, later, cases}
use Rattle.strided_dom.specs.Progression.{Progression, empty, Has, IsLeastNumber, IsGreatestNumber}
use Rattle.strided_dom.specs.Combinations.{IsProduct}
use Rattle.strided_dom.proofs.Members.{spaced_from, some_or_empty, has_last, not_in_empty}
use Rattle.strided_dom.proofs.Products.{mul_between}
use Rattle.tm_lattice.specs.Tables.{Table}
use Rattle.tm_lattice.specs.laws.Keys.{AllAbove, AllAbove-rest, is_sorted-rest, find-here, find-there}
use Rattle.pointer_dom.specs.OffsetSets.{OffsetSet, AreEnds, no_offset}
use Rattle.pointer_dom.specs.PointerSets.{offsets_or_none}
use Rattle.pointer_dom.specs.Advances.{directed}
use Rattle.tm_laid.specs.Layouts.{LaidTree, is_alive, stands_at}
use Rattle.flow_graph.specs.declared.operations.Operation.{Operation}
use Rattle.flow_graph.specs.declared.operations.Operation.TheVariants as Op
use Rattle.alarm_contexts.specs.declared.flaws.Flaw.{Flaw}
use Rattle.alarm_contexts.specs.declared.flaws.Flaw.TheVariants.{Gone, Offset, Before, Behind}
use Rattle.alarm_contexts.specs.declared.flaws.ObjectFlaw.{ObjectFlaw}
use Rattle.alarm_contexts.specs.Flaws.{HasOffset, HasAdvanced, IsWrongToFollow, IsWrongToMove, IsWrong}
use Rattle.alarm_contexts.specs.reading.Noted.{IsNotedFlaw}

-- ## Products that saturate

sat_less : (v b : ℤ) → neg_ℤ (pos (2 ^ 127)) <ℤ b → b <ℤ pos (2 ^ 127)
    → ((saturate_signed w128 v) <ℤ b) ↔ (v <ℤ b)
sat_less (pos n) b low high = (λ h. omega (arith, ints, h, low, high), λ h. omega (arith, ints, h, low, high))
sat_less (negsuc n) b low high = (λ h. omega (arith, ints, h, low, high), λ h. omega (arith, ints, h, low, high))

sat_more : (v b : ℤ) → neg_ℤ (pos (2 ^ 127)) <ℤ b → b <ℤ pos (2 ^ 126)
    → (b <ℤ (saturate_signed w128 v)) ↔ (b <ℤ v)
sat_more (pos n) b low high = (λ h. omega (arith, ints, h, low, high), λ h. omega (arith, ints, h, low, high))
sat_more (negsuc n) b low high = (λ h. omega (arith, ints, h, low, high), λ h. omega (arith, ints, h, low, high))

sat_fits : (v : ℤ) → FitsSigned w128 (saturate_signed w128 v)
sat_fits (pos n) = omega (arith, ints)
sat_fits (negsuc n) = omega (arith, ints)

-- a product that saturates is read back as it was written
pub sat_read : (x v : ℤ) → x ≡ saturate_signed w128 v → to_z w128 (of_z w128 x) ≡ x
sat_read x v e = to_z-of_z w128 x (subst (FitsSigned w128) (sym e) (sat_fits v))

pub directed_read : (b : Bool) (cells : ℕ) (x : ℤ) → cells < 2 ^ 32 → x ≡ directed b cells
    → to_z w128 (of_z w128 x) ≡ directed b cells
directed_read true cells x lt e =
    let fits : FitsSigned w128 (pos cells) = omega (arith, ints, lt) in
    to_z-of_z w128 x (subst (FitsSigned w128) (sym e) fits) ∙ e
directed_read false cells x lt e =
    let fits : FitsSigned w128 (neg_ℤ (pos cells)) = omega (arith, ints, lt) in
    to_z-of_z w128 x (subst (FitsSigned w128) (sym e) fits) ∙ e

pub negative_read : (first : ℕ) (from : ℤ) → first < 2 ^ 127 → from ≡ pos first
    → to_z w128 (of_z w128 (pos 0 -ℤ to_z w128 (of_z w128 from))) ≡ neg_ℤ (pos first)
negative_read first from lt e =
    let fits : FitsSigned w128 (pos first) = omega (arith, ints, lt) in
    let back = to_z-of_z w128 from (subst (FitsSigned w128) (sym e) fits) ∙ e in
    let less : FitsSigned w128 (pos 0 -ℤ pos first) = omega (arith, ints, lt) in
    let same : pos 0 -ℤ pos first ≡ neg_ℤ (pos first) = omega (arith, ints) in
    (λ i. to_z w128 (of_z w128 (pos 0 -ℤ back i))) ∙ to_z-of_z w128 (pos 0 -ℤ pos first) less ∙ same

pub distance_read : (size last : ℕ) (a b : ℤ) → size < 2 ^ 32 → last < 2 ^ 127 → a ≡ pos size → b ≡ pos last
    → to_z w128 (of_z w128 (to_z w128 (of_z w128 a) -ℤ to_z w128 (of_z w128 b))) ≡ pos size -ℤ pos last
distance_read size last a b lt less e g =
    let fits : FitsSigned w128 (pos size) = omega (arith, ints, lt) in
    let fit : FitsSigned w128 (pos last) = omega (arith, ints, less) in
    let one = to_z-of_z w128 a (subst (FitsSigned w128) (sym e) fits) ∙ e in
    let other = to_z-of_z w128 b (subst (FitsSigned w128) (sym g) fit) ∙ g in
    let all : FitsSigned w128 (pos size -ℤ pos last) = omega (arith, ints, lt, less) in
    (λ i. to_z w128 (of_z w128 (one i -ℤ other i))) ∙ to_z-of_z w128 (pos size -ℤ pos last) all

-- ## Tests

lt_true : (a b : ℤ) → a <ℤ b → int_lt a b ≡ true
lt_true a b h = by (int_lt a b) refl
  where
    by : (t : Bool) → int_lt a b ≡ t → int_lt a b ≡ true
    by true e = e
    by false e = absurd (omega (arith, ints, e, h))

true_lt : (a b : ℤ) → int_lt a b ≡ true → a <ℤ b
true_lt a b e = omega (arith, ints, e)

-- of two numbers one is less than a bound, as the code tests it
module _ (one other bound x y b : ℤ) (H : Type 0) (is : ((x <ℤ b) ⊎ (y <ℤ b)) ↔ H)
    (one-is : (one <ℤ bound) ↔ (x <ℤ b)) (other-is : (other <ℤ bound) ↔ (y <ℤ b)) where
  pub first_less : int_lt one bound ≡ true → (IsTrue (int_lt one bound) ↔ H)
  first_less t = (λ u. is.0 (inl (one-is.0 (true_lt one bound t))), λ h. t)

  pub second_less : int_lt one bound ≡ false → (IsTrue (int_lt other bound) ↔ H)
  second_less t = (
    λ u. is.0 (inr (other-is.0 (true_lt other bound u))),
    λ h. either (λ l. absurd (false≢true (sym t ∙ lt_true one bound (one-is.1 l))))
        (λ l. lt_true other bound (other-is.1 l)) (is.1 h),
  )

-- or greater than one
module _ (one other bound x y b : ℤ) (H : Type 0) (is : ((b <ℤ x) ⊎ (b <ℤ y)) ↔ H)
    (one-is : (bound <ℤ one) ↔ (b <ℤ x)) (other-is : (bound <ℤ other) ↔ (b <ℤ y)) where
  pub first_greater : int_lt bound one ≡ true → (IsTrue (int_lt bound one) ↔ H)
  first_greater t = (λ u. is.0 (inl (one-is.0 (true_lt bound one t))), λ h. t)

  pub second_greater : int_lt bound one ≡ false → (IsTrue (int_lt bound other) ↔ H)
  second_greater t = (
    λ u. is.0 (inr (other-is.0 (true_lt bound other u))),
    λ h. either (λ l. absurd (false≢true (sym t ∙ lt_true bound one (one-is.1 l))))
        (λ l. lt_true bound other (other-is.1 l)) (is.1 h),
  )

-- what a test compares
pub less_read : (one bound v b : ℤ) (x : ℤ) → x ≡ saturate_signed w128 v → one ≡ x → bound ≡ b
    → neg_ℤ (pos (2 ^ 127)) <ℤ b → b <ℤ pos (2 ^ 127) → (one <ℤ bound) ↔ (v <ℤ b)
less_read one bound v b x x-is one-is bound-is low high =
    let s = sat_less v b low high in (
      λ h. s.0 (subst (λ z. z <ℤ b) (one-is ∙ x-is) (subst (λ z. one <ℤ z) bound-is h)),
      λ h. subst (λ z. one <ℤ z) (sym bound-is) (subst (λ z. z <ℤ b) (sym (one-is ∙ x-is)) (s.1 h)),
    )

pub more_read : (one bound v b : ℤ) (x : ℤ) → x ≡ saturate_signed w128 v → one ≡ x → bound ≡ b
    → neg_ℤ (pos (2 ^ 127)) <ℤ b → b <ℤ pos (2 ^ 126) → (bound <ℤ one) ↔ (b <ℤ v)
more_read one bound v b x x-is one-is bound-is low high =
    let s = sat_more v b low high in (
      λ h. s.0 (subst (λ z. b <ℤ z) (one-is ∙ x-is) (subst (λ z. z <ℤ one) bound-is h)),
      λ h. subst (λ z. z <ℤ one) (sym bound-is) (subst (λ z. b <ℤ z) (sym (one-is ∙ x-is)) (s.1 h)),
    )

-- ## The ends of offsets

module _ (o : OffsetSet) (first last : ℕ) (ends : AreEnds o first last) where
  has_first : Has o.offsets (pos first)
  has_first = either (λ some. subst (Has o.offsets) ends.first_is some) (λ none. absurd (ends.some none))
      (some_or_empty o.offsets)

  has_end : Has o.offsets (pos last)
  has_end = either (λ some. subst (Has o.offsets) ends.last_is (has_last o.offsets some))
      (λ none. absurd (ends.some none)) (some_or_empty o.offsets)

  pub from_first : (v : ℤ) → Has o.offsets v → pos first ≤ℤ v
  from_first v h = subst (λ x. x ≤ℤ v) ends.first_is (spaced_from o.offsets v h).from

  pub to_last : (v : ℤ) → Has o.offsets v → v ≤ℤ pos last
  to_last v h = subst (λ x. v ≤ℤ x) ends.last_is (spaced_from o.offsets v h).to

  -- there is an offset
  pub some_offset : (Dead : Type 0) → HasOffset (λ offset. Dead) o ↔ Dead
  some_offset Dead = (
    λ h. h.has,
    λ dead. record { offset = first; member = has_first; has = dead },
  )

  -- ## Moves

  module _ (counts : Progression) (lo hi cells : ℤ) (least : IsLeastNumber (Has counts) lo)
      (greatest : IsGreatestNumber (Has counts) hi) where
    -- a pointer moved by the product with a count
    moved : (P : ℤ → Type 0) (from factor : ℤ) → Has o.offsets from → Has counts factor → P (from +ℤ (factor *ℤ cells))
        → HasAdvanced P (IsProduct counts cells) o
    moved P from factor there member p = record {
      reached = from +ℤ (factor *ℤ cells);
      advanced = record {
        from = from;
        step = factor *ℤ cells;
        in_offsets = there;
        in_steps = record { factor = factor; in_set = member; product = refl };
        reached = refl;
      };
      has = p;
    }

    pub before_is : (((lo *ℤ cells) <ℤ neg_ℤ (pos first)) ⊎ ((hi *ℤ cells) <ℤ neg_ℤ (pos first)))
        ↔ HasAdvanced (λ v. v <ℤ pos 0) (IsProduct counts cells) o
    before_is = (
      either
          (λ l. moved (λ v. v <ℤ pos 0) (pos first) lo has_first least.member (omega (arith, ints, l)))
          (λ l. moved (λ v. v <ℤ pos 0) (pos first) hi has_first greatest.member (omega (arith, ints, l))),
      λ h.
          let a = h.advanced in
          let s = a.in_steps in
          let from = from_first a.from a.in_offsets in
          let below = h.has in
          let sum = a.reached in
          let is = s.product in
          let step = (mul_between lo hi s.factor cells (least.bound s.factor s.in_set)
          (greatest.bound s.factor s.in_set)).0 in
          by_lt_z (lo *ℤ cells) (neg_ℤ (pos first)) (λ l. inl l)
          (λ le. inr (omega (arith, ints, clamps, from, below, sum, is, step, le))),
    )

    pub behind_is : (size : ℕ) → ((((pos size -ℤ pos last) <ℤ (lo *ℤ cells)) ⊎ ((pos size -ℤ pos last) <ℤ (hi *ℤ cells)))
        ↔ HasAdvanced (λ v. pos size <ℤ v) (IsProduct counts cells) o)
    behind_is size = (
      either
          (λ l. moved (λ v. pos size <ℤ v) (pos last) lo has_end least.member (omega (arith, ints, l)))
          (λ l. moved (λ v. pos size <ℤ v) (pos last) hi has_end greatest.member (omega (arith, ints, l))),
      λ h.
          let a = h.advanced in
          let s = a.in_steps in
          let to = to_last a.from a.in_offsets in
          let above = h.has in
          let sum = a.reached in
          let is = s.product in
          let step = (mul_between lo hi s.factor cells (least.bound s.factor s.in_set)
          (greatest.bound s.factor s.in_set)).1 in
          by_lt_z (pos size -ℤ pos last) (lo *ℤ cells) (λ l. inl l)
          (λ le. inr (omega (arith, ints, clamps, to, above, sum, is, step, le))),
    )

-- the object is not alive
pub dead_is : (o : OffsetSet) (first last : ℕ) → AreEnds o first last → (alive found : Bool) → found ≡ alive
    → (not found ≡ true) ↔ HasOffset (λ offset. alive ≡ false) o
dead_is o first last ends true found e = (
  λ n. absurd (false≢true (ap not (sym e) ∙ n)),
  λ h. absurd (false≢true (sym h.has)),
)
dead_is o first last ends false found e = (
  λ n. (some_offset o first last ends (false ≡ false)).1 refl,
  λ h. ap not e,
)

-- ## Where there is nothing

no_offset_has : (P : ℕ → Type 0) (o : OffsetSet) → o.offsets ≡ empty → HasOffset P o → ⊥
no_offset_has P o none h = not_in_empty (pos h.offset) (subst (λ s. Has s (pos h.offset)) none h.member)

none_advanced : (P Step : ℤ → Type 0) (o : OffsetSet) → o.offsets ≡ empty → HasAdvanced P Step o → ⊥
none_advanced P Step o none h =
    let a = h.advanced in not_in_empty a.from (subst (λ s. Has s a.from) none a.in_offsets)

pub nothing_to_follow : (Unfit : ℕ → Type 0) (Dead : Type 0) (o : OffsetSet) → o.offsets ≡ empty → (flaw : Flaw)
    → IsWrongToFollow Unfit Dead o flaw → ⊥
nothing_to_follow Unfit Dead o none Gone h = no_offset_has (λ offset. Dead) o none h
nothing_to_follow Unfit Dead o none Offset h = no_offset_has Unfit o none h
nothing_to_follow Unfit Dead o none Before h = h
nothing_to_follow Unfit Dead o none Behind h = h

pub nothing_to_move : (Step : ℤ → Type 0) (o : OffsetSet) → o.offsets ≡ empty → (flaw : Flaw)
    → IsWrongToMove Step o flaw → ⊥
nothing_to_move Step o none Gone h = h
nothing_to_move Step o none Offset h = h
nothing_to_move Step o none Before h = none_advanced (λ v. v <ℤ pos 0) Step o none h
nothing_to_move Step o none Behind h = none_advanced (λ v. pos o.size <ℤ v) Step o none h

pub no_move : (counts : Progression) (cells : ℤ) (o : OffsetSet) → counts ≡ empty → (flaw : Flaw)
    → IsWrongToMove (IsProduct counts cells) o flaw → ⊥
no_move counts cells o none Gone h = h
no_move counts cells o none Offset h = h
no_move counts cells o none Before h =
    let s = h.advanced.in_steps in not_in_empty s.factor (subst (λ t. Has t s.factor) none s.in_set)
no_move counts cells o none Behind h =
    let s = h.advanced.in_steps in not_in_empty s.factor (subst (λ t. Has t s.factor) none s.in_set)

-- nothing is added
pub none_added : {N W : Type 0} (f : ObjectFlaw) (object : ℕ) → (W → ⊥) → N ↔ (N ⊎ ((f.object ≡ object) × W))
none_added {N} {W} f object never = (λ n. inl n, λ h. either (λ n. n) (λ w. absurd (never w.1)) h)

-- ## Two flaws of one object

module _ (W : Flaw → Type 0) (one other : Flaw)
    (only : (flaw : Flaw) → W flaw → (flaw ≡ one) ⊎ (flaw ≡ other))
    (object : ℕ) (a b : Bool) (a-is : (a ≡ true) ↔ W one) (b-is : (b ≡ true) ↔ W other) (f : ObjectFlaw) where
  noted : (flaw : Flaw) → (f.object ≡ object) → (f.flaw ≡ flaw) → f ≡ record { object = object; flaw = flaw }
  noted flaw e g = λ i. record { object = e i; flaw = g i }

  pub two_added : {O N M : Type 0} → (N ↔ (O ⊎ IsNotedFlaw object one a f)) → (M ↔ (N ⊎ IsNotedFlaw object other b f))
      → (M ↔ (O ⊎ ((f.object ≡ object) × W f.flaw)))
  two_added {O} {N} {M} first second = (
    λ m. either
        (λ n. either (λ o. inl o)
        (λ (x : IsNotedFlaw object one a f). inr (
          ap (λ (g : ObjectFlaw). g.object) x.is,
          subst W (sym (ap (λ (g : ObjectFlaw). g.flaw) x.is)) (a-is.0 x.noted_it),
        )) (first.0 n))
        (λ (x : IsNotedFlaw object other b f). inr (
          ap (λ (g : ObjectFlaw). g.object) x.is,
          subst W (sym (ap (λ (g : ObjectFlaw). g.flaw) x.is)) (b-is.0 x.noted_it),
        )) (second.0 m),
    λ h. either (λ o. second.1 (inl (first.1 (inl o))))
        (λ w. either
        (λ e. second.1 (inl (first.1 (inr (record { noted_it = a-is.1 (subst W e w.1); is = noted one w.0 e })))))
        (λ e. second.1 (inr (record { noted_it = b-is.1 (subst W e w.1); is = noted other w.0 e })))
        (only f.flaw w.1)) h,
  )

pub only_followed : (Unfit : ℕ → Type 0) (Dead : Type 0) (o : OffsetSet) (flaw : Flaw)
    → IsWrongToFollow Unfit Dead o flaw → (flaw ≡ Gone) ⊎ (flaw ≡ Offset)
only_followed Unfit Dead o Gone h = inl refl
only_followed Unfit Dead o Offset h = inr refl
only_followed Unfit Dead o Before h = absurd h
only_followed Unfit Dead o Behind h = absurd h

pub only_moved : (Step : ℤ → Type 0) (o : OffsetSet) (flaw : Flaw) → IsWrongToMove Step o flaw
    → (flaw ≡ Before) ⊎ (flaw ≡ Behind)
only_moved Step o Gone h = absurd h
only_moved Step o Offset h = absurd h
only_moved Step o Before h = inl refl
only_moved Step o Behind h = inr refl

-- ## All objects

module _ (W : ℕ → OffsetSet → Flaw → Type 0) where
  -- of an object of these entries
  pub record IsWrongAmong (es : List (ℕ × OffsetSet)) (f : ObjectFlaw) : Type 0 where
    pub offsets : OffsetSet
    pub has : Contains es (f.object, offsets)
    pub wrong : W f.object offsets f.flaw

  pub none_among : (f : ObjectFlaw) → IsWrongAmong [] f → ⊥
  none_among f h = absurd (let lt = h.has.1 in omega (arith, lt))

  pub among_more : (es : List (ℕ × OffsetSet)) (e : ℕ × OffsetSet) (f : ObjectFlaw)
      → IsWrongAmong (es ++ e ∷ []) f ↔ (IsWrongAmong es f ⊎ ((f.object ≡ e.0) × W e.0 e.1 f.flaw))
  among_more es e f = (
    λ h. either
        (λ o. inl (record { offsets = h.offsets; has = o; wrong = h.wrong }))
        (λ s. inr (
          ap (λ (x : ℕ × OffsetSet). x.0) (sym s),
          subst (λ (x : ℕ × OffsetSet). W x.0 x.1 f.flaw) (sym s) h.wrong,
        ))
        (Contains-push_cases es e (f.object, h.offsets) h.has),
    λ h. either
        (λ (o : IsWrongAmong es f). record {
          offsets = o.offsets;
          has = Contains-append_left es (e ∷ []) (f.object, o.offsets) o.has;
          wrong = o.wrong;
        })
        (λ w. record {
          offsets = e.1;
          has = subst (λ n. Contains (es ++ e ∷ []) (n, e.1)) (sym w.0) (Contains-push es e);
          wrong = subst (λ n. W n e.1 f.flaw) (sym w.0) w.1;
        }) h,
  )

  -- with one entry more
  pub among_grown : (items : List (ℕ × OffsetSet)) (i : ℕ) (e : ℕ × OffsetSet) → i < length items
      → e ≡ get_or items i e → (f : ObjectFlaw) → {N O : Type 0} → (O ↔ IsWrongAmong (take i items) f)
      → (N ↔ (O ⊎ ((f.object ≡ e.0) × W e.0 e.1 f.flaw))) → (N ↔ IsWrongAmong (take (i + 1) items) f)
  among_grown items i e lt is f {N} {O} before step =
      subst (λ es. N ↔ IsWrongAmong es f)
      (sym (take_more items i e lt ∙ ap (λ x. take i items ++ x ∷ []) (sym is)))
      (grown step before (among_more (take i items) e f))

-- ## Look-ups

not_found : (o : OffsetSet) → ◌≡◌ {A = Option OffsetSet} None (Some o) → ⊥
not_found o e = cc

found_is : (o p : OffsetSet) → ◌≡◌ {A = Option OffsetSet} (Some o) (Some p) → o ≡ p
found_is o p e = ap offsets_or_none e

module _ (key : ℕ) (o : OffsetSet) where
  has_found : (es : List (ℕ × OffsetSet)) → find nat_cmp key es ≡ Some o → Contains es (key, o)
  has_found [] e = absurd (not_found o e)
  has_found (x ∷ es) e = elim (cases_eq key x.0) [
    | inl same ↦
        let is : x.1 ≡ o = found_is x.1 o (sym (find-here key x es same) ∙ e) in
        subst (Contains (x ∷ es)) (λ i. (sym same i, is i)) (first x es)
    | inr differ ↦ later x (key, o) es (has_found es (sym (find-there key x es differ) ∙ e))
  ]

  above : (k : ℕ) (es : List (ℕ × OffsetSet)) → AllAbove k es → Contains es (key, o) → k < key
  above k [] a h = absurd (none (key, o) h)
  above k (x ∷ es) a h =
      either (λ s. subst (λ n. k < n) (ap (λ (y : ℕ × OffsetSet). y.0) s) a.0) (λ more. above k es a.1 more)
      (cases x (key, o) es h)

  found_has : (es : List (ℕ × OffsetSet)) → T (is_sorted nat_cmp es) → Contains es (key, o)
      → find nat_cmp key es ≡ Some o
  found_has [] sorted h = absurd (none (key, o) h)
  found_has (x ∷ es) sorted h =
      either
      (λ s. find-here key x es (ap (λ (y : ℕ × OffsetSet). y.0) (sym s))
      ∙ ap (λ (y : ℕ × OffsetSet). Some y.1) s)
      (λ more.
      let less = above x.0 es (AllAbove-rest x es sorted) more in
      find-there key x es (λ same. let e : key ≡ x.0 = same in omega (arith, less, e))
      ∙ found_has es (is_sorted-rest x es sorted) more)
      (cases x (key, o) es h)

module _ (W : ℕ → OffsetSet → Flaw → Type 0)
    (never : (object : ℕ) (flaw : Flaw) → W object no_offset flaw → ⊥) (objects : Table OffsetSet)
    (f : ObjectFlaw) where
  found_wrong : (at : Option OffsetSet) → map.get objects f.object ≡ at → W f.object (offsets_or_none at) f.flaw
      → IsWrongAmong W (map.entries objects) f
  found_wrong None e w = absurd (never f.object f.flaw w)
  found_wrong (Some o) e w = record {
    offsets = o;
    has = has_found f.object o (map.entries objects) (sym (get-entries objects f.object) ∙ e);
    wrong = w;
  }

  -- of the entries of a table
  pub among_entries : IsWrongAmong W (map.entries objects) f
      ↔ W f.object (offsets_or_none (map.get objects f.object)) f.flaw
  among_entries = (
    λ h.
        let e = get-entries objects f.object
        ∙ found_has f.object h.offsets (map.entries objects) (map.entries_sorted objects) h.has in
        subst (λ at. W f.object (offsets_or_none at) f.flaw) (sym e) h.wrong,
    λ w. found_wrong (map.get objects f.object) refl w,
  )

-- ## Operations

pub never_wrong : (laid : LaidTree) (operation : Operation) (counts : Progression) (object : ℕ) (flaw : Flaw)
    → IsWrong laid operation counts object no_offset flaw → ⊥
unfolding IsWrong
never_wrong laid (Op.Deref to from target path place) counts object flaw h =
    nothing_to_follow (λ offset. stands_at laid object offset target ≡ false) (is_alive laid path object ≡ false)
    no_offset refl flaw h
never_wrong laid (Op.Move to from cells minus by place) counts object flaw h =
    nothing_to_move (IsProduct counts (directed (not minus) cells)) no_offset refl flaw h
never_wrong laid _ counts object flaw h = h
