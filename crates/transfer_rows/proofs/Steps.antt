-- How the parts of the rows rise: tests, targets, copies, and what becomes of cells.
use Rattle.std.specs.Prelude.{◌≡◌, ◌⊎◌, ℕ, ◌-◌, ◌^◌, Bool, true, false, ◌&&◌, not, cond, eqb, bit_and, bit_or}
use Rattle.std.specs.Prelude.{List, [], ◌∷◌, Option, Some, None, refl}
use Rattle.std.proofs.Common.{sym, ap, subst, ◌∙◌, inl, inr, arith}
use Rattle.std.specs.Int.Bits.{or_self}
use Rattle.std.specs.List.{list_all}
use Rattle.std.specs.Ordering.{nat_cmp}
use Rattle.std.specs.FinMap.{len, empty_of_len, len-empty}
use Rattle.std.proofs.lemmas.Bool.{and_parts, and_from, or_cases, not-true, false≢true, true≢false, eqb-true, eq-eqb}
use Rattle.std.proofs.lemmas.Nat.Bits.{bit_at_and, bit_at_or, same_from_bits}
use Rattle.interfere_set.specs.strided_dom.Progression.{Progression, empty as no_number, single, row}
use Rattle.cell_env.specs.tm_lattice.Tables.{Table, IsBelow, IsTableBelow}
use Rattle.interfere_set.specs.pointer_dom.Pointer.{to}
use Rattle.interfere_set.specs.pointer_dom.PointerSets.{Pointers, IsPointersBelow}
use Rattle.interfere_set.specs.pointer_dom.Values.{Values, IsValues, IsValuesBelow, joined_values, no_value}
use Rattle.interfere_set.specs.pointer_dom.laws.ValueLaws.{values_order, values_join}
use Rattle.interfere_set.proofs.low.pointer_dom.Meaning.{included}
use Rattle.cell_env.specs.Cells.{IsWithin}
use Rattle.cell_env.specs.Temps.{IsCopyBelow}
use Rattle.cell_env.specs.laws.Bits.{within_left, within_right, within_trans, within_least}
use Rattle.interfere_set.specs.laws.Joins.{none_is, none_below}
use Rattle.transfer_rows.specs.StateForms.{Temp, Cell, IsCellForm, IsCellUnder, IsTempUnder, is_empty, is_no_value}
use Rattle.transfer_rows.specs.Actions.{Spot, Around}
use Rattle.transfer_rows.specs.Accesses.{leads, is_among, targets_at, single_of, AreAmong}
use Rattle.transfer_rows.specs.Rows.{kept_copy, dropped, overwritten, written, stored_cell, without}
use Rattle.transfer_rows.proofs.TableChanges.{changed_rises}
use Rattle.transfer_rows.proofs.Leading.{leads_is, is_led, or_left, or_right}

empty_is : (s : Progression) → is_empty s ≡ true → s ≡ no_number
empty_is no_number h = refl
empty_is (single v) h = absurd (false≢true h)
empty_is (row first gap more) h = absurd (false≢true h)

pub no_value_is : (v : Values) → is_no_value v ≡ true → v ≡ no_value
no_value_is v h =
    let a : (is_empty v.numbers ≡ true) × ((not v.pointers.null && (not v.pointers.invalid && eqb (len v.pointers.objects) 0)) ≡ true) = and_parts _ _ h in
    let b : (not v.pointers.null ≡ true) × ((not v.pointers.invalid && eqb (len v.pointers.objects) 0) ≡ true) = and_parts _ _ a.1 in
    let c : (not v.pointers.invalid ≡ true) × (eqb (len v.pointers.objects) 0 ≡ true) = and_parts _ _ b.1 in
    let numbers = empty_is v.numbers a.0 in
    let null = not-true v.pointers.null b.0 in
    let invalid = not-true v.pointers.invalid c.0 in
    let objects = empty_of_len v.pointers.objects (eqb-true _ _ c.1) in
    λ i. record { numbers = numbers i; pointers = record { null = null i; invalid = invalid i; objects = objects i } }

pub none_is_none : is_no_value no_value ≡ true
none_is_none = eq-eqb _ _ (len-empty nat_cmp _)

-- what lies below nothing is nothing
pub nothing_falls : (v w : Values) → IsValues v → IsValues w → IsValuesBelow v w → is_no_value w ≡ true → is_no_value v ≡ true
nothing_falls v w v-is w-is le none =
    let below : IsValuesBelow v no_value = subst (IsValuesBelow v) (no_value_is w none) le in
    let same : v ≡ no_value = values_order.antisymmetric v no_value v-is none_is below (none_below v v-is) in
    ap is_no_value same ∙ none_is_none

-- bottom below everything; where the greater one is bottom, so is the lesser one
pub cond_below : {S : Type 0} (leq : S → S → Type 0) (a b : Bool) (x y : S) → (b ≡ true → a ≡ true) → (a ≡ false → leq x y) → IsBelow leq (cond a None (Some x)) (cond b None (Some y))
cond_below leq true b x y falls le = tt
cond_below leq false true x y falls le = absurd (false≢true (falls refl))
cond_below leq false false x y falls le = le refl

-- the same test on both sides
pub cond_both : {S : Type 0} (leq : S → S → Type 0) (b : Bool) (x y x' y' : S) → leq x x' → leq y y' → leq (cond b x y) (cond b x' y')
cond_both leq true x y x' y' p q = p
cond_both leq false x y x' y' p q = q

none_some : {A : Type 0} (x : A) → (let o : Option A = None in o ≡ Some x) → ⊥
none_some x e = cc

some_some : (x y : ℕ) → (let o : Option ℕ = Some x in o ≡ Some y) → x ≡ y
some_some x y e = cc

-- membership in lists of numbers
pub among_cons : (y x : ℕ) (xs : List ℕ) → is_among (y ∷ xs) x ≡ true → (x ≡ y) ⊎ (is_among xs x ≡ true)
among_cons y x xs h = elim (or_cases (eqb x y) (is_among xs x) h) [ inl here ↦ inl (eqb-true x y here) | inr there ↦ inr there ]

pub among_here : (x y : ℕ) (xs : List ℕ) → x ≡ y → is_among (y ∷ xs) x ≡ true
among_here x y xs e = or_left (eqb x y) (is_among xs x) (eq-eqb x y e)

pub among_there : (x y : ℕ) (xs : List ℕ) → is_among xs x ≡ true → is_among (y ∷ xs) x ≡ true
among_there x y xs h = or_right (eqb x y) (is_among xs x) h

all_same : (x : ℕ) (xs : List ℕ) → list_all (eqb x) xs ≡ true → (w : ℕ) → is_among xs w ≡ true → w ≡ x
all_same x [] h w k = absurd (false≢true k)
all_same x (y ∷ xs) h w k =
    let parts : (eqb x y ≡ true) × (list_all (eqb x) xs ≡ true) = and_parts _ _ h in
    elim (among_cons y w xs k) [ inl here ↦ here ∙ sym (eqb-true x y parts.0) | inr there ↦ all_same x xs parts.1 w there ]

same_all : (x : ℕ) (xs : List ℕ) → ((w : ℕ) → is_among xs w ≡ true → w ≡ x) → list_all (eqb x) xs ≡ true
same_all x [] h = refl
same_all x (y ∷ xs) h = and_from _ _ (eq-eqb x y (sym (h y (among_here y y xs refl)))) (same_all x xs (λ w k. h w (among_there w y xs k)))

module _ (around : Around) where
  -- smaller addresses have fewer targets
  targets_fewer : (spots : List Spot) (p q : Pointers) → IsPointersBelow p q → (x : ℕ) → is_among (targets_at spots p) x ≡ true → is_among (targets_at spots q) x ≡ true
  targets_fewer [] p q le x h = absurd (false≢true h)
  targets_fewer (spot ∷ spots) p q le x h =
      by_case (leads p spot.object spot.offset) (leads q spot.object spot.offset)
      (λ yes_p. is_led q spot.object spot.offset (included p q (to spot.object spot.offset) le (leads_is p spot.object spot.offset yes_p))) (targets_fewer spots p q le x) h
    where
      by_case : (a b : Bool) → (a ≡ true → b ≡ true) → (is_among (targets_at spots p) x ≡ true → is_among (targets_at spots q) x ≡ true) → is_among (cond a (spot.cell ∷ targets_at spots p) (targets_at spots p)) x ≡ true
          → is_among (cond b (spot.cell ∷ targets_at spots q) (targets_at spots q)) x ≡ true
      by_case true true more rest k = elim (among_cons spot.cell x (targets_at spots p) k) [
        | inl here ↦ among_here x spot.cell (targets_at spots q) here
        | inr there ↦ among_there x spot.cell (targets_at spots q) (rest there)
      ]
      by_case true false more rest k = absurd (false≢true (more refl))
      by_case false true more rest k = among_there x spot.cell (targets_at spots q) (rest k)
      by_case false false more rest k = rest k

  pub targets_rise : (spots : List Spot) (p q : Pointers) → IsPointersBelow p q → AreAmong (targets_at spots p) (targets_at spots q)
  targets_rise spots p q le = record { among = targets_fewer spots p q le }

  -- the one target of an access
  pub single_is : (xs : List ℕ) (z : ℕ) → single_of around.is_smashed xs ≡ Some z → (around.is_smashed z ≡ false) × ((w : ℕ) → is_among xs w ≡ true → w ≡ z) × (is_among xs z ≡ true)
  single_is [] z e = absurd (none_some z e)
  single_is (x ∷ xs) z e = by_case (list_all (eqb x) xs && not (around.is_smashed x)) refl e
    where
      by_case : (b : Bool) → (list_all (eqb x) xs && not (around.is_smashed x)) ≡ b → cond b (Some x) None ≡ Some z → (around.is_smashed z ≡ false) × ((w : ℕ) → is_among (x ∷ xs) w ≡ true → w ≡ z) × (is_among (x ∷ xs) z ≡ true)
      by_case true test k =
          let parts : (list_all (eqb x) xs ≡ true) × (not (around.is_smashed x) ≡ true) = and_parts _ _ test in
          let same : x ≡ z = some_some x z k in (
            ap around.is_smashed (sym same) ∙ not-true _ parts.1,
            λ w h. elim (among_cons x w xs h) [ inl here ↦ here ∙ same | inr there ↦ all_same x xs parts.0 w there ∙ same ],
            among_here z x xs (sym same),
          )
      by_case false test k = absurd (none_some z k)

  pub single_from : (x : ℕ) (xs : List ℕ) (z : ℕ) → around.is_smashed z ≡ false → ((w : ℕ) → is_among (x ∷ xs) w ≡ true → w ≡ z) → single_of around.is_smashed (x ∷ xs) ≡ Some z
  single_from x xs z whole only =
      let here : x ≡ z = only x (among_here x x xs refl) in
      let test : (list_all (eqb x) xs && not (around.is_smashed x)) ≡ true = and_from _ _ (same_all x xs (λ w h. only w (among_there w x xs h) ∙ sym here)) (ap not (ap around.is_smashed here ∙ whole)) in
      ap (λ b. cond b (Some x) None) test ∙ ap Some here

  -- an access with fewer targets, and some, is single where the other one is
  pub single_rises : (x : ℕ) (xs ys : List ℕ) (z : ℕ) → AreAmong (x ∷ xs) ys → single_of around.is_smashed ys ≡ Some z → single_of around.is_smashed (x ∷ xs) ≡ Some z
  single_rises x xs ys z fewer e = let is = single_is ys z e in single_from x xs z is.0 (λ w h. is.1 w (fewer.among w h))

  -- copies: fewer are left where more are dropped
  kept_is : (test : ℕ → Bool) (c : Option ℕ) (z : ℕ) → kept_copy test c ≡ Some z → (c ≡ Some z) × (test z ≡ false)
  kept_is test None z e = absurd (none_some z e)
  kept_is test (Some x) z e = by_case (test x) refl e
    where
      by_case : (b : Bool) → test x ≡ b → cond b None (Some x) ≡ Some z → (let p : Option ℕ = Some x in p ≡ Some z) × (test z ≡ false)
      by_case true is k = absurd (none_some z k)
      by_case false is k = (k, ap test (sym (some_some x z k)) ∙ is)

  kept_from : (test : ℕ → Bool) (c : Option ℕ) (z : ℕ) → c ≡ Some z → test z ≡ false → kept_copy test c ≡ Some z
  kept_from test c z e is = ap (kept_copy test) e ∙ ap (λ b. cond b None (Some z)) is

  false_from : (a b : Bool) → (a ≡ true → b ≡ true) → b ≡ false → a ≡ false
  false_from true b more is = absurd (true≢false (sym (more refl) ∙ is))
  false_from false b more is = refl

  pub copies_rise : (test test' : ℕ → Bool) (c d : Option ℕ) → ((x : ℕ) → test x ≡ true → test' x ≡ true) → IsCopyBelow c d → IsCopyBelow (kept_copy test c) (kept_copy test' d)
  copies_rise test test' c d more le = λ z e.
      let is = kept_is test' d z e in
      kept_from test c z (le z is.0) (false_from (test z) (test' z) (more z) is.1)

  pub dropped_rises : (test test' : ℕ → Bool) (s t : Table Temp) → ((x : ℕ) → test x ≡ true → test' x ≡ true) → IsTableBelow IsTempUnder s t → IsTableBelow IsTempUnder (dropped test s) (dropped test' t)
  dropped_rises test test' s t more le = changed_rises IsTempUnder _ _ s t (λ key v w at_s at_t below. record { value = below.value; copy = copies_rise test test' v.copy w.copy more below.copy }) le

  abbrev held : ℕ
  held = around.reader.held

  -- a cell that nothing is done to lies below the same cell with a value joined in
  written_extends : (b shared : Bool) (v : Values) (c d : Cell) → IsCellForm d → IsValues v → IsCellForm c → IsCellUnder c d
      → IsCellUnder c (cond b record { value = joined_values d.value v; pending = cond shared (bit_or d.pending held) d.pending; fresh = d.fresh; stored = d.stored } d)
  written_extends false shared v c d d-is v-is c-is le = le
  written_extends true true v c d d-is v-is c-is le = record {
    value = values_order.transitive c.value d.value (joined_values d.value v) c-is d-is (values_join.value d.value v d-is v-is) le.value (values_join.left d.value v d-is v-is);
    pending = within_trans c.pending d.pending (bit_or d.pending held) le.pending (within_left d.pending held);
    fresh = le.fresh;
    stored = le.stored;
  }
  written_extends true false v c d d-is v-is c-is le = record {
    value = values_order.transitive c.value d.value (joined_values d.value v) c-is d-is (values_join.value d.value v d-is v-is) le.value (values_join.left d.value v d-is v-is);
    pending = le.pending;
    fresh = le.fresh;
    stored = le.stored;
  }

  pub both_joined : (a b v w : Values) → IsValues a → IsValues b → IsValues v → IsValues w → IsValuesBelow a b → IsValuesBelow v w → IsValuesBelow (joined_values a v) (joined_values b w)
  both_joined a b v w a-is b-is v-is w-is p q =
      let both = values_join.value b w b-is w-is in
      values_join.least a v (joined_values b w) a-is v-is both (values_order.transitive a b (joined_values b w) a-is b-is both p (values_join.left b w b-is w-is)) (values_order.transitive v w (joined_values b w) v-is w-is both q (values_join.right b w b-is w-is))

  module _ (v w : Values) (v-is : IsValues v) (w-is : IsValues w) (le : IsValuesBelow v w) (y : ℕ) (c d : Cell) (c-is : IsCellForm c) (d-is : IsCellForm d) (below : IsCellUnder c d) where
    -- one cell overwritten on both sides
    pub single_single : (x : ℕ) → IsCellUnder (overwritten around v x y c) (overwritten around w x y d)
    single_single x = by_case (eqb y x) (around.is_shared y)
      where
        by_case : (a shared : Bool) → IsCellUnder (cond a record { value = v; pending = cond shared held c.pending; fresh = true; stored = cond shared c.stored true } c)
            (cond a record { value = w; pending = cond shared held d.pending; fresh = true; stored = cond shared d.stored true } d)
        by_case false shared = below
        by_case true true = record { value = le; pending = or_self held; fresh = λ h. h; stored = below.stored }
        by_case true false = record { value = le; pending = below.pending; fresh = λ h. h; stored = λ h. h }

    -- overwritten on the one side, joined on the other
    pub single_many : (x : ℕ) (ys : List ℕ) → is_among ys x ≡ true → IsCellUnder (overwritten around v x y c) (written around w ys y d)
    single_many x ys target = by_case (eqb y x) (around.is_shared y) refl
      where
        in_join : IsValuesBelow v (joined_values d.value w)
        in_join = values_order.transitive v w (joined_values d.value w) v-is w-is (values_join.value d.value w d-is w-is) le (values_join.right d.value w d-is w-is)

        by_case : (a shared : Bool) → eqb y x ≡ a
            → IsCellUnder (cond a record { value = v; pending = cond shared held c.pending; fresh = true; stored = cond shared c.stored true } c)
            (cond (is_among ys y) record { value = joined_values d.value w; pending = cond shared (bit_or d.pending held) d.pending; fresh = d.fresh; stored = d.stored } d)
        by_case false shared is = written_extends (is_among ys y) shared w c d d-is w-is c-is below
        by_case true true is =
            let here : is_among ys y ≡ true = ap (is_among ys) (eqb-true y x is) ∙ target in
            subst (λ b. IsCellUnder record { value = v; pending = held; fresh = true; stored = c.stored } (cond b record { value = joined_values d.value w; pending = bit_or d.pending held; fresh = d.fresh; stored = d.stored } d)) (sym here)
            record { value = in_join; pending = within_right d.pending held; fresh = λ h. refl; stored = below.stored }
        by_case true false is =
            let here : is_among ys y ≡ true = ap (is_among ys) (eqb-true y x is) ∙ target in
            subst (λ b. IsCellUnder record { value = v; pending = c.pending; fresh = true; stored = true } (cond b record { value = joined_values d.value w; pending = d.pending; fresh = d.fresh; stored = d.stored } d)) (sym here)
            record { value = in_join; pending = below.pending; fresh = λ h. refl; stored = λ h. refl }

    -- joined on both sides
    pub many_many : (xs ys : List ℕ) → AreAmong xs ys → IsCellUnder (written around v xs y c) (written around w ys y d)
    many_many xs ys fewer = by_case (is_among xs y) (is_among ys y) (around.is_shared y) (fewer.among y)
      where
        more : (shared : Bool) → IsWithin (cond shared (bit_or c.pending held) c.pending) (cond shared (bit_or d.pending held) d.pending)
        more true = within_least c.pending held (bit_or d.pending held) (within_trans c.pending d.pending (bit_or d.pending held) below.pending (within_left d.pending held)) (within_right d.pending held)
        more false = below.pending

        by_case : (a b shared : Bool) → (a ≡ true → b ≡ true)
            → IsCellUnder (cond a record { value = joined_values c.value v; pending = cond shared (bit_or c.pending held) c.pending; fresh = c.fresh; stored = c.stored } c)
            (cond b record { value = joined_values d.value w; pending = cond shared (bit_or d.pending held) d.pending; fresh = d.fresh; stored = d.stored } d)
        by_case false b shared rises = written_extends b shared w c d d-is w-is c-is below
        by_case true false shared rises = absurd (false≢true (rises refl))
        by_case true true shared rises = record { value = both_joined c.value d.value v w c-is d-is v-is w-is below.value le; pending = more shared; fresh = below.fresh; stored = below.stored }

    -- a store rises: fewer targets, and an access that is single stays so
    pub stored_rises : (x : ℕ) (xs ys : List ℕ) → AreAmong (x ∷ xs) ys → IsCellUnder (stored_cell around v (x ∷ xs) (single_of around.is_smashed (x ∷ xs)) y c) (stored_cell around w ys (single_of around.is_smashed ys) y d)
    stored_rises x xs ys fewer = by_case (single_of around.is_smashed (x ∷ xs)) (single_of around.is_smashed ys) (single_is (x ∷ xs)) (λ z e. single_rises x xs ys z fewer e)
      where
        by_case : (a b : Option ℕ) → ((z : ℕ) → a ≡ Some z → (around.is_smashed z ≡ false) × ((u : ℕ) → is_among (x ∷ xs) u ≡ true → u ≡ z) × (is_among (x ∷ xs) z ≡ true)) → ((z : ℕ) → b ≡ Some z → a ≡ Some z)
            → IsCellUnder (stored_cell around v (x ∷ xs) a y c) (stored_cell around w ys b y d)
        by_case None None is rises = many_many (x ∷ xs) ys fewer
        by_case None (Some z) is rises = absurd (none_some z (rises z refl))
        by_case (Some u) None is rises = single_many u ys (fewer.among u (is u refl).2)
        by_case (Some u) (Some z) is rises = subst (λ k. IsCellUnder (overwritten around v u y c) (overwritten around w k y d)) (some_some u z (rises z refl)) (single_single u)

  and_or : (p q k : ℕ) → bit_or (bit_and p k) (bit_and q k) ≡ bit_and (bit_or p q) k
  and_or p q k = same_from_bits _ _ (λ i. omega (arith, bit_at_or (bit_and p k) (bit_and q k) i, bit_at_and p k i, bit_at_and q k i, bit_at_and (bit_or p q) k i, bit_at_or p q i))

  pub without_rises : (p q m : ℕ) → IsWithin p q → IsWithin (without p m) (without q m)
  without_rises p q m le = and_or p q (65535 - 2 ^ m) ∙ ap (λ x. bit_and x (65535 - 2 ^ m)) le
