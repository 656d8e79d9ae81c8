-- What each operation on sets of pointers gives, with the proof that it is what the operation's relation says.
use Rattle.std.specs.Prelude.{◌≡◌, ◌≢◌, ◌↔◌, ◌⊎◌, ℕ, min, Bool, true, false, ◌&&◌, not, IsTrue, Option, Some, None}
use Rattle.std.specs.Prelude.{ℤ, pos, negsuc, ◌+ℤ◌, ◌*ℤ◌, ◌≤ℤ◌, [], ◌∷◌, refl}
use Rattle.std.proofs.Common.{sym, ap, subst, ◌∙◌, inl, inr, ⊎_elim, arith}
use Rattle.std.proofs.lemmas.Bool.{cases_eq, false≢true}
use Rattle.std.proofs.lemmas.Int.{ints, by_lt_z}
use Rattle.std.specs.FinMap as map
use Rattle.filters.specs.strided_dom.Progression.{Progression, empty, single, Has}
use Rattle.filters.specs.strided_dom.Combinations.{IsProduct, IsInBoth}
use Rattle.filters.proofs.low.strided_dom.Members.{not_in_empty}
use Rattle.filters.specs.tm_lattice.Tables.{IsEntry}
use Rattle.filters.specs.pointer_dom.Offset.{IsOffset}
use Rattle.filters.specs.pointer_dom.OffsetSets.{OffsetSet, IsOffsetSet, HasNoOffset}
use Rattle.filters.specs.pointer_dom.Pointer.{Pointer, null, invalid, to}
use Rattle.filters.specs.pointer_dom.PointerSets.{Pointers, IsPointers, IsPointer, IsMeet, offsets_or_none}
use Rattle.filters.specs.pointer_dom.PointerSets.{offsets_at}
use Rattle.filters.specs.pointer_dom.Advances.{IsInHull, IsAdvanced, IsReached, IsAdvance, IsSubscript, IsElementStep}
use Rattle.filters.specs.pointer_dom.Selections.{IsOffsetTo, IsHullOfPointers, Reaches, IsTarget}
use Rattle.filters.specs.pointer_dom.Equality.{IsEqualityOf, IsEqualityValue}
use Rattle.filters.proofs.low.pointer_dom.AdvanceFacts.{in_hull, from_hull, hull_weaken, never_reached}
use Rattle.filters.specs.PointerPartners.{MayBeUnequal}
use Rattle.operator_values.specs.laws.Listings.{Test, not_test, both_test, either_test, same_test, most_test, Listing}
use Rattle.operator_values.specs.laws.Listings.{relisted, members, any_listed, has_test, passing_listing}
use Rattle.operator_values.specs.laws.Listings.{result_listing, listing_hull}
use Rattle.operator_values.specs.laws.Sets.{SetOf, same_set, both_set, meet_set, span_set, bit_set}
use Rattle.operator_values.specs.laws.OffsetTables.{changed_offsets, offsets_of, offsets_are, any_entry}

-- ---- tests of pointers

pub true_test : (b : Bool) → Test (IsTrue b)
true_test true = inl refl
true_test false = inr (λ h. false≢true h)

pub pointer_test : (p : Pointers) (x : Pointer) → Test (IsPointer p x)
pointer_test p null = true_test p.null
pointer_test p invalid = true_test p.invalid
pointer_test p (to object offset) = has_test (offsets_at p object).offsets (pos offset)

same_object : (o o' m m' : ℕ) → to o m ≡ to o' m' → (o ≡ o') × (m ≡ m')
same_object o o' m m' e = (cc, cc)

pub same_pointer : (x y : Pointer) → Test (x ≡ y)
same_pointer null null = inl refl
same_pointer null invalid = inr (λ e. cc)
same_pointer null (to o m) = inr (λ e. cc)
same_pointer invalid null = inr (λ e. cc)
same_pointer invalid invalid = inl refl
same_pointer invalid (to o m) = inr (λ e. cc)
same_pointer (to o m) null = inr (λ e. cc)
same_pointer (to o m) invalid = inr (λ e. cc)
same_pointer (to o m) (to o' m') = ⊎_elim
    (λ e. ⊎_elim (λ f. inl (ap (λ k. to k m) e ∙ ap (to o') f)) (λ n. inr (λ g. n (same_object o o' m m' g).1))
    (cases_eq m m'))
    (λ n. inr (λ g. n (same_object o o' m m' g).0)) (cases_eq o o')

same_offset : (m n : ℕ) → pos m ≡ pos n → m ≡ n
same_offset m n e = omega (arith, ints)

-- some pointer of the set has a property that can be tested
module _ (Q : Pointer → Type 0) (test : (x : Pointer) → Test (Q x)) where
  abbrev IsAt : ℕ → ℤ → Type 0
  IsAt object v = (offset : ℕ) × ((v ≡ pos offset) × Q (to object offset))

  at_test : (object : ℕ) (v : ℤ) → Test (IsAt object v)
  at_test object (pos n) = ⊎_elim (λ q. inl (n, (refl, q)))
      (λ none. inr (λ h. none (subst (λ m. Q (to object m)) (sym (same_offset n h.0 h.1.0)) h.1.1)))
      (test (to object n))
  at_test object (negsuc n) = inr (λ h. (let e = h.1.0 in omega (arith, ints)))

  abbrev SomeEntry : Pointers → Type 0
  SomeEntry p = (object : ℕ) × ((o : OffsetSet) × ((map.get p.objects object ≡ Some o)
      × ((v : ℤ) × (Has o.offsets v × IsAt object v))))

  pub any_pointer : (p : Pointers) → Test ((x : Pointer) × (IsPointer p x × Q x))
  any_pointer p = by_tests (both_test (true_test p.null) (test null)) (both_test (true_test p.invalid) (test invalid))
      (any_entry (λ object o. (v : ℤ) × (Has o.offsets v × IsAt object v))
      (λ object o. any_listed (IsAt object) (members o.offsets) (at_test object)) p.objects)
    where
      there : (object offset : ℕ) (at : Option OffsetSet) → map.get p.objects object ≡ at
          → Has (offsets_or_none at).offsets (pos offset) → Q (to object offset) → SomeEntry p
      there object offset None e h q = absurd (not_in_empty (pos offset) h)
      there object offset (Some o) e h q = (object, (o, (e, (pos offset, (h, (offset, (refl, q)))))))

      by_tests : Test (IsTrue p.null × Q null) → Test (IsTrue p.invalid × Q invalid) → Test (SomeEntry p)
          → Test ((x : Pointer) × (IsPointer p x × Q x))
      by_tests (inl h) b c = inl (null, h)
      by_tests (inr n) (inl h) c = inl (invalid, h)
      by_tests (inr n) (inr m) (inl f) =
          let o = f.1.0 in
          let v = f.1.1.1 in
          inl (
            to f.0 v.1.1.0,
            (
              subst (λ at. Has (offsets_or_none at).offsets (pos v.1.1.0)) (sym f.1.1.0)
                  (subst (λ w. Has o.offsets w) v.1.1.1.0 v.1.0),
              v.1.1.1.1,
            ),
          )
      by_tests (inr n) (inr m) (inr none) = inr (λ h. by_pointer h.0 h.1.0 h.1.1)
        where
          by_pointer : (x : Pointer) → IsPointer p x → Q x → ⊥
          by_pointer null h q = n (h, q)
          by_pointer invalid h q = m (h, q)
          by_pointer (to object offset) h q =
              none (there object offset (map.get p.objects object) refl h q)

-- ---- the meet

offset_in : (n : ℕ) (v : ℤ) → (pos 0 ≤ℤ v) × (v ≤ℤ pos n) → IsOffset n v
offset_in n v h = record { from = h.0; to = h.1 }

offset_set : (n : ℕ) → SetOf (IsOffset n)
offset_set n = same_set (λ v. (pos 0 ≤ℤ v) × (v ≤ℤ pos n)) (IsOffset n) (offset_in n) (λ v h. (h.from, h.to))
    (span_set (pos 0) (pos n))

module _ (p q : Pointers) where
  abbrev met_offsets : ℕ → OffsetSet → OffsetSet
  met_offsets object o = record {
    size = min o.size (offsets_at q object).size;
    offsets = (both_set o.offsets (offsets_at q object).offsets).0;
  }

  abbrev pub met : Pointers
  met = record {
    null = p.null && q.null;
    invalid = p.invalid && q.invalid;
    objects = changed_offsets met_offsets p.objects;
  }

  pub met_is : IsMeet p q met
  met_is = record {
    null = refl;
    invalid = refl;
    objects = λ object. offsets_of (λ o. min o.size (offsets_at q object).size)
        (λ o. IsInBoth o.offsets (offsets_at q object).offsets) met_offsets p.objects object
        (λ o e. (refl, (both_set o.offsets (offsets_at q object).offsets).1)) (λ e v h. not_in_empty v h.0);
  }

  within_at : (at : Option OffsetSet) → IsEntry IsOffsetSet HasNoOffset at → (v : ℤ)
      → Has (offsets_or_none at).offsets v → IsOffset (offsets_or_none at).size v
  within_at None h v m = absurd (not_in_empty v m)
  within_at (Some o) h v m = h.0.within v m

  pub met_pointers : IsPointers p → IsPointers q → IsPointers met
  met_pointers p-is q-is = offsets_are met_offsets p.objects (λ object o e v h.
      (let both = (both_set o.offsets (offsets_at q object).offsets).1.sound v h in
      let a = within_at (Some o) (subst (λ at. IsEntry IsOffsetSet HasNoOffset at) e (p-is object)) v both.0 in
      let b = within_at (map.get q.objects object) (q-is object) v both.1 in
      record { from = a.from; to = min_above o.size (offsets_at q object).size v a.to b.to }))
    where
      min_above : (m n : ℕ) (v : ℤ) → v ≤ℤ pos m → v ≤ℤ pos n → v ≤ℤ pos (min m n)
      min_above m n v h k = omega (arith, ints)

-- ---- pointers that advance

-- the hull of a property with a list
hull_set : (P : ℤ → Type 0) → Listing P → SetOf (IsInHull P)
hull_set P l = let h = listing_hull l in
    (h.0, record { sound = λ v m. in_hull P h.0 h.1 v m; complete = λ v m. from_hull P h.0 h.1 v m })

module _ (Step : ℤ → Type 0) (steps : Listing Step) where
  pub advanced_listing : (offsets : Progression) → Listing (IsAdvanced Step offsets)
  advanced_listing offsets = relisted
      (λ v h. record {
        from = h.left;
        step = h.right;
        in_offsets = h.in_left;
        in_steps = h.in_right;
        reached = h.is;
      })
      (λ v h. record {
        left = h.from;
        right = h.step;
        in_left = h.in_offsets;
        in_right = h.in_steps;
        is = h.reached;
      })
      (result_listing ◌+ℤ◌ (members offsets) steps)

  pub reached_set : (o : OffsetSet) → SetOf (IsReached Step o)
  reached_set o = same_set (λ v. IsInHull (IsAdvanced Step o.offsets) v × IsOffset o.size v) (IsReached Step o)
      (λ v h. record { hull = h.0; offset = h.1 }) (λ v h. (h.hull, h.offset))
      (meet_set (IsInHull (IsAdvanced Step o.offsets)) (IsOffset o.size)
      (hull_set (IsAdvanced Step o.offsets) (advanced_listing o.offsets)) (offset_set o.size))

  abbrev reached_offsets : ℕ → OffsetSet → OffsetSet
  reached_offsets object o = record { size = o.size; offsets = (reached_set o).0 }

  abbrev pub advanced : Pointers → Pointers
  advanced p = record { null = false; invalid = false; objects = changed_offsets reached_offsets p.objects }

  pub advanced_is : (p : Pointers) → IsAdvance Step p (advanced p)
  advanced_is p = record {
    null = refl;
    invalid = refl;
    objects = λ object. offsets_of (λ o. o.size) (IsReached Step) reached_offsets p.objects object
        (λ o e. (refl, (reached_set o).1)) (λ e. never_reached Step);
  }

  pub advanced_pointers : (p : Pointers) → IsPointers (advanced p)
  advanced_pointers p = offsets_are reached_offsets p.objects
      (λ object o e v h. ((reached_set o).1.sound v h).offset)

pub part_listing : (cells : ℕ) → Listing (λ step. step ≡ pos cells)
part_listing cells = (
  pos cells ∷ [],
  record { sound = λ v h. ⊎_elim (λ e. e) (λ none. absurd none) h; complete = λ v h. inl h },
)

one_has : (x : ℤ) → Has (single x) x
unfolding Has
one_has x = refl

has_one : (x v : ℤ) → Has (single x) v → v ≡ x
unfolding Has
has_one x v h = h

-- the products of a property's integers with one number
product_listing : {P : ℤ → Type 0} (n : ℤ) → Listing P → Listing (λ v. (x : ℤ) × (P x × (v ≡ x *ℤ n)))
product_listing n l = relisted
    (λ v h. (h.left, (h.in_left, h.is ∙ ap (λ k. h.left *ℤ k) (has_one n h.right h.in_right))))
    (λ v h. record { left = h.0; right = n; in_left = h.1.0; in_right = one_has n; is = h.1.1 })
    (result_listing ◌*ℤ◌ l (members (single n)))

pub move_listing : (counts : Progression) (n : ℤ) → Listing (IsProduct counts n)
move_listing counts n = relisted (λ v h. record { factor = h.0; in_set = h.1.0; product = h.1.1 })
    (λ v h. (h.factor, (h.in_set, h.product))) (product_listing n (members counts))

pub subscript_test : (n : ℕ) (i : ℤ) → Test (IsSubscript n i)
subscript_test n i = ⊎_elim (λ h. inl (record { from = h.0; below = h.1 }))
    (λ none. inr (λ h. none (h.from, h.below)))
    (both_test (most_test (pos 0) i) (by_lt_z i (pos n) (λ less. inl less)
    (λ le. inr (λ less. absurd (omega (arith, ints, le, less))))))

pub element_listing : (n cells : ℕ) (s : Progression) → Listing (IsElementStep n cells s)
element_listing n cells s = relisted
    (λ v h. record { index = h.0; member = h.1.0.0; subscript = h.1.0.1; step = h.1.1 })
    (λ v h. (h.index, ((h.member, h.subscript), h.step)))
    (product_listing (pos cells) (passing_listing (IsSubscript n) (subscript_test n) (members s)))

-- ---- pointers of a set with a property, by hull

abbrev pub truth_of : {P : Type 0} → Test P → Bool
truth_of (inl p) = true
truth_of (inr n) = false

pub truth_is : {P : Type 0} (t : Test P) → IsTrue (truth_of t) ↔ P
truth_is (inl p) = (λ h. p, λ h. refl)
truth_is (inr n) = (λ h. absurd (false≢true h), λ p. absurd (n p))

pub refuted_is : {P : Type 0} (t : Test P) → (not (truth_of t) ≡ false) ↔ P
refuted_is (inl p) = (λ h. p, λ h. refl)
refuted_is (inr n) = (λ h. absurd (false≢true (sym h)), λ p. absurd (n p))

module _ (Q : Pointer → Type 0) (test : (x : Pointer) → Test (Q x)) (p : Pointers)
    (among : (x : Pointer) → Q x → IsPointer p x) where
  to_test : (object : ℕ) (v : ℤ) → Test (IsOffsetTo Q object v)
  to_test object (pos n) = ⊎_elim (λ q. inl (record { offset = n; is = refl; pointer = q }))
      (λ none. inr (λ h.
      none (subst (λ m. Q (to object m)) (sym (same_offset n h.offset h.is)) h.pointer))) (test (to object n))
  to_test object (negsuc n) = inr (λ h. (let e = h.is in omega (arith, ints)))

  abbrev IsChosen : ℕ → OffsetSet → ℤ → Type 0
  IsChosen object o v = Has o.offsets v × IsOffsetTo Q object v

  pub chosen_set : (object : ℕ) (o : OffsetSet) → SetOf (IsInHull (IsChosen object o))
  chosen_set object o = hull_set (IsChosen object o)
      (passing_listing (IsOffsetTo Q object) (to_test object) (members o.offsets))

  abbrev chosen_offsets : ℕ → OffsetSet → OffsetSet
  chosen_offsets object o = record { size = o.size; offsets = (chosen_set object o).0 }

  abbrev pub chosen : Pointers
  chosen = record {
    null = truth_of (test null);
    invalid = truth_of (test invalid);
    objects = changed_offsets chosen_offsets p.objects;
  }

  in_entry : (object : ℕ) (o : OffsetSet) → map.get p.objects object ≡ Some o → (v : ℤ) → IsOffsetTo Q object v
      → IsChosen object o v
  in_entry object o e v h =
      let m = among (to object h.offset) h.pointer in
      let k = subst (λ at. Has (offsets_or_none at).offsets (pos h.offset)) e m in
      (subst (λ w. Has o.offsets w) (sym h.is) k, h)

  pub chosen_is : IsHullOfPointers Q p chosen
  chosen_is = record {
    null = truth_is (test null);
    invalid = truth_is (test invalid);
    objects = λ object. offsets_of (λ o. o.size) (λ o. IsInHull (IsOffsetTo Q object)) chosen_offsets p.objects object
        (λ o e. (
          refl,
          (let c = (chosen_set object o).1 in record {
            sound = λ v h. hull_weaken (IsChosen object o) (IsOffsetTo Q object) (λ w k. k.1) v (c.sound v h);
            complete = λ v h. c.complete v (hull_weaken (IsOffsetTo Q object) (IsChosen object o) (in_entry object o e)
                v h);
          }),
        ))
        (λ e v h. not_in_empty v (h empty (λ w k.
        absurd (not_in_empty (pos k.offset) (subst (λ at. Has (offsets_or_none at).offsets (pos k.offset)) e
        (among (to object k.offset) k.pointer))))));
  }

  pub chosen_pointers : IsPointers p → IsPointers chosen
  chosen_pointers p-is = offsets_are chosen_offsets p.objects (λ object o e v h.
      (let is = subst (λ at. IsEntry IsOffsetSet HasNoOffset at) e (p-is object) in
      is.0.within v ((chosen_set object o).1.sound v h o.offsets (λ w k. k.0))))

-- ---- dereferences

module _ (Alive : ℕ → Type 0) (Stands : ℕ → ℕ → Type 0) (alive_test : (object : ℕ) → Test (Alive object))
    (stands_test : (object offset : ℕ) → Test (Stands object offset)) where
  pub reaches_test : (x : Pointer) → Test (Reaches Alive Stands x)
  reaches_test null = inr (λ h. h)
  reaches_test invalid = inr (λ h. h)
  reaches_test (to object offset) = both_test (alive_test object) (stands_test object offset)

  pub target_test : (p : Pointers) (x : Pointer) → Test (IsTarget Alive Stands p x)
  target_test p x = both_test (pointer_test p x) (reaches_test x)

  abbrev pub reached : Pointers → Pointers
  reached p = chosen (IsTarget Alive Stands p) (target_test p) p (λ x h. h.0)

  pub reached_is : (p : Pointers) → IsHullOfPointers (IsTarget Alive Stands p) p (reached p)
  reached_is p = chosen_is (IsTarget Alive Stands p) (target_test p) p (λ x h. h.0)

  pub reached_pointers : (p : Pointers) → IsPointers p → IsPointers (reached p)
  reached_pointers p p-is = chosen_pointers (IsTarget Alive Stands p) (target_test p) p (λ x h. h.0) p-is

-- ---- comparisons

other_pointer : (x y : Pointer) → Test (x ≢ y)
other_pointer x y = not_test (same_pointer x y)

equality_test : (equal : Bool) (x y : Pointer) (v : ℤ) → Test (IsEqualityOf equal x y v)
equality_test true x y v = either_test (both_test (same_test v (pos 1)) (same_pointer x y))
    (both_test (same_test v (pos 0)) (other_pointer x y))
equality_test false x y v = either_test (both_test (same_test v (pos 1)) (other_pointer x y))
    (both_test (same_test v (pos 0)) (same_pointer x y))

equality_bit : (equal : Bool) (x y : Pointer) (v : ℤ) → IsEqualityOf equal x y v → (v ≡ pos 0) ⊎ (v ≡ pos 1)
equality_bit true x y v h = ⊎_elim (λ k. inr k.0) (λ k. inl k.0) h
equality_bit false x y v h = ⊎_elim (λ k. inr k.0) (λ k. inl k.0) h

pub equality_set : (equal : Bool) (p q : Pointers) → SetOf (IsEqualityValue equal p q)
equality_set equal p q = bit_set (IsEqualityValue equal p q) (at (pos 0)) (at (pos 1))
    (λ v h. equality_bit equal h.left h.right v h.truth)
  where
    at : (v : ℤ) → Test (IsEqualityValue equal p q v)
    at v = ⊎_elim
        (λ f. inl (record {
          left = f.0;
          right = f.1.1.0;
          in_left = f.1.0;
          in_right = f.1.1.1.0;
          truth = f.1.1.1.1;
        }))
        (λ none. inr (λ h. none (h.left, (h.in_left, (h.right, (h.in_right, h.truth))))))
        (any_pointer (λ x. (y : Pointer) × (IsPointer q y × IsEqualityOf equal x y v))
        (λ x. any_pointer (λ y. IsEqualityOf equal x y v) (λ y. equality_test equal x y v) q) p)

pub unequal_test : (p q : Pointers) (x : Pointer) → Test (MayBeUnequal p q x)
unequal_test p q x = ⊎_elim
    (λ f. inl (record { member = f.0; partner = f.1.0; in_other = f.1.1.0; unequal = f.1.1.1 }))
    (λ none. inr (λ h. none (h.member, (h.partner, (h.in_other, h.unequal)))))
    (both_test (pointer_test p x) (any_pointer (λ y. (x ≢ y) ⊎ (y ≡ invalid))
    (λ y. either_test (other_pointer x y) (same_pointer y invalid)) q))

abbrev pub unequal : Pointers → Pointers → Pointers
unequal p q = chosen (MayBeUnequal p q) (unequal_test p q) p (λ x h. h.member)

pub unequal_is : (p q : Pointers) → IsHullOfPointers (MayBeUnequal p q) p (unequal p q)
unequal_is p q = chosen_is (MayBeUnequal p q) (unequal_test p q) p (λ x h. h.member)

pub unequal_pointers : (p q : Pointers) → IsPointers p → IsPointers (unequal p q)
unequal_pointers p q p-is = chosen_pointers (MayBeUnequal p q) (unequal_test p q) p (λ x h. h.member) p-is
