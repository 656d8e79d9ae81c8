-- Lists that rise and have the same members are the same; parts of lists that rise, and the keys of tables.
use Rattle.std.proofs.Common.{◌≡◌, refl, sym, ap, subst, ◌∙◌, ℕ, ◌+◌, ◌≤◌, Bool, true, false, cond, List, [], ◌∷◌, map}
use Rattle.std.proofs.Common.{Option, Some, None, inl, inr, arith}
use Rattle.std.specs.Prelude.{T}
use Rattle.std.specs.List.{filter}
use Rattle.std.specs.Ordering.{nat_cmp}
use Rattle.std.specs.FinMap.{get, entries, entries_sorted, is_sorted}
use Rattle.tm_lattice.specs.Tables.{Table}
use Rattle.tm_lattice.specs.laws.Keys.{AllAbove, AllAbove-rest, is_sorted-rest}
use Rattle.interfere_set.specs.laws.Joins.{IsOf, entry_of, of_entry}
use Rattle.transfer_rows.specs.Accesses.{is_among}
use Rattle.transfer_rows.proofs.Steps.{among_cons, among_here, among_there}
use Rattle.certificate_reading.specs.reading.Shapes.{RiseFrom}

pub least : (bound : ℕ) (ks : List ℕ) → RiseFrom bound ks → (x : ℕ) → IsOf ks x → bound ≤ x
least bound [] h x m = absurd m
least bound (k ∷ ks) h x (inl e) = let b = h.0 in omega (arith, b, e)
least bound (k ∷ ks) h x (inr m) =
    let b = h.0 in let l = least (k + 1) ks h.1 x m in omega (arith, b, l)

-- each member of the one is a member of the other
abbrev pub AreWithin : List ℕ → List ℕ → Type 0
AreWithin xs ys = (x : ℕ) → IsOf xs x → IsOf ys x

first_is : (bound k l : ℕ) (ks ls : List ℕ) → RiseFrom bound (k ∷ ks) → RiseFrom bound (l ∷ ls)
    → AreWithin (k ∷ ks) (l ∷ ls) → l ≤ k
first_is bound k l ks ls h g to = by_member (to k (inl refl))
  where
    by_member : IsOf (l ∷ ls) k → l ≤ k
    by_member (inl e) = omega (arith, e)
    by_member (inr m) = let a = least (l + 1) ls g.1 k m in omega (arith, a)

behind_first : (k : ℕ) (ks ls : List ℕ) → RiseFrom (k + 1) ks → AreWithin (k ∷ ks) (k ∷ ls) → AreWithin ks ls
behind_first k ks ls h to x m = by_member (to x (inr m))
  where
    by_member : IsOf (k ∷ ls) x → IsOf ls x
    by_member (inl e) = absurd (let a = least (k + 1) ks h x m in omega (arith, a, e))
    by_member (inr n) = n

pub same_keys : (bound : ℕ) (ks ls : List ℕ) → RiseFrom bound ks → RiseFrom bound ls → AreWithin ks ls → AreWithin ls ks
    → ks ≡ ls
same_keys bound [] [] h g to from = refl
same_keys bound [] (l ∷ ls) h g to from = absurd (from l (inl refl))
same_keys bound (k ∷ ks) [] h g to from = absurd (to k (inl refl))
same_keys bound (k ∷ ks) (l ∷ ls) h g to from =
    let a = first_is bound k l ks ls h g to in
    let b = first_is bound l k ls ks g h from in
    let e : l ≡ k = omega (arith, a, b) in
    let g' : RiseFrom (k + 1) ls = subst (λ n. RiseFrom (n + 1) ls) e g.1 in
    let to' : AreWithin (k ∷ ks) (k ∷ ls) = subst (λ n. AreWithin (k ∷ ks) (n ∷ ls)) e to in
    let from' : AreWithin (k ∷ ls) (k ∷ ks) = subst (λ n. AreWithin (n ∷ ls) (k ∷ ks)) e from in
    ap (λ n. n ∷ ks) (sym e) ∙ ap (λ xs. l ∷ xs)
    (same_keys (k + 1) ks ls h.1 g' (behind_first k ks ls h.1 to') (behind_first k ls ks g' from'))

-- ## Those that pass a test

module _ {A : Type 0} (test : A → Bool) where
  pub of_filter : (xs : List A) (y : A) → IsOf (filter test xs) y → IsOf xs y × (test y ≡ true)
  of_filter [] y m = absurd m
  of_filter (x ∷ xs) y m = by_test (test x) refl (of_filter xs y) m
    where
      by_test : (b : Bool) → test x ≡ b → (IsOf (filter test xs) y → IsOf xs y × (test y ≡ true))
          → IsOf (cond b (x ∷ filter test xs) (filter test xs)) y → IsOf (x ∷ xs) y × (test y ≡ true)
      by_test true h rest (inl e) = (inl e, ap test e ∙ h)
      by_test true h rest (inr n) = let r = rest n in (inr r.0, r.1)
      by_test false h rest n = let r = rest n in (inr r.0, r.1)

  pub filter_of : (xs : List A) (y : A) → IsOf xs y → test y ≡ true → IsOf (filter test xs) y
  filter_of [] y m h = absurd m
  filter_of (x ∷ xs) y m h = by_test (test x) refl (λ n. filter_of xs y n h) m
    where
      by_test : (b : Bool) → test x ≡ b → (IsOf xs y → IsOf (filter test xs) y) → IsOf (x ∷ xs) y
          → IsOf (cond b (x ∷ filter test xs) (filter test xs)) y
      by_test true g rest (inl e) = inl e
      by_test true g rest (inr n) = inr (rest n)
      by_test false g rest (inl e) = let f : true ≡ false = sym h ∙ (ap test e ∙ g) in cc
      by_test false g rest (inr n) = rest n

rise_lower : (low bound : ℕ) (ks : List ℕ) → low ≤ bound → RiseFrom bound ks → RiseFrom low ks
rise_lower low bound [] l h = tt
rise_lower low bound (k ∷ ks) l h = (let a = h.0 in omega (arith, l, a), h.1)

pub filter_rises : (test : ℕ → Bool) (bound : ℕ) (ks : List ℕ) → RiseFrom bound ks → RiseFrom bound (filter test ks)
filter_rises test bound [] h = tt
filter_rises test bound (k ∷ ks) h = by_test (test k) (filter_rises test (k + 1) ks h.1)
  where
    by_test : (b : Bool) → RiseFrom (k + 1) (filter test ks)
        → RiseFrom bound (cond b (k ∷ filter test ks) (filter test ks))
    by_test true rest = (h.0, rest)
    by_test false rest = rise_lower bound (k + 1) (filter test ks) (let a = h.0 in omega (arith, a)) rest

-- ## Keys of tables

module _ {V : Type 0} where
  abbrev pub keys : List (ℕ × V) → List ℕ
  keys es = map (λ (e : ℕ × V). e.0) es

  pub key_of : (es : List (ℕ × V)) (e : ℕ × V) → IsOf es e → IsOf (keys es) e.0
  key_of [] e m = absurd m
  key_of (d ∷ es) e (inl h) = inl (ap (λ (x : ℕ × V). x.0) h)
  key_of (d ∷ es) e (inr m) = inr (key_of es e m)

  pub of_key : (es : List (ℕ × V)) (k : ℕ) → IsOf (keys es) k → (v : V) × IsOf es (k, v)
  of_key [] k m = absurd m
  of_key (d ∷ es) k (inl h) = (d.1, inl (λ i. (h i, d.1)))
  of_key (d ∷ es) k (inr m) = let r = of_key es k m in (r.0, inr r.1)

  pub keys_of_filter : (test : ℕ → Bool) (es : List (ℕ × V))
      → keys (filter (λ (e : ℕ × V). test e.0) es) ≡ filter test (keys es)
  keys_of_filter test [] = refl
  keys_of_filter test (e ∷ es) = by_test (test e.0) (keys_of_filter test es)
    where
      by_test : (b : Bool) → keys (filter (λ (d : ℕ × V). test d.0) es) ≡ filter test (keys es)
          → keys (cond b (e ∷ filter (λ (d : ℕ × V). test d.0) es) (filter (λ (d : ℕ × V). test d.0) es))
          ≡ cond b (e.0 ∷ filter test (keys es)) (filter test (keys es))
      by_test true rest = ap (λ ks. e.0 ∷ ks) rest
      by_test false rest = rest

  above_rise : (k : ℕ) (es : List (ℕ × V)) → AllAbove k es → T (is_sorted nat_cmp es) → RiseFrom (k + 1) (keys es)
  above_rise k [] h sorted = tt
  above_rise k (e ∷ es) h sorted = (
    let a = h.0 in omega (arith, a),
    above_rise e.0 es (AllAbove-rest e es sorted) (is_sorted-rest e es sorted),
  )

  keys_rise : (es : List (ℕ × V)) → T (is_sorted nat_cmp es) → RiseFrom 0 (keys es)
  keys_rise [] sorted = tt
  keys_rise (e ∷ es) sorted = (
    omega arith,
    above_rise e.0 es (AllAbove-rest e es sorted) (is_sorted-rest e es sorted),
  )

  -- what stands at a key, by what is known of it
  pub by_entry : (t : Table V) (k : ℕ) (P : Option V → Type 0) → (get t k ≡ None → P None)
      → ((v : V) → get t k ≡ Some v → P (Some v)) → P (get t k)
  by_entry t k P none some = by_get (get t k) refl
    where
      by_get : (o : Option V) → get t k ≡ o → P (get t k)
      by_get None e = subst P (sym e) (none e)
      by_get (Some v) e = subst P (sym e) (some v e)

  -- the keys of a table that has an entry at each of these numbers and at no other
  pub keys_are : (t : Table V) (ks : List ℕ) → RiseFrom 0 ks → ((k : ℕ) (v : V) → get t k ≡ Some v → IsOf ks k)
      → ((k : ℕ) → IsOf ks k → get t k ≡ None → ⊥) → keys (entries t) ≡ ks
  keys_are t ks rises only all =
      same_keys 0 (keys (entries t)) ks (keys_rise (entries t) (entries_sorted t)) rises to from
    where
      to : AreWithin (keys (entries t)) ks
      to k m = let r = of_key (entries t) k m in only k r.0 (of_entry t (k, r.0) r.1)

      from : AreWithin ks (keys (entries t))
      from k m = by_get (get t k) refl
        where
          by_get : (o : Option V) → get t k ≡ o → IsOf (keys (entries t)) k
          by_get None e = absurd (all k m e)
          by_get (Some v) e = key_of (entries t) (k, v) (entry_of t k v e)

-- ## Membership

pub of_among : (xs : List ℕ) (x : ℕ) → is_among xs x ≡ true → IsOf xs x
of_among [] x h = let f : false ≡ true = h in cc
of_among (y ∷ xs) x h = elim (among_cons y x xs h) [
  | inl e ↦ inl e
  | inr m ↦ inr (of_among xs x m)
]

pub among_of : (xs : List ℕ) (x : ℕ) → IsOf xs x → is_among xs x ≡ true
among_of [] x m = absurd m
among_of (y ∷ xs) x (inl e) = among_here x y xs e
among_of (y ∷ xs) x (inr m) = among_there x y xs (among_of xs x m)
