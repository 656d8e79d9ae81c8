-- Properties of finitely many integers, by a list of them; and what can be tested of them.
use Rattle.std.specs.Prelude.{◌≡◌, ◌⊎◌, ℕ, zero, suc, ◌+◌, ◌*◌, ◌≤◌, List, [], ◌∷◌, ℤ, pos, ◌+ℤ◌, ◌≤ℤ◌, refl}
use Rattle.std.proofs.Common.{sym, ap, subst, ◌∙◌, inl, inr, ⊎_elim, arith}
use Rattle.std.proofs.lemmas.Bool.{cases_eq, cases_Bool, false≢true}
use Rattle.std.proofs.lemmas.Bool.Decides.{Decides-int_eq}
use Rattle.std.proofs.lemmas.Int.{ints, by_lt_z}
use Rattle.std.specs.Ordering.{int_eq}
use Rattle.filters.specs.strided_dom.Progression.{Progression, empty, single, row, Has, IsHull}
use Rattle.filters.proofs.low.strided_dom.Members.{not_in_empty}
use Rattle.filters.specs.pointer_dom.StridedSets.{hull, hull_is}
use Rattle.filters.specs.Partners.{HasPartner}
use Rattle.transfer_int.specs.Operands.{IsResult}

-- whether P holds
abbrev pub Test : Type 0 → Type 0
Test P = P ⊎ (P → ⊥)

pub not_test : {P : Type 0} → Test P → Test (P → ⊥)
not_test (inl p) = inr (λ n. n p)
not_test (inr n) = inl n

pub both_test : {P Q : Type 0} → Test P → Test Q → Test (P × Q)
both_test (inl p) (inl q) = inl (p, q)
both_test (inl p) (inr n) = inr (λ h. n h.1)
both_test (inr n) q = inr (λ h. n h.0)

pub either_test : {P Q : Type 0} → Test P → Test Q → Test (P ⊎ Q)
either_test (inl p) q = inl (inl p)
either_test (inr n) (inl q) = inl (inr q)
either_test (inr n) (inr m) = inr (λ h. ⊎_elim n m h)

pub same_test : (x y : ℤ) → Test (x ≡ y)
same_test x y = let d = Decides-int_eq x y in elim (cases_Bool (int_eq x y)) [
  | inl is ↦ inl (d.0 is)
  | inr not_is ↦ inr (λ e. false≢true (sym not_is ∙ d.1 e))
]

pub most_test : (x y : ℤ) → Test (x ≤ℤ y)
most_test x y = by_lt_z y x (λ less. inr (λ le. absurd (omega (arith, ints, le, less)))) (λ le. inl le)

-- v is an element of the list
abbrev pub IsAmong : List ℤ → ℤ → Type 0
IsAmong [] v = ⊥
IsAmong (x ∷ xs) v = (v ≡ x) ⊎ IsAmong xs v

-- the list has exactly the integers with the property
pub record IsListing (P : ℤ → Type 0) (xs : List ℤ) : Type 0 where
  pub sound : (v : ℤ) → IsAmong xs v → P v
  pub complete : (v : ℤ) → P v → IsAmong xs v

abbrev pub Listing : (ℤ → Type 0) → Type 0
Listing P = (xs : List ℤ) × IsListing P xs

pub relisted : {P Q : ℤ → Type 0} → ((v : ℤ) → P v → Q v) → ((v : ℤ) → Q v → P v) → Listing P → Listing Q
relisted to from l = (
  l.0,
  record { sound = λ v h. to v (l.1.sound v h); complete = λ v h. l.1.complete v (from v h) },
)

-- the members of a set
abbrev upward : ℤ → ℕ → ℕ → List ℤ
upward first gap zero = first ∷ []
upward first gap (suc n) = (first +ℤ pos (suc n * (gap + 1))) ∷ upward first gap n

in_upward : (first : ℤ) (gap n k : ℕ) → k ≤ n → IsAmong (upward first gap n) (first +ℤ pos (k * (gap + 1)))
in_upward first gap zero zero le = inl (omega (arith, ints))
in_upward first gap zero (suc k) le = absurd (omega arith)
in_upward first gap (suc n) k le = elim (cases_eq k (suc n)) [
  | inl same ↦ inl (ap (λ j. first +ℤ pos (j * (gap + 1))) same)
  | inr differ ↦ inr (in_upward first gap n k (omega (arith, differ)))
]

of_upward : (first : ℤ) (gap n : ℕ) (v : ℤ) → IsAmong (upward first gap n) v
    → (k : ℕ) × ((k ≤ n) × (v ≡ first +ℤ pos (k * (gap + 1))))
of_upward first gap zero v (inl here) = (0, (omega arith, here ∙ omega (arith, ints)))
of_upward first gap zero v (inr there) = absurd there
of_upward first gap (suc n) v (inl here) = (suc n, (omega arith, here))
of_upward first gap (suc n) v (inr there) =
    let k = of_upward first gap n v there in (k.0, (omega (arith, k.1.0), k.1.1))

pub members : (s : Progression) → Listing (Has s)
unfolding Has
members empty = ([], record { sound = λ v h. h; complete = λ v h. h })
members (single w) = (
  w ∷ [],
  record { sound = λ v h. ⊎_elim (λ here. here) (λ there. absurd there) h; complete = λ v h. inl h },
)
members (row first gap more) = (
  upward first gap (more + 1),
  record {
    sound = λ v h. of_upward first gap (more + 1) v h;
    complete = λ v h.
        subst (IsAmong (upward first gap (more + 1))) (sym h.1.1) (in_upward first gap (more + 1) h.0 h.1.0);
  },
)

-- some integer of the list has a property that can be tested
pub any_among : (P : ℤ → Type 0) → ((v : ℤ) → Test (P v)) → (xs : List ℤ) → Test ((v : ℤ) × (IsAmong xs v × P v))
any_among P test [] = inr (λ h. h.1.0)
any_among P test (x ∷ xs) = by_test (test x) (any_among P test xs)
  where
    by_test : Test (P x) → Test ((v : ℤ) × (IsAmong xs v × P v)) → Test ((v : ℤ) × (IsAmong (x ∷ xs) v × P v))
    by_test (inl p) rest = inl (x, (inl refl, p))
    by_test (inr n) (inl found) = inl (found.0, (inr found.1.0, found.1.1))
    by_test (inr n) (inr none) = inr (λ h.
        ⊎_elim (λ here. n (subst P here h.1.1)) (λ there. none (h.0, (there, h.1.1))) h.1.0)

-- some integer with the property P has the property Q
pub any_listed : {P : ℤ → Type 0} (Q : ℤ → Type 0) → Listing P → ((v : ℤ) → Test (Q v)) → Test ((v : ℤ) × (P v × Q v))
any_listed Q l test = ⊎_elim
    (λ found. inl (found.0, (l.1.sound found.0 found.1.0, found.1.1)))
    (λ none. inr (λ h. none (h.0, (l.1.complete h.0 h.1.0, h.1.1)))) (any_among Q test l.0)

pub has_test : (s : Progression) (v : ℤ) → Test (Has s v)
has_test s v = ⊎_elim (λ found. inl (subst (Has s) found.1.1 found.1.0)) (λ none. inr (λ h. none (v, (h, refl))))
    (any_listed (λ w. w ≡ v) (members s) (λ w. same_test w v))

-- the integers of a list that pass a test
module _ (Q : ℤ → Type 0) (test : (v : ℤ) → Test (Q v)) where
  abbrev keep : (v : ℤ) → Test (Q v) → List ℤ → List ℤ
  keep v (inl q) xs = v ∷ xs
  keep v (inr n) xs = xs

  abbrev passing : List ℤ → List ℤ
  passing [] = []
  passing (x ∷ xs) = keep x (test x) (passing xs)

  passing_is : (xs : List ℤ) (v : ℤ) → IsAmong (passing xs) v → IsAmong xs v × Q v
  passing_is [] v h = absurd h
  passing_is (x ∷ xs) v h = by_test (test x) (passing_is xs v) h
    where
      by_test : (d : Test (Q x)) → (IsAmong (passing xs) v → IsAmong xs v × Q v) → IsAmong (keep x d (passing xs)) v
          → IsAmong (x ∷ xs) v × Q v
      by_test (inl q) rest (inl here) = (inl here, subst Q (sym here) q)
      by_test (inl q) rest (inr there) = let r = rest there in (inr r.0, r.1)
      by_test (inr n) rest k = let r = rest k in (inr r.0, r.1)

  passing_has : (xs : List ℤ) (v : ℤ) → IsAmong xs v → Q v → IsAmong (passing xs) v
  passing_has [] v h q = absurd h
  passing_has (x ∷ xs) v h q = by_test (test x) (λ k. passing_has xs v k q) h
    where
      by_test : (d : Test (Q x)) → (IsAmong xs v → IsAmong (passing xs) v) → IsAmong (x ∷ xs) v
          → IsAmong (keep x d (passing xs)) v
      by_test (inl p) rest (inl here) = inl here
      by_test (inl p) rest (inr there) = inr (rest there)
      by_test (inr n) rest (inl here) = absurd (n (subst Q here q))
      by_test (inr n) rest (inr there) = rest there

  pub passing_listing : {P : ℤ → Type 0} → Listing P → Listing (λ v. P v × Q v)
  passing_listing l = (
    passing l.0,
    record {
      sound = λ v h. (let k = passing_is l.0 v h in (l.1.sound v k.0, k.1));
      complete = λ v h. passing_has l.0 v (l.1.complete v h.0) h.1;
    },
  )

-- the results of an operation on the integers of two lists
module _ (op : ℤ → ℤ → ℤ) where
  abbrev with_each : ℤ → List ℤ → List ℤ → List ℤ
  with_each x [] rest = rest
  with_each x (y ∷ ys) rest = op x y ∷ with_each x ys rest

  abbrev results : List ℤ → List ℤ → List ℤ
  results [] ys = []
  results (x ∷ xs) ys = with_each x ys (results xs ys)

  each_here : (x y : ℤ) (ys rest : List ℤ) → IsAmong ys y → IsAmong (with_each x ys rest) (op x y)
  each_here x y [] rest h = absurd h
  each_here x y (z ∷ ys) rest (inl here) = inl (ap (op x) here)
  each_here x y (z ∷ ys) rest (inr there) = inr (each_here x y ys rest there)

  each_rest : (x v : ℤ) (ys rest : List ℤ) → IsAmong rest v → IsAmong (with_each x ys rest) v
  each_rest x v [] rest h = h
  each_rest x v (y ∷ ys) rest h = inr (each_rest x v ys rest h)

  of_each : (x v : ℤ) (ys rest : List ℤ) → IsAmong (with_each x ys rest) v
      → ((y : ℤ) × (IsAmong ys y × (v ≡ op x y))) ⊎ IsAmong rest v
  of_each x v [] rest h = inr h
  of_each x v (y ∷ ys) rest (inl here) = inl (y, (inl refl, here))
  of_each x v (y ∷ ys) rest (inr there) = ⊎_elim
      (λ found. inl (found.0, (inr found.1.0, found.1.1))) (λ other. inr other) (of_each x v ys rest there)

  abbrev IsOf : List ℤ → List ℤ → ℤ → Type 0
  IsOf xs ys = IsResult op (IsAmong xs) (IsAmong ys)

  results_have : (xs ys : List ℤ) (x y : ℤ) → IsAmong xs x → IsAmong ys y → IsAmong (results xs ys) (op x y)
  results_have [] ys x y h k = absurd h
  results_have (z ∷ xs) ys x y (inl here) k =
      subst (λ w. IsAmong (results (z ∷ xs) ys) (op w y)) (sym here) (each_here z y ys (results xs ys) k)
  results_have (z ∷ xs) ys x y (inr there) k = each_rest z (op x y) ys (results xs ys) (results_have xs ys x y there k)

  results_are : (xs ys : List ℤ) (v : ℤ) → IsAmong (results xs ys) v → IsOf xs ys v
  results_are [] ys v h = absurd h
  results_are (x ∷ xs) ys v h = ⊎_elim
      (λ found. record { left = x; right = found.0; in_left = inl refl; in_right = found.1.0; is = found.1.1 })
      (λ other. (let r = results_are xs ys v other in record {
        left = r.left;
        right = r.right;
        in_left = inr r.in_left;
        in_right = r.in_right;
        is = r.is;
      })) (of_each x v ys (results xs ys) h)

  pub result_listing : {P Q : ℤ → Type 0} → Listing P → Listing Q → Listing (IsResult op P Q)
  result_listing l m = (
    results l.0 m.0,
    record {
      sound = λ v h. (let r = results_are l.0 m.0 v h in record {
        left = r.left;
        right = r.right;
        in_left = l.1.sound r.left r.in_left;
        in_right = m.1.sound r.right r.in_right;
        is = r.is;
      });
      complete = λ v h. subst (IsAmong (results l.0 m.0)) (sym h.is)
          (results_have l.0 m.0 h.left h.right (l.1.complete h.left h.in_left) (m.1.complete h.right h.in_right));
    },
  )

-- the least and the greatest integer of a list
pub least_among : (x : ℤ) (xs : List ℤ) → (l : ℤ) × (IsAmong (x ∷ xs) l × ((v : ℤ) → IsAmong (x ∷ xs) v → l ≤ℤ v))
least_among x [] = (x, (inl refl, λ v h. ⊎_elim (λ here. omega (arith, ints, here)) (λ there. absurd there) h))
least_among x (y ∷ xs) =
    let l = least_among y xs in
    by_lt_z x l.0
    (λ less. (
      x,
      (
        inl refl,
        λ v h. ⊎_elim (λ here. omega (arith, ints, here))
            (λ there. (let k = l.1.1 v there in omega (arith, ints, k, less))) h,
      ),
    ))
    (λ le. (l.0, (inr l.1.0, λ v h. ⊎_elim (λ here. omega (arith, ints, here, le)) (λ there. l.1.1 v there) h)))

pub greatest_among : (x : ℤ) (xs : List ℤ)
    → (g : ℤ) × (IsAmong (x ∷ xs) g × ((v : ℤ) → IsAmong (x ∷ xs) v → v ≤ℤ g))
greatest_among x [] = (x, (inl refl, λ v h. ⊎_elim (λ here. omega (arith, ints, here)) (λ there. absurd there) h))
greatest_among x (y ∷ xs) =
    let g = greatest_among y xs in
    by_lt_z g.0 x
    (λ less. (
      x,
      (
        inl refl,
        λ v h. ⊎_elim (λ here. omega (arith, ints, here))
            (λ there. (let k = g.1.1 v there in omega (arith, ints, k, less))) h,
      ),
    ))
    (λ le. (g.0, (inr g.1.0, λ v h. ⊎_elim (λ here. omega (arith, ints, here, le)) (λ there. g.1.1 v there) h)))

-- the least strided set with the integers of a list
abbrev hull_among : List ℤ → Progression
hull_among [] = empty
hull_among (x ∷ xs) = hull (single x) (hull_among xs)

has_one : (x : ℤ) → Has (single x) x
unfolding Has
has_one x = refl

one_is : (x v : ℤ) → Has (single x) v → v ≡ x
unfolding Has
one_is x v h = h

among_hull : (xs : List ℤ) → IsHull (IsAmong xs) (hull_among xs)
among_hull [] = record {
  complete = λ v h. absurd h;
  least = λ t all. record { within = λ v h. absurd (not_in_empty v h) };
}
among_hull (x ∷ xs) =
    let rest = among_hull xs in
    let both = hull_is (single x) (hull_among xs) in
    record {
      complete = λ v h. ⊎_elim
          (λ here. both.complete v (inl (subst (Has (single x)) (sym here) (has_one x))))
          (λ there. both.complete v (inr (rest.complete v there))) h;
      least = λ t all. both.least t (λ v h. ⊎_elim
          (λ here. subst (Has t) (sym (one_is x v here)) (all x (inl refl)))
          (λ there. (rest.least t (λ w k. all w (inr k))).within v there) h);
    }

pub listing_hull : {P : ℤ → Type 0} → Listing P → (r : Progression) × IsHull P r
listing_hull l = (
  hull_among l.0,
  record {
    complete = λ v h. (among_hull l.0).complete v (l.1.complete v h);
    least = λ t all. (among_hull l.0).least t (λ v h. all v (l.1.sound v h));
  },
)

-- what a filter leaves of a set, for every relation that can be tested
pub partner_hull : (Related : ℤ → ℤ → Type 0) → ((v w : ℤ) → Test (Related v w)) → (a b : Progression)
    → (r : Progression) × IsHull (HasPartner Related a b) r
partner_hull Related test a b = listing_hull (relisted
    (λ v h. record { member = h.0; partner = h.1.0; in_other = h.1.1.0; related = h.1.1.1 })
    (λ v h. (h.member, (h.partner, (h.in_other, h.related))))
    (passing_listing (λ v. (w : ℤ) × (Has b w × Related v w)) (λ v. any_listed (Related v) (members b) (test v))
    (members a)))
