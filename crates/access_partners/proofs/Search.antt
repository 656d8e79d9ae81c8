-- What is found by halving the accesses of an object.
use Rattle.std.proofs.Common.{◌≡◌, ◌↔◌, ◌⊎◌, ℕ, zero, suc, ◌+◌, ◌<◌, ◌≤◌, ◌==◌, refl, ap, sym, subst, ◌∙◌, inl, inr}
use Rattle.std.proofs.Common.{Bool, true, false, not, ◌&&◌, ◌||◌, cond, nat_lt, List, [], ◌∷◌, length, get_or, take, arith}
use Rattle.std.specs.Prelude.{Contains}
use Rattle.std.specs.declared.vec.Vec.{Vec}
use Rattle.std.proofs.lemmas.Bool.{true≢false, cases_eq, cases_lt, and_parts, and_from, or_cases, or_left, or_right}
use Rattle.std.proofs.lemmas.Bool.{ltb-true, lt-ltb, eqb-true, eq-eqb}
use Rattle.access_races.proofs.Joins.{either, grown, one_more}
use Rattle.access_groups.specs.declared.object_access.ObjectAccess.{ObjectAccess}
use Rattle.access_races.specs.Rising.{AreRising}
use Rattle.access_groups.specs.Order.{sort_key, AreBefore, IsBefore}
use Rattle.access_races.specs.reading.Ways.{list_at}
use Rattle.access_races.proofs.Rising.{none}
use Rattle.access_groups.proofs.Sorting.{is_before_trans, not_alike}
use Rattle.access_groups.specs.declared.site.Site.{Site}
use Rattle.access_groups.specs.reading.Sites.{no_site, access_of}
use Rattle.access_partners.specs.reading.Accesses.{nothing, access_at, AreSitesBy}
use Rattle.access_partners.specs.reading.Search.{is_before, IsFirstNotBefore, IsIndex, HasNoIndex, AreEmpty, IsSiteAdded}
use Rattle.access_partners.proofs.Lists.{has_at}

-- ## The order

-- a number decides, or the rest where the numbers are equal
step : (a b : ℕ) (r : Bool) (R : Type 0) → ((r ≡ true) ↔ R)
    → ((nat_lt a b || (a == b && r)) ≡ true) ↔ ((a < b) ⊎ ((a ≡ b) × R))
step a b r R h = (
  λ e. either (λ l. inl (ltb-true a b l))
      (λ k. let parts = and_parts (a == b) r k in inr (eqb-true a b parts.0, h.0 parts.1))
      (or_cases (nat_lt a b) (a == b && r) e),
  λ s. either (λ l. or_left (nat_lt a b) (a == b && r) (lt-ltb a b l))
      (λ (k : (a ≡ b) × R). or_right (nat_lt a b) (a == b && r)
      (and_from (a == b) r (eq-eqb a b k.0) (h.1 k.1))) s,
)

-- so does the kind
kind_step : (s t r : Bool) (R : Type 0) → ((r ≡ true) ↔ R)
    → (((not s && t) || (((s && t) || (not s && not t)) && r)) ≡ true)
    ↔ ((cond {A = ℕ} s 1 0 < cond {A = ℕ} t 1 0) ⊎ ((cond {A = ℕ} s 1 0 ≡ cond {A = ℕ} t 1 0) × R))
kind_step true true r R h = (
  λ e. inr (refl, h.0 e),
  λ x. either (λ l. absurd (omega (arith, l))) (λ (k : (1 ≡ 1) × R). h.1 k.1) x,
)
kind_step true false r R h = (
  λ e. absurd (true≢false (sym e)),
  λ x. either (λ l. absurd (omega (arith, l))) (λ (k : (1 ≡ 0) × R). absurd (let q = k.0 in omega (arith, q))) x,
)
kind_step false true r R h = (λ e. inl (omega arith), λ x. refl)
kind_step false false r R h = (
  λ e. inr (refl, h.0 e),
  λ x. either (λ l. absurd (omega (arith, l))) (λ (k : (0 ≡ 0) × R). h.1 k.1) x,
)

last_step : (a b : ℕ) → (nat_lt a b ≡ true) ↔ ((a < b) ⊎ ((a ≡ b) × ⊥))
last_step a b = (
  λ e. inl (ltb-true a b e),
  λ s. either (λ l. lt-ltb a b l) (λ (k : (a ≡ b) × ⊥). absurd k.1) s,
)

pub before_is : (e f : ObjectAccess) → (is_before e f ≡ true) ↔ IsBefore e f
before_is e f =
    step e.place.line f.place.line _ _ (step e.place.col f.place.col _ _ (step e.task f.task _ _
    (kind_step e.stores f.stores _ _ (last_step e.held f.held))))

-- ## Halving

pub rising_at : (xs : List ObjectAccess) → AreRising IsBefore xs → (i j : ℕ) (d : ObjectAccess) → i < j → j < length xs
    → IsBefore (get_or xs i d) (get_or xs j d)
rising_at [] r i j d lt within = absurd (omega (arith, within))
rising_at (x ∷ xs) r zero zero d lt within = absurd (omega (arith, lt))
rising_at (x ∷ xs) r (suc i) zero d lt within = absurd (omega (arith, lt))
rising_at (x ∷ xs) r zero (suc j) d lt within = r.0 (get_or xs j d) (has_at xs j d (omega (arith, within)))
rising_at (x ∷ xs) r (suc i) (suc j) d lt within =
    rising_at xs r.1 i j d (omega (arith, lt)) (omega (arith, within))

module _ (accesses : List ObjectAccess) (e : ObjectAccess) (rising : AreRising IsBefore accesses) where
  module _ (m : ℕ) (within : m < length accesses) where
    pub before_middle : IsBefore (access_at accesses m) e → (k : ℕ) → k < m + 1 → IsBefore (access_at accesses k) e
    before_middle h k lt =
        either (λ same. subst (λ n. IsBefore (access_at accesses n) e) (sym same) h)
        (λ other. is_before_trans (access_at accesses k) (access_at accesses m) e
        (rising_at accesses rising k m nothing (omega (arith, lt, other)) within) h) (cases_eq k m)

    pub after_middle : (IsBefore (access_at accesses m) e → ⊥) → (k : ℕ) → m ≤ k → k < length accesses
        → IsBefore (access_at accesses k) e → ⊥
    after_middle differs k le lt h =
        either (λ (same : k ≡ m). differs (subst (λ n. IsBefore (access_at accesses n) e) same h))
        (λ other. differs (is_before_trans (access_at accesses m) (access_at accesses k) e
        (rising_at accesses rising m k nothing (omega (arith, le, other)) lt) h)) (cases_eq k m)

  pub none_behind : (n : ℕ) → IsFirstNotBefore accesses e n → length accesses ≤ n → HasNoIndex accesses e
  none_behind n first le k lt same =
      not_alike (access_at accesses k) e (first.before k (omega (arith, le, lt))) same

  pub none_there : (n : ℕ) → IsFirstNotBefore accesses e n → n < length accesses
      → (sort_key (access_at accesses n) ≡ sort_key e → ⊥) → HasNoIndex accesses e
  none_there n first within differs k lt same =
      either (λ before. not_alike (access_at accesses k) e (first.before k before) same)
      (λ le. either (λ (here : k ≡ n). differs (subst (λ m. sort_key (access_at accesses m) ≡ sort_key e) here same))
      (λ other. first.after n (omega arith) within
      (subst (λ key. AreBefore (sort_key (access_at accesses n)) key) same
      (rising_at accesses rising n k nothing (omega (arith, le, other)) lt))) (cases_eq k n)) (cases_lt k n)

-- ## Accesses of tasks

module _ (accesses : List ObjectAccess) (rising : AreRising IsBefore accesses) where
  same_number : (i k : ℕ) → i < length accesses → k < length accesses
      → sort_key (access_at accesses i) ≡ sort_key (access_at accesses k) → i ≡ k
  same_number i k lt-i lt-k same =
      either (λ e. e)
      (λ other. either
      (λ before. absurd (not_alike (access_at accesses i) (access_at accesses k)
      (rising_at accesses rising i k nothing before lt-k) same))
      (λ le. absurd (not_alike (access_at accesses k) (access_at accesses i)
      (rising_at accesses rising k i nothing (omega (arith, le, other)) lt-i) (sym same))) (cases_lt i k))
      (cases_eq i k)

  pub added_at : {A : Type 0} (x : Site) (old new : List (Vec Site A)) (k : ℕ) → IsIndex accesses (access_of x) k
      → length new ≡ length accesses
      → ((i : ℕ) (y : Site) → Contains (list_at new i) y ↔ (Contains (list_at old i) y ⊎ ((i ≡ k) × (y ≡ x))))
      → IsSiteAdded accesses x old new
  added_at x old new k index count h = record {
    count = count;
    added = λ i lt y. (
      λ c. either (λ o. inl o)
          (λ (s : (i ≡ k) × (y ≡ x)). inr (s.1, sym index.alike ∙ ap (λ n. sort_key (access_at accesses n)) (sym s.0)))
          ((h i y).0 c),
      λ c. (h i y).1 (either (λ o. inl o)
          (λ (s : (y ≡ x) × (sort_key (access_of x) ≡ sort_key (access_at accesses i))).
          inr (same_number i k lt index.within (sym s.1 ∙ sym index.alike), s.0)) c),
    );
  }

  pub not_added : {A : Type 0} (x : Site) (old : List (Vec Site A)) → HasNoIndex accesses (access_of x)
      → length old ≡ length accesses → IsSiteAdded accesses x old old
  not_added x old differs count = record {
    count = count;
    added = λ i lt y. (
      λ c. inl c,
      λ c. either (λ o. o)
          (λ (s : (y ≡ x) × (sort_key (access_of x) ≡ sort_key (access_at accesses i))). absurd (differs i lt (sym s.1))) c,
    );
  }

  module _ {A : Type 0} (sites : List Site) where
    pub sites_none : (lists : List (Vec Site A)) → AreEmpty lists (length accesses) → AreSitesBy accesses (take 0 sites) lists
    sites_none lists h = record {
      count = h.count;
      each = λ i lt x. (
        λ c. absurd (none x (subst (λ l. Contains l x) (h.none i) c)),
        λ o. absurd (none o.one o.has),
      );
    }

    pub sites_more : (i : ℕ) → i < length sites → (old new : List (Vec Site A)) → AreSitesBy accesses (take i sites) old
        → IsSiteAdded accesses (get_or sites i no_site) old new → AreSitesBy accesses (take (i + 1) sites) new
    sites_more i lt old new so_far more = record {
      count = more.count;
      each = λ j within x. grown (more.added j within x) (so_far.each j within x)
          (one_more (λ (y : Site). (x ≡ y) × (sort_key (access_of y) ≡ sort_key (access_at accesses j))) sites i no_site
          lt);
    }
