-- Requests that are noted level by level, from those that lead to the end.
use Rattle.std.proofs.Common.{◌≡◌, ◌⊎◌, ℕ, zero, suc, ◌+◌, ◌<◌, ◌≤◌, refl, ap, sym, subst, ◌∙◌, inl, inr, Bool, false}
use Rattle.std.proofs.Common.{List, [], ◌∷◌, ◌++◌, length, get_or, set, arith, get_or-set_other, get_or-set_same}
use Rattle.std.specs.Prelude.{Contains, replicate, Option, Some, None, MatchOption}
use Rattle.std.proofs.lemmas.Bool.{cases_eq, cases_lt}
use Rattle.std.proofs.lemmas.List.{length-append, length-set, length-replicate, get_or_default}
use Rattle.std.proofs.lemmas.List.Elements.{Contains-append_left, Contains-push, Contains-push_cases}
use Rattle.request_circles.specs.declared.requests.Request.{Request}
use Rattle.request_circles.specs.reading.Steps.{IsStep, IsStepLeft}
use Rattle.request_circles.specs.reading.Classes.{number_at}
use Rattle.request_circles.specs.reading.Distances.{unnoted, IsWithin, IsNearer, AreNoted, HasLevel, AreMeasured}

-- ## Lists of numbers of steps

pub noted_within : (far : List ℕ) (k : ℕ) → 0 < number_at far k → k < length far
noted_within [] k p = absurd (omega (arith, p))
noted_within (n ∷ far) zero p = omega arith
noted_within (n ∷ far) (suc k) p = let lt = noted_within far k p in omega (arith, lt)

unnoted_set : (far : List ℕ) (k n : ℕ) → k < length far → number_at far k ≡ 0 → 0 < n
    → unnoted (set far k n) + 1 ≡ unnoted far
unnoted_set [] k n lt e p = absurd (omega (arith, lt))
unnoted_set (zero ∷ far) zero zero lt e p = absurd (omega (arith, p))
unnoted_set (zero ∷ far) zero (suc n) lt e p = omega arith
unnoted_set (suc m ∷ far) zero n lt e p = absurd (omega (arith, e))
unnoted_set (zero ∷ far) (suc k) n lt e p =
    let h = unnoted_set far k n (let z : k < length far = omega (arith, lt) in z) e p in omega (arith, h)
unnoted_set (suc m ∷ far) (suc k) n lt e p =
    unnoted_set far k n (let z : k < length far = omega (arith, lt) in z) e p

pub unnoted_most : (far : List ℕ) → unnoted far ≤ length far
unnoted_most [] = omega arith
unnoted_most (zero ∷ far) = let h = unnoted_most far in omega (arith, h)
unnoted_most (suc n ∷ far) = let h = unnoted_most far in omega (arith, h)

no_number : (n k : ℕ) → number_at (replicate n 0) k ≡ 0
no_number zero k = refl
no_number (suc n) zero = refl
no_number (suc n) (suc k) = no_number n k

nobody : (j : ℕ) → Contains [] j → ⊥
nobody j (k, lt, e) = absurd (omega (arith, lt))

-- nothing was found
pub none_of : (r : Option ℕ) (P : Type 0) (Q : ℕ → Type 0) → ((x : ℕ) → r ≡ Some x → ⊥) → MatchOption r P Q → P
none_of (Some x) P Q none m = absurd (none x refl)
none_of None P Q none m = m

-- none of a list has what none of the first has, once these are all
pub none_in : (P : ℕ → Type 0) (xs : List ℕ) (n : ℕ) → length xs ≤ n → ((i : ℕ) → i < n → P (get_or xs i 0) → ⊥) → (j : ℕ)
    → Contains xs j → P j → ⊥
none_in P xs n end none j c h =
    none c.0 (let lt = c.1 in omega (arith, lt, end)) (subst P (sym (get_or_default xs c.0 0 j c.1 ∙ c.2)) h)

pub none_more : (P : ℕ → Type 0) (xs : List ℕ) (n : ℕ) → (P (get_or xs n 0) → ⊥)
    → ((i : ℕ) → i < n → P (get_or xs i 0) → ⊥) → (i : ℕ) → i < n + 1 → P (get_or xs i 0) → ⊥
none_more P xs n this none i lt h = elim (cases_eq i n) [
  | inl e ↦ this (subst (λ (k : ℕ). P (get_or xs k 0)) e h)
  | inr other ↦ none i (omega (arith, lt, other)) h
]

-- ## One level

module _ (requests : List Request) (left : List Bool) (frontier : List ℕ) (steps : ℕ) where
  abbrev Level : (ℕ → Type 0) → List ℕ → List ℕ → List ℕ → List ℕ → List ℕ → List ℕ → Type 0
  Level = HasLevel requests left frontier steps

  -- nothing is noted
  pub level_none : (T : ℕ → Type 0) (far next found : List ℕ)
      → ((k j : ℕ) → T k → Contains frontier j → IsStepLeft requests left false j k → 0 < number_at far k)
      → HasLevel requests left frontier steps T far next found far next found
  level_none T far next found known = record {
    far_same = refl;
    next_same = refl;
    kept = λ k p. (refl, refl);
    fresh = λ k e p. absurd (omega (arith, e, p));
    noted = known;
    found_on = λ k c. c;
    found_only = λ k c. inl c;
    count = refl;
  }

  pub level_begins : (far next found : List ℕ) → found ≡ []
      → HasLevel requests left frontier steps (λ k. k < 0) far next [] far next found
  level_begins far next found is =
      subst (λ (ws : List ℕ). HasLevel requests left frontier steps (λ k. k < 0) far next [] far next ws) (sym is)
      (level_none (λ k. k < 0) far next [] (λ k j lt c s. absurd (omega (arith, lt))))

  -- one that was not
  pub level_new : (far next found : List ℕ) (n to : ℕ) → n < length requests → length far ≡ length requests
      → length next ≡ length requests → 0 < steps → number_at far n ≡ 0 → Contains frontier to
      → IsStepLeft requests left false to n
      → HasLevel requests left frontier steps (λ k. k ≡ n) far next found (set far n steps) (set next n to)
      (found ++ n ∷ [])
  level_new far next found n to lt fars nexts pos new c s =
      let in_far : n < length far = omega (arith, lt, fars) in
      let in_next : n < length next = omega (arith, lt, nexts) in
      let here : number_at (set far n steps) n ≡ steps = get_or-set_same far n steps 0 in_far in
      let at : number_at (set next n to) n ≡ to = get_or-set_same next n to 0 in_next in
      let some : 0 < number_at (set far n steps) n = omega (arith, here, pos) in
      record {
        far_same = length-set far n steps;
        next_same = length-set next n to;
        kept = λ k p. elim (cases_eq k n) [
          | inl e ↦ absurd (let o : number_at far k ≡ 0 = subst (λ (i : ℕ). number_at far i ≡ 0) (sym e) new in
              omega (arith, o, p))
          | inr other ↦ (get_or-set_other far n k steps 0 other, get_or-set_other next n k to 0 other)
        ];
        fresh = λ k e p. elim (cases_eq k n) [
          | inl is ↦ subst (λ (i : ℕ). (number_at (set far n steps) i ≡ steps) × Contains (found ++ n ∷ []) i
              × Contains frontier (number_at (set next n to) i)
              × IsStepLeft requests left false (number_at (set next n to) i) i) (sym is) (
                here,
                Contains-push found n,
                subst (Contains frontier) (sym at) c,
                subst (λ (j : ℕ). IsStepLeft requests left false j n) (sym at) s,
              )
          | inr other ↦ absurd (let o = get_or-set_other far n k steps 0 other in omega (arith, o, e, p))
        ];
        noted = λ k j e d t. subst (λ (i : ℕ). 0 < number_at (set far n steps) i) (sym e) some;
        found_on = λ k d. Contains-append_left found (n ∷ []) k d;
        found_only = λ k d. elim (Contains-push_cases found n k d) [
          | inl o ↦ inl o
          | inr e ↦ inr (subst (λ (i : ℕ). (i < length requests) × (0 < number_at (set far n steps) i)) e (lt, some))
        ];
        count =
            let down = unnoted_set far n steps in_far new pos in
            let long = length-append found (n ∷ []) in omega (arith, down, long);
      }

  -- some, and then others
  pub level_both : (S T U : ℕ → Type 0) → ((k : ℕ) → U k → S k ⊎ T k) → (a b c : List ℕ) (p q r : List ℕ)
      (us vs ws : List ℕ) → HasLevel requests left frontier steps S a p us b q vs
      → HasLevel requests left frontier steps T b q vs c r ws → HasLevel requests left frontier steps U a p us c r ws
  level_both S T U split a b c p q r us vs ws x y = record {
    far_same = y.far_same ∙ x.far_same;
    next_same = y.next_same ∙ x.next_same;
    kept = λ k o.
        let one = x.kept k o in
        let e = one.0 in
        let two = y.kept k (omega (arith, e, o)) in (two.0 ∙ one.0, two.1 ∙ one.1);
    fresh = λ k e o. elim (cases_lt 0 (number_at b k)) [
      | inl was ↦
          let one = x.fresh k e was in
          let two = y.kept k was in (
            two.0 ∙ one.0,
            y.found_on k one.1,
            subst (Contains frontier) (sym two.1) one.2,
            subst (λ (j : ℕ). IsStepLeft requests left false j k) (sym two.1) one.3,
          )
      | inr none ↦ y.fresh k (omega (arith, none)) o
    ];
    noted = λ k j u d s. elim (split k u) [
      | inl o ↦ (let m = x.noted k j o d s in let two = y.kept k m in let e = two.0 in omega (arith, e, m))
      | inr o ↦ y.noted k j o d s
    ];
    found_on = λ k d. y.found_on k (x.found_on k d);
    found_only = λ k d. elim (y.found_only k d) [
      | inl o ↦ elim (x.found_only k o) [
        | inl f ↦ inl f
        | inr f ↦ inr (f.0, (let m = f.1 in let two = y.kept k m in let e = two.0 in omega (arith, e, m)))
      ]
      | inr f ↦ inr f
    ];
    count = let m = x.count in let n = y.count in omega (arith, m, n);
  }

  -- the same numbers by another name
  pub level_as : (S T : ℕ → Type 0) → ((k : ℕ) → T k → S k) → (a b p q us vs : List ℕ)
      → HasLevel requests left frontier steps S a p us b q vs → HasLevel requests left frontier steps T a p us b q vs
  level_as S T f a b p q us vs x = record {
    far_same = x.far_same;
    next_same = x.next_same;
    kept = x.kept;
    fresh = x.fresh;
    noted = λ k j t d s. x.noted k j (f k t) d s;
    found_on = x.found_on;
    found_only = x.found_only;
    count = x.count;
  }

  -- those below a number, and then those that are it
  pub level_more : (n : ℕ) (a b c p q r us vs ws : List ℕ)
      → HasLevel requests left frontier steps (λ k. k < n) a p us b q vs
      → HasLevel requests left frontier steps (λ k. k ≡ n) b q vs c r ws
      → HasLevel requests left frontier steps (λ k. k < n + 1) a p us c r ws
  level_more n a b c p q r us vs ws x y =
      level_both (λ k. k < n) (λ k. k ≡ n) (λ k. k < n + 1)
      (λ k lt. elim (cases_eq k n) [ inl e ↦ inr e | inr other ↦ inl (omega (arith, lt, other)) ])
      a b c p q r us vs ws x y

-- ## All levels

module _ (requests : List Request) (left : List Bool) (end : ℕ) where
  -- nothing is noted, and the end alone is the frontier
  pub noting_begins : (far next frontier : List ℕ) → end < length requests → far ≡ replicate (length requests) 0
      → next ≡ replicate (length requests) 0 → frontier ≡ end ∷ []
      → AreNoted requests left end far next 1 frontier
  noting_begins far next frontier lt fars nexts is =
      let zero_of : (k : ℕ) → number_at far k ≡ 0 =
      λ k. ap (λ (xs : List ℕ). number_at xs k) fars ∙ no_number (length requests) k in
      record {
        far_count = ap length fars ∙ length-replicate (length requests) 0;
        next_count = ap length nexts ∙ length-replicate (length requests) 0;
        unmet = zero_of end;
        below = λ k. let e = zero_of k in omega (arith, e);
        nearer = λ k p. absurd (let e = zero_of k in omega (arith, e, p));
        least = λ n k few h. absurd (never n k few h);
        done = λ k j s near. elim near [
          | inl e ↦ inl (subst (λ (xs : List ℕ). Contains xs j) (sym is)
              (subst (Contains (end ∷ [])) (sym e) (Contains-push [] end)))
          | inr p ↦ absurd (let e = zero_of j in omega (arith, e, p))
        ];
        front = λ j c.
            let e : j ≡ end = only j (subst (λ (xs : List ℕ). Contains xs j) is c) in
            (subst (λ (i : ℕ). i < length requests) (sym e) lt, inl e);
      }
    where
      never : (n k : ℕ) → n < 1 → IsWithin requests left end n k → ⊥
      never zero k few h = h
      never (suc n) k few h = absurd (omega (arith, few))

      only : (j : ℕ) → Contains (end ∷ []) j → j ≡ end
      only j c = elim (Contains-push_cases [] end j c) [ inl d ↦ absurd (nobody j d) | inr e ↦ sym e ]

  module _ (far next : List ℕ) (steps : ℕ) (frontier : List ℕ) (are : AreNoted requests left end far next steps frontier)
    where
      pub in_range : (j : ℕ) → Contains frontier j → j < length requests
      in_range j c = (let f = are.front j c in f.0)

      -- one more level, where the end does not lead into the frontier
      module _ (new_far new_next found : List ℕ)
          (unled : (j : ℕ) → Contains frontier j → IsStepLeft requests left false j end → ⊥)
          (level : HasLevel requests left frontier steps (λ k. k < length requests) far next [] new_far new_next found)
        where
          grown : (k : ℕ) → 0 < number_at far k → 0 < number_at new_far k
          grown k p = let both = level.kept k p in let e = both.0 in omega (arith, e, p)

          off_end : number_at new_far end ≡ 0
          off_end = elim (cases_lt 0 (number_at new_far end)) [
            | inl p ↦ (let f = level.fresh end are.unmet p in absurd (unled (number_at new_next end) f.2 f.3))
            | inr none ↦ omega (arith, none)
          ]

          new_below : (k : ℕ) → number_at new_far k < steps + 1
          new_below k = elim (cases_lt 0 (number_at far k)) [
            | inl p ↦ (let both = level.kept k p in let e = both.0 in let lt = are.below k in omega (arith, e, lt))
            | inr none ↦ elim (cases_lt 0 (number_at new_far k)) [
              | inl p ↦ (let f = level.fresh k (omega (arith, none)) p in let e = f.0 in omega (arith, e))
              | inr zero_too ↦ omega (arith, zero_too)
            ]
          ]

          old_near : (j : ℕ) → (j ≡ end) ⊎ (0 < number_at far j) → (m : ℕ) → steps ≤ m
              → (j ≡ end) ⊎ ((0 < number_at new_far j) × (number_at new_far j < m))
          old_near j (inl e) m le = inl e
          old_near j (inr p) m le =
              let both = level.kept j p in
              let e = both.0 in
              let lt = are.below j in inr (omega (arith, e, p), omega (arith, e, lt, le))

          still_near : (j m : ℕ) → (j ≡ end) ⊎ ((0 < number_at far j) × (number_at far j < m))
              → (j ≡ end) ⊎ ((0 < number_at new_far j) × (number_at new_far j < m))
          still_near j m (inl e) = inl e
          still_near j m (inr (p, lt)) =
              let both = level.kept j p in let e = both.0 in inr (omega (arith, e, p), omega (arith, e, lt))

          new_nearer : (k : ℕ) → 0 < number_at new_far k → IsNearer requests end new_far new_next k
          new_nearer k p = elim (cases_lt 0 (number_at far k)) [
            | inl was ↦
                let both = level.kept k was in
                let o = are.nearer k was in
                record {
                  step = subst (λ (j : ℕ). IsStep requests false j k) (sym both.1) o.step;
                  near = subst (λ (j : ℕ). (j ≡ end) ⊎ ((0 < number_at new_far j) × (number_at new_far j
                      < number_at new_far k))) (sym both.1)
                      (subst (λ (m : ℕ). (number_at next k ≡ end) ⊎ ((0 < number_at new_far (number_at next k))
                      × (number_at new_far (number_at next k) < m))) (sym both.0)
                      (still_near (number_at next k) (number_at far k) o.near));
                }
            | inr none ↦
                let f = level.fresh k (omega (arith, none)) p in
                let e = f.0 in
                let front = are.front (number_at new_next k) f.2 in
                record {
                  step = (let s = f.3 in s.step);
                  near = old_near (number_at new_next k) front.1 (number_at new_far k) (omega (arith, e));
                }
          ]

          at_level : (n k : ℕ) → n ≡ steps → IsWithin requests left end n k
              → (0 < number_at new_far k) × (number_at new_far k ≤ n)
          at_level zero k e h = absurd h
          at_level (suc n) k e (j, s, near) =
              let p : 0 < number_at new_far k = noted_now (are.done k j s (known near)) in
              let lt = new_below k in (p, omega (arith, lt, e))
            where
              known : (j ≡ end) ⊎ IsWithin requests left end n j → (j ≡ end) ⊎ (0 < number_at far j)
              known (inl is) = inl is
              known (inr h) = let l = are.least n j (omega (arith, e)) h in inr l.0

              noted_now : Contains frontier j ⊎ (0 < number_at far k) → 0 < number_at new_far k
              noted_now (inl c) = level.noted k j (let t = s.step in t.other) c s
              noted_now (inr p) = grown k p

          new_least : (n k : ℕ) → n < steps + 1 → IsWithin requests left end n k
              → (0 < number_at new_far k) × (number_at new_far k ≤ n)
          new_least n k few h = elim (cases_lt n steps) [
            | inl less ↦
                let l = are.least n k less h in
                let both = level.kept k l.0 in
                let e = both.0 in let p = l.0 in let le = l.1 in (omega (arith, e, p), omega (arith, e, le))
            | inr most ↦ at_level n k (omega (arith, few, most)) h
          ]

          new_done : (k j : ℕ) → IsStepLeft requests left false j k → (j ≡ end) ⊎ (0 < number_at new_far j)
              → Contains found j ⊎ (0 < number_at new_far k)
          new_done k j s (inl e) = by_old k j s (inl e)
            where
              by_old : (k j : ℕ) → IsStepLeft requests left false j k → (j ≡ end) ⊎ (0 < number_at far j)
                  → Contains found j ⊎ (0 < number_at new_far k)
              by_old k j s near = elim (are.done k j s near) [
                | inl c ↦ inr (level.noted k j (let t = s.step in t.other) c s)
                | inr p ↦ inr (grown k p)
              ]
          new_done k j s (inr p) = elim (cases_lt 0 (number_at far j)) [
            | inl was ↦ elim (are.done k j s (inr was)) [
              | inl c ↦ inr (level.noted k j (let t = s.step in t.other) c s)
              | inr q ↦ inr (grown k q)
            ]
            | inr none ↦ (let f = level.fresh j (omega (arith, none)) p in inl f.1)
          ]

          pub noting_goes_on : AreNoted requests left end new_far new_next (steps + 1) found
          noting_goes_on = record {
            far_count = level.far_same ∙ are.far_count;
            next_count = level.next_same ∙ are.next_count;
            unmet = off_end;
            below = new_below;
            nearer = new_nearer;
            least = new_least;
            done = new_done;
            front = λ j c. elim (level.found_only j c) [
              | inl d ↦ absurd (nobody j d)
              | inr both ↦ (both.0, inr both.1)
            ];
          }

      -- the end leads into the frontier
      pub noting_meets : end < length requests → (to : ℕ) → Contains frontier to → IsStepLeft requests left false to end
          → AreMeasured requests left end (set far end steps) (set next end to)
      noting_meets lt to c s =
          let in_far : end < length far = (let e = are.far_count in omega (arith, lt, e)) in
          let in_next : end < length next = (let e = are.next_count in omega (arith, lt, e)) in
          let here : number_at (set far end steps) end ≡ steps = get_or-set_same far end steps 0 in_far in
          let at : number_at (set next end to) end ≡ to = get_or-set_same next end to 0 in_next in
          let pos = are.below end in
          record {
            far_count = length-set far end steps ∙ are.far_count;
            next_count = length-set next end to ∙ are.next_count;
            nearer = λ k p. elim (cases_eq k end) [
              | inl e ↦ subst (IsNearer requests end (set far end steps) (set next end to)) (sym e) (record {
                step = subst (λ (j : ℕ). IsStep requests false j end) (sym at) s.step;
                near = subst (λ (j : ℕ). (j ≡ end) ⊎ ((0 < number_at (set far end steps) j)
                    × (number_at (set far end steps) j < number_at (set far end steps) end))) (sym at)
                    (subst (λ (m : ℕ). (to ≡ end) ⊎ ((0 < number_at (set far end steps) to)
                    × (number_at (set far end steps) to < m))) (sym here)
                    (first_near (let f = are.front to c in f.1)));
              })
              | inr other ↦
                  let same = get_or-set_other far end k steps 0 other in
                  let next_same = get_or-set_other next end k to 0 other in
                  let o = are.nearer k (omega (arith, same, p)) in
                  record {
                    step = subst (λ (j : ℕ). IsStep requests false j k) (sym next_same) o.step;
                    near = subst (λ (j : ℕ). (j ≡ end) ⊎ ((0 < number_at (set far end steps) j)
                        × (number_at (set far end steps) j < number_at (set far end steps) k))) (sym next_same)
                        (subst (λ (m : ℕ). (number_at next k ≡ end)
                        ⊎ ((0 < number_at (set far end steps) (number_at next k))
                        × (number_at (set far end steps) (number_at next k) < m))) (sym same)
                        (other_near (number_at next k) (number_at far k) o.near));
                  }
            ];
            least = λ n h. elim (cases_lt n steps) [
              | inl few ↦ (let l = are.least n end few h in let p = l.0 in let e = are.unmet in absurd (omega (arith, p, e)))
              | inr most ↦ (omega (arith, here, pos), omega (arith, here, most))
            ];
          }
        where
          by_other : (j m : ℕ) → 0 < number_at far j → number_at far j < m → (j ≡ end) ⊎ (j ≡ end → ⊥)
              → (j ≡ end) ⊎ ((0 < number_at (set far end steps) j) × (number_at (set far end steps) j < m))
          by_other j m p less (inl e) = inl e
          by_other j m p less (inr other) =
              let same = get_or-set_other far end j steps 0 other in
              inr (omega (arith, same, p), omega (arith, same, less))

          other_near : (j m : ℕ) → (j ≡ end) ⊎ ((0 < number_at far j) × (number_at far j < m))
              → (j ≡ end) ⊎ ((0 < number_at (set far end steps) j) × (number_at (set far end steps) j < m))
          other_near j m (inl e) = inl e
          other_near j m (inr (p, less)) = by_other j m p less (cases_eq j end)

          first_near : (to ≡ end) ⊎ (0 < number_at far to)
              → (to ≡ end) ⊎ ((0 < number_at (set far end steps) to) × (number_at (set far end steps) to < steps))
          first_near (inl e) = inl e
          first_near (inr p) = by_other to steps p (are.below to) (cases_eq to end)

      -- nothing leads on to what is noted
      pub noting_ends : frontier ≡ [] → AreMeasured requests left end far next
      noting_ends empty = record {
        far_count = are.far_count;
        next_count = are.next_count;
        nearer = are.nearer;
        least = λ n h. absurd (let p = all n end h in let e = are.unmet in omega (arith, p, e));
      }
        where
          by_step : (k j : ℕ) → IsStepLeft requests left false j k → (j ≡ end) ⊎ (0 < number_at far j)
              → 0 < number_at far k
          by_step k j s near = elim (are.done k j s near) [
            | inl c ↦ absurd (nobody j (subst (λ (xs : List ℕ). Contains xs j) empty c))
            | inr p ↦ p
          ]

          all : (n k : ℕ) → IsWithin requests left end n k → 0 < number_at far k
          all zero k h = absurd h
          all (suc n) k (j, s, inl e) = by_step k j s (inl e)
          all (suc n) k (j, s, inr h) = by_step k j s (inr (all n j h))
