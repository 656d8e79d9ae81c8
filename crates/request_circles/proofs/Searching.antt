-- The search for the requests that one reaches.
use Rattle.std.proofs.Common.{◌≡◌, ◌⊎◌, ℕ, ◌+◌, ◌<◌, refl, sym, subst, ◌∙◌, inl, inr, Bool, true, false, List, [], ◌∷◌}
use Rattle.std.proofs.Common.{◌++◌, length, get_or, set, arith}
use Rattle.std.specs.Prelude.{Contains, Option, Some, None, MatchOption}
use Rattle.std.proofs.lemmas.Bool.{cases_eq}
use Rattle.std.proofs.lemmas.List.{length-append, length-set}
use Rattle.std.proofs.lemmas.List.Elements.{Contains-append_left, Contains-push, Contains-push_cases}
use Rattle.tm_soundness.specs.Known.{Chain, one_step, more_steps}
use Rattle.request_circles.specs.declared.requests.Request.{Request}
use Rattle.request_circles.specs.reading.Steps.{IsMarked, IsStepLeft}
use Rattle.request_circles.specs.reading.Searches.{HasVisited, IsSearching, AreReached}
use Rattle.request_circles.proofs.Chains.{joined}
use Rattle.request_circles.proofs.Marks.{marked_within, set_here, set_kept, set_only, count_set}

-- ## What is noted

-- nothing that was not noted
pub visits_none : (T : ℕ → Type 0) (marks : List Bool) (waiting : List ℕ) → ((k : ℕ) → T k → IsMarked marks k)
    → HasVisited T marks marks waiting waiting
visits_none T marks waiting known = record {
  same = refl;
  kept = λ k m. m;
  next = known;
  only = λ k m. inl m;
  wait_on = λ k c. c;
  wait_only = λ k c. inl c;
  count = refl;
}

-- one that was not
pub visits_new : (marks : List Bool) (waiting : List ℕ) (n : ℕ) → n < length marks → get_or marks n false ≡ false
    → HasVisited (λ k. k ≡ n) marks (set marks n true) waiting (waiting ++ n ∷ [])
visits_new marks waiting n lt new = record {
  same = length-set marks n true;
  kept = λ k m. set_kept marks n k m;
  next = λ k e. subst (λ j. IsMarked (set marks n true) j) (sym e) (set_here marks n lt);
  only = λ k m. elim (set_only marks n k m) [
    | inl o ↦ inl o
    | inr e ↦ inr (e, subst (λ j. Contains (waiting ++ n ∷ []) j) (sym e) (Contains-push waiting n))
  ];
  wait_on = λ k c. Contains-append_left waiting (n ∷ []) k c;
  wait_only = λ k c. elim (Contains-push_cases waiting n k c) [ inl d ↦ inl d | inr e ↦ inr (sym e) ];
  count =
      let more = count_set marks n lt new in
      let longer = length-append waiting (n ∷ []) in omega (arith, more, longer);
}

-- some, and then others
pub visits_both : (S T U : ℕ → Type 0) → ((k : ℕ) → U k → S k ⊎ T k) → ((k : ℕ) → S k → U k) → ((k : ℕ) → T k → U k)
    → (a b c : List Bool) (us vs ws : List ℕ) → HasVisited S a b us vs → HasVisited T b c vs ws
    → HasVisited U a c us ws
visits_both S T U split one other a b c us vs ws p q = record {
  same = q.same ∙ p.same;
  kept = λ k m. q.kept k (p.kept k m);
  next = λ k u. elim (split k u) [ inl s ↦ q.kept k (p.next k s) | inr t ↦ q.next k t ];
  only = λ k m. elim (q.only k m) [
    | inl o ↦ elim (p.only k o) [ inl n ↦ inl n | inr n ↦ inr (one k n.0, q.wait_on k n.1) ]
    | inr o ↦ inr (other k o.0, o.1)
  ];
  wait_on = λ k i. q.wait_on k (p.wait_on k i);
  wait_only = λ k i. elim (q.wait_only k i) [
    | inl o ↦ elim (p.wait_only k o) [ inl n ↦ inl n | inr n ↦ inr (one k n) ]
    | inr o ↦ inr (other k o)
  ];
  count = let x = p.count in let y = q.count in omega (arith, x, y);
}

-- the same numbers by another name
pub visits_as : (S T : ℕ → Type 0) → ((k : ℕ) → S k → T k) → ((k : ℕ) → T k → S k) → (a b : List Bool)
    (us vs : List ℕ) → HasVisited S a b us vs → HasVisited T a b us vs
visits_as S T to back a b us vs p = record {
  same = p.same;
  kept = p.kept;
  next = λ k t. p.next k (back k t);
  only = λ k m. elim (p.only k m) [ inl o ↦ inl o | inr n ↦ inr (to k n.0, n.1) ];
  wait_on = p.wait_on;
  wait_only = λ k i. elim (p.wait_only k i) [ inl o ↦ inl o | inr n ↦ inr (to k n) ];
  count = p.count;
}

-- those below a number, and then those that are it
pub visits_more : (S : ℕ → Type 0) (n : ℕ) (a b c : List Bool) (us vs ws : List ℕ)
    → HasVisited (λ k. (k < n) × S k) a b us vs → HasVisited (λ k. (k ≡ n) × S k) b c vs ws
    → HasVisited (λ k. (k < n + 1) × S k) a c us ws
visits_more S n a b c us vs ws p q =
    visits_both (λ k. (k < n) × S k) (λ k. (k ≡ n) × S k) (λ k. (k < n + 1) × S k)
    (λ k u. elim (cases_eq k n) [
      | inl e ↦ inr (e, u.1)
      | inr other ↦ inl (let lt = u.0 in omega (arith, lt, other), u.1)
    ])
    (λ k s. (let lt = s.0 in omega (arith, lt), s.1)) (λ k t. (let e = t.0 in omega (arith, e), t.1)) a b c us vs ws p q

-- ## The search

-- a list from which nothing can be taken
pub empty_by : (ws : List ℕ) (n : ℕ) (Q : Type 0) (P : ℕ → Type 0) (r : Option ℕ) → ((x : ℕ) → r ≡ Some x → ⊥)
    → MatchOption r ((n ≡ 0) × Q) P → n ≡ length ws → ws ≡ []
empty_by ws n Q P (Some x) no_more m e = absurd (no_more x refl)
empty_by [] n Q P None no_more m e = refl
empty_by (w ∷ ws) n Q P None no_more m e = absurd (omega (arith, m.0, e))

nothing : (ws : List ℕ) (k : ℕ) → ws ≡ [] → Contains ws k → ⊥
nothing ws k e c = let none : Contains [] k = subst (λ xs. Contains xs k) e c in omega (arith, none.1)

module _ (requests : List Request) (left : List Bool) (ahead : Bool) (from : ℕ) where
  abbrev Step : ℕ → ℕ → Type 0
  Step = IsStepLeft requests left ahead

  -- only the first one waits
  pub search_begins : (reached : List Bool) → length reached ≡ length requests
      → ((k : ℕ) → IsMarked reached k → ⊥) → (waiting : List ℕ) → waiting ≡ from ∷ []
      → IsSearching requests left ahead from reached waiting
  search_begins reached same none waiting is = record {
    same = same;
    sound = λ k m. absurd (none k m);
    known = λ k c. elim (Contains-push_cases [] from k (subst (λ ws. Contains ws k) is c)) [
      | inl d ↦ absurd (nothing [] k refl d)
      | inr e ↦ inl (sym e)
    ];
    closed = λ k h. elim h [
      | inl e ↦ inl (subst (λ ws. Contains ws k) (sym is)
          (subst (λ j. Contains (from ∷ []) j) (sym e) (Contains-push [] from)))
      | inr m ↦ absurd (none k m)
    ];
  }

  -- those that are a step away from a waiting one were noted
  pub search_goes_on : (old new : List Bool) (ws vs : List ℕ) (n : ℕ)
      → IsSearching requests left ahead from old (ws ++ n ∷ []) → HasVisited (Step n) old new ws vs
      → IsSearching requests left ahead from new vs
  search_goes_on old new ws vs n s v = record {
    same = v.same ∙ s.same;
    sound = λ k m. elim (v.only k m) [ inl o ↦ s.sound k o | inr p ↦ over k p.0 (s.known n (Contains-push ws n)) ];
    known = λ k c. elim (v.wait_only k c) [
      | inl o ↦ still k (s.known k (Contains-append_left ws (n ∷ []) k o))
      | inr p ↦ inr (v.next k p)
    ];
    closed = λ k h. elim h [
      | inl e ↦ closes k (s.closed k (inl e))
      | inr m ↦ elim (v.only k m) [
        | inl o ↦ closes k (s.closed k (inr o))
        | inr p ↦ inl p.1
      ]
    ];
  }
    where
      over : (k : ℕ) → Step n k → (n ≡ from) ⊎ IsMarked old n → Chain Step from k
      over k h (inl e) = one_step (subst (λ j. Step j k) e h)
      over k h (inr m) = joined Step from n k (s.sound n m) (one_step h)

      still : (k : ℕ) → (k ≡ from) ⊎ IsMarked old k → (k ≡ from) ⊎ IsMarked new k
      still k (inl e) = inl e
      still k (inr m) = inr (v.kept k m)

      closes : (k : ℕ) → Contains (ws ++ n ∷ []) k ⊎ ((j : ℕ) → Step k j → IsMarked old j)
          → Contains vs k ⊎ ((j : ℕ) → Step k j → IsMarked new j)
      closes k (inl c) = elim (Contains-push_cases ws n k c) [
        | inl d ↦ inl (v.wait_on k d)
        | inr e ↦ inr (λ j h. v.next j (subst (λ i. Step i j) (sym e) h))
      ]
      closes k (inr all) = inr (λ j h. v.kept j (all j h))

  -- a waiting one has a number
  pub waiting_within : (reached : List Bool) (ws : List ℕ) (n : ℕ)
      → IsSearching requests left ahead from reached (ws ++ n ∷ []) → from < length requests → n < length requests
  waiting_within reached ws n s lt = elim (s.known n (Contains-push ws n)) [
    | inl e ↦ subst (λ k. k < length requests) (sym e) lt
    | inr m ↦ subst (λ k. n < k) s.same (marked_within reached n m)
  ]

  -- nothing waits: what is reached is noted
  pub search_ends : (reached : List Bool) (ws : List ℕ) → IsSearching requests left ahead from reached ws → ws ≡ []
      → AreReached requests left ahead from reached
  search_ends reached ws s empty = record { same = s.same; exact = λ k. (s.sound k, λ h. all from k (inl refl) h) }
    where
      steps : (k : ℕ) → (k ≡ from) ⊎ IsMarked reached k → (j : ℕ) → Step k j → IsMarked reached j
      steps k h = elim (s.closed k h) [ inl c ↦ absurd (nothing ws k empty c) | inr all ↦ all ]

      all : (a k : ℕ) → (a ≡ from) ⊎ IsMarked reached a → Chain Step a k → IsMarked reached k
      all a k h (one_step t) = steps a h k t
      all a k h (more_steps {b = d} t rest) = all d k (inr (steps a h d t)) rest
