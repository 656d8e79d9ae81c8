-- Lists that are closed under rules: what some elements give belongs to them.
use Rattle.std.specs.Prelude.{◌≡◌, ◌⊎◌, ℕ, zero, suc, ◌≤◌, List, [], ◌∷◌, length, Contains}
use Rattle.std.proofs.Common.{refl, sym, subst, inl, inr, arith}
use Rattle.region_cells.specs.flow_graph.Graphs.{Among}
use Rattle.configured_laws.proofs.Lists.{first_or, behind, first, none_in}
use Rattle.configured_laws.proofs.Choices.{Either}

-- Rules, each with the fact that it gives where it is met by the facts so far; facts that it gives have a property where
-- those so far have.
module _ {R X : Type 0} (fact : R → X) (Met : List X → R → Type 0)
    (met : (xs : List X) (r : R) → Either (Met xs r)) (all : List R) (P : X → Type 0)
    (sound : (xs : List X) (r : R) → Among r all → ((z : X) → Contains xs z → P z) → Met xs r → P (fact r)) where
  -- a rule that is met, and the others
  record IsPicked (xs : List X) (rules : List R) (rule : R) (others : List R) : Type 0 where
    meets : Met xs rule
    fewer : suc (length others) ≡ length rules
    there : Among rule rules
    kept : (r : R) → Among r others → Among r rules
    split : (r : R) → Among r rules → (rule ≡ r) ⊎ Among r others

  pick : (xs : List X) (rules : List R)
      → ((rule : R) × (others : List R) × IsPicked xs rules rule others)
      ⊎ ((r : R) → Among r rules → Met xs r → ⊥)
  pick xs [] = inr (λ r a m. a)
  pick xs (r ∷ rules) = elim (met xs r) [
    | inl m ↦ inl (
      r,
      rules,
      record { meets = m; fewer = refl; there = inl refl; kept = λ s a. inr a; split = λ s a. a },
    )
    | inr not ↦ elim (pick xs rules) [
      | inl (rule, others, is) ↦ inl (
        rule,
        r ∷ others,
        record {
          meets = is.meets;
          fewer = (let f = is.fewer in omega (arith, f));
          there = inr is.there;
          kept = λ s a. elim a [
            | inl e ↦ inl e
            | inr b ↦ inr (is.kept s b)
          ];
          split = λ s a. elim a [
            | inl e ↦ inr (inl e)
            | inr b ↦ elim (is.split s b) [
              | inl e ↦ inl e
              | inr c ↦ inr (inr c)
            ]
          ];
        },
      )
      | inr none ↦
          inr (λ s a m. elim a [
            | inl e ↦ not (subst (Met xs) (sym e) m)
            | inr b ↦ none s b m
          ])
    ]
  ]

  -- the facts have the property, and each rule that is met by them gives one of them
  pub record IsClosed (xs : List X) : Type 0 where
    pub has : (z : X) → Contains xs z → P z
    pub closed : (r : R) → Among r all → Met xs r → Contains xs (fact r)

  -- a rule has given its fact, unless it is left
  abbrev AreGiven : List R → List X → Type 0
  AreGiven rules xs = (r : R) → Among r all → Among r rules ⊎ Contains xs (fact r)

  no_more : (rules : List R) (xs : List X) → ((r : R) → Among r rules → Met xs r → ⊥) → AreGiven rules xs
      → ((z : X) → Contains xs z → P z) → IsClosed xs
  no_more rules xs none given has = record {
    has = has;
    closed = λ r a m. elim (given r a) [
      | inl b ↦ absurd (none r b m)
      | inr c ↦ c
    ];
  }

  one_more : (xs : List X) (rules others : List R) (rule : R) → IsPicked xs rules rule others → AreGiven rules xs
      → AreGiven others (fact rule ∷ xs)
  one_more xs rules others rule is given r a = elim (given r a) [
    | inr c ↦ inr (behind (fact rule) xs (fact r) c)
    | inl b ↦ elim (is.split r b) [
      | inr o ↦ inl o
      | inl e ↦ inr (subst (λ (s : R). Contains (fact rule ∷ xs) (fact s)) e (first (fact rule) xs))
    ]
  ]

  closing : (count : ℕ) (rules : List R) (xs : List X) → length rules ≤ count
      → ((r : R) → Among r rules → Among r all) → AreGiven rules xs → ((z : X) → Contains xs z → P z)
      → (ys : List X) × IsClosed ys
  closing zero rules xs few own given has = elim (pick xs rules) [
    | inr none ↦ (xs, no_more rules xs none given has)
    | inl (rule, others, is) ↦ absurd (let fewer = is.fewer in omega (arith, fewer, few))
  ]
  closing (suc count) rules xs few own given has = elim (pick xs rules) [
    | inr none ↦ (xs, no_more rules xs none given has)
    | inl (rule, others, is) ↦
        (let fewer = is.fewer in
        let holds : P (fact rule) = sound xs rule (own rule is.there) has is.meets in
        closing count others (fact rule ∷ xs) (omega (arith, fewer, few)) (λ r a. own r (is.kept r a))
        (one_more xs rules others rule is given)
        (λ z c. elim (first_or (fact rule) xs z c) [
          | inl e ↦ subst P e holds
          | inr d ↦ has z d
        ]))
  ]

  pub closure : (ys : List X) × IsClosed ys
  closure = closing (length all) all [] (omega arith) (λ r a. a) (λ r a. inl a) (λ z c. absurd (none_in z c))
