-- Of the declarations of a name one decides which is told: the laws of yielding, and what is kept step by step.
use Rattle.std.proofs.Common.{◌≡◌, refl, sym, ap, ◌∙◌, subst, ℕ, ◌+◌, ◌<◌, ◌≤◌, ◌⊎◌, inl, inr, Bool, true, false, cond, List, Option, Some, None, get_or, arith}
use Rattle.std.proofs.lemmas.Bool.{cases_lt}
use Rattle.std.proofs.lemmas.Bool.Decides.{nat_tests}
use borrow.Author.Count.{below_more}
use Rattle.tm_terms.specs.declared.places.Place.{Place}
use Rattle.tm_terms.specs.declared.tokens.Name.{Name}
use Rattle.tm_terms.specs.Names.{is_same_name}
use Rattle.text_choices.specs.declared.reserved.Declared.{Declared as CodeDeclared}
use Rattle.text_choices.specs.Texts.{Declared, IsPlaceBefore}
use Rattle.text_choices.specs.reading.Declared.{declared_of, Yields}
use Rattle.text_choices.specs.reading.Foremost.{no_declared, IsKept, IsJoined, AddsOne, IsForemost, AreForemost}
use Rattle.text_choices.proofs.Named.{same_name}

-- ## Places

before_later : (p q r : Place) → IsPlaceBefore p q → IsPlaceBefore q r → IsPlaceBefore p r
before_later p q r (inl a) (inl b) = inl (omega (arith, a, b))
before_later p q r (inl a) (inr b) = inl (omega (arith, a, b.0))
before_later p q r (inr a) (inl b) = inl (omega (arith, a.0, b))
before_later p q r (inr a) (inr b) = inr (a.0 ∙ b.0, omega (arith, a.1, b.1))

same_place : (p q : Place) → p.line ≡ q.line → p.col ≡ q.col → p ≡ q
same_place p q l c =
    let F : ℕ → ℕ → Place = λ x y. record { line = x; col = y } in
    ap (λ x. F x p.col) l ∙ ap (λ y. F q.line y) c

before_or : (p q : Place) → IsPlaceBefore p q ⊎ ((p ≡ q) ⊎ IsPlaceBefore q p)
before_or p q = by_line (cases_lt p.line q.line) (cases_lt q.line p.line)
  where
    by_col : p.line ≡ q.line → (p.col < q.col) ⊎ (q.col ≤ p.col) → (q.col < p.col) ⊎ (p.col ≤ q.col)
        → IsPlaceBefore p q ⊎ ((p ≡ q) ⊎ IsPlaceBefore q p)
    by_col e (inl a) b = inl (inr (e, a))
    by_col e (inr a) (inl b) = inr (inr (inr (sym e, b)))
    by_col e (inr a) (inr b) = let c : p.col ≡ q.col = omega (arith, a, b) in inr (inl (same_place p q e c))

    by_line : (p.line < q.line) ⊎ (q.line ≤ p.line) → (q.line < p.line) ⊎ (p.line ≤ q.line)
        → IsPlaceBefore p q ⊎ ((p ≡ q) ⊎ IsPlaceBefore q p)
    by_line (inl a) b = inl (inl a)
    by_line (inr a) (inl b) = inr (inr (inl b))
    by_line (inr a) (inr b) =
        let e : p.line ≡ q.line = omega (arith, a, b) in
        by_col e (cases_lt p.col q.col) (cases_lt q.col p.col)

-- ## Yielding

same_declared : (one other : Declared) → one.name ≡ other.name → one.place ≡ other.place → one.defined ≡ other.defined
    → one.internal ≡ other.internal → one ≡ other
same_declared one other n p d i =
    let F : Name → Place → Bool → Bool → Declared = λ a b c e. record { name = a; place = b; defined = c; internal = e } in
    ap (λ x. F x one.place one.defined one.internal) n
    ∙ ap (λ x. F other.name x one.defined one.internal) p
    ∙ ap (λ x. F other.name other.place x one.internal) d
    ∙ ap (λ x. F other.name other.place other.defined x) i

-- of two that are not static one yields to the other
one_yields : (one other : Declared) → one.name ≡ other.name → one.internal ≡ false → other.internal ≡ false
    → Yields one other ⊎ Yields other one
one_yields one other n i j = by_defined one.defined refl other.defined refl
  where
    by_place : one.defined ≡ other.defined
        → IsPlaceBefore one.place other.place ⊎ ((one.place ≡ other.place) ⊎ IsPlaceBefore other.place one.place)
        → Yields one other ⊎ Yields other one
    by_place s (inl h) = inl (λ _. (j, (λ _. inr h), (λ t. s ∙ t)))
    by_place s (inr (inl h)) =
        let same : other ≡ one = same_declared other one (sym n) (sym h) (sym s) (j ∙ sym i) in
        inl (λ _. (j, (λ _. inl same), (λ t. s ∙ t)))
    by_place s (inr (inr h)) = inr (λ _. (i, (λ _. inr h), (λ t. sym s ∙ t)))

    by_defined : (a : Bool) → one.defined ≡ a → (b : Bool) → other.defined ≡ b → Yields one other ⊎ Yields other one
    by_defined true e true f = by_place (e ∙ sym f) (before_or one.place other.place)
    by_defined false e false f = by_place (e ∙ sym f) (before_or one.place other.place)
    by_defined true e false f = inl (λ _. (j, (λ s. absurd cc), (λ t. e)))
    by_defined false e true f = inr (λ _. (i, (λ s. absurd cc), (λ t. f)))

-- what yields to one yields to what that one yields to
yields_on : (it one other : Declared) → it.name ≡ one.name → one.name ≡ other.name → Yields it one → Yields one other
    → Yields it other
yields_on it one other n m h k = λ _. (b.0, (λ s. joined s), (λ t. a.2 (b.2 t)))
  where
    a : (one.internal ≡ false) × (one.defined ≡ it.defined → (one ≡ it) ⊎ IsPlaceBefore it.place one.place)
        × (one.defined ≡ true → it.defined ≡ true)
    a = h (sym n)

    b : (other.internal ≡ false) × (other.defined ≡ one.defined → (other ≡ one) ⊎ IsPlaceBefore one.place other.place)
        × (other.defined ≡ true → one.defined ≡ true)
    b = k (sym m)

    by_defined : other.defined ≡ it.defined → (x : Bool) → it.defined ≡ x → (y : Bool) → one.defined ≡ y
        → one.defined ≡ it.defined
    by_defined s true e true f = f ∙ sym e
    by_defined s false e false f = f ∙ sym e
    by_defined s true e false f = let t : one.defined ≡ true = b.2 (s ∙ e) in absurd cc
    by_defined s false e true f = let t : it.defined ≡ true = a.2 f in absurd cc

    both : (one ≡ it) ⊎ IsPlaceBefore it.place one.place → (other ≡ one) ⊎ IsPlaceBefore one.place other.place
        → (other ≡ it) ⊎ IsPlaceBefore it.place other.place
    both (inl x) (inl y) = inl (y ∙ x)
    both (inl x) (inr y) = inr (subst (λ (z : Declared). IsPlaceBefore z.place other.place) x y)
    both (inr x) (inl y) = inr (subst (λ (z : Declared). IsPlaceBefore it.place z.place) (sym y) x)
    both (inr x) (inr y) = inr (before_later it.place one.place other.place x y)

    joined : other.defined ≡ it.defined → (other ≡ it) ⊎ IsPlaceBefore it.place other.place
    joined s =
        let d : one.defined ≡ it.defined = by_defined s it.defined refl one.defined refl in
        both (a.1 d) (b.1 (s ∙ sym d))

-- ## Which one is kept

pub kept_static : (one other : Declared) → one.internal ≡ true → IsKept one other one
kept_static one other i = record {
  named = λ n. refl;
  decides = λ n it m. ((λ h. (h, let a = (h (sym m)).0 in absurd cc)), (λ p. p.0));
}

pub kept_first : (one other : Declared) → Yields one other → IsKept one other one
kept_first one other k = record {
  named = λ n. refl;
  decides = λ n it m. ((λ h. (h, yields_on it one other m n h k)), (λ p. p.0));
}

pub kept_other : (one other : Declared) → one.internal ≡ false → (Yields one other → ⊥) → IsKept one other other
kept_other one other i never = record {
  named = λ n. sym n;
  decides = λ n it m. ((λ h. (back n it m h, h)), (λ p. p.1));
}
  where
    by : (n : one.name ≡ other.name) (it : Declared) → it.name ≡ one.name → Yields it other
        → Yields one other ⊎ Yields other one → Yields it one
    by n it m h (inl k) = absurd (never k)
    by n it m h (inr k) = yields_on it other one (m ∙ n) (sym n) h k

    back : (n : one.name ≡ other.name) (it : Declared) → it.name ≡ one.name → Yields it other → Yields it one
    back n it m h = by n it m h (one_yields one other n i (h (sym (m ∙ n))).0)

-- ## Step by step

same_itself : (n : Name) → is_same_name n n ≡ true
same_itself n = grind (arith, nat_tests)

module _ (declared : List CodeDeclared) where
  abbrev Below : Declared → ℕ → Type 0
  Below it n = (k : ℕ) → k < n → Yields it (declared_of (get_or declared k no_declared))

  below_here : (it : Declared) (n : ℕ) → Below it n → Yields it (declared_of (get_or declared n no_declared)) → Below it (n + 1)
  below_here it n = below_more (λ k. Yields it (declared_of (get_or declared k no_declared))) n

  -- a declaration of another name
  passed : (n : ℕ) (name : Name) (it : CodeDeclared) (kept : Option CodeDeclared) → it ≡ get_or declared n no_declared
      → (it.name ≡ name → ⊥) → IsForemost declared n name kept → IsForemost declared (n + 1) name kept
  passed n name it kept is other h = record {
    named = h.named;
    decides = λ x m. (
      (λ y. below_here x n ((h.decides x m).0 y) (λ e. absurd (other (ap (λ (d : CodeDeclared). d.name) is ∙ e ∙ m)))),
      (λ all. (h.decides x m).1 (λ k less. all k (omega (arith, less)))),
    );
  }

  -- one of the name, where there is none so far, or one that is kept
  joined : (n : ℕ) (name : Name) (it kept : CodeDeclared) (o : Option CodeDeclared) → it ≡ get_or declared n no_declared
      → it.name ≡ name → IsForemost declared n name o → IsJoined o it kept → IsForemost declared (n + 1) name (Some kept)
  joined n name it kept None is same h j = record {
    named = λ d e. let f : kept ≡ d = cc in ap (λ (x : CodeDeclared). x.name) (sym f ∙ j) ∙ same;
    decides = λ x m. (
      (λ y. below_here x n ((h.decides x m).0 tt) (subst (λ d. Yields x (declared_of d)) (j ∙ is) y)),
      (λ all. subst (λ d. Yields x (declared_of d)) (sym (j ∙ is)) (all n (omega arith))),
    );
  }
  joined n name it kept (Some other) is same h j =
      let of : other.name ≡ name = h.named other refl in
      let alike : other.name ≡ it.name = of ∙ sym same in record {
        named = λ d e. let f : kept ≡ d = cc in ap (λ (x : CodeDeclared). x.name) (sym f) ∙ j.named alike ∙ of;
        decides = λ x m. (
          (λ y.
              let p = (j.decides alike x (m ∙ sym of)).0 y in
              below_here x n ((h.decides x m).0 p.0) (subst (λ d. Yields x (declared_of d)) is p.1)),
          (λ all. (j.decides alike x (m ∙ sym of)).1 (
            (h.decides x m).1 (λ k less. all k (omega (arith, less))),
            subst (λ d. Yields x (declared_of d)) (sym is) (all n (omega arith)),
          )),
        );
      }

  pub foremost_more : (n : ℕ) (it : CodeDeclared) (before behind : Name → Option CodeDeclared)
      → it ≡ get_or declared n no_declared → AddsOne before behind it → AreForemost declared n before
      → AreForemost declared (n + 1) behind
  foremost_more n it before behind is adds h name = by_name (is_same_name it.name name) refl
    where
      by_name : (b : Bool) → is_same_name it.name name ≡ b → IsForemost declared (n + 1) name (behind name)
      by_name true e =
          let same : it.name ≡ name = same_name it.name name e in
          let put : behind name ≡ Some adds.kept = adds.put name ∙ ap (λ b. cond b (Some adds.kept) (before name)) e in
          subst (λ o. IsForemost declared (n + 1) name o) (sym put)
          (joined n name it adds.kept (before name) is same (h name)
          (subst (λ m. IsJoined (before m) it adds.kept) same adds.joined))
      by_name false e =
          let put : behind name ≡ before name = adds.put name ∙ ap (λ b. cond b (Some adds.kept) (before name)) e in
          subst (λ o. IsForemost declared (n + 1) name o) (sym put) (passed n name it (before name) is (other e) (h name))
        where
          other : is_same_name it.name name ≡ false → it.name ≡ name → ⊥
          other e same = let t : is_same_name it.name name ≡ true = subst (λ m. is_same_name it.name m ≡ true) same (same_itself it.name) in absurd cc
