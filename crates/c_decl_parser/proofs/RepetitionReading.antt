-- Repetitions: what is read is spelled, and what is spelled is read, over what `read` reads and what `P` says of each element.
use Rattle.std.proofs.Common.{◌≡◌, ℕ, zero, suc, ◌<◌, ◌≤◌, List, [], ◌∷◌, ◌++◌, length, Option, Some, None, refl, sym, ap, ◌∙◌, subst, inl, inr, arith, append_assoc}
use Rattle.std.proofs.lemmas.List.{append-nil}
use Rattle.tm_terms.specs.declared.tokens.Sign.TheVariants as Signs
use Rattle.tm_terms.specs.declared.tokens.Token.{Token}
use Rattle.tm_terms.specs.ExprSpelling.{BySign}
use Rattle.c_expr_parser.specs.declared.marks.Mark.TheVariants as Marks
use Rattle.c_expr_parser.specs.reading.Parts.{then_read, after}
use Rattle.c_expr_parser.proofs.Tokens.{none_some, from_some, after_finds, after_spelled, then_read_some}
use Rattle.c_expr_parser.proofs.Sound.{by_shorter}
use Rattle.tm_trees.specs.DeclarationSpelling.{EndsBraces}
use Rattle.c_decl_parser.specs.reading.Repetitions.{separated_by, separated, one_or_more, ended_by, until_brace, braced_by, braced, in_braces}

-- what `P` says of an element, the tokens that begin with it, and those that follow it
abbrev pub Relation : Type 0 → Type 1
Relation A = A → List Token → List Token → Type 0

module _ {A : Type 0} (P : Relation A) where
  -- further elements, each after a `,`
  abbrev pub Separated : List A → List Token → List Token → Type 0
  Separated [] ts rest = ts ≡ rest
  Separated (x ∷ xs) ts rest = (a : List Token) × (b : List Token) × BySign Signs.Comma ts a × P x a b × Separated xs b rest

  -- at least one, with a `,` between each two
  abbrev pub OneOrMore : List A → List Token → List Token → Type 0
  OneOrMore [] ts rest = ⊥
  OneOrMore (x ∷ xs) ts rest = (a : List Token) × P x ts a × Separated xs a rest

  -- elements up to a `}`
  abbrev pub UntilBrace : List A → List Token → List Token → Type 0
  UntilBrace [] ts rest = BySign Signs.CloseBrace ts rest
  UntilBrace (x ∷ xs) ts rest = (a : List Token) × P x ts a × UntilBrace xs a rest

  -- further elements, each after a `,`, and the `}`, before which a `,` may stand
  abbrev pub Braced : List A → List Token → List Token → Type 0
  Braced [] ts rest = EndsBraces ts rest
  Braced (x ∷ xs) ts rest = (a : List Token) × (b : List Token) × BySign Signs.Comma ts a × P x a b × Braced xs b rest

  -- at least one, and the `}`
  abbrev pub InBraces : List A → List Token → List Token → Type 0
  InBraces [] ts rest = ⊥
  InBraces (x ∷ xs) ts rest = (a : List Token) × P x ts a × Braced xs a rest

-- what was read are the elements before and some more
abbrev pub More : {A : Type 0} → (List A → List Token → List Token → Type 0) → List A → List Token → List A × List Token → Type 0
More {A} Q found ts x = (more : List A) × (x.0 ≡ found ++ more) × Q more ts x.1

-- ## What is read is spelled

abbrev pub ReadsOnly : {A : Type 0} → Relation A → (List Token → Option (A × List Token)) → Type 0
ReadsOnly {A} P read = (ts : List Token) (x : A × List Token) → read ts ≡ Some x → P x.0 ts x.1

module _ {A : Type 0} (P : Relation A) (read : List Token → Option (A × List Token)) (sound : ReadsOnly P read) where
  pub separated_sound : (n : ℕ) (found : List A) (ts : List Token) (x : List A × List Token) → separated read n found ts ≡ Some x → More (Separated P) found ts x
  unfolding separated
  separated_sound zero found ts x e = subst (More (Separated P) found ts) (from_some e) ([], sym (append-nil found), refl)
  separated_sound (suc n) found ts x e = go (after Marks.Comma ts) refl (λ before a. separated_sound n before a x) e
    where
      go : (o : Option (List Token)) → after Marks.Comma ts ≡ o → ((before : List A) (a : List Token) → separated read n before a ≡ Some x → More (Separated P) before a x) → separated_by o (found, ts) (λ a. then_read (read a) (λ y rest. separated read n (found ++ y ∷ []) rest)) ≡ Some x → More (Separated P) found ts x
      go None h ih e = subst (More (Separated P) found ts) (from_some e) ([], sym (append-nil found), refl)
      go (Some a) h ih e =
          let b = then_read_some (read a) (λ y rest. separated read n (found ++ y ∷ []) rest) x e in
          let r = ih (found ++ b.0.0 ∷ []) b.0.1 b.2 in
          (b.0.0 ∷ r.0, r.1 ∙ append_assoc found (b.0.0 ∷ []) r.0, (a, b.0.1, after_finds Marks.Comma ts a h, sound a b.0 b.1, r.2))

  pub one_or_more_sound : (ts : List Token) (x : List A × List Token) → one_or_more read ts ≡ Some x → OneOrMore P x.0 ts x.1
  one_or_more_sound ts x e =
      let a = then_read_some (read ts) (λ y rest. separated read (length rest) (y ∷ []) rest) x e in
      let r = separated_sound (length a.0.1) (a.0.0 ∷ []) a.0.1 x a.2 in
      subst (λ l. OneOrMore P l ts x.1) (sym r.1) (a.0.1, sound ts a.0 a.1, r.2)

  pub until_brace_sound : (n : ℕ) (found : List A) (ts : List Token) (x : List A × List Token) → until_brace read n found ts ≡ Some x → More (UntilBrace P) found ts x
  unfolding until_brace
  until_brace_sound zero found ts x e = none_some e
  until_brace_sound (suc n) found ts x e = go (after Marks.CloseBrace ts) refl (λ before a. until_brace_sound n before a x) e
    where
      go : (o : Option (List Token)) → after Marks.CloseBrace ts ≡ o → ((before : List A) (a : List Token) → until_brace read n before a ≡ Some x → More (UntilBrace P) before a x) → ended_by o found (then_read (read ts) (λ y rest. until_brace read n (found ++ y ∷ []) rest)) ≡ Some x → More (UntilBrace P) found ts x
      go (Some rest) h ih e = subst (More (UntilBrace P) found ts) (from_some e) ([], sym (append-nil found), after_finds Marks.CloseBrace ts rest h)
      go None h ih e =
          let b = then_read_some (read ts) (λ y rest. until_brace read n (found ++ y ∷ []) rest) x e in
          let r = ih (found ++ b.0.0 ∷ []) b.0.1 b.2 in
          (b.0.0 ∷ r.0, r.1 ∙ append_assoc found (b.0.0 ∷ []) r.0, (b.0.1, sound ts b.0 b.1, r.2))

  -- where none were read before
  pub all_until_brace_sound : (n : ℕ) (ts : List Token) (x : List A × List Token) → until_brace read n [] ts ≡ Some x → UntilBrace P x.0 ts x.1
  all_until_brace_sound n ts x e =
      let r = until_brace_sound n [] ts x e in subst (λ l. UntilBrace P l ts x.1) (sym r.1) r.2

  pub braced_sound : (n : ℕ) (found : List A) (ts : List Token) (x : List A × List Token) → braced read n found ts ≡ Some x → More (Braced P) found ts x
  unfolding braced
  braced_sound zero found ts x e = none_some e
  braced_sound (suc n) found ts x e = go (after Marks.CloseBrace ts) refl (λ before a. braced_sound n before a x) e
    where
      go : (o : Option (List Token)) → after Marks.CloseBrace ts ≡ o → ((before : List A) (a : List Token) → braced read n before a ≡ Some x → More (Braced P) before a x) → ended_by o found (braced_by (after Marks.Comma ts) (λ a. ended_by (after Marks.CloseBrace a) found (then_read (read a) (λ y rest. braced read n (found ++ y ∷ []) rest)))) ≡ Some x → More (Braced P) found ts x
      go (Some rest) h ih e = subst (More (Braced P) found ts) (from_some e) ([], sym (append-nil found), inl (after_finds Marks.CloseBrace ts rest h))
      go None h ih e = parted (after Marks.Comma ts) refl ih e
        where
          closed : (a : List Token) → BySign Signs.Comma ts a → (o : Option (List Token)) → after Marks.CloseBrace a ≡ o → ((before : List A) (a : List Token) → braced read n before a ≡ Some x → More (Braced P) before a x) → ended_by o found (then_read (read a) (λ y rest. braced read n (found ++ y ∷ []) rest)) ≡ Some x → More (Braced P) found ts x
          closed a comma (Some rest) h ih e = subst (More (Braced P) found ts) (from_some e) ([], sym (append-nil found), inr (a, comma, after_finds Marks.CloseBrace a rest h))
          closed a comma None h ih e =
              let b = then_read_some (read a) (λ y rest. braced read n (found ++ y ∷ []) rest) x e in
              let r = ih (found ++ b.0.0 ∷ []) b.0.1 b.2 in
              (b.0.0 ∷ r.0, r.1 ∙ append_assoc found (b.0.0 ∷ []) r.0, (a, b.0.1, comma, sound a b.0 b.1, r.2))

          parted : (o : Option (List Token)) → after Marks.Comma ts ≡ o → ((before : List A) (a : List Token) → braced read n before a ≡ Some x → More (Braced P) before a x) → braced_by o (λ a. ended_by (after Marks.CloseBrace a) found (then_read (read a) (λ y rest. braced read n (found ++ y ∷ []) rest))) ≡ Some x → More (Braced P) found ts x
          parted None h ih e = none_some e
          parted (Some a) h ih e = closed a (after_finds Marks.Comma ts a h) (after Marks.CloseBrace a) refl ih e

  pub in_braces_sound : (ts : List Token) (x : List A × List Token) → in_braces read ts ≡ Some x → InBraces P x.0 ts x.1
  in_braces_sound ts x e =
      let a = then_read_some (read ts) (λ y rest. braced read (length rest) (y ∷ []) rest) x e in
      let r = braced_sound (length a.0.1) (a.0.0 ∷ []) a.0.1 x a.2 in
      subst (λ l. InBraces P l ts x.1) (sym r.1) (a.0.1, sound ts a.0 a.1, r.2)

-- ## What is spelled is read

-- an element that is spelled is read where what the form needs follows
abbrev pub ReadsAll : {A : Type 0} → Relation A → (List Token → Type 0) → (List Token → Option (A × List Token)) → Type 0
ReadsAll {A} P Follows read = (x : A) (ts rest : List Token) → P x ts rest → Follows rest → read ts ≡ Some (x, rest)

-- each element is at least one token
abbrev pub Shortens : {A : Type 0} → Relation A → Type 0
Shortens {A} P = (x : A) (ts rest : List Token) → P x ts rest → length rest < length ts

-- no element begins with a `}`
abbrev pub BeginsNoBrace : {A : Type 0} → Relation A → Type 0
BeginsNoBrace {A} P = (x : A) (ts rest : List Token) → P x ts rest → after Marks.CloseBrace ts ≡ None

-- what may follow an element: a `,`, or a `}`
abbrev pub CommaFollows : (List Token → Type 0) → Type 0
CommaFollows Follows = (ts rest : List Token) → BySign Signs.Comma ts rest → Follows ts

abbrev pub BraceFollows : (List Token → Type 0) → Type 0
BraceFollows Follows = (ts rest : List Token) → BySign Signs.CloseBrace ts rest → Follows ts

module _ {A : Type 0} (P : Relation A) (Follows : List Token → Type 0) (read : List Token → Option (A × List Token)) (complete : ReadsAll P Follows read) (shortens : Shortens P) where
  pair : (a b : List A) (ts rest : List Token) → a ≡ b → ts ≡ rest → ◌≡◌ {A = List A × List Token} (a, ts) (b, rest)
  pair a b ts rest e f = λ i. (e i, f i)

  -- what follows an element of a list
  parted : CommaFollows Follows → (xs : List A) (ts rest : List Token) → Separated P xs ts rest → Follows rest → Follows ts
  parted comma [] ts rest s f = subst Follows (sym s) f
  parted comma (x ∷ xs) ts rest s f = comma ts s.0 s.2

  before_braces : CommaFollows Follows → BraceFollows Follows → (xs : List A) (ts rest : List Token) → Braced P xs ts rest → Follows ts
  before_braces comma brace [] ts rest (inl s) = brace ts rest s
  before_braces comma brace [] ts rest (inr s) = comma ts s.0 s.1
  before_braces comma brace (x ∷ xs) ts rest s = comma ts s.0 s.2

  -- what comes where no `}` does
  abbrev parts : ℕ → List A → List Token → Option (List A × List Token)
  parts n found ts = braced_by (after Marks.Comma ts) (λ a. ended_by (after Marks.CloseBrace a) found (then_read (read a) (λ y rest. braced read n (found ++ y ∷ []) rest)))

  pub separated_complete : CommaFollows Follows → (xs : List A) (n : ℕ) (found : List A) (ts rest : List Token) → Separated P xs ts rest → Follows rest → after Marks.Comma rest ≡ None → length ts ≤ n → separated read n found ts ≡ Some (found ++ xs, rest)
  unfolding separated
  separated_complete comma [] zero found ts rest s f ends le = ap Some (pair _ _ _ _ (sym (append-nil found)) s)
  separated_complete comma [] (suc n) found ts rest s f ends le =
      ap (λ o. separated_by o (found, ts) (λ a. then_read (read a) (λ y rest. separated read n (found ++ y ∷ []) rest))) (ap (after Marks.Comma) s ∙ ends)
      ∙ ap Some (pair _ _ _ _ (sym (append-nil found)) s)
  separated_complete comma (x ∷ xs) zero found ts rest s f ends le =
      let less = by_shorter Signs.Comma ts s.0 s.2 in absurd (omega arith)
  separated_complete comma (x ∷ xs) (suc n) found ts rest s f ends le =
      let less = by_shorter Signs.Comma ts s.0 s.2 in
      let short = shortens x s.0 s.1 s.3 in
      ap (λ o. separated_by o (found, ts) (λ a. then_read (read a) (λ y rest. separated read n (found ++ y ∷ []) rest))) (after_spelled Marks.Comma ts s.0 s.2)
      ∙ ap (λ o. then_read o (λ y rest. separated read n (found ++ y ∷ []) rest)) (complete x s.0 s.1 s.3 (parted comma xs s.1 rest s.4 f))
      ∙ separated_complete comma xs n (found ++ x ∷ []) s.1 rest s.4 f ends (omega arith)
      ∙ ap Some (pair _ _ _ _ (append_assoc found (x ∷ []) xs) refl)

  pub one_or_more_complete : CommaFollows Follows → (xs : List A) (ts rest : List Token) → OneOrMore P xs ts rest → Follows rest → after Marks.Comma rest ≡ None → one_or_more read ts ≡ Some (xs, rest)
  one_or_more_complete comma [] ts rest s f ends = absurd s
  one_or_more_complete comma (x ∷ xs) ts rest s f ends =
      ap (λ o. then_read o (λ y rest. separated read (length rest) (y ∷ []) rest)) (complete x ts s.0 s.1 (parted comma xs s.0 rest s.2 f))
      ∙ separated_complete comma xs (length s.0) (x ∷ []) s.0 rest s.2 f ends (omega arith)

  -- here each element is read whatever follows
  pub until_brace_complete : ((ts : List Token) → Follows ts) → BeginsNoBrace P → (xs : List A) (n : ℕ) (found : List A) (ts rest : List Token) → UntilBrace P xs ts rest → length ts ≤ n → until_brace read n found ts ≡ Some (found ++ xs, rest)
  unfolding until_brace
  until_brace_complete all begins [] zero found ts rest s le = let less = by_shorter Signs.CloseBrace ts rest s in absurd (omega arith)
  until_brace_complete all begins [] (suc n) found ts rest s le =
      ap (λ o. ended_by o found (then_read (read ts) (λ y rest. until_brace read n (found ++ y ∷ []) rest))) (after_spelled Marks.CloseBrace ts rest s)
      ∙ ap Some (pair _ _ _ _ (sym (append-nil found)) refl)
  until_brace_complete all begins (x ∷ xs) zero found ts rest s le = let short = shortens x ts s.0 s.1 in absurd (omega arith)
  until_brace_complete all begins (x ∷ xs) (suc n) found ts rest s le =
      let short = shortens x ts s.0 s.1 in
      ap (λ o. ended_by o found (then_read (read ts) (λ y rest. until_brace read n (found ++ y ∷ []) rest))) (begins x ts s.0 s.1)
      ∙ ap (λ o. then_read o (λ y rest. until_brace read n (found ++ y ∷ []) rest)) (complete x ts s.0 s.1 (all s.0))
      ∙ until_brace_complete all begins xs n (found ++ x ∷ []) s.0 rest s.2 (omega arith)
      ∙ ap Some (pair _ _ _ _ (append_assoc found (x ∷ []) xs) refl)

  pub braced_complete : CommaFollows Follows → BraceFollows Follows → BeginsNoBrace P → (xs : List A) (n : ℕ) (found : List A) (ts rest : List Token) → Braced P xs ts rest → length ts ≤ n → braced read n found ts ≡ Some (found ++ xs, rest)
  unfolding braced
  braced_complete comma brace begins [] zero found ts rest (inl s) le = let less = by_shorter Signs.CloseBrace ts rest s in absurd (omega arith)
  braced_complete comma brace begins [] zero found ts rest (inr s) le = let less = by_shorter Signs.Comma ts s.0 s.1 in absurd (omega arith)
  braced_complete comma brace begins [] (suc n) found ts rest (inl s) le =
      ap (λ o. ended_by o found (parts n found ts)) (after_spelled Marks.CloseBrace ts rest s)
      ∙ ap Some (pair _ _ _ _ (sym (append-nil found)) refl)
  braced_complete comma brace begins [] (suc n) found ts rest (inr s) le =
      ap (λ o. ended_by o found (parts n found ts)) (ap (after Marks.CloseBrace) s.1.1)
      ∙ ap (λ o. braced_by o (λ a. ended_by (after Marks.CloseBrace a) found (then_read (read a) (λ y rest. braced read n (found ++ y ∷ []) rest)))) (after_spelled Marks.Comma ts s.0 s.1)
      ∙ ap (λ o. ended_by o found (then_read (read s.0) (λ y rest. braced read n (found ++ y ∷ []) rest))) (after_spelled Marks.CloseBrace s.0 rest s.2)
      ∙ ap Some (pair _ _ _ _ (sym (append-nil found)) refl)
  braced_complete comma brace begins (x ∷ xs) zero found ts rest s le = let less = by_shorter Signs.Comma ts s.0 s.2 in absurd (omega arith)
  braced_complete comma brace begins (x ∷ xs) (suc n) found ts rest s le =
      let less = by_shorter Signs.Comma ts s.0 s.2 in
      let short = shortens x s.0 s.1 s.3 in
      ap (λ o. ended_by o found (parts n found ts)) (ap (after Marks.CloseBrace) s.2.1)
      ∙ ap (λ o. braced_by o (λ a. ended_by (after Marks.CloseBrace a) found (then_read (read a) (λ y rest. braced read n (found ++ y ∷ []) rest)))) (after_spelled Marks.Comma ts s.0 s.2)
      ∙ ap (λ o. ended_by o found (then_read (read s.0) (λ y rest. braced read n (found ++ y ∷ []) rest))) (begins x s.0 s.1 s.3)
      ∙ ap (λ o. then_read o (λ y rest. braced read n (found ++ y ∷ []) rest)) (complete x s.0 s.1 s.3 (before_braces comma brace xs s.1 rest s.4))
      ∙ braced_complete comma brace begins xs n (found ++ x ∷ []) s.1 rest s.4 (omega arith)
      ∙ ap Some (pair _ _ _ _ (append_assoc found (x ∷ []) xs) refl)

  pub in_braces_complete : CommaFollows Follows → BraceFollows Follows → BeginsNoBrace P → (xs : List A) (ts rest : List Token) → InBraces P xs ts rest → in_braces read ts ≡ Some (xs, rest)
  in_braces_complete comma brace begins [] ts rest s = absurd s
  in_braces_complete comma brace begins (x ∷ xs) ts rest s =
      ap (λ o. then_read o (λ y rest. braced read (length rest) (y ∷ []) rest)) (complete x ts s.0 s.1 (before_braces comma brace xs s.0 rest s.2))
      ∙ braced_complete comma brace begins xs (length s.0) (x ∷ []) s.0 rest s.2 (omega arith)
