-- One step of each loop of the descent for declarations, as the code makes it.
use Rattle.std.proofs.Common.{◌≡◌, ℕ, zero, suc, Bool, true, false, cond, List, [], ◌∷◌, ◌++◌, Option, Some, None, Result, Ok, Err, IfOk, refl, sym, ap, ◌∙◌}
use Rattle.tm_terms.specs.declared.places.Place.{Place}
use Rattle.tm_terms.specs.declared.tokens.Name.{Name}
use Rattle.tm_terms.specs.declared.tokens.Token.{Token}
use Rattle.tm_terms.specs.declared.types_named.PointerWord.{PointerWord}
use Rattle.tm_terms.specs.ExprTrees.{Tree}
use Rattle.tm_terms.specs.ExprSpelling.{is_type_name_list}
use Rattle.c_expr_parser.specs.declared.marks.Mark.{Mark}
use Rattle.c_expr_parser.specs.declared.marks.Mark.TheVariants as Marks
use Rattle.c_expr_parser.specs.reading.Parts.{then_read, and_after, after}
use Rattle.tm_trees.specs.DeclarationTrees.{LengthTree, DeclaratorTree, a_declared_name, a_nested, declared_name, SpecifierTree, count_as, as_specifiers, an_expression, a_list, as_values, InitDeclaratorTree}
use Rattle.tm_trees.specs.DeclarationSpelling.{with_declared}
use Rattle.c_decl_parser.specs.declared.reads.Read.{Read}
use Rattle.c_decl_parser.specs.declared.reads.Read.TheVariants.{Found, Stuck}
use Rattle.c_decl_parser.specs.reading.Parts.{seen, place_after, declared_at, expression, until}
use Rattle.c_decl_parser.specs.reading.Parts.{until_by}
use Rattle.c_decl_parser.specs.reading.Repetitions.{separated_by, in_braces, one_or_more}
use Rattle.c_decl_parser.specs.reading.DeclarationDescent.{lengths_by, lengths_from, lengths, named_by, nested_by, direct_by, declarator_after, declarator, pointers, value_by, value, initialiser, init_declarators, init_declarator_after, local_after, typedef_after, typedefs_from}
use Rattle.c_decl_parser.specs.reading.DeclarationDescent.{init_declarator, init_declarators_by}

-- ## What is read behind something

module _ {A B : Type 0} (go : A → List Token → Option B) (o : Option (A × List Token)) where
  pub read_none : o ≡ None → None ≡ then_read o go
  read_none e = sym (ap (λ o. then_read o go) e)

  pub read_some : (x : A) (rest : List Token) → o ≡ Some (x, rest) → go x rest ≡ then_read o go
  read_some x rest e = sym (ap (λ o. then_read o go) e)

-- ## Expressions up to a mark

module _ (types : List Name) (allowed at : ℕ) (mark : Mark) (ts : List Token) where
  pub until_at_once : (rest : List Token) → after mark ts ≡ Some rest
      → until types allowed at mark ts ≡ Some (None, rest)
  unfolding until
  until_at_once rest e = ap (λ o. until_by types allowed at mark o ts) e

  pub until_none : after mark ts ≡ None → expression types allowed at ts ≡ None → until types allowed at mark ts ≡ None
  unfolding until
  until_none e c =
      ap (λ o. until_by types allowed at mark o ts) e
      ∙ ap (λ o. then_read o (λ t a. and_after (after mark a) (λ rest. Some (Some t, rest)))) c

  pub until_read : (t : Tree) (a : List Token) (o : Option (List Token))
      → after mark ts ≡ None → expression types allowed at ts ≡ Some (t, a) → after mark a ≡ o
      → until types allowed at mark ts ≡ and_after o (λ rest. Some (Some t, rest))
  unfolding until
  until_read t a o e c d =
      ap (λ o. until_by types allowed at mark o ts) e
      ∙ ap (λ o. then_read o (λ t a. and_after (after mark a) (λ rest. Some (Some t, rest)))) c
      ∙ ap (λ o. and_after o (λ rest. Some (Some t, rest))) d

-- ## Lengths of arrays

module _ (types : List Name) (allowed : ℕ) where
  pub lengths_stop : (n : ℕ) (found : List LengthTree) (ts : List Token) → place_after Marks.OpenBracket ts ≡ None → lengths_from types allowed n found ts ≡ Some (found, ts)
  unfolding lengths_from
  lengths_stop zero found ts e = refl
  lengths_stop (suc n) found ts e =
      ap (λ o. lengths_by o (found, ts) (λ place a. then_read (until types allowed 2 Marks.CloseBracket a) (λ value rest. lengths_from types allowed n (found ++ record { value = value; place = place } ∷ []) rest))) e

  pub lengths_done : (n : ℕ) (found : List LengthTree) (ts : List Token) → n ≡ 0 → lengths_from types allowed n found ts ≡ Some (found, ts)
  unfolding lengths_from
  lengths_done zero found ts e = refl
  lengths_done (suc n) found ts e = cc

  pub lengths_go : (n m : ℕ) (found : List LengthTree) (ts : List Token) (p : Place) (a : List Token) (o : Option (Option Tree × List Token)) → n ≡ suc m → place_after Marks.OpenBracket ts ≡ Some (p, a) → until types allowed 2 Marks.CloseBracket a ≡ o
      → lengths_from types allowed n found ts ≡ then_read o (λ value rest. lengths_from types allowed m (found ++ record { value = value; place = p } ∷ []) rest)
  unfolding lengths_from
  lengths_go n m found ts p a o e c d =
      ap (λ k. lengths_from types allowed k found ts) e
      ∙ ap (λ o. lengths_by o (found, ts) (λ place a. then_read (until types allowed 2 Marks.CloseBracket a) (λ value rest. lengths_from types allowed m (found ++ record { value = value; place = place } ∷ []) rest))) c
      ∙ ap (λ o. then_read o (λ value rest. lengths_from types allowed m (found ++ record { value = value; place = p } ∷ []) rest)) d

-- ## Declarators

module _ (member : Bool) (types : List Name) where
  pub named_is : (n m : ℕ) (words : List PointerWord) (ts : List Token) (name : Name) (place : Place) (rest : List Token) → n ≡ suc m → after Marks.OpenParenthesis ts ≡ None → declared_at member types ts ≡ Some ((name, place), rest)
      → then_read (lengths types m rest) (λ sizes more. Some (a_declared_name words name place sizes, more)) ≡ declarator_after member types n words ts
  unfolding declarator_after
  named_is n m words ts name place rest e c d = sym (
      ap (λ k. declarator_after member types k words ts) e
      ∙ ap (λ o. direct_by member types m (declarator_after member types m) words o ts) c
      ∙ ap (named_by types m words) d)

  pub nested_is : (n m : ℕ) (words : List PointerWord) (ts a : List Token) (d : DeclaratorTree) (b rest : List Token) → n ≡ suc m → after Marks.OpenParenthesis ts ≡ Some a → declarator member types m a ≡ Some (d, b) → after Marks.CloseParenthesis b ≡ Some rest
      → then_read (lengths types m rest) (λ sizes more. Some (a_nested words d sizes, more)) ≡ declarator_after member types n words ts
  unfolding declarator_after
  nested_is n m words ts a d b rest e c f g = sym (
      ap (λ k. declarator_after member types k words ts) e
      ∙ ap (λ o. direct_by member types m (declarator_after member types m) words o ts) c
      ∙ ap (nested_by types m words) f
      ∙ ap (λ o. and_after o (λ b. then_read (lengths types m b) (λ sizes more. Some (a_nested words d sizes, more)))) g)

module _ (member : Bool) (types : List Name) (n : ℕ) (words : List PointerWord) (ts : List Token) where
  pub declarator_low : n ≡ 0 → None ≡ declarator_after member types n words ts
  unfolding declarator_after
  declarator_low e = sym (ap (λ k. declarator_after member types k words ts) e)

  pub declarator_unnamed : (m : ℕ) → n ≡ suc m → after Marks.OpenParenthesis ts ≡ None
      → declared_at member types ts ≡ None → None ≡ declarator_after member types n words ts
  unfolding declarator_after
  declarator_unnamed m e c d = sym (
      ap (λ k. declarator_after member types k words ts) e
      ∙ ap (λ o. direct_by member types m (declarator_after member types m) words o ts) c
      ∙ ap (named_by types m words) d)

  pub declarator_stuck : (m : ℕ) (a : List Token) → n ≡ suc m → after Marks.OpenParenthesis ts ≡ Some a
      → declarator member types m a ≡ None → None ≡ declarator_after member types n words ts
  unfolding declarator_after
  declarator_stuck m a e c f = sym (
      ap (λ k. declarator_after member types k words ts) e
      ∙ ap (λ o. direct_by member types m (declarator_after member types m) words o ts) c
      ∙ ap (nested_by types m words) f)

  pub declarator_open : (m : ℕ) (a : List Token) (d : DeclaratorTree) (b : List Token) → n ≡ suc m
      → after Marks.OpenParenthesis ts ≡ Some a → declarator member types m a ≡ Some (d, b)
      → after Marks.CloseParenthesis b ≡ None → None ≡ declarator_after member types n words ts
  unfolding declarator_after
  declarator_open m a d b e c f g = sym (
      ap (λ k. declarator_after member types k words ts) e
      ∙ ap (λ o. direct_by member types m (declarator_after member types m) words o ts) c
      ∙ ap (nested_by types m words) f
      ∙ ap (λ o. and_after o (λ b. then_read (lengths types m b)
      (λ sizes more. Some (a_nested words d sizes, more)))) g)

pub declarator_behind : (member : Bool) (types : List Name) (n : ℕ) (ts : List Token) (words : List PointerWord)
    (rest : List Token) → (words, rest) ≡ pointers ts
    → declarator_after member types n words rest ≡ declarator member types n ts
declarator_behind member types n ts words rest e = ap (λ x. declarator_after member types n x.0 x.1) e

-- ## Values

pub value_low : (types : List Name) (n : ℕ) (ts : List Token) → n ≡ 0 → None ≡ value types n ts
unfolding value
value_low types n ts e = sym (ap (λ k. value types k ts) e)

module _ (types : List Name) (n m : ℕ) (e : n ≡ suc m) where
  pub value_expression : (ts : List Token) → place_after Marks.OpenBrace ts ≡ None → then_read (expression types n 1 ts) (λ t rest. Some (an_expression t, rest)) ≡ value types n ts
  unfolding value
  value_expression ts c = sym (
      ap (λ k. value types k ts) e
      ∙ ap (λ o. value_by types m (value types m) o ts) c
      ∙ ap (λ k. then_read (expression types k 1 ts) (λ t rest. Some (an_expression t, rest))) (sym e))

  pub value_list : (ts : List Token) (p : Place) (a : List Token) → place_after Marks.OpenBrace ts ≡ Some (p, a) → then_read (in_braces (value types m) a) (λ values rest. Some (a_list (as_values values) p, rest)) ≡ value types n ts
  unfolding value
  value_list ts p a c = sym (ap (λ k. value types k ts) e ∙ ap (λ o. value_by types m (value types m) o ts) c)

-- ## Declarators with their values

module _ (types : List Name) (n m : ℕ) (e : n ≡ suc m) (words : List PointerWord) (ts : List Token) (o : Option (DeclaratorTree × List Token)) (c : declarator_after false types m words ts ≡ o) where
  pub init_declarator_is : then_read o (λ d a. then_read (initialiser types m a) (λ i rest. Some (record { declarator = d; initialiser = i }, rest))) ≡ init_declarator_after types n words ts
  unfolding init_declarator_after
  init_declarator_is = sym (
      ap (λ k. init_declarator_after types k words ts) e
      ∙ ap (λ o. then_read o (λ d a. then_read (initialiser types m a) (λ i rest. Some (record { declarator = d; initialiser = i }, rest)))) c)

  pub typedef_is : then_read o (λ d a. then_read (initialiser (with_declared true types (declared_name d)) m a) (λ i rest. Some ((record { declarator = d; initialiser = i }, with_declared true types (declared_name d)), rest))) ≡ typedef_after types n words ts
  unfolding typedef_after
  typedef_is = sym (
      ap (λ k. typedef_after types k words ts) e
      ∙ ap (λ o. then_read o (λ d a. then_read (initialiser (with_declared true types (declared_name d)) m a) (λ i rest. Some ((record { declarator = d; initialiser = i }, with_declared true types (declared_name d)), rest)))) c)

module _ (types : List Name) (allowed : ℕ) (found : List SpecifierTree) (ts : List Token) where
  pub local_named : is_type_name_list (count_as (as_specifiers found)) ≡ true
      → then_read (init_declarators types allowed ts) (λ declarators rest. Some (record { specifiers = as_specifiers found; declarators = declarators }, rest)) ≡ local_after types allowed found ts
  local_named e =
      ap (λ b. cond b (then_read (init_declarators types allowed ts) (λ declarators rest. Some (record { specifiers = as_specifiers found; declarators = declarators }, rest))) None) (sym e)

  pub local_unnamed : is_type_name_list (count_as (as_specifiers found)) ≡ false → None ≡ local_after types allowed found ts
  local_unnamed e =
      ap (λ b. cond b (then_read (init_declarators types allowed ts) (λ declarators rest. Some (record { specifiers = as_specifiers found; declarators = declarators }, rest))) None) (sym e)

module _ (types : List Name) (allowed : ℕ) (ts : List Token) where
  pub none_declared : (rest : List Token) → after Marks.Semicolon ts ≡ Some rest
      → init_declarators types allowed ts ≡ Some ([], rest)
  unfolding init_declarators
  none_declared rest e = ap (λ o. init_declarators_by types allowed o ts) e

  pub declared_none : after Marks.Semicolon ts ≡ None → one_or_more (init_declarator types allowed) ts ≡ None
      → init_declarators types allowed ts ≡ None
  unfolding init_declarators
  declared_none e c =
      ap (λ o. init_declarators_by types allowed o ts) e
      ∙ ap (λ o. then_read o (λ found a. and_after (after Marks.Semicolon a) (λ rest. Some (found, rest)))) c

  pub declared_read : (found : List InitDeclaratorTree) (a : List Token) (o : Option (List Token))
      → after Marks.Semicolon ts ≡ None → one_or_more (init_declarator types allowed) ts ≡ Some (found, a)
      → after Marks.Semicolon a ≡ o → init_declarators types allowed ts ≡ and_after o (λ rest. Some (found, rest))
  unfolding init_declarators
  declared_read found a o e c d =
      ap (λ o. init_declarators_by types allowed o ts) e
      ∙ ap (λ o. then_read o (λ found a. and_after (after Marks.Semicolon a) (λ rest. Some (found, rest)))) c
      ∙ ap (λ o. and_after o (λ rest. Some (found, rest))) d

-- ## Typedefs

module _ (allowed : ℕ) where
  pub typedefs_stop : (n : ℕ) (types : List Name) (found : List InitDeclaratorTree) (ts : List Token) → after Marks.Comma ts ≡ None → typedefs_from allowed n types found ts ≡ Some ((found, types), ts)
  unfolding typedefs_from
  typedefs_stop zero types found ts e = refl
  typedefs_stop (suc n) types found ts e =
      ap (λ o. separated_by o ((found, types), ts) (λ a. then_read (typedef_after types allowed (pointers a).0 (pointers a).1) (λ x rest. typedefs_from allowed n x.1 (found ++ x.0 ∷ []) rest))) e

  pub typedefs_done : (n : ℕ) (types : List Name) (found : List InitDeclaratorTree) (ts : List Token) → n ≡ 0 → typedefs_from allowed n types found ts ≡ Some ((found, types), ts)
  unfolding typedefs_from
  typedefs_done zero types found ts e = refl
  typedefs_done (suc n) types found ts e = cc

  one_more : (n m : ℕ) (types : List Name) (found : List InitDeclaratorTree) (ts a : List Token) → n ≡ suc m → after Marks.Comma ts ≡ Some a
      → typedefs_from allowed n types found ts ≡ then_read (typedef_after types allowed (pointers a).0 (pointers a).1) (λ x rest. typedefs_from allowed m x.1 (found ++ x.0 ∷ []) rest)
  unfolding typedefs_from
  one_more n m types found ts a e c =
      ap (λ k. typedefs_from allowed k types found ts) e
      ∙ ap (λ o. separated_by o ((found, types), ts) (λ a. then_read (typedef_after types allowed (pointers a).0 (pointers a).1) (λ x rest. typedefs_from allowed m x.1 (found ++ x.0 ∷ []) rest))) c

  pub typedefs_stuck : (n m : ℕ) (types : List Name) (found : List InitDeclaratorTree) (ts a : List Token) → n ≡ suc m → after Marks.Comma ts ≡ Some a → typedef_after types allowed (pointers a).0 (pointers a).1 ≡ None → typedefs_from allowed n types found ts ≡ None
  typedefs_stuck n m types found ts a e c r = one_more n m types found ts a e c ∙ ap (λ o. then_read o (λ x rest. typedefs_from allowed m x.1 (found ++ x.0 ∷ []) rest)) r

  pub typedefs_next : (n m : ℕ) (types : List Name) (found : List InitDeclaratorTree) (ts a : List Token) (x : InitDeclaratorTree) (types' : List Name) (rest : List Token) → n ≡ suc m → after Marks.Comma ts ≡ Some a → typedef_after types allowed (pointers a).0 (pointers a).1 ≡ Some ((x, types'), rest)
      → typedefs_from allowed n types found ts ≡ typedefs_from allowed m types' (found ++ x ∷ []) rest
  typedefs_next n m types found ts a x types' rest e c r = one_more n m types found ts a e c ∙ ap (λ o. then_read o (λ x rest. typedefs_from allowed m x.1 (found ++ x.0 ∷ []) rest)) r

-- an answer that a contract sees with something more
module _ {A B C K : Type 0} (f : A → B) (k : K) (g : C → B) (o : Option (C × List Token)) where
  abbrev with_more : B → List Token → Option ((B × K) × List Token)
  with_more t rest = Some ((t, k), rest)

  seen_with : (read : Read A) → seen f read ≡ then_read o (λ i rest. Some (g i, rest)) → seen {B = B × K} (λ x. (f x, k)) read ≡ then_read o (λ i rest. Some ((g i, k), rest))
  seen_with read e = first read ∙ ap (λ o. then_read o with_more) e ∙ second o
    where
      first : (read : Read A) → seen {B = B × K} (λ x. (f x, k)) read ≡ then_read (seen f read) with_more
      first (Found x rest) = refl
      first (Stuck rest) = refl

      second : (o : Option (C × List Token)) → then_read (then_read o (λ i rest. Some (g i, rest))) with_more ≡ then_read o (λ i rest. Some ((g i, k), rest))
      second None = refl
      second (Some x) = refl

  pub answered_with : {E : Type 0} (result : Result (Read A) E) → IfOk result (λ read. seen f read ≡ then_read o (λ i rest. Some (g i, rest))) → IfOk result (λ read. seen {B = B × K} (λ x. (f x, k)) read ≡ then_read o (λ i rest. Some ((g i, k), rest)))
  answered_with (Ok read) h = seen_with read h
  answered_with (Err e) h = h
