-- One step of the loops over specifiers, constants and members, as the code makes it.
use Rattle.std.proofs.Common.{◌≡◌, ℕ, zero, suc, ◌<◌, ◌≤◌, drop, get_or, drop-cons, append_assoc, Bool, true, false, cond, ◌||◌, List, [], ◌∷◌, ◌++◌, length, map, Option, Some, None, refl, sym, ap, ◌∙◌}
use Rattle.std.proofs.lemmas.List.{append-nil, drop_all}
use Rattle.tm_terms.specs.declared.places.Place.{Place}
use Rattle.tm_terms.specs.declared.tokens.Name.{Name}
use Rattle.tm_terms.specs.declared.tokens.Token.{Token}
use Rattle.tm_terms.specs.declared.types_named.Spec.{Spec}
use Rattle.tm_terms.specs.declared.types_named.TagKind.{TagKind}
use Rattle.tm_terms.specs.ExprTrees.{Tree}
use Rattle.tm_terms.specs.ExprSpelling.{is_type_spec, is_type_name_list}
use Rattle.c_expr_parser.specs.declared.marks.Mark.TheVariants as Marks
use Rattle.c_expr_parser.specs.reading.Parts.{then_read, and_after, after, spec_at}
use Rattle.tm_trees.specs.declared.declarations.Tag.{Tag}
use Rattle.tm_trees.specs.declared.declarations.Specifier.{Specifier}
use Rattle.tm_trees.specs.DeclarationTrees.{SpecifierTree, specifier_tree, counts_as, count_as, as_specifiers}
use Rattle.c_decl_parser.specs.reading.Parts.{declared_at}
use Rattle.c_decl_parser.specs.reading.Repetitions.{one_or_more}
use Rattle.c_decl_parser.specs.reading.DeclarationDescent.{Opened, declarator, constant, enumerator, specifier, specifiers_by, specifiers_from, body_by, member_after, specifiers, body, member}
use Rattle.c_decl_parser.specs.reading.DeclarationDescent.{opened, plain_by, specifier_by, found_specifier}

abbrev pub counts_of : List Specifier → List Spec
counts_of specifiers = count_as (as_specifiers (map specifier_tree specifiers))

-- one specifier more is counted
pub counts_next : (specs specs' : List Spec) (all : List Specifier) (i j : ℕ) (s : Specifier) → i < length all → j ≡ suc i → s ≡ get_or all i s → specs' ≡ specs ++ counts_as (specifier_tree s) ∷ []
    → specs ++ counts_of (drop i all) ≡ counts_of all → specs' ++ counts_of (drop j all) ≡ counts_of all
counts_next specs specs' all i j s less next is push before =
    let front : drop i all ≡ s ∷ drop j all = drop-cons all i s less ∙ ap (λ x. x ∷ drop (suc i) all) (sym is) ∙ ap (λ k. s ∷ drop k all) (sym next) in
    ap (λ l. l ++ counts_of (drop j all)) push
    ∙ append_assoc specs (counts_as (specifier_tree s) ∷ []) (counts_of (drop j all))
    ∙ ap (λ l. specs ++ counts_of l) (sym front) ∙ before

-- all are counted
pub counts_end : (specs : List Spec) (all : List Specifier) (i : ℕ) → length all ≤ i → specs ++ counts_of (drop i all) ≡ counts_of all → specs ≡ counts_of all
counts_end specs all i h before = sym (append-nil specs) ∙ ap (λ l. specs ++ counts_of l) (sym (drop_all i all h)) ∙ before

-- ## Constants of enumerations

module _ (types : List Name) where
  pub enumerator_is : (n m : ℕ) (ts : List Token) (name : Name) (place : Place) (a : List Token) (o : Option (Option Tree × List Token)) → n ≡ suc m → declared_at false types ts ≡ Some ((name, place), a) → constant types m a ≡ o
      → enumerator types n ts ≡ then_read o (λ value rest. Some (record { name = name; value = value; place = place }, rest))
  unfolding enumerator
  enumerator_is n m ts name place a o e c d =
      ap (λ k. enumerator types k ts) e
      ∙ ap (λ o. then_read o (λ n a. then_read (constant types m a) (λ value rest. Some (record { name = n.0; value = value; place = n.1 }, rest)))) c
      ∙ ap (λ o. then_read o (λ value rest. Some (record { name = name; value = value; place = place }, rest))) d

-- ## Specifiers

module _ (types : List Name) (allowed : ℕ) (read : Opened → List Token → Option (SpecifierTree × List Token)) where
  pub specifiers_stop : (n : ℕ) (seen : Bool) (found : List SpecifierTree) (ts : List Token) → specifier types seen allowed read ts ≡ Some None → specifiers_from types allowed read n seen found ts ≡ Some (found, ts)
  unfolding specifiers_from
  specifiers_stop zero seen found ts e = refl
  specifiers_stop (suc n) seen found ts e =
      ap (λ o. specifiers_by o (found, ts) (λ s rest. specifiers_from types allowed read n (seen || is_type_spec (counts_as s).word) (found ++ s ∷ []) rest)) e

  pub specifiers_done : (n : ℕ) (seen : Bool) (found : List SpecifierTree) (ts : List Token) → n ≡ 0 → specifiers_from types allowed read n seen found ts ≡ Some (found, ts)
  unfolding specifiers_from
  specifiers_done zero seen found ts e = refl
  specifiers_done (suc n) seen found ts e = cc

  pub specifiers_broken : (n m : ℕ) (seen : Bool) (found : List SpecifierTree) (ts : List Token) → n ≡ suc m → specifier types seen allowed read ts ≡ None → specifiers_from types allowed read n seen found ts ≡ None
  unfolding specifiers_from
  specifiers_broken n m seen found ts e c =
      ap (λ k. specifiers_from types allowed read k seen found ts) e
      ∙ ap (λ o. specifiers_by o (found, ts) (λ s rest. specifiers_from types allowed read m (seen || is_type_spec (counts_as s).word) (found ++ s ∷ []) rest)) c

  pub specifiers_next : (n m : ℕ) (seen : Bool) (found : List SpecifierTree) (ts : List Token) (s : SpecifierTree) (rest : List Token) → n ≡ suc m → specifier types seen allowed read ts ≡ Some (Some (s, rest))
      → specifiers_from types allowed read n seen found ts ≡ specifiers_from types allowed read m (seen || is_type_spec (counts_as s).word) (found ++ s ∷ []) rest
  unfolding specifiers_from
  specifiers_next n m seen found ts s rest e c =
      ap (λ k. specifiers_from types allowed read k seen found ts) e
      ∙ ap (λ o. specifiers_by o (found, ts) (λ s rest. specifiers_from types allowed read m (seen || is_type_spec (counts_as s).word) (found ++ s ∷ []) rest)) c

module _ (types : List Name) (n : ℕ) (e : n ≡ 0) where
  pub specifiers_low : (ts : List Token) → None ≡ specifiers types n ts
  unfolding specifiers
  specifiers_low ts = sym (ap (λ k. specifiers types k ts) e)

  pub body_low : (o : Opened) (ts : List Token) → None ≡ body types n o ts
  unfolding body
  body_low o ts = sym (ap (λ k. body types k o ts) e)

  pub member_low : (ts : List Token) → None ≡ member types n ts
  unfolding member
  member_low ts = sym (ap (λ k. member types k ts) e)

module _ (types : List Name) (seen : Bool) (allowed : ℕ) (ts : List Token) where
  abbrev Body : Type 0
  Body = Opened → List Token → Option (SpecifierTree × List Token)

  pub specifier_plain : (read : Body) → opened ts ≡ None
      → plain_by allowed (spec_at types seen ts) ≡ specifier types seen allowed read ts
  unfolding specifier
  specifier_plain read e = sym (ap (λ o. specifier_by types seen allowed read o ts) e)

  pub specifier_opened : (read : Body) (o : Opened) (a : List Token) (found : Option (SpecifierTree × List Token))
      → opened ts ≡ Some (o, a) → read o a ≡ found → found_specifier found ≡ specifier types seen allowed read ts
  unfolding specifier
  specifier_opened read o a found e c =
      sym (ap (λ o. specifier_by types seen allowed read o ts) e ∙ ap found_specifier c)

module _ (types : List Name) (n m : ℕ) (e : n ≡ suc m) where
  pub specifiers_is : (ts : List Token) → specifiers_from types m (body types m) (length ts) false [] ts ≡ specifiers types n ts
  unfolding specifiers
  specifiers_is ts = sym (ap (λ k. specifiers types k ts) e)

  pub body_is : (kind : TagKind) (tag : Option Tag) (place : Place) (ts : List Token) → body_by types m (member types m) kind tag place ts ≡ body types n (record { kind = kind; tag = tag; place = place }) ts
  unfolding body
  body_is kind tag place ts = sym (ap (λ k. body types k (record { kind = kind; tag = tag; place = place }) ts) e)

  pub member_is : (ts : List Token) (o : Option (List SpecifierTree × List Token)) → specifiers types m ts ≡ o → then_read o (λ found rest. member_after types m found rest) ≡ member types n ts
  unfolding member
  member_is ts o c = sym (ap (λ k. member types k ts) e ∙ ap (λ o. then_read o (λ found rest. member_after types m found rest)) c)

-- ## Members

module _ (types : List Name) (allowed : ℕ) (specifiers : List SpecifierTree) (ts : List Token) where
  pub member_named : is_type_name_list (count_as (as_specifiers specifiers)) ≡ true
      → then_read (one_or_more (declarator true types allowed) ts) (λ declarators a. and_after (after Marks.Semicolon a) (λ rest. Some ((as_specifiers specifiers, declarators), rest))) ≡ member_after types allowed specifiers ts
  member_named e =
      ap (λ b. cond b (then_read (one_or_more (declarator true types allowed) ts) (λ declarators a. and_after (after Marks.Semicolon a) (λ rest. Some ((as_specifiers specifiers, declarators), rest)))) None) (sym e)

  pub member_unnamed : is_type_name_list (count_as (as_specifiers specifiers)) ≡ false → None ≡ member_after types allowed specifiers ts
  member_unnamed e =
      ap (λ b. cond b (then_read (one_or_more (declarator true types allowed) ts) (λ declarators a. and_after (after Marks.Semicolon a) (λ rest. Some ((as_specifiers specifiers, declarators), rest)))) None) (sym e)
