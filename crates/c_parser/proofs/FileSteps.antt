-- One step of the loop over items, of the reading of a parameter, and of a declaration or a function behind its specifiers.
use Rattle.std.proofs.Common.{◌≡◌, ℕ, zero, suc, ◌<◌, Bool, true, false, cond, List, [], ◌∷◌, ◌++◌, length, take, drop, slice_index_or, Option, Some, None, refl, sym, ap, ◌∙◌, arith}
use Rattle.std.proofs.Math.Seq.{drop-cons}
use Rattle.std.proofs.lemmas.List.{take-append-drop}
use Rattle.tm_terms.specs.declared.tokens.Name.{Name}
use Rattle.tm_terms.specs.declared.tokens.Token.{Token}
use Rattle.tm_terms.specs.declared.types_named.PointerWord.{PointerWord}
use Rattle.tm_terms.specs.ExprSpelling.{is_type_name_list}
use Rattle.c_expr_parser.specs.declared.marks.Mark.TheVariants as Marks
use Rattle.c_expr_parser.specs.reading.Parts.{then_read, after}
use Rattle.tm_trees.specs.DeclarationTrees.{SpecifierTree, count_as, as_specifiers}
use Rattle.tm_trees.specs.DeclarationSpelling.{is_file_list}
use Rattle.tm_trees.specs.FileTrees.{ParameterTree, ItemTree}
use Rattle.tm_trees.specs.Parsing.{IsPlaceOf}
use Rattle.c_decl_parser.specs.reading.DeclarationDescent.{pointers, specifiers}
use Rattle.c_parser.specs.reading.FileDescent.{declares, parameter_by, parameter_after, parameter, undeclared_by, behind_pointers, behind_specifiers, item, is_end, items_from, file}

-- ## Items

pub items_end : (h n : ℕ) (types : List Name) (found : List ItemTree) (ts : List Token) → is_end ts ≡ true → items_from h n types found ts ≡ Some found
unfolding items_from
items_end h zero types found ts e = ap (λ b. cond b (Some found) None) e
items_end h (suc n) types found ts e = ap (λ b. cond b (Some found) (then_read (item types h ts) (λ x rest. items_from h n x.1 (found ++ x.0 ∷ []) rest))) e

pub items_done : (h n : ℕ) (types : List Name) (found : List ItemTree) (ts : List Token) → n ≡ 0 → is_end ts ≡ false → items_from h n types found ts ≡ None
unfolding items_from
items_done h zero types found ts z e = ap (λ b. cond b (Some found) None) e
items_done h (suc n) types found ts z e = cc

pub items_stuck : (h n : ℕ) (types : List Name) (found : List ItemTree) (ts : List Token) → is_end ts ≡ false → item types h ts ≡ None → items_from h n types found ts ≡ None
unfolding items_from
items_stuck h zero types found ts e r = ap (λ b. cond b (Some found) None) e
items_stuck h (suc n) types found ts e r =
    ap (λ b. cond b (Some found) (then_read (item types h ts) (λ x rest. items_from h n x.1 (found ++ x.0 ∷ []) rest))) e
    ∙ ap (λ o. then_read o (λ x rest. items_from h n x.1 (found ++ x.0 ∷ []) rest)) r

pub items_next : (h n m : ℕ) (types types' : List Name) (found : List ItemTree) (ts : List Token) (x : ItemTree) (rest : List Token) → n ≡ suc m → is_end ts ≡ false → item types h ts ≡ Some ((x, types'), rest) → items_from h n types found ts ≡ items_from h m types' (found ++ x ∷ []) rest
unfolding items_from
items_next h n m types types' found ts x rest z e r =
    ap (λ k. items_from h k types found ts) z
    ∙ ap (λ b. cond b (Some found) (then_read (item types h ts) (λ x rest. items_from h m x.1 (found ++ x.0 ∷ []) rest))) e
    ∙ ap (λ o. then_read o (λ x rest. items_from h m x.1 (found ++ x.0 ∷ []) rest)) r

pub file_nonempty : (ts : List Token) → file ts ≡ None → 0 < length ts
unfolding items_from
file_nonempty [] e = cc
file_nonempty (t ∷ ts) e = omega arith

-- ## Behind specifiers

pub file_list_none : (types : List Name) (h : ℕ) (found : List SpecifierTree) (ts : List Token) → is_file_list (count_as (as_specifiers found)) ≡ false → behind_specifiers types h found ts ≡ None
unfolding behind_specifiers
file_list_none types h found ts e = ap (λ b. cond b (undeclared_by types h found (after Marks.Semicolon ts) ts) None) e

pub file_list_some : (types : List Name) (h : ℕ) (found : List SpecifierTree) (ts : List Token) (o : Option (List Token)) → is_file_list (count_as (as_specifiers found)) ≡ true → after Marks.Semicolon ts ≡ o → behind_specifiers types h found ts ≡ undeclared_by types h found o ts
unfolding behind_specifiers
file_list_some types h found ts o e s =
    ap (λ b. cond b (undeclared_by types h found (after Marks.Semicolon ts) ts) None) e ∙ ap (λ o. undeclared_by types h found o ts) s

-- ## Parameters

pub parameter_none : (types : List Name) (n : ℕ) (ts : List Token) → n ≡ 0 → parameter types n ts ≡ None
unfolding parameter
parameter_none types n ts z = ap (λ k. parameter types k ts) z

pub parameter_some : (types : List Name) (n m : ℕ) (ts : List Token) → n ≡ suc m → parameter types n ts ≡ then_read (specifiers types m ts) (λ found rest. parameter_after types m found rest)
unfolding parameter
parameter_some types n m ts z = ap (λ k. parameter types k ts) z

pub parameter_unlisted : (types : List Name) (h : ℕ) (found : List SpecifierTree) (ts : List Token) → is_type_name_list (count_as (as_specifiers found)) ≡ false → parameter_after types h found ts ≡ None
unfolding parameter_after
parameter_unlisted types h found ts e = ap (λ b. cond b (parameter_by types h found (pointers ts).0 (declares (pointers ts).1) (pointers ts).1) None) e

pub parameter_listed : (types : List Name) (h : ℕ) (found : List SpecifierTree) (ts : List Token) (words : List PointerWord) (rest : List Token) → is_type_name_list (count_as (as_specifiers found)) ≡ true → (words, rest) ≡ pointers ts → parameter_after types h found ts ≡ parameter_by types h found words (declares rest) rest
unfolding parameter_after
parameter_listed types h found ts words rest e p =
    ap (λ b. cond b (parameter_by types h found (pointers ts).0 (declares (pointers ts).1) (pointers ts).1) None) e
    ∙ ap (λ x. parameter_by types h found x.0 (declares x.1) x.1) (sym p)

-- ## Places

-- the place of the token at an index
pub place_at : (ts : List Token) (i : ℕ) (d : Token) → i < length ts → IsPlaceOf ts (slice_index_or ts i d).place
place_at ts i d h = record {
  before = take i ts;
  token = slice_index_or ts i d;
  after = drop (suc i) ts;
  among = sym (take-append-drop i ts) ∙ ap (λ r. take i ts ++ r) (drop-cons ts i d h);
  here = refl;
}
