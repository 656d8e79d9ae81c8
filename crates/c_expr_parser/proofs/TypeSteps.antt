-- One step of the loops over specifiers and over pointer parts, and a type name from both.
use Rattle.std.proofs.Common.{◌≡◌, ℕ, zero, suc, Bool, true, false, cond, ◌||◌, List, [], ◌∷◌, ◌++◌, length, Some, None, refl, sym, ap, ◌∙◌}
use Rattle.tm_terms.specs.declared.tokens.Name.{Name}
use Rattle.tm_terms.specs.declared.tokens.Token.{Token}
use Rattle.tm_terms.specs.declared.types_named.Spec.{Spec}
use Rattle.tm_terms.specs.declared.types_named.PointerWord.{PointerWord}
use Rattle.tm_terms.specs.ExprSpelling.{is_type_spec, is_type_name_list}
use Rattle.c_expr_parser.specs.reading.Parts.{spec_at, specs_by, specs_from, pointer_at, pointers_by, pointers_from, without_first, type_name_of, type_name}

-- no specifier comes first
pub specs_stop : (types : List Name) (n : ℕ) (seen : Bool) (read : List Spec) (ts : List Token) → spec_at types seen ts ≡ None → specs_from types n seen read ts ≡ (read, ts)
unfolding specs_from
specs_stop types zero seen read ts e = refl
specs_stop types (suc n) seen read ts e =
    ap (λ o. specs_by o (read, ts) (λ s rest. specs_from types n (seen || is_type_spec s.word) (read ++ s ∷ []) rest)) e

pub specs_done : (types : List Name) (n : ℕ) (seen : Bool) (read : List Spec) (ts : List Token) → n ≡ 0 → specs_from types n seen read ts ≡ (read, ts)
unfolding specs_from
specs_done types zero seen read ts e = refl
specs_done types (suc n) seen read ts e = cc

-- one comes first
pub specs_next : (types : List Name) (n m : ℕ) (seen : Bool) (read : List Spec) (ts : List Token) (s : Spec) (rest : List Token) → n ≡ suc m → spec_at types seen ts ≡ Some (s, rest) → specs_from types n seen read ts ≡ specs_from types m (seen || is_type_spec s.word) (read ++ s ∷ []) rest
unfolding specs_from
specs_next types n m seen read ts s rest e h =
    ap (λ k. specs_from types k seen read ts) e
    ∙ ap (λ o. specs_by o (read, ts) (λ s rest. specs_from types m (seen || is_type_spec s.word) (read ++ s ∷ []) rest)) h

pub pointers_stop : (n : ℕ) (started : Bool) (read : List PointerWord) (ts : List Token) → pointer_at started ts ≡ None → pointers_from n started read ts ≡ (read, ts)
unfolding pointers_from
pointers_stop zero started read ts e = refl
pointers_stop (suc n) started read ts e =
    ap (λ o. pointers_by o (read, ts) (λ w. pointers_from n true (read ++ w ∷ []) (without_first ts))) e

pub pointers_done : (n : ℕ) (started : Bool) (read : List PointerWord) (ts : List Token) → n ≡ 0 → pointers_from n started read ts ≡ (read, ts)
unfolding pointers_from
pointers_done zero started read ts e = refl
pointers_done (suc n) started read ts e = cc

pub pointers_next : (n m : ℕ) (started : Bool) (read : List PointerWord) (ts : List Token) (w : PointerWord) → n ≡ suc m → pointer_at started ts ≡ Some w → pointers_from n started read ts ≡ pointers_from m true (read ++ w ∷ []) (without_first ts)
unfolding pointers_from
pointers_next n m started read ts w e h =
    ap (λ k. pointers_from k started read ts) e
    ∙ ap (λ o. pointers_by o (read, ts) (λ w. pointers_from m true (read ++ w ∷ []) (without_first ts))) h

-- a type name from its two lists
pub type_name_is : (types : List Name) (ts : List Token) (specs : List Spec) (r : List Token) (words : List PointerWord) (rest : List Token) (b : Bool) → (specs, r) ≡ specs_from types (length ts) false [] ts → (words, rest) ≡ pointers_from (length r) false [] r → is_type_name_list specs ≡ b → cond b (Some (record { specs = specs; pointers = words }, rest)) None ≡ type_name types ts
unfolding type_name
type_name_is types ts specs r words rest b e f g =
    ap (λ b. cond b (Some (record { specs = specs; pointers = words }, rest)) None) (sym g)
    ∙ ap (λ x. type_name_of specs x) f
    ∙ ap (λ x. type_name_of x.0 (pointers_from (length x.1) false [] x.1)) e
