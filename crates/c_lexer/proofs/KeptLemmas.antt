-- The front of a reading's tokens that is kept, and a reading one piece further.
use Rattle.std.proofs.Common.{◌≡◌, ℕ, suc, ◌+◌, ◌<◌, ◌≤◌, Bool, true, List, [], ◌++◌, length, take, drop, Some, refl, sym, ap, ◌∙◌, inl, inr, ◌⊎◌, arith}
use Rattle.std.specs.Prelude.{option_map, option_and_then}
use Rattle.std.proofs.lemmas.Bool.{cases_lt}
use Rattle.std.proofs.lemmas.List.{take-append-le, length-take-le, length-append, take-take, take_all}
use Rattle.tm_terms.specs.Lexis.{begins}
use Rattle.tm_terms.specs.Spelling.{Reading, first_place, read_past, next_reading, reading, place_after, bare_after, token_of}
use Rattle.tm_terms.specs.declared.places.Place.{Place}
use Rattle.tm_terms.specs.declared.tokens.Piece.{Piece}
use Rattle.tm_terms.specs.declared.tokens.Token.{Token}
use Rattle.c_lexer.specs.reading.Kept.{Stands}

-- what was cut off does not come back
pub take-take_append : {X : Type 0} (n : ℕ) (xs ys : List X) → take n (take n xs ++ ys) ≡ take n (xs ++ ys)
take-take_append n xs ys = by_order (cases_lt (length xs) n)
  where
    by_order : (length xs < n) ⊎ (n ≤ length xs) → take n (take n xs ++ ys) ≡ take n (xs ++ ys)
    by_order (inl h) = ap (λ zs. take n (zs ++ ys)) (take_all n xs (omega arith))
    by_order (inr h) =
        take-append-le n (take n xs) ys (omega (arith, length-take-le n xs h)) ∙ take-take n n xs (omega arith) ∙ sym (take-append-le n xs ys h)

-- there is room for more
pub kept_with : {X : Type 0} (n : ℕ) (xs ys : List X) → length xs + length ys ≤ n → xs ++ ys ≡ take n (xs ++ ys)
kept_with n xs ys h = sym (take_all n (xs ++ ys) (omega (arith, length-append xs ys)))

-- there is no room
pub kept_full : {X : Type 0} (n : ℕ) (xs ys : List X) → length xs ≡ n → xs ≡ take n (xs ++ ys)
kept_full n xs ys h = sym (take-append-le n xs ys (omega arith) ∙ take_all n xs (omega arith))

pub Stands-start : (most : ℕ) (source : List ℕ) → Stands most source 0 first_place true []
unfolding reading
Stands-start most source = record {
  pieces = 0;
  tokens = [];
  read = refl;
  front = sym (take_all (most + 1) [] (omega arith));
}

pub Stands-more : (most : ℕ) (source : List ℕ) (at : ℕ) (place : Place) (bare : Bool) (kept more : List Token) (p : Piece)
    → Stands most source at place bare kept → begins at bare (drop at source) ≡ Some p → more ≡ take (most + 1) (kept ++ token_of place p.shape)
    → Stands most source (at + p.length) (place_after place (take p.length (drop at source))) (bare_after bare (take p.length (drop at source))) more
unfolding reading next_reading
Stands-more most source at place bare kept more p s begun kept_more =
    let r : Reading = record { at = at; place = place; bare = bare; tokens = s.tokens } in
    record {
      pieces = suc s.pieces;
      tokens = s.tokens ++ token_of place p.shape;
      read = ap (option_and_then (next_reading source)) s.read ∙ ap (option_map (read_past source r)) begun;
      front = kept_more ∙ ap (λ xs. take (most + 1) (xs ++ token_of place p.shape)) s.front ∙ take-take_append (most + 1) s.tokens (token_of place p.shape);
    }

-- the same, with names for what is left of the source and for the text of the piece
pub Stands-past : (most : ℕ) (source : List ℕ) (at : ℕ) (place past : Place) (bare still : Bool) (kept more : List Token) (p : Piece) (rest text : List ℕ)
    → Stands most source at place bare kept → rest ≡ drop at source → Some p ≡ begins at bare rest → more ≡ take (most + 1) (kept ++ token_of place p.shape)
    → text ≡ take p.length rest → past ≡ place_after place text → still ≡ bare_after bare text
    → Stands most source (at + p.length) past still more
Stands-past most source at place past bare still kept more p rest text s left begun kept_more cut place_is bare_is =
    let cut_off : text ≡ take p.length (drop at source) = cut ∙ ap (take p.length) left in
    rw (place_is, bare_is, cut_off) (Stands-more most source at place bare kept more p s (sym (begun ∙ ap (begins at bare) left)) kept_more)
