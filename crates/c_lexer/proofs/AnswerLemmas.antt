-- A source has one answer, and what is kept of its reading determines it.
use Rattle.std.proofs.Common.{◌≡◌, ℕ, zero, suc, ◌+◌, ◌<◌, ◌≤◌, Bool, true, false, cond, ltb, List, [], ◌∷◌, length, drop, Option, Some, None, Result, Ok, Err, refl, sym, ap, ◌∙◌, subst, inl, inr, ◌⊎◌, arith}
use Rattle.std.specs.Prelude.{option_map, option_and_then, find, IfSome}
use Rattle.std.proofs.lemmas.Bool.{cases_lt, lt-ltb, le-ltb, ltb-false}
use Rattle.std.proofs.lemmas.List.{drop_all, take_all, length-take}
use Rattle.tm_terms.specs.Lexis.{begins}
use Rattle.tm_terms.specs.Spelling.{Reading, read_past, next_reading, reading, noted, with_first_names, Spells, StopsAt, Lexes, stops, spells, lexical, too_many_tokens, is_unsupported, unless_refused, checked}
use Rattle.tm_terms.specs.declared.places.Place.{Place}
use Rattle.tm_terms.specs.declared.refusals.Refusal.{Refusal}
use Rattle.tm_terms.specs.declared.tokens.Token.{Token}
use Rattle.c_lexer.specs.reading.Kept.{Stands}

-- ## One reading that goes no further

module _ (source : List ℕ) where
  none_later : (n k : ℕ) → k ≤ n → reading source k ≡ None → reading source n ≡ None
  unfolding reading
  none_later zero k h none = let same : k ≡ 0 = omega arith in rw same at none
  none_later (suc n) k h none = by_order (cases_lt k (suc n)) (λ less. none_later n k less none)
    where
      by_order : (k < suc n) ⊎ (suc n ≤ k) → (k ≤ n → reading source n ≡ None) → reading source (suc n) ≡ None
      by_order (inl less) earlier = ap (option_and_then (next_reading source)) (earlier (omega arith))
      by_order (inr more) earlier = let same : k ≡ suc n = omega arith in rw same at none

  -- a reading that stands behind as many pieces as there are
  pub record Last (r : Reading) : Type 0 where
    pub pieces : ℕ
    pub read : reading source pieces ≡ Some r
    pub ended : next_reading source r ≡ None

  none_behind : {r : Reading} (l : Last r) (k : ℕ) → l.pieces < k → reading source k ≡ None
  unfolding reading
  none_behind l k h = none_later k (suc l.pieces) h (ap (option_and_then (next_reading source)) l.read ∙ l.ended)

  pub one_last : {r s : Reading} → Last r → Last s → r ≡ s
  one_last {r} {s} l m = by_order (cases_lt l.pieces m.pieces) (cases_lt m.pieces l.pieces)
    where
      by_order : (l.pieces < m.pieces) ⊎ (m.pieces ≤ l.pieces) → (m.pieces < l.pieces) ⊎ (l.pieces ≤ m.pieces) → r ≡ s
      by_order (inl less) _ = let none = none_behind l m.pieces less in let some = m.read in cc
      by_order (inr _) (inl less) = let none = none_behind m l.pieces less in let some = l.read in cc
      by_order (inr le) (inr ge) =
          let same : l.pieces ≡ m.pieces = omega arith in
          let read : Some r ≡ Some s = sym l.read ∙ ap (reading source) same ∙ m.read in cc

  Last-from_Spells : {tokens : List Token} (s : Spells source tokens) → Last s.last
  unfolding next_reading begins
  Last-from_Spells s =
      let nothing : drop s.last.at source ≡ [] = drop_all s.last.at source (omega (arith, s.whole)) in
      record { pieces = s.pieces; read = s.read; ended = ap (λ rest. option_map (read_past source s.last) (begins s.last.at s.last.bare rest)) nothing }

  Last-from_StopsAt : {place : Place} (s : StopsAt source place) → Last s.last
  unfolding next_reading
  Last-from_StopsAt s = record { pieces = s.pieces; read = s.read; ended = ap (option_map (read_past source s.last)) s.stopped }

  -- ## One answer

  pub one_list : {tokens others : List Token} → Spells source tokens → Spells source others → tokens ≡ others
  one_list s t =
      s.spelled ∙ ap (λ (r : Reading). with_first_names source [] r.tokens) (one_last (Last-from_Spells s) (Last-from_Spells t)) ∙ sym t.spelled

  pub one_place : {place other : Place} → StopsAt source place → StopsAt source other → place ≡ other
  one_place s t = sym s.here ∙ ap (λ (r : Reading). r.place) (one_last (Last-from_StopsAt s) (Last-from_StopsAt t)) ∙ t.here

  pub not_both : {place : Place} {tokens : List Token} → StopsAt source place → Spells source tokens → ⊥
  not_both s t =
      let same : s.last.at ≡ t.last.at = ap (λ (r : Reading). r.at) (one_last (Last-from_StopsAt s) (Last-from_Spells t)) in
      omega (arith, s.inside, t.whole)

  pub one_answer : (most : ℕ) {answer other : Result (List Token) Refusal} → Lexes most source answer → Lexes most source other → answer ≡ other
  one_answer most (stops s) (stops t) = ap (λ p. Err (lexical p)) (one_place s t)
  one_answer most (stops s) (spells t) = absurd (not_both s t)
  one_answer most (spells s) (stops t) = absurd (not_both t s)
  one_answer most (spells s) (spells t) = ap (checked most) (one_list s t)

  pub only_one : (most : ℕ) (given : Option (Result (List Token) Refusal)) → IfSome given (λ answer. Lexes most source answer)
      → (answer : Result (List Token) Refusal) → Lexes most source answer → IfSome given (λ g. g ≡ answer)
  only_one most None _ answer is = tt
  only_one most (Some given) lexed answer is = one_answer most lexed is

  -- ## From what is kept

  pub length-with_first_names : (table : List (List ℕ × ℕ)) (tokens : List Token) → length (with_first_names source table tokens) ≡ length tokens
  unfolding with_first_names
  length-with_first_names table [] = refl
  length-with_first_names table (t ∷ tokens) = ap suc (length-with_first_names (noted source table t.shape) tokens)

  Spells-from_Stands : (place : Place) (bare : Bool) (kept : List Token) (most : ℕ) (s : Stands most source (length source) place bare kept) → Spells source (with_first_names source [] s.tokens)
  Spells-from_Stands place bare kept most s = record {
    pieces = s.pieces;
    last = record { at = length source; place = place; bare = bare; tokens = s.tokens };
    read = s.read;
    whole = refl;
    spelled = refl;
  }

  -- nothing begins where the reading stands
  pub Lexes-stopped : (most at : ℕ) (place : Place) (bare : Bool) (kept : List Token) (rest : List ℕ) (refusal : Refusal) → Stands most source at place bare kept → at < length source
      → rest ≡ drop at source → None ≡ begins at bare rest → refusal ≡ lexical place → Lexes most source (Err refusal)
  Lexes-stopped most at place bare kept rest refusal s inside left nothing is =
      rw is (stops (record {
        pieces = s.pieces;
        last = record { at = at; place = place; bare = bare; tokens = s.tokens };
        read = s.read;
        inside = inside;
        stopped = sym (nothing ∙ ap (begins at bare) left);
        here = refl;
      }))

  -- more are kept than allowed
  pub Lexes-too_many : (most : ℕ) (place : Place) (bare : Bool) (kept : List Token) → Stands most source (length source) place bare kept → most < length kept → Lexes most source (Err too_many_tokens)
  unfolding checked
  Lexes-too_many most place bare kept s many =
      let cut : length kept ≤ length s.tokens = omega (arith, ap length s.front, length-take (most + 1) s.tokens) in
      let over : ltb most (length (with_first_names source [] s.tokens)) ≡ true = lt-ltb _ _ (omega (arith, length-with_first_names [] s.tokens)) in
      subst (Lexes most source) (rw over refl) (spells (Spells-from_Stands place bare kept most s))

  -- no more are kept
  pub Lexes-kept : (most : ℕ) (place : Place) (bare : Bool) (kept : List Token) → Stands most source (length source) place bare kept → length kept ≤ most → Lexes most source (checked most (with_first_names source [] kept))
  Lexes-kept most place bare kept s few =
      let whole : s.tokens ≡ kept = sym (s.front ∙ take_all (most + 1) s.tokens (omega (arith, ap length s.front, length-take (most + 1) s.tokens))) in
      let lexed : Lexes most source (checked most (with_first_names source [] s.tokens)) =
      spells (Spells-from_Stands place bare kept most s) in
      rw whole at lexed

pub told_same : (most : ℕ) (source : List ℕ) (given : Option (Result (List Token) Refusal)) (answer : Result (List Token) Refusal) → given ≡ Some answer → Lexes most source answer → IfSome given (λ a. Lexes most source a)
told_same most source given answer same is = rw same is

-- ## Where more tokens are allowed

kept_list : (tokens answer : List Token) (o : Option Token) → unless_refused tokens o ≡ Ok answer → tokens ≡ answer
kept_list tokens answer None e = cc
kept_list tokens answer (Some t) e = absurd cc

-- the test of a limit, read off an answer with tokens
few_by : (most : ℕ) (tokens answer : List Token) (b : Bool) → ltb most (length tokens) ≡ b
    → cond b (Err too_many_tokens) (unless_refused tokens (find (λ t. is_unsupported t.shape) tokens)) ≡ Ok answer
    → (length tokens ≤ most) × (unless_refused tokens (find (λ t. is_unsupported t.shape) tokens) ≡ Ok answer)
few_by most tokens answer true over e = absurd cc
few_by most tokens answer false few e = (ltb-false most (length tokens) few, e)

unchecked : (most : ℕ) (tokens answer : List Token) → checked most tokens ≡ Ok answer
    → (length tokens ≤ most) × (unless_refused tokens (find (λ t. is_unsupported t.shape) tokens) ≡ Ok answer)
unfolding checked
unchecked most tokens answer e = few_by most tokens answer (ltb most (length tokens)) refl e

checked_few : (most : ℕ) (tokens : List Token) → length tokens ≤ most
    → checked most tokens ≡ unless_refused tokens (find (λ t. is_unsupported t.shape) tokens)
unfolding checked
checked_few most tokens few =
    ap (λ b. cond b (Err too_many_tokens) (unless_refused tokens (find (λ t. is_unsupported t.shape) tokens)))
    (le-ltb most (length tokens) few)

more_by : (source : List ℕ) (most more : ℕ) (tokens : List Token) → most ≤ more → {answer : Result (List Token) Refusal}
    → Lexes most source answer → answer ≡ Ok tokens → Lexes more source (Ok tokens)
more_by source most more tokens le (stops s) e = absurd cc
more_by source most more tokens le (spells {tokens = spelled} s) e =
    let u = unchecked most spelled tokens e in
    subst (Lexes more source) (checked_few more spelled (omega (arith, le, u.0)) ∙ u.1) (spells s)

-- tokens that are an answer are one too where more are allowed
pub lexes_more : (source : List ℕ) (most more : ℕ) (tokens : List Token) → most ≤ more → Lexes most source (Ok tokens)
    → Lexes more source (Ok tokens)
lexes_more source most more tokens le lexed = more_by source most more tokens le lexed refl

spelled_by : (source : List ℕ) (most : ℕ) (tokens : List Token) {answer : Result (List Token) Refusal}
    → Lexes most source answer → answer ≡ Ok tokens → Spells source tokens
spelled_by source most tokens (stops s) e = absurd cc
spelled_by source most tokens (spells {tokens = spelled} s) e =
    subst (Spells source) (kept_list spelled tokens _ (unchecked most spelled tokens e).1) s

-- tokens that are an answer are the only ones, however many are allowed
pub lexes_alike : (source : List ℕ) (most more : ℕ) (tokens others : List Token) → Lexes most source (Ok tokens)
    → Lexes more source (Ok others) → tokens ≡ others
lexes_alike source most more tokens others one other =
    one_list source (spelled_by source most tokens one refl) (spelled_by source more others other refl)
