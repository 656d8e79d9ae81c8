-- The code compares types as the definition does, and its index gives the first row of each type.
use Rattle.std.proofs.Common.{◌≡◌, refl, ap, ◌∙◌, sym, ℕ, ◌+◌, ◌<◌, ◌≤◌, List, [], ◌∷◌, length, not, cond, nat_lt, Option, Some, None, arith}
use Rattle.std.proofs.lemmas.List.Sums.{prefix_len-le-length}
use Rattle.std.proofs.lemmas.Bool.Decides.{nat_tests}
use Rattle.std.specs.Prelude.{Bool, true, false, ◌&&◌, ◌==◌, ◌++◌, suc, option_map}
use Rattle.std.specs.List.{position, position_or_len}
use Rattle.std.specs.Map.{lookup}
use Rattle.tm_cint.specs.declared.int_types.IntType.{IntType}
use Rattle.tm_cint.specs.declared.int_types.IntType.TheVariants as Ints
use Rattle.tm_cint.specs.contracts.int_types.IntType.{the_type}
use denote.Enum.Bare.{sameb}
use lib.Dec.{eqb}
use mathlib.Core.Bool.{beq}
use Rattle.tm_typed.specs.declared.types.Qualified.{Qualified}
use Rattle.tm_typed.specs.declared.types.CType.{CType}
use Rattle.tm_typed.specs.declared.types.CType.TheVariants as Types
use Rattle.tm_typed.specs.contracts.types.CTypePartialEq.TheImpl.{eq-value}
use Rattle.tm_typed.specs.contracts.types.CTypeEq.TheImpl.Laws.{laws-law}
use Rattle.tm_typed.specs.Types.{is_same_int}
use Rattle.tm_typed.specs.Scopes.{or_else}
use Rattle.tm_typed.specs.TypeRows.{is_same_bool, is_same_qualified, is_same_ctype}

same_number : (m n : ℕ) → eqb m n ≡ (m == n)
same_number m n = refl

same_bool : (a b : Bool) → beq a b ≡ is_same_bool a b
same_bool true true = refl
same_bool true false = refl
same_bool false true = refl
same_bool false false = refl

same_int : (t u : IntType) → sameb the_type t u ≡ is_same_int t u
same_int Ints.Bool Ints.Bool = refl
same_int Ints.Char Ints.Char = refl
same_int Ints.UChar Ints.UChar = refl
same_int Ints.Short Ints.Short = refl
same_int Ints.UShort Ints.UShort = refl
same_int Ints.Int Ints.Int = refl
same_int Ints.UInt Ints.UInt = refl
same_int Ints.Long Ints.Long = refl
same_int Ints.ULong Ints.ULong = refl
same_int Ints.LLong Ints.LLong = refl
same_int Ints.ULLong Ints.ULLong = refl
same_int t u = refl

same_qualified : (q r : Qualified) → (eqb q.number r.number && (beq q.constant r.constant && beq q.volatile r.volatile)) ≡ is_same_qualified q r
same_qualified q r =
    ap (λ b. eqb q.number r.number && (b && beq q.volatile r.volatile)) (same_bool q.constant r.constant)
    ∙ ap (λ b. eqb q.number r.number && (is_same_bool q.constant r.constant && b)) (same_bool q.volatile r.volatile)

pub same : (a b : CType) → eq-value.it a b ≡ is_same_ctype a b
same Types.Void Types.Void = refl
same (Types.Int t) (Types.Int u) = same_int t u
same (Types.Pointer q) (Types.Pointer r) = same_qualified q r
same (Types.Array e n) (Types.Array f m) = refl
same (Types.Struct k) (Types.Struct l) = refl
same a b = refl

-- ## Types that are the same as one another

-- what is the same as one of two same types is the same as the other
same_class : (t q : CType) → is_same_ctype t q ≡ true → (u : CType) → is_same_ctype q u ≡ is_same_ctype t u
same_class t q h u = sym (same q u) ∙ sym (laws-law.congr t q u (same t q ∙ h)) ∙ same t u

same_turned : (t q : CType) → is_same_ctype t q ≡ is_same_ctype q t
same_turned t q = sym (same t q) ∙ laws-law.symm t q ∙ same q t

-- the index finds by the code's comparison what it finds by the definition's
pub found_alike : (t : CType) (rows : List (CType × ℕ)) → lookup (eq-value.it t) rows ≡ lookup (is_same_ctype t) rows
found_alike t [] = refl
found_alike t (r ∷ rows) = ap (λ b. cond b (Some r.1) (lookup (eq-value.it t) rows)) (same t r.0) ∙ ap (λ o. cond (is_same_ctype t r.0) (Some r.1) o) (found_alike t rows)

-- ## The first place of a type

place_by : (p q : CType → Bool) → ((t : CType) → p t ≡ q t) → (ts : List CType) → position_or_len p ts ≡ position_or_len q ts
place_by p q h [] = refl
place_by p q h (t ∷ ts) = ap (λ b. cond (not b) (1 + position_or_len p ts) 0) (h t) ∙ ap (λ n. cond (not (q t)) (1 + n) 0) (place_by p q h ts)

position_by : (p q : CType → Bool) → ((t : CType) → p t ≡ q t) → (ts : List CType) → position p ts ≡ position q ts
position_by p q h ts = ap (λ n. cond (nat_lt n (length ts)) (Some n) None) (place_by p q h ts)

some_place : (b : Bool) (n i : ℕ) → cond b (Some n) None ≡ Some i → i ≡ n
some_place true n i e = cc
some_place false n i e = absurd cc

no_place : (b : Bool) (n : ℕ) → cond b (Some n) None ≡ None → b ≡ false
no_place true n e = absurd cc
no_place false n e = refl

behind_all : (n m : ℕ) → n ≤ m → nat_lt n m ≡ false → m ≡ n
behind_all n m h e = grind (arith, nat_tests)

-- what the index gives is the definition's number
pub found_number : (t : CType) (ts : List CType) (i : ℕ) → position (is_same_ctype t) ts ≡ Some i → i ≡ position_or_len (is_same_ctype t) ts
found_number t ts i e = let n = position_or_len (is_same_ctype t) ts in some_place (nat_lt n (length ts)) n i e

pub no_number : (t : CType) (ts : List CType) → position (is_same_ctype t) ts ≡ None → length ts ≡ position_or_len (is_same_ctype t) ts
no_number t ts e =
    let n = position_or_len (is_same_ctype t) ts in
    behind_all n (length ts) (prefix_len-le-length (λ x. not (is_same_ctype t x)) ts) (no_place (nat_lt n (length ts)) n e)

-- ## One more type

one_behind : (n m : ℕ) → cond (nat_lt (1 + n) (suc m)) (Some (1 + n)) None ≡ option_map suc (cond (nat_lt n m) (Some n) None)
one_behind n m = by_test (nat_lt n m) refl
  where
    below : nat_lt (1 + n) (suc m) ≡ nat_lt n m
    below = grind (arith, nat_tests)

    by_test : (b : Bool) → nat_lt n m ≡ b → cond (nat_lt (1 + n) (suc m)) (Some (1 + n)) None ≡ option_map suc (cond (nat_lt n m) (Some n) None)
    by_test true e = ap (λ c. cond c (Some (1 + n)) None) (below ∙ e) ∙ ap Some (omega arith) ∙ ap (λ c. option_map suc (cond c (Some n) None)) (sym e)
    by_test false e = ap (λ c. cond c (Some (1 + n)) None) (below ∙ e) ∙ ap (λ c. option_map suc (cond c (Some n) None)) (sym e)

position_first : (p : CType → Bool) (t : CType) (ts : List CType) → position p (t ∷ ts) ≡ cond (p t) (Some 0) (option_map suc (position p ts))
position_first p t ts = by_test (p t)
  where
    by_test : (b : Bool) → cond (nat_lt (cond (not b) (1 + position_or_len p ts) 0) (suc (length ts))) (Some (cond (not b) (1 + position_or_len p ts) 0)) None ≡ cond b (Some 0) (option_map suc (position p ts))
    by_test true = let first : nat_lt 0 (suc (length ts)) ≡ true = grind (arith, nat_tests) in ap (λ c. cond c (Some 0) None) first
    by_test false = one_behind (position_or_len p ts) (length ts)

behind_first : (b c : Bool) (o : Option ℕ) (k : ℕ) → cond b (Some 0) (option_map suc (or_else o (cond c (Some k) None))) ≡ or_else (cond b (Some 0) (option_map suc o)) (cond c (Some (suc k)) None)
behind_first true c o k = refl
behind_first false c (Some i) k = refl
behind_first false true None k = refl
behind_first false false None k = refl

alone : (b : Bool) → cond b (Some 0) (option_map suc None) ≡ or_else None (cond b (Some 0) None)
alone true = refl
alone false = refl

-- a type at the end is found there where no type before it is
position_last : (p : CType → Bool) (ts : List CType) (t : CType) → position p (ts ++ t ∷ []) ≡ or_else (position p ts) (cond (p t) (Some (length ts)) None)
position_last p [] t = position_first p t [] ∙ alone (p t)
position_last p (x ∷ xs) t =
    position_first p x (xs ++ t ∷ [])
    ∙ ap (λ o. cond (p x) (Some 0) (option_map suc o)) (position_last p xs t)
    ∙ behind_first (p x) (p t) (position p xs) (length xs)
    ∙ ap (λ o. or_else o (cond (p t) (Some (suc (length xs))) None)) (sym (position_first p x xs))

or_none : (o : Option ℕ) → or_else o None ≡ o
or_none (Some i) = refl
or_none None = refl

-- the index with one entry more, for a type that had none
pub found_pushed : (t q : CType) (ts : List CType) (k : ℕ) (before after : Option ℕ) → after ≡ cond (eq-value.it t q) (Some k) before → before ≡ position (is_same_ctype q) ts → k ≡ length ts → position_or_len (is_same_ctype t) ts ≡ length ts
    → after ≡ position (is_same_ctype q) (ts ++ t ∷ [])
found_pushed t q ts k before after u h l none =
    u
    ∙ ap (λ b. cond b (Some k) before) (same t q)
    ∙ by_test (is_same_ctype t q) refl
    ∙ sym (position_last (is_same_ctype q) ts t)
  where
    missing : (n m : ℕ) → n ≡ m → cond (nat_lt n m) (Some n) None ≡ None
    missing n m e = let f : nat_lt n m ≡ false = grind (arith, nat_tests) in ap (λ b. cond b (Some n) None) f

    by_test : (b : Bool) → is_same_ctype t q ≡ b → cond b (Some k) before ≡ or_else (position (is_same_ctype q) ts) (cond (is_same_ctype q t) (Some (length ts)) None)
    by_test true e =
        ap Some l
        ∙ ap (λ o. or_else o (Some (length ts))) (sym (position_by (is_same_ctype q) (is_same_ctype t) (same_class t q e) ts ∙ missing (position_or_len (is_same_ctype t) ts) (length ts) none))
        ∙ ap (λ b. or_else (position (is_same_ctype q) ts) (cond b (Some (length ts)) None)) (sym (sym (same_turned t q) ∙ e))
    by_test false e =
        h
        ∙ sym (or_none (position (is_same_ctype q) ts))
        ∙ ap (λ b. or_else (position (is_same_ctype q) ts) (cond b (Some (length ts)) None)) (sym (sym (same_turned t q) ∙ e))
