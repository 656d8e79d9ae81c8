-- Sorts within others, and operations over more or over other temporaries.
use Rattle.std.proofs.Common.{◌≡◌, refl, sym, ap, subst, ℕ, true, List}
use Rattle.std.proofs.Common.{Option, Some, None, slice_get, arith, ℤ}
use Rattle.std.specs.Prelude.{◌≤ℤ◌, int_le}
use Rattle.std.proofs.lemmas.Bool.{and_parts, and_from}
use Rattle.std.proofs.lemmas.Int.{ints}
use Rattle.temporary_types.specs.tm_cint.declared.int_types.IntType.{IntType}
use Rattle.temporary_types.specs.tm_cint.declared.int_types.IntType.TheVariants as Ints
use Rattle.temporary_types.specs.tm_cint.declared.operators.BinOp.{BinOp}
use Rattle.temporary_types.specs.tm_cint.declared.operators.BinOp.TheVariants as Bins
use Rattle.temporary_types.specs.tm_cint.IntTypes.{lo_of, hi_of}
use Rattle.temporary_types.specs.tm_cint.Conversions.{represents_all}
use Rattle.temporary_types.specs.tm_laid.Layouts.{LaidTree}
use Rattle.temporary_types.specs.flow_graph.declared.operations.Test.{Test}
use Rattle.temporary_types.specs.flow_graph.declared.operations.Test.TheVariants as Tested
use Rattle.temporary_types.specs.flow_graph.declared.operations.Operation.{Operation}
use Rattle.temporary_types.specs.flow_graph.declared.operations.Operation.TheVariants as Op
use Rattle.temporary_types.specs.flow_graph.Operations.{given, opposite}
use Rattle.temporary_types.specs.Sorts.{Sort, numbers, pointers, Within, Holds, HoldsNumbers, HoldsAny, HoldsRight}
use Rattle.temporary_types.specs.Sorts.{WorksTest, Works, Gives, GivesTo, FitsSorts}
use Rattle.lowering_laws.specs.lowering.Built.{renamed_test, renamed}
use Rattle.operation_laws.proofs.Growing.{Grows}

-- ## Sorts within others

pub within_self : (s : Sort) → Within s s
within_self (numbers Ints.Bool) = refl
within_self pointers = tt
within_self _ = refl

-- every type has 0 and 1
pub truth_within : (t : IntType) → Within (numbers Ints.Bool) (numbers t)
truth_within Ints.Bool = refl
truth_within _ = refl

le_through : (a b c : ℤ) → int_le a b ≡ true → int_le b c ≡ true → int_le a c ≡ true
le_through a b c h k = le_is a c (through a b c (is_le a b h) (is_le b c k))
  where
    is_le : (p q : ℤ) → int_le p q ≡ true → p ≤ℤ q
    is_le p q e = omega (arith, ints)

    le_is : (p q : ℤ) → p ≤ℤ q → int_le p q ≡ true
    le_is p q l = sym (omega (arith, ints))

    through : (p q r : ℤ) → p ≤ℤ q → q ≤ℤ r → p ≤ℤ r
    through p q r l m = omega (arith, ints)

all_through : (u t v : IntType) → represents_all t u ≡ true → represents_all v t ≡ true → represents_all v u ≡ true
all_through u t v h k =
    let a = and_parts (int_le (lo_of t) (lo_of u)) (int_le (hi_of u) (hi_of t)) h in
    let b = and_parts (int_le (lo_of v) (lo_of t)) (int_le (hi_of t) (hi_of v)) k in
    and_from (int_le (lo_of v) (lo_of u)) (int_le (hi_of u) (hi_of v))
    (le_through (lo_of v) (lo_of t) (lo_of u) b.0 a.0) (le_through (hi_of u) (hi_of t) (hi_of v) a.1 b.1)

pub within_through : (a b c : Sort) → Within a b → Within b c → Within a c
within_through (numbers u) (numbers t) (numbers v) h k = all_through u t v h k
within_through (numbers u) (numbers t) pointers h k = absurd k
within_through (numbers u) pointers c h k = absurd h
within_through pointers (numbers t) c h k = absurd h
within_through pointers pointers (numbers v) h k = absurd k
within_through pointers pointers pointers h k = tt

pub holds_wider : (sorts : List Sort) (temp : ℕ) (a b : Sort) → Holds sorts temp a → Within a b → Holds sorts temp b
holds_wider sorts temp a b h w = (h.0, h.1, within_through h.0 a b h.2 w)

-- a temporary that has the sort itself
pub holds_own : (sorts : List Sort) (temp : ℕ) (s : Sort) → slice_get sorts temp ≡ Some s → Holds sorts temp s
holds_own sorts temp s e = (s, e, within_self s)

-- ## More temporaries, or others

-- what the one temporaries hold, the others do by this table
abbrev pub Maps : (ℕ → ℕ) → List Sort → List Sort → Type 0
Maps f vs ss = (v : ℕ) (s : Sort) → slice_get vs v ≡ Some s → slice_get ss (f v) ≡ Some s

module _ (f : ℕ → ℕ) (vs ss : List Sort) (m : Maps f vs ss) where
  pub holds_mapped : (v : ℕ) (s : Sort) → Holds vs v s → Holds ss (f v) s
  holds_mapped v s h = (h.0, m v h.0 h.1, h.2)

  pub numbers_mapped : (v : ℕ) → HoldsNumbers vs v → HoldsNumbers ss (f v)
  numbers_mapped v h = (h.0, holds_mapped v (numbers h.0) h.1)

  any_mapped : (v : ℕ) → HoldsAny vs v → HoldsAny ss (f v)
  any_mapped v h = (h.0, holds_mapped v h.0 h.1)

  right_mapped : (op : BinOp) (t : IntType) (v : ℕ) → HoldsRight vs op t v → HoldsRight ss op t (f v)
  right_mapped Bins.Shl t v h = numbers_mapped v h
  right_mapped Bins.Shr t v h = numbers_mapped v h
  right_mapped _ t v h = holds_mapped v (numbers t) h

  pub tests_mapped : (test : Test) → WorksTest vs test → WorksTest ss (renamed_test f test)
  tests_mapped (Tested.Numbers op of left right) h =
      (holds_mapped left (numbers of) h.0, holds_mapped right (numbers of) h.1)
  tests_mapped (Tested.Pointers equal left right) h =
      (holds_mapped left pointers h.0, holds_mapped right pointers h.1)
  tests_mapped (Tested.Truth is value) h = any_mapped value h
  tests_mapped (Tested.Case is label value) h = numbers_mapped value h

  pub works_mapped : (laid : LaidTree) (u : ℕ) (op : Operation) → Works laid vs op → Works laid ss (renamed f u op)
  works_mapped laid u Op.Skip h = tt
  works_mapped laid u (Op.Const t value) h = tt
  works_mapped laid u (Op.Copy t from) h = any_mapped from h
  works_mapped laid u (Op.Un t o of from place) h = holds_mapped from (numbers of) h
  works_mapped laid u (Op.Bin t o of left right place) h =
      (holds_mapped left (numbers of) h.0, right_mapped o of right h.1)
  works_mapped laid u (Op.BinPointers t equal left right) h =
      (holds_mapped left pointers h.0, holds_mapped right pointers h.1)
  works_mapped laid u (Op.Convert t was of from) h = holds_mapped from (numbers was) h
  works_mapped laid u (Op.Offset t from cells) h = holds_mapped from pointers h
  works_mapped laid u (Op.Index t from length' cells by place) h =
      (holds_mapped from pointers h.0, numbers_mapped by h.1)
  works_mapped laid u (Op.Move t from cells minus by place) h =
      (holds_mapped from pointers h.0, numbers_mapped by h.1)
  works_mapped laid u (Op.Deref t from target path place) h = holds_mapped from pointers h
  works_mapped laid u (Op.Load t address scalar place) h = holds_mapped address pointers h
  works_mapped laid u (Op.LoadAny t address scalar place) h = holds_mapped address pointers h
  works_mapped laid u (Op.Store address value scalar into place) h =
      (holds_mapped address pointers h.0, holds_mapped value _ h.1, h.2)
  works_mapped laid u (Op.Any t low high) h = tt
  works_mapped laid u (Op.Usable pointer place) h = holds_mapped pointer pointers h
  works_mapped laid u (Op.Assume test) h = tests_mapped test h
  works_mapped laid u Op.Yield h = tt
  works_mapped laid u _ h = h

  pub gives_mapped : (u : ℕ) (op : Operation) (s : Sort) → Gives vs op s → Gives ss (renamed f u op) s
  gives_mapped u Op.Skip s h = tt
  gives_mapped u (Op.Copy t from) s h = holds_mapped from s h
  gives_mapped u (Op.Store address value scalar into place) s h = tt
  gives_mapped u (Op.Clear object) s h = tt
  gives_mapped u (Op.Usable pointer place) s h = tt
  gives_mapped u (Op.Assume test) s h = tt
  gives_mapped u (Op.Lock mutex place) s h = tt
  gives_mapped u (Op.Unlock mutex place) s h = tt
  gives_mapped u Op.Yield s h = tt
  gives_mapped u _ s h = h

-- an operation that names its own temporaries is over the same ones
abbrev pub renamed_to : ℕ → Option ℕ → Option ℕ
renamed_to to (Some t) = Some to
renamed_to to None = None

pub given_renamed : (f : ℕ → ℕ) (u : ℕ) (op : Operation) → given (renamed f u op) ≡ renamed_to u (given op)
given_renamed f u Op.Skip = refl
given_renamed f u _ = refl

-- over its own temporaries an operation is the same
own_test : (test : Test) → renamed_test (λ v. v) test ≡ test
own_test (Tested.Numbers op of left right) = refl
own_test _ = refl

-- the temporary that is given, or this one
abbrev given_or : ℕ → Option ℕ → ℕ
given_or n (Some t) = t
given_or n None = n

own_renamed : (op : Operation) → renamed (λ v. v) (given_or 0 (given op)) op ≡ op
own_renamed (Op.Assume test) = ap (λ z. Op.Assume z) (own_test test)
own_renamed _ = refl

module _ (laid : LaidTree) (vs ss : List Sort) (g : Grows vs ss) where
  pub works_grown : (op : Operation) → Works laid vs op → Works laid ss op
  works_grown op h =
      subst (λ z. Works laid ss z) (own_renamed op) (works_mapped (λ v. v) vs ss g laid (given_or 0 (given op)) op h)

  pub gives_grown : (op : Operation) (s : Sort) → Gives vs op s → Gives ss op s
  gives_grown op s h =
      subst (λ z. Gives ss z s) (own_renamed op) (gives_mapped (λ v. v) vs ss g (given_or 0 (given op)) op s h)

  pub gives_to_grown : (op : Operation) (o : Option ℕ) → GivesTo vs op o → GivesTo ss op o
  gives_to_grown op None h = tt
  gives_to_grown op (Some t) h = (h.0, g t h.0 h.1, gives_grown op h.0 h.2)

  pub fits_grown : (op : Operation) → FitsSorts laid vs op → FitsSorts laid ss op
  fits_grown op h = (works_grown op h.0, gives_to_grown op (given op) h.1)

-- the opposite of a test is of the same temporaries
pub tests_opposite : (sorts : List Sort) (test : Test) → WorksTest sorts test → WorksTest sorts (opposite test)
tests_opposite sorts (Tested.Numbers op of left right) h = h
tests_opposite sorts _ h = h
