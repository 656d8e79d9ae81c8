-- Repetitions in the descent: lists of what `read` reads, as the grammar parts and closes them.
use Rattle.std.specs.Prelude.{ℕ, zero, suc, List, [], ◌∷◌, ◌++◌, length, Option, Some, None}
use Rattle.tm_terms.specs.declared.tokens.Token.{Token}
use Rattle.c_expr_parser.specs.declared.marks.Mark.TheVariants as Marks
use Rattle.c_expr_parser.specs.reading.Parts.{then_read, after}

abbrev pub separated_by : {A : Type 0} → Option (List Token) → A → (List Token → Option A) → Option A
separated_by None stop go = Some stop
separated_by (Some a) stop go = go a

-- behind those read so far the further ones, each after a `,`, at most n
unfoldable pub separated : {A : Type 0} → (List Token → Option (A × List Token)) → ℕ → List A → List Token
    → Option (List A × List Token)
separated read zero found ts = Some (found, ts)
separated read (suc n) found ts = separated_by (after Marks.Comma ts) (found, ts) (λ a.
    then_read (read a) (λ x rest. separated read n (found ++ x ∷ []) rest))

-- at least one, with a `,` between each two
abbrev pub one_or_more : {A : Type 0} → (List Token → Option (A × List Token)) → List Token
    → Option (List A × List Token)
one_or_more read ts = then_read (read ts) (λ x rest. separated read (length rest) (x ∷ []) rest)

abbrev pub ended_by : {A : Type 0} → Option (List Token) → List A → Option (List A × List Token)
    → Option (List A × List Token)
ended_by (Some rest) found more = Some (found, rest)
ended_by None found more = more

-- behind those read so far the further ones up to a `}`, at most n
unfoldable pub until_brace : {A : Type 0} → (List Token → Option (A × List Token)) → ℕ → List A → List Token
    → Option (List A × List Token)
until_brace read zero found ts = None
until_brace read (suc n) found ts = ended_by (after Marks.CloseBrace ts) found (
    then_read (read ts) (λ x rest. until_brace read n (found ++ x ∷ []) rest))

abbrev pub braced_by : {A : Type 0} → Option (List Token) → (List Token → Option A) → Option A
braced_by None go = None
braced_by (Some a) go = go a

-- behind those read so far the further ones, each after a `,`, and the `}`, before which a `,` may stand; at most n
unfoldable pub braced : {A : Type 0} → (List Token → Option (A × List Token)) → ℕ → List A → List Token
    → Option (List A × List Token)
braced read zero found ts = None
braced read (suc n) found ts = ended_by (after Marks.CloseBrace ts) found (
    braced_by (after Marks.Comma ts) (λ a. ended_by (after Marks.CloseBrace a) found (
    then_read (read a) (λ x rest. braced read n (found ++ x ∷ []) rest))))

-- at least one, and the `}`
abbrev pub in_braces : {A : Type 0} → (List Token → Option (A × List Token)) → List Token → Option (List A × List Token)
in_braces read ts = then_read (read ts) (λ x rest. braced read (length rest) (x ∷ []) rest)
