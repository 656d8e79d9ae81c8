-- Counts by the columns of types, which stop one above their limit on the large scale.
use Rattle.std.specs.Prelude.{◌≡◌, ℕ, ◌+◌, ◌<◌, min, cond, List, [], ◌∷◌, length, get_or}
use Rattle.tm_terms.specs.declared.refusals.Limit.{Limit}
use Rattle.tm_terms.specs.declared.refusals.Limit.TheVariants as Limits
use Rattle.tm_typed.specs.declared.files.LocalEntry.{LocalEntry}
use Rattle.tm_typed.specs.Scopes.{cells_of, abstract_cells_of}
use Rattle.tm_typed.specs.States.{Static}
use Rattle.tm_typed.specs.Files.{TypedFileTree}
use Rattle.tm_laid.specs.CallTrees.{weight}
use Rattle.tm_laid.specs.Paths.{tree_of, bodies_of, locals_of}
use Rattle.tm_laid.specs.Layable.{tables_of}
use Rattle.tm_laid.specs.Scales.{large_number}

-- one above what the limit allows on the large scale, or above 2^32 - 2
abbrev pub beyond_number : Limit → ℕ
beyond_number l = min 4294967294 (large_number l) + 1

-- what the columns of a type say of what a limit counts
unfoldable pub column_of : TypedFileTree → Limit → ℕ → ℕ
column_of file Limits.Cells n = cells_of (tables_of file) n
column_of file Limits.Abstract n = abstract_cells_of (tables_of file) n
column_of file _ n = 0

abbrev pub of_locals : TypedFileTree → Limit → List LocalEntry → ℕ
of_locals file l [] = 0
of_locals file l (x ∷ xs) = column_of file l x.of.number + of_locals file l xs

abbrev pub static_column : TypedFileTree → Limit → Static → ℕ
static_column file l s = cond s.defined (column_of file l s.of.number) 0

abbrev pub of_statics : TypedFileTree → Limit → List Static → ℕ
of_statics file l [] = 0
of_statics file l (s ∷ ss) = static_column file l s + of_statics file l ss

-- what is counted on each path that ends in a function
unfoldable pub own_by : TypedFileTree → Limit → ℕ → ℕ
own_by file Limits.Paths f = 1
own_by file l f = of_locals file l (locals_of file f)

-- what is counted over all call paths that begin with a function
unfoldable pub total_of : TypedFileTree → Limit → ℕ → ℕ
total_of file l f = weight (own_by file l) (tree_of file f)

abbrev pub sum_of : (ℕ → ℕ) → List ℕ → ℕ
sum_of w [] = 0
sum_of w (f ∷ fs) = w f + sum_of w fs

abbrev pub total_in : List ℕ → ℕ → ℕ
total_in totals f = get_or totals f 0

-- the totals of all functions, which stop one above the limit on the large scale
abbrev pub AreTotals : TypedFileTree → Limit → List ℕ → Type 0
AreTotals file l totals = (f : ℕ) → f < length file.functions → get_or totals f 0 ≡ min (beyond_number l)
    (total_of file l f)

-- what is counted over all objects and call paths
abbrev pub counted_by : TypedFileTree → Limit → ℕ
counted_by file l = of_statics file l file.statics + sum_of (total_of file l) (bodies_of file)
