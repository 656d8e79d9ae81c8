-- One step down into a statement and into a block.
use Rattle.std.proofs.Common.{◌≡◌, ℕ, suc, List, [], length, Option, Some, None, ap}
use Rattle.tm_terms.specs.declared.tokens.Name.{Name}
use Rattle.tm_terms.specs.declared.tokens.Token.{Token}
use Rattle.c_expr_parser.specs.reading.Parts.{then_read}
use Rattle.tm_trees.specs.FileTrees.{PartTree, as_parts}
use Rattle.c_decl_parser.specs.reading.Repetitions.{until_brace}
use Rattle.c_parser.specs.reading.FileDescent.{Step, part, parts, statement_by, statement, inside}

-- the parts of a block as one tree
pub parts_within : (types : List Name) (h : ℕ) (read : Step) (ts : List Token) (o : Option (List PartTree × List Token)) → o ≡ until_brace (part types h read) (length ts) [] ts → then_read o (λ found rest. Some (as_parts found, rest)) ≡ parts types h read ts
unfolding parts
parts_within types h read ts o e = ap (λ o. then_read o (λ found rest. Some (as_parts found, rest))) e

pub statement_none : (types : List Name) (n : ℕ) (ts : List Token) → n ≡ 0 → statement types n ts ≡ None
unfolding statement
statement_none types n ts e = ap (λ k. statement types k ts) e

pub statement_some : (types : List Name) (n m : ℕ) (ts : List Token) → n ≡ suc m → statement types n ts ≡ statement_by types m (statement types m) (inside types m) ts
unfolding statement
statement_some types n m ts e = ap (λ k. statement types k ts) e

pub inside_none : (types : List Name) (n : ℕ) (ts : List Token) → n ≡ 0 → inside types n ts ≡ None
unfolding inside
inside_none types n ts e = ap (λ k. inside types k ts) e

pub inside_some : (types : List Name) (n m : ℕ) (ts : List Token) → n ≡ suc m → inside types n ts ≡ parts types m (statement types m) ts
unfolding inside
inside_some types n m ts e = ap (λ k. inside types k ts) e
