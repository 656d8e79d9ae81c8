-- The expression that a reader of declarations takes, from what the reader of expressions gives.
use Rattle.std.proofs.Common.{◌≡◌, ℕ, ◌≤◌, max, Bool, true, false, cond, List, Option, Some, None, refl, ap, arith}
use Rattle.std.specs.Prelude.{nat_le, not, ◌&&◌}
use Rattle.tm_terms.specs.declared.tokens.Name.{Name}
use Rattle.tm_terms.specs.declared.tokens.Token.{Token}
use Rattle.tm_terms.specs.ExprTrees.{Tree, height}
use Rattle.c_expr_parser.specs.reading.Descent.{reads}
use Rattle.c_decl_parser.specs.reading.Parts.{continues, settled, expression}

pub from_reads : (types : List Name) (allowed at : ℕ) (ts : List Token) (o : Option (Tree × List Token)) → allowed ≤ 500 → o ≡ reads types 500 at ts → settled allowed at o ≡ expression types allowed at ts
unfolding expression
from_reads types allowed at ts o few e = let top : max 500 allowed ≡ 500 = omega arith in rw top (ap (settled allowed at) e)

-- an expression that the token after it goes on
pub goes_on : (allowed at : ℕ) (t : Tree) (rest : List Token) → continues at rest ≡ true → None ≡ settled allowed at (Some (t, rest))
goes_on allowed at t rest e = go (nat_le (height t) allowed) (continues at rest) (Some (t, rest)) e
  where
    go : (a b : Bool) (o : Option (Tree × List Token)) → b ≡ true → None ≡ cond (a && not b) o None
    go true b o f = rw f refl
    go false b o f = refl
