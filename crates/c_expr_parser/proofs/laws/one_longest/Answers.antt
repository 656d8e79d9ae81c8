use Rattle.std.proofs.Common.{◌≡◌, ◌<◌, ◌⊎◌, length, List, sym, inl, inr, arith}
use Rattle.tm_terms.specs.declared.tokens.Token.{Token}
use Rattle.tm_terms.specs.ExprTrees.{Tree}
use Rattle.c_expr_parser.proofs.laws.one_longest.Goals as goal

both : (t u : Tree) (rest after : List Token) {P Q : Type 0} → ((u ≡ t) × (after ≡ rest)) ⊎ ((length rest < length after) × P) → ((t ≡ u) × (rest ≡ after)) ⊎ ((length after < length rest) × Q) → (t ≡ u) × (rest ≡ after)
both t u rest after (inl e) f = (sym e.0, sym e.1)
both t u rest after (inr e) (inl f) = f
both t u rest after (inr e) (inr f) = absurd (omega (arith, e.0, f.0))

pub returns : goal.returns
returns c = λ types at limit ts t u rest after l m. both t u rest after (l.only u after m.front) (m.only t rest l.front)
