use Rattle.std.proofs.Common.{◌≡◌, ℕ, max, List, [], Some, sym, ap, ◌∙◌, inl, inr, arith}
use Rattle.tm_terms.specs.declared.tokens.Name.{Name}
use Rattle.tm_terms.specs.declared.tokens.Token.{Token}
use Rattle.tm_terms.specs.ExprTrees.{Tree, height}
use Rattle.tm_terms.specs.ExprSpelling.{IsFront}
use Rattle.c_expr_parser.specs.reading.Descent.{reads}
use Rattle.c_expr_parser.proofs.Tokens.{from_some}
use Rattle.c_expr_parser.proofs.CompleteForms.{Outcome}
use Rattle.c_expr_parser.proofs.CompleteSteps.{reads_complete}
use Rattle.c_expr_parser.proofs.laws.one_tree.Goals as goal

-- a whole text is read exactly
whole : (types : List Name) (limit : ℕ) (ts : List Token) (t : Tree) → IsFront types 0 limit ts t [] → reads types limit 0 ts ≡ Some (t, [])
whole types limit ts t f = go (reads_complete types limit 0 ts t [] f)
  where
    go : Outcome (reads types limit 0 ts) t [] 0 → reads types limit 0 ts ≡ Some (t, [])
    go (inl e) = e
    go (inr p) = absurd (omega (arith, p.2))

pub returns : goal.returns
returns c = λ types t u ts s r.
    let limit = max (height t) (height u) in
    let f : IsFront types 0 limit ts t [] = record { spelled = s; fits = omega arith; low = omega arith } in
    let g : IsFront types 0 limit ts u [] = record { spelled = r; fits = omega arith; low = omega arith } in
    ap (λ x. x.0) (from_some (sym (whole types limit ts t f) ∙ whole types limit ts u g))
