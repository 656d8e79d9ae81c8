-- One step of each loop of the descent, as the code makes it.
use Rattle.std.proofs.Common.{◌≡◌, ℕ, zero, suc, max, List, [], ◌∷◌, ◌++◌, Option, Some, None, refl, ap, ◌∙◌, arith}
use Rattle.tm_terms.specs.declared.places.Place.{Place}
use Rattle.tm_terms.specs.declared.tokens.Name.{Name}
use Rattle.tm_terms.specs.declared.tokens.Token.{Token}
use Rattle.tm_terms.specs.declared.exprs.Access.{Access}
use Rattle.tm_terms.specs.declared.exprs.Infix.{Infix}
use Rattle.tm_terms.specs.declared.exprs.Postfix.{Postfix}
use Rattle.tm_terms.specs.declared.exprs.Expr.{Expr}
use Rattle.tm_terms.specs.declared.exprs.Level.TheVariants as Levels
use Rattle.tm_terms.specs.ExprTrees.{Tree, an_infix, a_subscript, in_parentheses, a_postfix, right_level, Arguments}
use Rattle.tm_terms.specs.ExprTrees.{no_arguments, and_argument, rank, height, arguments_height, tree_of}
use Rattle.tm_terms.specs.ExprTrees.{as_arguments}
use Rattle.c_expr_parser.specs.declared.marks.Mark.TheVariants as Marks
use Rattle.c_expr_parser.specs.declared.marks.Opener.TheVariants as Openers
use Rattle.c_expr_parser.specs.reading.Parts.{then_read, and_after, after, name_at}
use Rattle.c_expr_parser.specs.reading.Descent.{Part, push_argument, more_by, arguments_from, form, inside_form}
use Rattle.c_expr_parser.specs.reading.Descent.{continued_member, continued, step, steps_by, steps, from_form, reads}

-- an argument more in the vector
pub pushed : (es es' : List Expr) (e : Expr) → es' ≡ es ++ e ∷ [] → as_arguments es' ≡ push_argument (as_arguments es) (tree_of e)
pushed es es' e h = ap as_arguments h ∙ go es
  where
    go : (es : List Expr) → as_arguments (es ++ e ∷ []) ≡ push_argument (as_arguments es) (tree_of e)
    go [] = refl
    go (x ∷ es) = ap (and_argument (tree_of x)) (go es)

push_height : (args : Arguments) (t : Tree) → arguments_height (push_argument args t) ≡ max (arguments_height args) (height t)
push_height no_arguments t = omega arith
push_height (and_argument a args) t = omega (arith, push_height args t)

pub pushed_height : (es es' : List Expr) (e : Expr) → es' ≡ es ++ e ∷ [] → arguments_height (as_arguments es') ≡ max (arguments_height (as_arguments es)) (height (tree_of e))
pushed_height es es' e h = ap arguments_height (pushed es es' e h) ∙ push_height (as_arguments es) (tree_of e)

module _ (read : Part) where
  pub arguments_none : (n : ℕ) (args : Arguments) (ts : List Token) → read (rank Levels.Assignment) ts ≡ None → arguments_from read n args ts ≡ None
  unfolding arguments_from
  arguments_none zero args ts e = refl
  arguments_none (suc n) args ts e = ap (λ o. then_read o (λ t rest. more_by (after Marks.Comma rest) (after Marks.CloseParenthesis rest) (push_argument args t) (λ next. arguments_from read n (push_argument args t) next))) e

  pub arguments_done : (n : ℕ) (args : Arguments) (ts : List Token) → n ≡ 0 → arguments_from read n args ts ≡ None
  unfolding arguments_from
  arguments_done zero args ts e = refl
  arguments_done (suc n) args ts e = cc

  one_read : (n m : ℕ) (args : Arguments) (ts : List Token) (t : Tree) (rest : List Token) → n ≡ suc m → read (rank Levels.Assignment) ts ≡ Some (t, rest) → arguments_from read n args ts ≡ more_by (after Marks.Comma rest) (after Marks.CloseParenthesis rest) (push_argument args t) (λ next. arguments_from read m (push_argument args t) next)
  unfolding arguments_from
  one_read n m args ts t rest e h =
      ap (λ k. arguments_from read k args ts) e
      ∙ ap (λ o. then_read o (λ t rest. more_by (after Marks.Comma rest) (after Marks.CloseParenthesis rest) (push_argument args t) (λ next. arguments_from read m (push_argument args t) next))) h

  pub arguments_comma : (n m : ℕ) (args : Arguments) (ts : List Token) (t : Tree) (rest next : List Token) → n ≡ suc m → read (rank Levels.Assignment) ts ≡ Some (t, rest) → after Marks.Comma rest ≡ Some next → arguments_from read n args ts ≡ arguments_from read m (push_argument args t) next
  arguments_comma n m args ts t rest next e h c =
      one_read n m args ts t rest e h
      ∙ ap (λ o. more_by o (after Marks.CloseParenthesis rest) (push_argument args t) (λ next. arguments_from read m (push_argument args t) next)) c

  closes : (o : Option (List Token)) (args : Arguments) (f g : List Token → Option (Arguments × List Token)) → more_by None o args f ≡ more_by None o args g
  closes None args f g = refl
  closes (Some rest) args f g = refl

  pub arguments_closed : (n m : ℕ) (args : Arguments) (ts : List Token) (t : Tree) (rest : List Token) → n ≡ suc m → read (rank Levels.Assignment) ts ≡ Some (t, rest) → after Marks.Comma rest ≡ None → arguments_from read n args ts ≡ more_by None (after Marks.CloseParenthesis rest) (push_argument args t) (λ next. None)
  arguments_closed n m args ts t rest e h c =
      one_read n m args ts t rest e h
      ∙ ap (λ o. more_by o (after Marks.CloseParenthesis rest) (push_argument args t) (λ next. arguments_from read m (push_argument args t) next)) c
      ∙ closes (after Marks.CloseParenthesis rest) (push_argument args t) _ _

  pub member_is : (access : Access) (t : Tree) (p : Place) (ts : List Token) → continued read (Openers.Member access) t p ts ≡ continued_member access t p (name_at ts)
  unfolding continued
  member_is access t p ts = refl

  pub postfix_is : (op : Postfix) (t : Tree) (p : Place) (ts : List Token) → continued read (Openers.Postfix op) t p ts ≡ Some (a_postfix t op p, ts)
  unfolding continued
  postfix_is op t p ts = refl

  pub inside_none : (ts : List Token) → read (rank Levels.Comma) ts ≡ None → inside_form read ts ≡ None
  unfolding inside_form
  inside_none ts e = ap (λ o. then_read o (λ t rest. and_after (after Marks.CloseParenthesis rest) (λ next. Some
      (in_parentheses t, next)))) e

  pub inside_by : (ts : List Token) (t : Tree) (rest : List Token) (o : Option (List Token))
      → read (rank Levels.Comma) ts ≡ Some (t, rest) → after Marks.CloseParenthesis rest ≡ o
      → inside_form read ts ≡ and_after o (λ next. Some (in_parentheses t, next))
  unfolding inside_form
  inside_by ts t rest o e c =
      ap (λ o. then_read o (λ t rest. and_after (after Marks.CloseParenthesis rest) (λ next. Some (
        in_parentheses
            t,
        next,
      )))) e
      ∙ ap (λ o. and_after o (λ next. Some (in_parentheses t, next))) c

  pub infix_by : (op : Infix) (t : Tree) (p : Place) (ts : List Token) (o : Option (Tree × List Token))
      → read (right_level op) ts ≡ o → continued read (Openers.Infix op) t p ts
      ≡ then_read o (λ r rest. Some (an_infix t op p r, rest))
  unfolding continued
  infix_by op t p ts o e = ap (λ o. then_read o (λ r rest. Some (an_infix t op p r, rest))) e

  pub subscript_none : (t : Tree) (p : Place) (ts : List Token) → read (rank Levels.Comma) ts ≡ None
      → continued read Openers.Subscript t p ts ≡ None
  unfolding continued
  subscript_none t p ts e = ap (λ o. then_read o (λ i a. and_after (after Marks.CloseBracket a) (λ rest. Some
      (a_subscript t p i, rest)))) e

  pub subscript_by : (t : Tree) (p : Place) (ts : List Token) (i : Tree) (a : List Token) (o : Option (List Token))
      → read (rank Levels.Comma) ts ≡ Some (i, a) → after Marks.CloseBracket a ≡ o
      → continued read Openers.Subscript t p ts ≡ and_after o (λ rest. Some (a_subscript t p i, rest))
  unfolding continued
  subscript_by t p ts i a o e c =
      ap (λ o. then_read o (λ i a. and_after (after Marks.CloseBracket a) (λ rest. Some (a_subscript t p i, rest)))) e
      ∙ ap (λ o. and_after o (λ rest. Some (a_subscript t p i, rest))) c

  pub steps_stop : (at h n : ℕ) (t : Tree) (ts : List Token) → step read at h t ts ≡ None → steps read at h n t ts ≡ (t, ts)
  unfolding steps
  steps_stop at h zero t ts e = refl
  steps_stop at h (suc n) t ts e = ap (λ o. steps_by o (t, ts) (λ u rest. steps read at h n u rest)) e

  pub steps_done : (at h n : ℕ) (t : Tree) (ts : List Token) → n ≡ 0 → steps read at h n t ts ≡ (t, ts)
  unfolding steps
  steps_done at h zero t ts e = refl
  steps_done at h (suc n) t ts e = cc

  pub steps_next : (at h n m : ℕ) (t : Tree) (ts : List Token) (u : Tree) (rest : List Token) → n ≡ suc m → step read at h t ts ≡ Some (u, rest) → steps read at h n t ts ≡ steps read at h m u rest
  unfolding steps
  steps_next at h n m t ts u rest e s =
      ap (λ k. steps read at h k t ts) e ∙ ap (λ o. steps_by o (t, ts) (λ u rest. steps read at h m u rest)) s

pub reads_some : (types : List Name) (n m at : ℕ) (ts : List Token) (t : Tree) (rest : List Token) → n ≡ suc m → form types (reads types m) m ts ≡ Some (t, rest) → reads types n at ts ≡ from_form (reads types m) at m t rest
unfolding reads
reads_some types n m at ts t rest e h =
    ap (λ k. reads types k at ts) e ∙ ap (λ o. then_read o (λ t rest. from_form (reads types m) at m t rest)) h
