use Rattle.std.proofs.Common.{◌≡◌, ◌⊎◌, List, Result, Ok, Err, refl, sym, ap, ◌∙◌, inl, inr}
use Rattle.tm_terms.specs.declared.places.Place.{Place}
use Rattle.tm_terms.specs.declared.refusals.Refusal.{Refusal}
use Rattle.tm_terms.specs.declared.tokens.Token.{Token}
use Rattle.c_expr_parser.proofs.Tokens.{none_some, from_some}
use Rattle.tm_trees.specs.FileTrees.{ItemTree}
use Rattle.tm_trees.specs.Parsing.{deep, syntax_error, Parses, too_deep, spells, spells_none}
use Rattle.c_parser.proofs.FileComplete.{file_complete}
use Rattle.c_parser.proofs.laws.one_answer.Goals as goal

abbrev Same : Result (List ItemTree) Refusal → Result (List ItemTree) Refusal → Type 0
Same a b = (a ≡ b) ⊎ ((p : Place) × (q : Place) × (a ≡ Err (syntax_error p)) × (b ≡ Err (syntax_error q)))

both : (tokens : List Token) (a b : Result (List ItemTree) Refusal) → Parses tokens a → Parses tokens b → Same a b
both tokens _ _ (too_deep {place = p} d) (too_deep {place = q} e) = inl (ap (λ x. Err (deep x)) (from_some (sym d ∙ e)))
both tokens _ _ (too_deep d) (spells e f) = none_some (sym e ∙ d)
both tokens _ _ (too_deep d) (spells_none e f g) = none_some (sym e ∙ d)
both tokens _ _ (spells d f) (too_deep e) = none_some (sym d ∙ e)
both tokens _ _ (spells {items = items} d f) (spells {items = others} e g) = inl (ap Ok (from_some (sym (file_complete tokens items f) ∙ file_complete tokens others g)))
both tokens _ _ (spells {items = items} d f) (spells_none e g k) = absurd (g items f)
both tokens _ _ (spells_none d f g) (too_deep e) = none_some (sym d ∙ e)
both tokens _ _ (spells_none d f g) (spells {items = items} e k) = absurd (f items k)
both tokens _ _ (spells_none {place = p} d f g) (spells_none {place = q} e k l) = inr (p, q, refl, refl)

pub returns : goal.returns
returns c = λ tokens a b p q. both tokens a b p q
