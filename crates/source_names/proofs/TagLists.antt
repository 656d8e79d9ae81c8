-- Lists of tags that stand among tokens.
use Rattle.std.proofs.Common.{◌≡◌, List, ◌++◌, Option, Some, None, IfSome, All, option_to_list, sym, subst, ◌∙◌}
use Rattle.std.proofs.lemmas.List.{append-nil}
use Rattle.std.proofs.lemmas.List.Elements.{All-push}
use Rattle.tm_terms.specs.declared.tokens.Name.{Name}
use Rattle.tm_terms.specs.declared.tokens.Token.{Token}
use Rattle.source_names.specs.Tags.{IsTagIn}

-- one tag more, if there is one
pub one_more : (tokens : List Token) (tag : Option Name) (old new : List Name) → All (IsTagIn tokens) old
    → IfSome tag (λ name. IsTagIn tokens name) → new ≡ old ++ option_to_list tag → All (IsTagIn tokens) new
one_more tokens None old new all is e = subst (All (IsTagIn tokens)) (sym (e ∙ append-nil old)) all
one_more tokens (Some name) old new all is e = subst (All (IsTagIn tokens)) (sym e) (All-push (IsTagIn tokens) old name all is)
