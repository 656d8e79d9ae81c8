-- Tokens of a shape at a place.
use Rattle.std.specs.Prelude.{◌≡◌, ◌↔◌, ℕ, Contains, Bool, true, false, List, Option, Some, None, Ok, Vec}
use Rattle.tm_terms.specs.declared.places.Place.{Place}
use Rattle.tm_terms.specs.declared.tokens.Token.{Token}
use Rattle.tm_terms.specs.declared.tokens.Shape.{Shape}
use Rattle.tm_terms.specs.declared.tokens.Shape.TheVariants as Shapes
use Rattle.tm_terms.specs.declared.tokens.Sign.TheVariants as Signs
use Rattle.tm_terms.specs.declared.tokens.Word.TheVariants as Words
use Rattle.tm_terms.specs.Spelling.{Lexes}
use Rattle.tm_terms.specs.Limits.{most_tokens}

abbrev pub is_restrict : Shape → Bool
is_restrict (Shapes.Word Words.Restrict) = true
is_restrict _ = false

abbrev pub is_open : Shape → Bool
is_open (Shapes.Sign Signs.OpenParenthesis) = true
is_open _ = false

abbrev pub restrict_at : Place → Token
restrict_at place = record { shape = Shapes.Word Words.Restrict; place = place }

abbrev pub open_at : Place → Token
open_at place = record { shape = Shapes.Sign Signs.OpenParenthesis; place = place }

-- the tokens of a source, if it has some
abbrev pub AreTokens : {A : Type 0} → List ℕ → Option (Vec Token A) → Type 0
AreTokens bytes None = (tokens : List Token) → Lexes most_tokens bytes (Ok tokens) → ⊥
AreTokens bytes (Some given) =
    Lexes most_tokens bytes (Ok given.items) × ((tokens : List Token) → Lexes most_tokens bytes (Ok tokens) → given.items ≡ tokens)

-- the signs `(` among tokens stand at these places
abbrev pub AreOpensAmong : List Token → List Place → Type 0
AreOpensAmong tokens places = (place : Place) → Contains places place ↔ Contains tokens (open_at place)
