-- The tags of structures (C99 6.7.2.3).
use Rattle.std.specs.Prelude.{◌≡◌, ℕ, ◌<◌, List, Some, slice_get}
use Rattle.tm_terms.specs.declared.tokens.Name.{Name}
use Rattle.tm_terms.specs.declared.tokens.Shape.TheVariants as shape
use Rattle.tm_terms.specs.declared.tokens.Token.{Token}

-- a name is one of some tokens
abbrev pub StandsIn : List Token → Name → Type 0
StandsIn tokens name = (i : ℕ) × (t : Token) × (slice_get tokens i ≡ Some t) × (t.shape ≡ shape.Name name)

-- a tag of some bytes is one of these tokens
abbrev pub IsTagIn : List Token → Name → Type 0
IsTagIn tokens tag = 0 < tag.length → StandsIn tokens tag
