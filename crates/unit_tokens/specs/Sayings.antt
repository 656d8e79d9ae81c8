-- What a token says: a name its text, and any other token what it is.
use Rattle.std.specs.Prelude.{ℕ, List, ◌++◌, Option, Some, None, decimal}
use Rattle.tm_terms.specs.Spelling.{text_of}
use Rattle.tm_terms.specs.declared.tokens.Name.{Name}
use Rattle.tm_terms.specs.declared.tokens.Shape.{Shape}
use Rattle.tm_terms.specs.declared.tokens.Shape.TheVariants as shape
use Rattle.unit_tokens.specs.Units.{unit_of}
use Rattle.unit_tokens.specs.declared.fates.Fate.{Fate}
use Rattle.unit_tokens.specs.declared.fates.Fate.TheVariants.{Stays, Renamed, LeftOut}
use Rattle.unit_tokens.specs.declared.fates.Fated.{Fated}

pub data Says : Type 0 where
  Named : List ℕ → Says
  Other : Shape → Says

-- the name that a token is, if it is one
abbrev pub name_of : Shape → Option Name
name_of (shape.Name name) = Some name
name_of _ = None

-- what a token of this name, or of this shape, says
abbrev pub said_by : List ℕ → Shape → Option Name → Says
said_by source s (Some name) = Says.Named (text_of source name)
said_by source s None = Says.Other s

-- what a token of a source says
abbrev pub said : List ℕ → Shape → Says
said source s = said_by source s (name_of s)

-- a name with more behind it
abbrev pub with_behind : List ℕ → Says → Says
with_behind more (Says.Named text) = Says.Named (text ++ more)
with_behind more (Says.Other s) = Says.Other s

-- what a token with this fate says in the joined text: a new name ends with the mark and the number of its unit
abbrev pub wanted_by : List ℕ → ℕ → Says → Fate → Says
wanted_by mark unit old Stays = old
wanted_by mark unit old Renamed = with_behind (mark ++ decimal unit) old
wanted_by mark unit old (LeftOut k) = old

-- what a token of the units says in the joined text
abbrev pub wanted : List ℕ → List ℕ → List ℕ → Fated → Says
wanted units mark borders f =
    wanted_by mark (unit_of borders f.token.place.line) (said units f.token.shape) f.fate
