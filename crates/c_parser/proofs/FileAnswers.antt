-- What is answered where a file was read, and where none was.
use Rattle.std.proofs.Common.{◌≡◌, List, [], ◌∷◌, Option, Some, None, Result, Ok, Err, refl, arith}
use Rattle.tm_terms.specs.declared.places.Place.{Place}
use Rattle.tm_terms.specs.declared.refusals.Refusal.{Refusal}
use Rattle.tm_terms.specs.declared.tokens.Token.{Token}
use Rattle.tm_trees.specs.FileTrees.{ItemTree}
use Rattle.tm_trees.specs.Parsing.{first_deep, deep, syntax_error, IsPlaceOf, Parses, too_deep, spells}
use Rattle.tm_trees.specs.Parsing.{spells_none}
use Rattle.c_parser.specs.reading.FileDescent.{file}
use Rattle.c_parser.proofs.FileSound.{file_sound}
use Rattle.c_parser.proofs.FileComplete.{file_none}

pub parses_file : (ts : List Token) (items : List ItemTree) → first_deep 0 ts ≡ None → file ts ≡ Some items → Parses ts (Ok items)
parses_file ts items low e = spells low (file_sound ts items e)

pub parses_none : (ts : List Token) (place : Place) → first_deep 0 ts ≡ None → file ts ≡ None → IsPlaceOf ts place → Parses ts (Err (syntax_error place))
parses_none ts place low e p = spells_none low (file_none ts e) p

-- every text has an answer
abbrev pub Answered : List Token → Type 0
Answered ts = (answer : Result (List ItemTree) Refusal) × Parses ts answer

answered_none : (ts : List Token) → first_deep 0 ts ≡ None → file ts ≡ None → Answered ts
answered_none [] low e = (Ok [], spells low (record { spelled = refl; low = omega arith }))
answered_none (t ∷ ts) low e = (Err (syntax_error t.place), parses_none (t ∷ ts) t.place low e (record { before = []; token = t; after = ts; among = refl; here = refl }))

pub answered : (ts : List Token) → Answered ts
answered ts = go (first_deep 0 ts) refl (file ts) refl
  where
    go : (d : Option Place) → first_deep 0 ts ≡ d → (o : Option (List ItemTree)) → file ts ≡ o → Answered ts
    go (Some place) d o e = (Err (deep place), too_deep d)
    go None d (Some items) e = (Ok items, parses_file ts items d e)
    go None d None e = answered_none ts d e
