-- Why units are not joined.
use Rattle.std.specs.Prelude.{◌≡◌, ◌≢◌, ℕ, List, [], Ok, Err, None, Some, slice_get}
use Rattle.source_marks.specs.Marks.{IsBrokenAt, lines_of, origins_of}
use Rattle.tm_terms.specs.Spelling.{Lexes}
use Rattle.tm_terms.specs.Limits.{most_tokens}
use Rattle.tm_terms.specs.declared.places.Place.{Place}
use Rattle.tm_terms.specs.declared.tokens.Name.{Name}
use Rattle.tm_terms.specs.declared.tokens.Shape.TheVariants as shape
use Rattle.tm_terms.specs.declared.tokens.Token.{Token}
use Rattle.unit_joins.specs.Parts.{AreBorders}
use Rattle.unit_plans.specs.Plans.{cause_of}
use Rattle.unit_plans.specs.declared.causes.Cause.{Cause}
use Rattle.unit_plans.specs.declared.causes.Cause.TheVariants as cause
use Rattle.unit_plans.specs.declared.causes.JoinFail.{JoinFail}
use Rattle.unit_plans.specs.declared.causes.JoinFail.TheVariants as fail
use Rattle.unit_tokens.specs.Units.{unit_of}

-- a name stands at a place
pub record IsNameAt (tokens : List Token) (name : Name) (place : Place) : Type 0 where
  pub index : ℕ
  pub there : slice_get tokens index ≡ Some (record { shape = shape.Name name; place = place })

-- one name stands at two places
pub record IsPair (tokens : List Token) (first second : Place) : Type 0 where
  pub name : Name
  pub one : IsNameAt tokens name first
  pub other : IsNameAt tokens name second

-- one name stands at two places of the units, which are in two units
pub record IsPairApart (units : List ℕ) (first second : Place) : Type 0 where
  pub tokens : List Token
  pub borders : List ℕ
  pub lexed : Lexes most_tokens units (Ok tokens)
  pub parted : AreBorders units borders
  pub pair : IsPair tokens first second
  pub apart : unit_of borders first.line ≢ unit_of borders second.line

-- the tokens of the units tell the cause
pub record IsTold (units : List ℕ) (why : Cause) : Type 0 where
  pub tokens : List Token
  pub borders : List ℕ
  pub lexed : Lexes most_tokens units (Ok tokens)
  pub parted : AreBorders units borders
  pub told : cause_of borders tokens ≡ Some why

-- what is so of units that are refused for a cause
abbrev pub IsCauseOf : List ℕ → Cause → Type 0
IsCauseOf units (cause.Lexis refusal) = Lexes most_tokens units (Err refusal)
IsCauseOf units (cause.BrokenMark n) = (origins_of [] units ≡ None) × IsBrokenAt (lines_of units) n
IsCauseOf units (cause.Twice first second) = IsPairApart units first second × IsTold units (cause.Twice first second)
IsCauseOf units (cause.Open place) = IsTold units (cause.Open place)
IsCauseOf units (cause.Linkage first second) = IsTold units (cause.Linkage first second)
IsCauseOf units (cause.Shared first second) = IsTold units (cause.Shared first second)
IsCauseOf units cause.NotUnits = Unit {0}
IsCauseOf units cause.Long = Unit {0}
IsCauseOf units cause.LongRun = Unit {0}
IsCauseOf units cause.Unlike = Unit {0}

abbrev pub IsCause : List ℕ → JoinFail → Type 0
IsCause units (fail.Refused cause) = IsCauseOf units cause
IsCause units fail.NoMemory = Unit {0}
