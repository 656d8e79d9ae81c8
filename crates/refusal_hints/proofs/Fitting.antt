-- The row by which a construct is told.
use Rattle.std.proofs.Common.{◌≡◌, ◌<◌, ℕ, suc, Bool, true, false, cond, List, [], ◌∷◌, length, refl, arith, Option, Some, None}
use Rattle.std.specs.Prelude.{Contains, find, option_map, option_and_then}
use Rattle.tm_terms.specs.declared.places.Place.{Place}
use Rattle.tm_terms.specs.declared.refusals.Kind.{Kind}
use Rattle.refusal_hints.specs.declared.constructs.Construct.{Construct}
use Rattle.refusal_hints.specs.Hints.{IsFitting, Surroundings, construct_among, construct_at, stands, surroundings_of}
use Rattle.refusal_hints.specs.Places.{offset_of}
use Rattle.refusal_hints.specs.Rows.{Row, rows_of}

-- a row of these that stands there, and says what is told
record IsTold (words : Surroundings) (rows : List Row) (construct : Construct) : Type 0 where
  row : Row
  among : Contains rows row
  named : row.construct ≡ construct
  fitting : stands words row ≡ true

first : (words : Surroundings) (row : Row) (rows : List Row) (construct : Construct) → stands words row ≡ true
    → Some row.construct ≡ Some construct → IsTold words (row ∷ rows) construct
first words row rows construct fits e =
    let named : row.construct ≡ construct = cc in
    record { row = row; among = (0, omega arith, refl); named = named; fitting = fits }

later : (words : Surroundings) (row : Row) (rows : List Row) (construct : Construct) → IsTold words rows construct
    → IsTold words (row ∷ rows) construct
later words row rows construct told =
    let within : told.among.0 < length rows = told.among.1 in
    record {
      row = told.row;
      among = (suc told.among.0, omega arith, told.among.2);
      named = told.named;
      fitting = told.fitting;
    }

by_row : (words : Surroundings) (row : Row) (rows : List Row) (construct : Construct) (b : Bool) → stands words row ≡ b
    → option_map (λ r. r.construct) (cond b (Some row) (find (stands words) rows)) ≡ Some construct
    → (construct_among words rows ≡ Some construct → IsTold words rows construct)
    → IsTold words (row ∷ rows) construct
by_row words row rows construct true fits e rest = first words row rows construct fits e
by_row words row rows construct false fits e rest = later words row rows construct (rest e)

told_by : (words : Surroundings) (rows : List Row) (construct : Construct) → construct_among words rows ≡ Some construct
    → IsTold words rows construct
told_by words [] construct e = cc
told_by words (row ∷ rows) construct e =
    by_row words row rows construct (stands words row) refl e (told_by words rows construct)

at_offset : (text : List ℕ) (place : Place) (kind : Kind) (construct : Construct) (offset : Option ℕ)
    → offset_of text place ≡ offset
    → option_and_then (λ n. construct_among (surroundings_of text n) (rows_of kind)) offset ≡ Some construct
    → IsFitting text place kind construct
at_offset text place kind construct None there e = cc
at_offset text place kind construct (Some n) there e =
    let told = told_by (surroundings_of text n) (rows_of kind) construct e in
    record {
      offset = n;
      there = there;
      row = told.row;
      among = told.among;
      named = told.named;
      fitting = told.fitting;
    }

pub fitting : (text : List ℕ) (place : Place) (kind : Kind) (construct : Construct)
    → construct_at text place kind ≡ Some construct → IsFitting text place kind construct
fitting text place kind construct e = at_offset text place kind construct (offset_of text place) refl e
