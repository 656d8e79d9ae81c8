-- How expressions end, as the code notes it behind their operands.
use Rattle.std.specs.Prelude.{ℕ, zero, suc, Bool, true, false, None}
use Rattle.tm_terms.specs.declared.places.Place.{Place}
use Rattle.tm_typed.specs.declared.scopes.ObjectNumber.TheVariants as Numbers
use Rattle.tm_laid.specs.Layouts.{LaidTree, object_of, object_at}
use Rattle.path_origins.specs.declared.origins.Form.{Form}
use Rattle.path_origins.specs.declared.origins.Form.TheVariants as Forms
use Rattle.path_origins.specs.declared.origins.Span.{Span}
use Rattle.path_origins.specs.declared.origins.Life.{Life}
use Rattle.path_origins.specs.declared.walks.Wanted.{Wanted}
use Rattle.path_origins.specs.declared.walks.Wanted.TheVariants as Wants
use Rattle.path_origins.specs.Noted.{Noted, nothing, behind, one, one_if, tests, called_body}
use Rattle.path_origins.specs.Expressions.{arguments_stored, parameters}
use Rattle.path_origins.specs.reading.Walks.{end_by, operands_added}

-- a conversion, which an operator makes itself where it stands at the place of its operand
abbrev pub converted_end : Wanted → Bool → Place → Bool → Noted
converted_end Wants.Value same p is = behind (one_if is p Forms.Conversion) (end_by Wants.Value false p)
converted_end Wants.Bare true p is = nothing
converted_end Wants.Bare false p is = one_if is p Forms.Conversion
converted_end Wants.Branch same p is = behind (one_if is p Forms.Conversion) (end_by Wants.Branch false p)

-- a comparison: a value by one form, tests by another; an operator on converted operands, which compares or does not
abbrev pub compared_end : Wanted → Place → Form → Form → Noted
compared_end Wants.Value p f g = one p f
compared_end Wants.Bare p f g = one p f
compared_end Wants.Branch p f g = tests p g

abbrev pub operator_end : Bool → Bool → Wanted → Place → Noted
operator_end true b w p = compared_end w p (Forms.Binary b) (Forms.Test b)
operator_end false b w p = behind (one p (Forms.Binary b)) (end_by w false p)

-- a comparison of pointers, once they are known to be usable
abbrev pub equality_end : Wanted → Place → Noted
equality_end w p = compared_end w p Forms.Equality Forms.EqualityTest

-- the operator of `op=`, `++` or `--`, with the conversions of what is loaded, of the operand, and of what is stored
abbrev pub change_end : Bool → Bool → Place → Bool → Place → Bool → Place → Noted
change_end b loaded at operand behind_it back p =
    behind (behind (behind (one_if loaded at Forms.Conversion) (one_if operand behind_it Forms.Conversion))
    (one p (Forms.Binary b))) (one_if back p Forms.Conversion)

-- an argument that is not the first one stands against those before it
abbrev pub against_before : ℕ → Place → Span → Span → Noted → Noted
against_before zero p first second x = x
against_before (suc n) p first second x = operands_added p first second x

-- ## Calls

module _ (laid : LaidTree) where
  -- the life of a parameter, by numbers that are counted from the first edge of the body
  abbrev pub life_from : ℕ → ℕ → ℕ → ℕ → Life
  life_from to k first begins = record {
    object = object_of laid to (Numbers.Local k);
    place = (object_at laid (object_of laid to (Numbers.Local k))).place;
    begins = begins;
    scope = record { first = first; end = first };
    initialiser = None;
  }

module _ (laid : LaidTree) (is_open : Place → Bool) (sizes : ℕ → ℕ) (path : ℕ) where
  -- the stores of so many arguments, with the parameters that live from then on
  abbrev pub stores : ℕ → ℕ → Place → Noted
  stores to count p = record (arguments_stored laid is_open sizes path count p) {
    unended = parameters laid is_open sizes path to 0 count;
  }

  -- the same, and the body of the path behind them
  abbrev pub stores_and_body : ℕ → Bool → ℕ → Place → Noted
  stores_and_body to used count p =
      record (behind (arguments_stored laid is_open sizes path count p) (called_body (sizes to) to used)) {
        unended = parameters laid is_open sizes path to 0 count;
      }
