-- Operations: the temporaries that they use and give, and what they do with their values.
use Rattle.std.specs.Prelude.{ℕ, ◌==◌, Bool, true, false, if◌then◌else◌, not, List, [], ◌∷◌, Option, Some, None, Result}
use Rattle.std.specs.Prelude.{Ok, Err}
use Rattle.concrete_values.specs.tm_cint.declared.Class.{Class}
use Rattle.concrete_values.specs.tm_cint.declared.operators.BinOp.{BinOp}
use Rattle.concrete_values.specs.tm_cint.declared.operators.BinOp.TheVariants as Bins
use Rattle.concrete_values.specs.tm_terms.declared.places.Place.{Place}
use Rattle.concrete_values.specs.tm_laid.Layouts.{LaidTree}
use Rattle.concrete_values.specs.declared.values.Value.{Value}
use Rattle.concrete_values.specs.Values.{nothing, is_true}
use Rattle.concrete_values.specs.Operators.{unary, binary, converted, is_case}
use Rattle.concrete_values.specs.declared.actions.Next.{Next}
use Rattle.concrete_values.specs.declared.actions.Next.TheVariants as Acts
use Rattle.concrete_values.specs.Pointers.{base, part, element, moved, dereferenced, usable, is_compared, compared}
use Rattle.concrete_values.specs.Actions.{load_at, store_at, clear_at}
use Rattle.flow_graph.specs.declared.operations.Test.{Test}
use Rattle.flow_graph.specs.declared.operations.Test.TheVariants as Tests
use Rattle.flow_graph.specs.declared.operations.Operation.{Operation}
use Rattle.flow_graph.specs.declared.operations.Operation.TheVariants as Op

-- ## Which temporaries they use and give

abbrev pub tested : Test → List ℕ
tested (Tests.Numbers operator of left right) = left ∷ right ∷ []
tested (Tests.Pointers equal left right) = left ∷ right ∷ []
tested (Tests.Truth holds value) = value ∷ []
tested (Tests.Case holds label value) = value ∷ []

-- the temporaries whose values an operation uses
abbrev pub used : Operation → List ℕ
used Op.Skip = []
used (Op.Const to value) = []
used (Op.Copy to from) = from ∷ []
used (Op.Un to operator of from place) = from ∷ []
used (Op.Bin to operator of left right place) = left ∷ right ∷ []
used (Op.BinPointers to equal left right) = left ∷ right ∷ []
used (Op.Convert to was of from) = from ∷ []
used (Op.Base to object) = []
used (Op.Offset to from cells) = from ∷ []
used (Op.Index to from length cells by place) = from ∷ by ∷ []
used (Op.Move to from cells minus by place) = from ∷ by ∷ []
used (Op.Deref to from target path place) = from ∷ []
used (Op.Load to address scalar place) = address ∷ []
used (Op.LoadAny to address scalar place) = address ∷ []
used (Op.Store address value scalar into place) = address ∷ value ∷ []
used (Op.Any to low high) = []
used (Op.Clear object) = []
used (Op.Usable pointer place) = pointer ∷ []
used (Op.Assume test) = tested test
used (Op.Lock mutex place) = []
used (Op.Unlock mutex place) = []
used Op.Yield = []
used (Op.Probe to mutex place) = []

-- the temporary that it gives, if it gives one
abbrev pub given : Operation → Option ℕ
given Op.Skip = None
given (Op.Const to value) = Some to
given (Op.Copy to from) = Some to
given (Op.Un to operator of from place) = Some to
given (Op.Bin to operator of left right place) = Some to
given (Op.BinPointers to equal left right) = Some to
given (Op.Convert to was of from) = Some to
given (Op.Base to object) = Some to
given (Op.Offset to from cells) = Some to
given (Op.Index to from length cells by place) = Some to
given (Op.Move to from cells minus by place) = Some to
given (Op.Deref to from target path place) = Some to
given (Op.Load to address scalar place) = Some to
given (Op.LoadAny to address scalar place) = Some to
given (Op.Store address value scalar into place) = None
given (Op.Any to low high) = Some to
given (Op.Clear object) = None
given (Op.Usable pointer place) = None
given (Op.Assume test) = None
given (Op.Lock mutex place) = None
given (Op.Unlock mutex place) = None
given Op.Yield = None
given (Op.Probe to mutex place) = Some to

-- ## Tests and their opposites

-- the comparison that holds where this one does not (C99 6.5.8, 6.5.9)
abbrev pub negated : BinOp → BinOp
negated Bins.Lt = Bins.Ge
negated Bins.Le = Bins.Gt
negated Bins.Gt = Bins.Le
negated Bins.Ge = Bins.Lt
negated Bins.Eq = Bins.Ne
negated Bins.Ne = Bins.Eq
negated op = op

abbrev pub opposite : Test → Test
opposite (Tests.Numbers operator of left right) = Tests.Numbers (negated operator) of left right
opposite (Tests.Pointers equal left right) = Tests.Pointers (not equal) left right
opposite (Tests.Truth holds value) = Tests.Truth (not holds) value
opposite (Tests.Case holds label value) = Tests.Case (not holds) label value

-- ## What they do

abbrev pub Temps : Type 0
Temps = ℕ → Value

-- the truth of what an operator gives; one that fails holds for nothing
abbrev pub is_given_true : Result Value Class → Bool
is_given_true (Ok v) = is_true v
is_given_true (Err class) = false

-- b, or its opposite
abbrev pub is_as : Bool → Bool → Bool
is_as true b = b
is_as false b = not b

-- whether a test lets these values through
abbrev pub holds : Test → Temps → Bool
holds (Tests.Numbers operator of left right) t = is_given_true (binary operator of (t left) (t right))
holds (Tests.Pointers equal left right) t = is_compared equal (t left) (t right)
holds (Tests.Truth is value) t = is_as is (is_true (t value))
holds (Tests.Case is label value) t = is_as is (is_case label (t value))

-- what an operation does with the values of temporaries
pub data Doing : Type 0 where
  -- it goes on by itself, and this is the value of the temporary that it gives, if it gives one
  gives : Value → Doing
  -- its edge cannot be gone
  shut : Doing
  -- it waits for an answer to this action, whose value the temporary gets
  asks : Next → Doing
  -- it stops the run with an error
  fails : Class → Place → Doing

abbrev pub given_by : Place → Result Value Class → Doing
given_by place (Ok v) = gives v
given_by place (Err class) = fails class place

abbrev pub lets_through : Bool → Doing
lets_through true = gives nothing
lets_through false = shut

abbrev pub doing : LaidTree → Operation → Temps → Doing
doing laid Op.Skip t = gives nothing
doing laid (Op.Const to value) t = gives value
doing laid (Op.Copy to from) t = gives (t from)
doing laid (Op.Un to operator of from place) t = given_by place (unary operator of (t from))
doing laid (Op.Bin to operator of left right place) t = given_by place (binary operator of (t left) (t right))
doing laid (Op.BinPointers to equal left right) t = gives (compared equal (t left) (t right))
doing laid (Op.Convert to was of from) t = gives (converted was of (t from))
doing laid (Op.Base to object) t = gives (base laid object)
doing laid (Op.Offset to from cells) t = gives (part laid cells (t from))
doing laid (Op.Index to from length cells by place) t = given_by place (element laid length cells (t from) (t by))
doing laid (Op.Move to from cells minus by place) t = given_by place (moved laid minus cells (t from) (t by))
doing laid (Op.Deref to from target path place) t = given_by place (dereferenced laid path target (t from))
doing laid (Op.Load to address scalar place) t = asks (load_at (t address) scalar false place)
doing laid (Op.LoadAny to address scalar place) t = asks (load_at (t address) scalar true place)
doing laid (Op.Store address value scalar into place) t = asks (store_at (t address) scalar (t value) place)
doing laid (Op.Any to low high) t = asks (Acts.Chosen low high)
doing laid (Op.Clear object) t = asks (clear_at laid object)
doing laid (Op.Usable pointer place) t = given_by place (usable (t pointer))
doing laid (Op.Assume test) t = lets_through (holds test t)
doing laid (Op.Lock mutex place) t = asks (Acts.Lock mutex place)
doing laid (Op.Unlock mutex place) t = asks (Acts.Unlock mutex place)
doing laid Op.Yield t = asks Acts.Yield
doing laid (Op.Probe to mutex place) t = asks (Acts.Probe mutex place)

-- a table with one entry changed
abbrev pub put_at : {A : Type 0} → ℕ → A → (ℕ → A) → ℕ → A
put_at k v f n = if k == n then v else f n

-- temporaries after one of them, or none, is given this value
abbrev pub kept_with : Option ℕ → Value → Temps → Temps
kept_with (Some t) v temps = put_at t v temps
kept_with None v temps = temps

-- what an operation does with all temporaries
pub data Effect : Type 0 where
  -- it goes on by itself, and these are the temporaries after it
  Silent : Temps → Effect
  Closed : Effect
  -- it is answered, and these are the temporaries after it
  Asks : Next → (Value → Temps) → Effect
  Breaks : Class → Place → Effect

abbrev pub effect_by : Option ℕ → Temps → Doing → Effect
effect_by to t (gives v) = Silent (kept_with to v t)
effect_by to t shut = Closed
effect_by to t (asks n) = Asks n (λ v. kept_with to v t)
effect_by to t (fails class place) = Breaks class place

abbrev pub effect : LaidTree → Operation → Temps → Effect
effect laid op t = effect_by (given op) t (doing laid op t)
