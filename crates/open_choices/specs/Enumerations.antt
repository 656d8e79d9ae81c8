-- ENUM (C99 6.7.2.2p4): an enumeration whose constants are all from 0 on is `int` here, and `unsigned int` for some
-- compilers. So a negative number in an object of such a type is another one, and an operator on a value of such a type
-- works on other numbers where an operand or its result is negative.
--
-- In
--     enum E { A, B } e; int r;
--     __task(1) void t(void) { e = A; r = e > -1; }
-- the `>` at 2:39 is listed: as unsigned numbers, 0 is not greater than the one that -1 is converted to.
use Rattle.std.specs.Prelude.{◌≡◌, ◌⊎◌, ℕ, ℤ, pos, ◌<ℤ◌, true, Contains}
use Rattle.tm_cint.specs.declared.int_types.IntType.{IntType}
use Rattle.tm_cint.specs.declared.operators.BinOp.{BinOp}
use Rattle.tm_cint.specs.declared.operators.BinOp.TheVariants as Ops
use Rattle.tm_terms.specs.declared.places.Place.{Place}
use Rattle.tm_typed.specs.declared.expressions.Unary.{Unary}
use Rattle.tm_typed.specs.declared.expressions.Unary.TheVariants as Unaries
use Rattle.strided_dom.specs.Progression.{Progression, Has}
use Rattle.flow_graph.specs.declared.operations.Operation.{Operation}
use Rattle.flow_graph.specs.declared.operations.Operation.TheVariants as Op
use Rattle.flow_graph.specs.declared.operations.Test.TheVariants as Tests
use Rattle.post_recheck.specs.transfer_rows.StateForms.{State, value_of}
use Rattle.path_origins.specs.declared.origins.Form.{Form}
use Rattle.path_origins.specs.declared.origins.Form.TheVariants as Forms
use Rattle.path_origins.specs.declared.origins.Passing.{Passing}
use Rattle.path_origins.specs.declared.origins.Passed.TheVariants as Passes
use Rattle.path_origins.specs.Types.{is_signed_word}
use Rattle.part_extents.specs.Parts.{is_of_enumeration, inside_of}
use Rattle.operand_orders.specs.Reached.{SolvedBody, HasState, origin_at, targets}

-- one of the numbers is negative
pub record HasNegative (numbers : Progression) : Type 0 where
  pub number : ℤ
  pub has : Has numbers number
  pub negative : number <ℤ pos 0

-- one of the numbers is smaller than one of others
pub record HasSmaller (left right : Progression) : Type 0 where
  pub number : ℤ
  pub other : ℤ
  pub has : Has left number
  pub beside : Has right other
  pub smaller : number <ℤ other

-- the result of an operator on numbers from 0 on may be negative: only a difference is
abbrev pub GivesNegative : BinOp → Progression → Progression → Type 0
GivesNegative Ops.Sub left right = HasSmaller left right
GivesNegative op left right = ⊥

-- the result of `-` or `~` on a number from 0 on may be negative
pub data TurnsNegative (numbers : Progression) : Unary → Type 0 where
  negated : (n : ℤ) → Has numbers n → pos 0 <ℤ n → TurnsNegative numbers Unaries.Negate
  complemented : (n : ℤ) → Has numbers n → TurnsNegative numbers Unaries.Complement

-- An operation with an operand that is a value of an enumeration, in `int` or `long`: so the form of the operation says.
-- Some of the numbers on which it works, or its result, may be negative.
pub data WorksOnNegative (s : State) (form : Form) : Operation → Type 0 where
  operand : {to left right : ℕ} {op : BinOp} {of : IntType} {place : Place} → form ≡ Forms.Binary true
      → is_signed_word of ≡ true
      → (let v = value_of s left in let w = value_of s right in HasNegative v.numbers ⊎ HasNegative w.numbers)
      → WorksOnNegative s form (Op.Bin to op of left right place)
  result : {to left right : ℕ} {op : BinOp} {of : IntType} {place : Place} → form ≡ Forms.Binary true
      → is_signed_word of ≡ true
      → (let v = value_of s left in let w = value_of s right in GivesNegative op v.numbers w.numbers)
      → WorksOnNegative s form (Op.Bin to op of left right place)
  one : {to value : ℕ} {op : Unary} {of : IntType} {place : Place} → form ≡ Forms.Unary true
      → is_signed_word of ≡ true
      → (let v = value_of s value in HasNegative v.numbers ⊎ TurnsNegative v.numbers op)
      → WorksOnNegative s form (Op.Un to op of value place)
  compared : {left right : ℕ} {op : BinOp} {of : IntType} → form ≡ Forms.Test true → is_signed_word of ≡ true
      → (let v = value_of s left in let w = value_of s right in HasNegative v.numbers ⊎ HasNegative w.numbers)
      → WorksOnNegative s form (Op.Assume (Tests.Numbers op of left right))

module _ (b : SolvedBody) where
  -- a number that may be negative is stored where an object or a member of such a type stands
  pub data StoresNegative (s : State) : Operation → Type 0 where
    stores : {address value : ℕ} {scalar into : _} {place : Place} (cell : ℕ)
        → Contains (targets b scalar address s) cell → is_of_enumeration b.laid (inside_of b.laid cell) ≡ true
        → (let v = value_of s value in HasNegative v.numbers)
        → StoresNegative s (Op.Store address value scalar into place)

  pub data IsOfEnum (place : Place) : Type 0 where
    cast : (passing : Passing) → (let o = b.origins in Contains o.passings.items passing)
        → passing.passed ≡ Passes.Enumeration → passing.place ≡ place → IsOfEnum place
    stored : {edge : ℕ} {op : Operation} (s : State) → HasState b edge op s → StoresNegative s op
        → (let o = origin_at b edge in o.place ≡ place) → IsOfEnum place
    worked : {edge : ℕ} {op : Operation} (s : State) → HasState b edge op s
        → (let o = origin_at b edge in WorksOnNegative s o.form op) → (let o = origin_at b edge in o.place ≡ place)
        → IsOfEnum place
