-- What the list of assumptions promises of enumerations that compilers may make unsigned (C99 6.7.2.2p4).
--
-- In
--     enum E { A, B } e; int r;
--     __task(1) void t(void) { e = A; r = e > -1; }
-- a run comes to the `>` at 2:39 with the operand -1: so the list has ENUM there. Had it none there, no run would come
-- there with a negative operand.
use Rattle.std.specs.Prelude.{◌≡◌, ℕ, ℤ, pos, ◌<ℤ◌, true, List}
use Rattle.sound_tables.specs.tm_terms.declared.places.Place.{Place}
use Rattle.sound_tables.specs.tm_laid.Layouts.{LaidTree, cell_of}
use Rattle.sound_tables.specs.tm_typed.declared.expressions.Unary.{Unary}
use Rattle.sound_tables.specs.tm_typed.declared.expressions.Unary.TheVariants as Unaries
use Rattle.sound_tables.specs.tm_typed.declared.types.Scalar.{Scalar}
use Rattle.tm_cint.specs.declared.int_types.IntType.{IntType}
use Rattle.tm_cint.specs.declared.operators.BinOp.{BinOp}
use Rattle.tm_cint.specs.declared.operators.BinOp.TheVariants as Ops
use Rattle.sound_tables.specs.concrete_values.declared.values.Value.{Value}
use Rattle.sound_tables.specs.concrete_values.declared.values.Value.TheVariants.{Number}
use Rattle.sound_tables.specs.concrete_steps.Worlds.{World}
use Rattle.sound_tables.specs.flow_graph.declared.operations.Into.{Into}
use Rattle.sound_tables.specs.flow_graph.declared.operations.Operation.{Operation}
use Rattle.sound_tables.specs.flow_graph.declared.operations.Operation.TheVariants as Op
use Rattle.sound_tables.specs.flow_graph.declared.operations.Test.TheVariants as Tests
use Rattle.sound_tables.specs.flow_graph.Runs.{Memory}
use Rattle.sound_tables.specs.interfere_set.Stores.{Interferences}
use Rattle.sound_tables.specs.transfer_rows.StateForms.{State}
use Rattle.sound_tables.specs.program_reports.table_covers.Solutions.{NodeTable}
use Rattle.sound_tables.specs.program_equations.Programs.{ProgramBodies}
use Rattle.sound_tables.specs.program_shape.Shape.{abstract_of_cell}
use Rattle.part_extents.specs.Parts.{is_of_enumeration, inside_of}
use Rattle.path_origins.specs.declared.origins.Form.{Form}
use Rattle.path_origins.specs.declared.origins.Form.TheVariants as Forms
use Rattle.path_origins.specs.Types.{is_signed_word}
use Rattle.edge_origins.specs.declared.origins.BodyOrigins.{BodyOrigins}
use Rattle.text_choices.specs.declared.kinds.Kind.TheVariants as Kinds
use Rattle.text_choices.specs.declared.kinds.Choice.{Choice}
use Rattle.sound_choices.specs.Promises.{ComesTo, origin_of, IsNotedOf, Has}
use Rattle.sound_choices.specs.Accesses.{Reaching}

pub record IsNegative (v : Value) : Type 0 where
  pub number : ℤ
  pub is : v ≡ Number number
  pub below : number <ℤ pos 0

-- With this memory an operation of the form, an operator in `int` or `long` on a value of an enumeration, works on a
-- negative number, or gives one.
pub data WorksNegatively (form : Form) (m : Memory) : Operation → Type 0 where
  on_left : {to left right : ℕ} {op : BinOp} {of : IntType} {place : Place} → form ≡ Forms.Binary true
      → is_signed_word of ≡ true → IsNegative (m.temps left)
      → WorksNegatively form m (Op.Bin to op of left right place)
  on_right : {to left right : ℕ} {op : BinOp} {of : IntType} {place : Place} → form ≡ Forms.Binary true
      → is_signed_word of ≡ true → IsNegative (m.temps right)
      → WorksNegatively form m (Op.Bin to op of left right place)
  difference : {to left right : ℕ} {of : IntType} {place : Place} (n d : ℤ) → form ≡ Forms.Binary true
      → is_signed_word of ≡ true → m.temps left ≡ Number n → m.temps right ≡ Number d → n <ℤ d
      → WorksNegatively form m (Op.Bin to Ops.Sub of left right place)
  on_one : {to value : ℕ} {op : Unary} {of : IntType} {place : Place} → form ≡ Forms.Unary true
      → is_signed_word of ≡ true → IsNegative (m.temps value)
      → WorksNegatively form m (Op.Un to op of value place)
  negated : {to value : ℕ} {of : IntType} {place : Place} (n : ℤ) → form ≡ Forms.Unary true
      → is_signed_word of ≡ true → m.temps value ≡ Number n → pos 0 <ℤ n
      → WorksNegatively form m (Op.Un to Unaries.Negate of value place)
  complemented : {to value : ℕ} {of : IntType} {place : Place} (n : ℤ) → form ≡ Forms.Unary true
      → is_signed_word of ≡ true → m.temps value ≡ Number n
      → WorksNegatively form m (Op.Un to Unaries.Complement of value place)
  compared_left : {left right : ℕ} {op : BinOp} {of : IntType} → form ≡ Forms.Test true
      → is_signed_word of ≡ true → IsNegative (m.temps left)
      → WorksNegatively form m (Op.Assume (Tests.Numbers op of left right))
  compared_right : {left right : ℕ} {op : BinOp} {of : IntType} → form ≡ Forms.Test true
      → is_signed_word of ≡ true → IsNegative (m.temps right)
      → WorksNegatively form m (Op.Assume (Tests.Numbers op of left right))

-- The runs are those of the source that is laid out so; of the other layout the objects and types are read.
module _ (laid seen : LaidTree) (p : ProgramBodies) (tables : ℕ → NodeTable State) (store : Interferences)
    (origins : List BodyOrigins) (choices : List Choice) where
  -- a negative number is stored to a cell of such a type
  abbrev pub ListsNegativeStores : Type 0
  ListsNegativeStores = (w : World) (t k object offset address value : ℕ) (scalar : Scalar) (into : Into) (place : Place)
      (noted : BodyOrigins) → IsNotedOf laid seen p tables store origins choices t noted
      → (r : Reaching laid p w t k object offset true) → r.operation ≡ Op.Store address value scalar into place
      → (let m = r.memory in IsNegative (m.temps value))
      → is_of_enumeration seen (inside_of seen (abstract_of_cell seen (cell_of seen object offset))) ≡ true
      → (let o = origin_of laid seen p tables store origins choices t k noted in
      Has laid seen p tables store origins choices Kinds.Enum o.place)

  -- an operator works on a negative number, or gives one
  abbrev pub ListsNegativeNumbers : Type 0
  ListsNegativeNumbers = (w : World) (t k : ℕ) (op : Operation) (m : Memory) (noted : BodyOrigins)
      → IsNotedOf laid seen p tables store origins choices t noted → ComesTo laid p w t k op m
      → (let o = origin_of laid seen p tables store origins choices t k noted in WorksNegatively o.form m op
      → Has laid seen p tables store origins choices Kinds.Enum o.place)

  pub record ListsEnumerations : Type 0 where
    pub stores : ListsNegativeStores
    pub numbers : ListsNegativeNumbers
