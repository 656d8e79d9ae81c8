-- The constants of operations, and what they test.
use Rattle.call_graph.specs.tm_cint.Operators.{IsComparison}
use Rattle.lowering.specs.concrete_values.declared.values.Pointer.{Pointer}
use Rattle.lowering.specs.concrete_values.declared.values.Pointer.TheVariants.{Null, Invalid, To}
use Rattle.lowering.specs.concrete_values.declared.values.Value.{Value}
use Rattle.lowering.specs.concrete_values.declared.values.Value.TheVariants as Constant
use Rattle.lowering.specs.flow_graph.declared.operations.Test.{Test}
use Rattle.lowering.specs.flow_graph.declared.operations.Test.TheVariants.{Numbers, Pointers, Truth, Case}
use Rattle.lowering.specs.flow_graph.declared.operations.Operation.{Operation}
use Rattle.lowering.specs.flow_graph.declared.operations.Operation.TheVariants as Op
use Rattle.typed_file_laws.specs.Lawful.{IsNumber}

-- ## Constants

-- the pointer leads to no object
abbrev pub PointsNowhere : Pointer → Type 0
PointsNowhere Null = Unit {0}
PointsNowhere Invalid = Unit {0}
PointsNowhere (To object offset) = ⊥

-- a number, or a pointer that leads to no object
abbrev pub IsPlainValue : Value → Type 0
IsPlainValue (Constant.Number z) = Unit {0}
IsPlainValue (Constant.Pointer p) = PointsNowhere p

-- the constant that an operation gives, if it gives one, leads to no object
abbrev pub HasPlainConstant : Operation → Type 0
HasPlainConstant (Op.Const to value) = IsPlainValue value
HasPlainConstant _ = Unit {0}

-- ## Tests

-- numbers are compared with each other by a comparison, and with labels that are numbers of integer types
abbrev pub IsPlainTest : Test → Type 0
IsPlainTest (Numbers operator of left right) = IsComparison operator
IsPlainTest (Pointers equal left right) = Unit {0}
IsPlainTest (Truth holds value) = Unit {0}
IsPlainTest (Case holds label value) = IsNumber label

-- what an operation tests, if it is a test, is so
abbrev pub HasPlainTest : Operation → Type 0
HasPlainTest (Op.Assume test) = IsPlainTest test
HasPlainTest _ = Unit {0}
