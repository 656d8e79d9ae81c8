-- What an operation names, and which cells an access reaches.
use Rattle.std.specs.Prelude.{ℕ, ◌<◌, length}
use Rattle.temporary_types.specs.tm_typed.declared.types.Scalar.{Scalar}
use Rattle.temporary_types.specs.tm_laid.Layouts.{LaidTree, abstract_at}
use Rattle.edge_actions.specs.transfer_rows.Actions.{Spot}
use Rattle.edge_actions.specs.transfer_rows.Meanings.{IsSpotOf}
use Rattle.edge_actions.specs.Layouts.{spots_of}
use Rattle.temporary_types.specs.concrete_values.declared.values.Pointer.TheVariants.{Null, Invalid, To}
use Rattle.temporary_types.specs.concrete_values.declared.values.Pointer.{Pointer as Address}
use Rattle.temporary_types.specs.concrete_values.declared.values.Value.{Value}
use Rattle.temporary_types.specs.concrete_values.declared.values.Value.TheVariants as Constant
use Rattle.typed_values.specs.Types.{HaveSameValues}
use Rattle.temporary_types.specs.flow_graph.declared.operations.Operation.{Operation}
use Rattle.temporary_types.specs.flow_graph.declared.operations.Operation.TheVariants as Op

-- ## Objects

-- an object that exists
abbrev pub PointsToObject : LaidTree → Address → Type 0
PointsToObject laid Null = Unit {0}
PointsToObject laid Invalid = Unit {0}
PointsToObject laid (To object offset) = object < length laid.objects

-- a constant pointer leads to an object that there is
abbrev pub NamesObject : LaidTree → Value → Type 0
NamesObject laid (Constant.Number n) = Unit {0}
NamesObject laid (Constant.Pointer p) = PointsToObject laid p

-- an operation's constant pointer, if it has one, leads to an object that there is
abbrev pub NamesObjects : LaidTree → Operation → Type 0
NamesObjects laid (Op.Const to value) = NamesObject laid value
NamesObjects laid _ = Unit {0}

-- each cell that an access to a type may reach is of an abstract cell whose type has the same values
abbrev pub SpotsAgree : LaidTree → ℕ → Type 0
SpotsAgree laid task = (scalar : Scalar) (spot : Spot) → IsSpotOf (spots_of laid task scalar) spot
    → (let a = abstract_at laid spot.cell in HaveSameValues a.scalar scalar)
