-- Declarations of local objects as the code builds them, over temporaries.
use Rattle.std.specs.Prelude.{ℕ, zero, suc, pos, Bool, true, false, List, [], ◌∷◌, Option, Some, None}
use Rattle.tm_terms.specs.declared.places.Place.{Place}
use Rattle.tm_typed.specs.declared.types.Scalar.{Scalar}
use Rattle.tm_typed.specs.declared.types.Scalar.TheVariants as Scalars
use Rattle.tm_typed.specs.declared.scopes.ObjectNumber.TheVariants as Numbers
use Rattle.tm_typed.specs.TypedStatements.{GivenTree, LocalInitialiserTree, LocalTree}
use Rattle.tm_laid.specs.Layouts.{LaidTree, object_of, object_at}
use Rattle.concrete_values.specs.declared.values.Value.{Value}
use Rattle.concrete_values.specs.declared.values.Value.TheVariants.{Number, Pointer as APointer}
use Rattle.concrete_values.specs.declared.values.Pointer.TheVariants as Pointers
use Rattle.flow_graph.specs.declared.operations.Into.TheVariants as Intos
use Rattle.flow_graph.specs.declared.operations.Operation.TheVariants as Op
use Rattle.body_builder.specs.concrete_steps.NextAction.{scalar_at, is_given, rest_of}
use Rattle.body_builder.specs.lowering.Table.{codes, is_alone}
use Rattle.body_builder.specs.lowering.Built.{Building, place, temp_of, code_piece}
use Rattle.body_builder.specs.Fragments.{calls_on}
use Rattle.body_builder.specs.Placing.{Given, new_value}

-- zero or null
abbrev pub nothing_of : Scalar → Value
nothing_of (Scalars.Int t) = Number (pos 0)
nothing_of (Scalars.Pointer class) = APointer Pointers.Null

abbrev pub nothing_in : Scalar → Building → Given
nothing_in s b = new_value (Op.Const b.temps (nothing_of s)) b

-- the address of a cell, of which this is the one of its object: a scalar object has no parts
abbrev pub part_in : Bool → ℕ → ℕ → Building → Given
part_in true k a b = record { at = b; temp = a }
part_in false k a b = new_value (Op.Offset b.temps a k) b

module _ (laid : LaidTree) (depth path : ℕ) where
  -- the value of a cell
  abbrev pub value_in : Scalar → Bool → List GivenTree → Building → Given
  value_in s true (g ∷ gs) b =
      let x = code_piece (calls_on laid depth path) (codes laid path g.value).value b in
      record { at = x.at; temp = temp_of x.temp }
  value_in s true [] b = nothing_in s b
  value_in s false gs b = nothing_in s b

  -- one cell is stored
  unfoldable pub cell_in : Bool → ℕ → Place → ℕ → Scalar → Bool → List GivenTree → Building → Building
  cell_in alone o p k s given gs b =
      let a = new_value (Op.Base b.temps o) b in
      let c = part_in alone k a.temp a.at in
      let v = value_in s given gs c.at in
      place (Op.Store c.temp v.temp s (Intos.Object o) p) v.at

  -- so many cells from this one on
  abbrev pub cells_in : ℕ → Place → ℕ → ℕ → List GivenTree → Building → Building
  cells_in o p zero k gs b = b
  cells_in o p (suc n) k gs b =
      cells_in o p n (suc k) (rest_of (is_given k gs) gs)
      (cell_in (is_alone laid path o k) o p k (scalar_at laid o k) (is_given k gs) gs b)

  abbrev pub initialised_in : ℕ → Option LocalInitialiserTree → Building → Building
  initialised_in o None b = b
  initialised_in o (Some i) b = cells_in o i.place (object_at laid o).cells 0 i.given b

  unfoldable pub local_in : LocalTree → Building → Building
  local_in l b =
      let o = object_of laid path (Numbers.Local l.object) in initialised_in o l.initialiser (place (Op.Clear o) b)

  abbrev pub locals_in : List LocalTree → Building → Building
  locals_in [] b = b
  locals_in (l ∷ ls) b = locals_in ls (local_in l b)
