-- What the soundness of the report asks of files that are typed and laid out.
use Rattle.std.specs.Prelude.{◌≡◌, ℕ, ◌<◌, Bool, List, length, slice_get, Some}
use Rattle.operation_laws.specs.tm_cint.declared.int_types.IntType.{IntType}
use Rattle.operation_laws.specs.tm_cint.declared.int_types.IntType.TheVariants as Ints
use Rattle.operation_laws.specs.tm_terms.declared.places.Place.{Place}
use Rattle.operation_laws.specs.tm_typed.declared.expressions.Unary.{Unary}
use Rattle.operation_laws.specs.tm_typed.declared.expressions.Unary.TheVariants.{Complement}
use Rattle.operation_laws.specs.tm_laid.Layouts.{LaidTree}
use Rattle.operation_laws.specs.flow_graph.declared.graphs.Edge.{Edge}
use Rattle.operation_laws.specs.flow_graph.declared.operations.Test.TheVariants as Tests
use Rattle.operation_laws.specs.flow_graph.declared.operations.Operation.TheVariants as Op
use Rattle.operation_laws.specs.flow_graph.Graphs.{Among}
use Rattle.operation_laws.specs.lowering.Built.{graph_of}
use Rattle.operation_laws.specs.next_action_laws.Actions.{IsOwn}
use Rattle.operation_laws.specs.temporary_types.Sorts.{Sort, AreSorts}
use Rattle.operation_laws.specs.temporary_types.PointerMarks.{is_pointers}
use Rattle.program_equations.specs.transfer_rows.Accesses.{is_among}
use Rattle.program_equations.specs.Programs.{pointers_in}

-- each object that the graph of a body clears is on a call path of the body
abbrev pub OwnsCleared : LaidTree → Type 0
OwnsCleared laid = (body : ℕ) (e : Edge) (object : ℕ) → body < length laid.bodies → Among e (graph_of laid body)
    → e.op ≡ Op.Clear object → IsOwn laid body object

-- `~` works in other types than `_Bool`: its operand is promoted (C99 6.5.3.3)
abbrev pub ComplementsWork : LaidTree → Type 0
ComplementsWork laid = (body : ℕ) (e : Edge) (to from : ℕ) (operator : Unary) (of : IntType) (place : Place)
    → body < length laid.bodies → Among e (graph_of laid body) → e.op ≡ Op.Un to operator of from place
    → operator ≡ Complement → of ≡ Ints.Bool → ⊥

-- whatever sorts the temporaries of a body have, what is tested for its truth is one of those that the pass over the
-- graph tells to hold pointers exactly where it holds pointers
abbrev pub TellsTruths : LaidTree → Type 0
TellsTruths laid = (body : ℕ) (other : LaidTree) (sorts : List Sort) (e : Edge) (holds : Bool) (value : ℕ) (s : Sort)
    → body < length laid.bodies → AreSorts other sorts (graph_of laid body) → Among e (graph_of laid body)
    → e.op ≡ Op.Assume (Tests.Truth holds value) → slice_get sorts value ≡ Some s
    → is_among (pointers_in (graph_of laid body)) value ≡ is_pointers s
