-- The definitions tried on three edges, and on numbers that do not fit.
use Rattle.std.proofs.Common.{◌≡◌, refl, ℕ, true, false, [], ◌∷◌}
use Rattle.std.proofs.lemmas.Bool.{false≢true}
use Rattle.tm_typed.specs.tm_cint.declared.int_types.IntType.TheVariants as Ints
use Rattle.tm_typed.specs.tm_terms.declared.places.Place.{Place}
use Rattle.tm_typed.specs.declared.types.Scalar.TheVariants as Scalars
use Rattle.concrete_values.specs.tm_laid.Layouts.{LaidTree}
use Rattle.flow_graph.specs.declared.operations.Into.TheVariants as Intos
use Rattle.flow_graph.specs.declared.operations.Operation.{Operation}
use Rattle.flow_graph.specs.declared.operations.Operation.TheVariants as Op
use Rattle.flow_graph.specs.declared.graphs.Edge.{Edge}
use Rattle.flow_graph.specs.Graphs.{Edges}
use Rattle.temporary_types.specs.Sorts.{numbers, pointers, Within, FitsSorts}
use Rattle.temporary_types.specs.PointerMarks.{pointer_marks}

abbrev at : Place
at = record { line = 1; col = 1 }

abbrev edge : ℕ → ℕ → Operation → Edge
edge n m op = record { from = n; to = m; op = op }

-- the address of an object, the `int` that it holds, and the address again
abbrev graph : Edges
graph = edge 0 1 (Op.Base 0 0) ∷ edge 1 2 (Op.Load 1 0 (Scalars.Int Ints.Int) at) ∷ edge 2 3 (Op.Copy 2 0) ∷ []

pointers_are_marked : pointer_marks graph 3 ≡ true ∷ false ∷ true ∷ []
pointers_are_marked = refl

loads_fit : (laid : LaidTree) → FitsSorts laid (pointers ∷ numbers Ints.Int ∷ pointers ∷ [])
    (Op.Load 1 0 (Scalars.Int Ints.Int) at)
loads_fit laid = ((pointers, refl, tt), (numbers Ints.Int, refl, refl))

-- a `char` is copied into an `int`, and stored into one, with no conversion
copies_fit : (laid : LaidTree) → FitsSorts laid (numbers Ints.Char ∷ numbers Ints.Int ∷ []) (Op.Copy 1 0)
copies_fit laid =
    ((numbers Ints.Char, (numbers Ints.Char, refl, refl)), (numbers Ints.Int, refl, (numbers Ints.Char, refl, refl)))

stores_fit : (laid : LaidTree) → FitsSorts laid (pointers ∷ numbers Ints.Char ∷ [])
    (Op.Store 0 1 (Scalars.Int Ints.Int) Intos.Pointed at)
stores_fit laid = (((pointers, refl, tt), (numbers Ints.Char, refl, refl), tt), tt)

-- not the other way round, nor an `unsigned int` as an `int`
int_is_no_char : Within (numbers Ints.Int) (numbers Ints.Char) → ⊥
int_is_no_char h = absurd (false≢true h)

unsigned_is_not_signed : Within (numbers Ints.UInt) (numbers Ints.Int) → ⊥
unsigned_is_not_signed h = absurd (false≢true h)

-- and a pointer is no number
no_number : Within pointers (numbers Ints.Int) → ⊥
no_number h = absurd h
