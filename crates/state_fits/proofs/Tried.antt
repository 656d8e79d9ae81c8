-- The definitions tried on `c + 1` where `c` is a `char`, whose conversion to `int` makes no operation.
use Rattle.std.proofs.Common.{◌≡◌, refl, List, [], ◌∷◌}
use Rattle.temporary_types.specs.tm_cint.declared.int_types.IntType.TheVariants as Ints
use Rattle.temporary_types.specs.tm_cint.declared.operators.BinOp.TheVariants as Bins
use Rattle.temporary_types.specs.tm_terms.declared.places.Place.{Place}
use Rattle.temporary_types.specs.tm_typed.declared.types.Scalar.TheVariants as Scalars
use Rattle.temporary_types.specs.tm_laid.Layouts.{LaidTree}
use Rattle.temporary_types.specs.flow_graph.declared.operations.Operation.{Operation}
use Rattle.temporary_types.specs.flow_graph.declared.operations.Operation.TheVariants as Op
use Rattle.temporary_types.specs.Sorts.{Sort, numbers, pointers, FitsSorts, types_of}

abbrev at : Place
at = record { line = 1; col = 1 }

-- what `c` holds, and the sum
abbrev load : Operation
load = Op.Load 1 0 (Scalars.Int Ints.Char) at

abbrev sum : Operation
sum = Op.Bin 3 Bins.Add Ints.Int 1 2 at

abbrev sorts : List Sort
sorts = pointers ∷ numbers Ints.Char ∷ numbers Ints.Int ∷ numbers Ints.Int ∷ []

load_fits : (laid : LaidTree) → FitsSorts laid sorts load
load_fits laid = ((pointers, refl, tt), (numbers Ints.Char, refl, refl))

sum_fits : (laid : LaidTree) → FitsSorts laid sorts sum
sum_fits laid = (((numbers Ints.Char, refl, refl), (numbers Ints.Int, refl, refl)), (numbers Ints.Int, refl, refl))

-- their types
their_types : types_of sorts 1 ≡ Scalars.Int Ints.Char
their_types = refl

pointers_alike : types_of sorts 0 ≡ Scalars.Pointer 0
pointers_alike = refl
