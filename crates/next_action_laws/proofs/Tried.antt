-- The laws tried on `int x; int a[2];` and a task that does `a[x] = 7;`.
use Rattle.std.proofs.Common.{◌≡◌, refl, ℕ, false, pos, negsuc, [], ◌∷◌, ◌++◌, Some, None, arith}
use Rattle.std.specs.Prelude.{is_some}
use Rattle.cell_layout.specs.tm_cint.declared.Class.TheVariants as Classes
use Rattle.cell_layout.specs.tm_cint.declared.int_types.IntType.TheVariants as Ints
use Rattle.cell_layout.specs.tm_terms.declared.places.Place.{Place}
use Rattle.cell_layout.specs.tm_terms.declared.tokens.Name.{Name}
use Rattle.cell_layout.specs.tm_typed.declared.types.CType.TheVariants as Types
use Rattle.cell_layout.specs.tm_typed.declared.types.TypeEntry.{TypeEntry}
use Rattle.cell_layout.specs.tm_typed.declared.types.Scalar.{Scalar}
use Rattle.cell_layout.specs.tm_typed.declared.types.Scalar.TheVariants as Scalars
use Rattle.cell_layout.specs.tm_typed.declared.scopes.ObjectNumber.TheVariants.{Static}
use Rattle.cell_layout.specs.tm_typed.Types.{first_types}
use Rattle.cell_layout.specs.tm_typed.TypedTrees.{a_constant, a_load, an_assignment, an_object, an_element}
use Rattle.cell_layout.specs.tm_typed.TypedStatements.{evaluates, no_statements, and_statement}
use Rattle.cell_layout.specs.tm_laid.declared.objects.LaidObject.{LaidObject}
use Rattle.cell_layout.specs.tm_laid.declared.cells.LaidCell.{LaidCell}
use Rattle.cell_layout.specs.tm_laid.Layouts.{LaidTree}
use Rattle.cell_types.specs.concrete_values.declared.values.Pointer.TheVariants as Pointers
use Rattle.cell_types.specs.concrete_values.declared.values.Value.TheVariants.{Number, Pointer as APointer}
use Rattle.cell_types.specs.concrete_values.declared.values.Answer.TheVariants.{Given, Done}
use Rattle.cell_types.specs.concrete_values.declared.actions.Next.TheVariants as Acts
use Rattle.cell_types.specs.concrete_values.Values.{number_of, pointer_of}
use Rattle.cell_types.specs.concrete_values.Pointers.{size_of, pointer_in, shifted, base, element}
use Rattle.cell_types.specs.concrete_values.Actions.{load_at, store_at, is_of, answer_of}
use Rattle.concrete_steps.specs.NextAction.{next}
use Rattle.next_action_laws.specs.Actions.{Fit, IsProper}

abbrev at : ℕ → Place
at n = record { line = 1; col = n }

abbrev name : Name
name = record { start = 0; length = 0 }

abbrev int : Scalar
int = Scalars.Int Ints.Int

abbrev array_entry : TypeEntry
array_entry = record {
  ctype = Types.Array 6 2;
  class = 13;
  cells = 2;
  abstract_cells = 2;
  size = 8;
  tight_size = 8;
  alignment = 4;
  of_pointers = false;
}

abbrev object : ℕ → ℕ → ℕ → LaidObject
object n first count = record {
  name = name;
  place = at 1;
  of = record { number = n; constant = false; volatile = false };
  owner = None;
  first_cell = first;
  cells = count;
  first_abstract = first;
  abstract_cells = count;
}

abbrev cell : ℕ → ℕ → LaidCell
cell o a = record { object = o; scalar = int; abstract_cell = a }

abbrev laid : LaidTree
laid = record {
  file = record {
    types = first_types ++ array_entry ∷ [];
    structs = [];
    statics = [];
    functions =
        record {
          name = name;
          place = at 1;
          result = 0;
          parameters = [];
          body =
              Some (record {
                locals = [];
                parameters = 0;
                statements =
                    and_statement
                    (evaluates (Some (an_assignment int
                    (an_element (an_object (Static 1) (at 1)) (a_load int false (an_object (Static 0) (at 3))) 2 1
                    (at 2)) (a_constant Ints.Int (pos 7) (at 8)) (at 6))))
                    no_statements;
              });
        }
        ∷ [];
    calls = [] ∷ [];
    tasks = [];
    mutexes = [];
    main = None;
    lengths = [];
    constants = [];
    labels = [];
    sizes = [];
  };
  bodies = 0 ∷ [];
  first_paths = 0 ∷ [];
  paths = record { body = 0; function = 0; caller = None; paths = 1 } ∷ [];
  callees = [] ∷ [];
  first_objects = 2 ∷ [];
  statics = 0 ∷ 1 ∷ [];
  objects = object 6 0 1 ∷ object 13 1 2 ∷ [];
  cells = cell 0 0 ∷ cell 1 1 ∷ cell 1 2 ∷ [];
  abstract_cells = [];
  initial = [];
}

loads : next laid 0 [] ≡ Acts.Load 0 0 int false (at 3)
unfolding next base pointer_in size_of load_at pointer_of
loads = refl

loads_properly : IsProper laid 0 (next laid 0 [])
unfolding next base pointer_in size_of load_at pointer_of
loads_properly = record { object = omega arith; usable = tt; inside = omega arith; scalar = refl }

fits : Fit laid (next laid 0) (Given (Number (pos 1)) ∷ [])
unfolding next base pointer_in size_of load_at pointer_of answer_of is_of
fits = (refl, tt)

stores : next laid 0 (Given (Number (pos 1)) ∷ []) ≡ Acts.Store 1 1 int (Number (pos 7)) (at 6)
unfolding next base pointer_in size_of shifted load_at store_at pointer_of number_of answer_of is_of element
stores = refl

stores_properly : IsProper laid 0 (next laid 0 (Given (Number (pos 1)) ∷ []))
unfolding next base pointer_in size_of shifted load_at store_at pointer_of number_of answer_of is_of element
stores_properly = (record { object = omega arith; usable = tt; inside = omega arith; scalar = refl }, refl)

beyond : next laid 0 (Given (Number (pos 2)) ∷ []) ≡ Acts.Fault Classes.Index (at 2)
unfolding next base pointer_in size_of load_at pointer_of number_of answer_of is_of element
beyond = refl

before : next laid 0 (Given (Number (negsuc 0)) ∷ []) ≡ Acts.Fault Classes.Index (at 2)
unfolding next base pointer_in size_of load_at pointer_of number_of answer_of is_of element
before = refl

no_pointer : is_some (answer_of laid (next laid 0 []) (Given (APointer Pointers.Null))) ≡ false
unfolding next base pointer_in size_of load_at pointer_of answer_of is_of
no_pointer = refl

not_done : is_some (answer_of laid (next laid 0 []) Done) ≡ false
unfolding next base pointer_in size_of load_at pointer_of answer_of
not_done = refl
