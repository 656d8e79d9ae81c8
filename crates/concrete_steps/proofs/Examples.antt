-- Runs of small programs, action by action: what a task does after these answers. The stored values are those that gcc gives.
use Rattle.std.proofs.Common.{◌≡◌, ℕ, refl, true, false, pos, negsuc, List, [], ◌∷◌, ◌++◌, Option, Some, None}
use Rattle.tm_cint.specs.declared.Class.TheVariants as Classes
use Rattle.tm_cint.specs.declared.int_types.IntType.TheVariants as Ints
use Rattle.tm_cint.specs.declared.operators.BinOp.TheVariants as Ops
use Rattle.tm_terms.specs.declared.places.Place.{Place}
use Rattle.tm_terms.specs.declared.tokens.Name.{Name}
use Rattle.concrete_values.specs.tm_typed.declared.types.Qualified.{Qualified}
use Rattle.concrete_values.specs.tm_typed.declared.types.CType.TheVariants as Types
use Rattle.concrete_values.specs.tm_typed.declared.types.TypeEntry.{TypeEntry}
use Rattle.concrete_values.specs.tm_typed.declared.types.Scalar.{Scalar}
use Rattle.concrete_values.specs.tm_typed.declared.types.Scalar.TheVariants as Scalars
use Rattle.concrete_values.specs.tm_typed.declared.scopes.ObjectNumber.TheVariants.{Static, Local}
use Rattle.concrete_values.specs.tm_typed.Types.{first_types}
use Rattle.concrete_values.specs.tm_typed.TypedTrees.{RvalueTree, a_constant, a_load, an_address, a_binary, a_move}
use Rattle.concrete_values.specs.tm_typed.TypedTrees.{an_and, an_assignment, a_compound, a_unit_step, a_function_call}
use Rattle.concrete_values.specs.tm_typed.TypedTrees.{LvalueTree, an_object, an_element, a_pointed, no_rvalues}
use Rattle.concrete_values.specs.tm_typed.TypedTrees.{and_rvalue}
use Rattle.concrete_values.specs.tm_typed.TypedStatements.{TypedTree, evaluates, declares, runs_block, branches}
use Rattle.concrete_values.specs.tm_typed.TypedStatements.{loops_while, loops_do, loops_for, selects, breaks, continues}
use Rattle.concrete_values.specs.tm_typed.TypedStatements.{returns, TypedTrees, no_statements, and_statement, a_label}
use Rattle.concrete_values.specs.tm_typed.TypedStatements.{a_default_label, a_labelled_step, no_typed_cases}
use Rattle.concrete_values.specs.tm_typed.TypedStatements.{and_typed_case}
use Rattle.concrete_values.specs.tm_typed.Files.{TypedFunctionTree}
use Rattle.concrete_values.specs.tm_laid.declared.objects.LaidObject.{LaidObject}
use Rattle.concrete_values.specs.tm_laid.declared.cells.LaidCell.{LaidCell}
use Rattle.concrete_values.specs.tm_laid.TypeCells.{type_cells}
use Rattle.concrete_values.specs.tm_laid.Layouts.{LaidTree}
use Rattle.concrete_values.specs.declared.values.Pointer.TheVariants as Pointers
use Rattle.concrete_values.specs.declared.values.Value.TheVariants.{Number, Pointer as APointer}
use Rattle.concrete_values.specs.declared.values.Answer.{Answer}
use Rattle.concrete_values.specs.declared.values.Answer.TheVariants.{Given, Done}
use Rattle.concrete_values.specs.declared.actions.Next.{Next}
use Rattle.concrete_values.specs.declared.actions.Next.TheVariants as Acts
use Rattle.concrete_values.specs.Values.{is_true, number_of, pointer_of, number_in}
use Rattle.concrete_values.specs.Operators.{binary, converted, is_case}
use Rattle.concrete_values.specs.Pointers.{size_of, pointer_in, shifted, base, part, element, moved, is_dereferenceable, dereferenced, usable}
use Rattle.concrete_values.specs.Actions.{load_at, store_at, clear_at, is_of, answer_of}
use Rattle.concrete_steps.specs.NextAction.{next}

-- ## A layout: `int x;`, `int a[2];`, `signed char c;`, `int *p;`, then the objects of two paths

abbrev at : ℕ → Place
at n = record { line = 1; col = n }

abbrev name : Name
name = record { start = 0; length = 0 }

abbrev int : Scalar
int = Scalars.Int Ints.Int

abbrev of : ℕ → Qualified
of n = record { number = n; constant = false; volatile = false }

-- the types 13, `int *`, and 14, `int[2]`, behind the first ones
abbrev pointer_entry : TypeEntry
pointer_entry = record {
  ctype = Types.Pointer (of 6);
  class = 13;
  cells = 1;
  abstract_cells = 1;
  size = 4;
  tight_size = 4;
  alignment = 4;
  of_pointers = true;
}

abbrev array_entry : TypeEntry
array_entry = record {
  ctype = Types.Array 6 2;
  class = 14;
  cells = 2;
  abstract_cells = 2;
  size = 8;
  tight_size = 8;
  alignment = 4;
  of_pointers = false;
}

abbrev object : ℕ → Option ℕ → ℕ → ℕ → LaidObject
object n owner first count = record {
  name = name;
  place = at 1;
  of = of n;
  owner = owner;
  first_cell = first;
  cells = count;
  first_abstract = first;
  abstract_cells = count;
}

abbrev cell : ℕ → Scalar → ℕ → LaidCell
cell o s a = record { object = o; scalar = s; abstract_cell = a }

abbrev function : ℕ → List ℕ → ℕ → TypedTrees → TypedFunctionTree
function result parameters count ss = record {
  name = name;
  place = at 1;
  result = result;
  parameters = parameters;
  body = Some (record { locals = []; parameters = count; statements = ss });
}

-- a task with a local `i`, and a function with a parameter `n` that it may call; what both do
abbrev laid : TypedTrees → TypedTrees → LaidTree
laid task callee = record {
  file = record {
    types = first_types ++ pointer_entry ∷ array_entry ∷ [];
    structs = [];
    statics = [];
    functions = function 0 [] 0 task ∷ function 6 (6 ∷ []) 1 callee ∷ [];
    calls = (1 ∷ []) ∷ [] ∷ [];
    tasks = [];
    mutexes = [];
    main = None;
    lengths = [];
    constants = [];
    labels = [];
    sizes = [];
  };
  bodies = 0 ∷ [];
  first_paths = 0 ∷ [];
  paths =
      record { body = 0; function = 0; caller = None; paths = 2 }
      ∷ record { body = 0; function = 1; caller = Some (record { path = 0; site = 0 }); paths = 1 }
      ∷ [];
  callees = (1 ∷ []) ∷ [] ∷ [];
  first_objects = 4 ∷ 5 ∷ [];
  statics = 0 ∷ 1 ∷ 2 ∷ 3 ∷ [];
  objects =
      object 6 None 0 1
      ∷ object 14 None 1 2
      ∷ object 2 None 3 1
      ∷ object 13 None 4 1
      ∷ object 6 (Some 0) 5 1
      ∷ object 6 (Some 1) 6 1
      ∷ object 6 (Some 1) 7 1
      ∷ [];
  cells =
      cell 0 int 0
      ∷ cell 1 int 1
      ∷ cell 1 int 2
      ∷ cell 2 (Scalars.Int Ints.Char) 3
      ∷ cell 3 (Scalars.Pointer 13) 4
      ∷ cell 4 int 5
      ∷ cell 5 int 6
      ∷ cell 6 int 7
      ∷ [];
  abstract_cells = [];
  initial = [];
}

abbrev one : TypedTree → TypedTrees
one s = and_statement s no_statements

abbrev performs : RvalueTree → TypedTree
performs e = evaluates (Some e)

abbrev x : ℕ → LvalueTree
x p = an_object (Static 0) (at p)

abbrev i : ℕ → LvalueTree
i p = an_object (Local 0) (at p)

abbrev value : LvalueTree → RvalueTree
value l = a_load int false l

abbrev number : ℕ → RvalueTree
number n = a_constant Ints.Int (pos n) (at 99)

abbrev sets : ℕ → ℕ → TypedTree
sets n p = performs (an_assignment int (x 1) (number n) (at p))

abbrev says : ℕ → Answer
says n = Given (Number (pos n))

abbrev does : TypedTrees → List Answer → Next
does task answers = next (laid task no_statements) 0 answers

abbrev stores_x : ℕ → ℕ → Next
stores_x n p = Acts.Store 0 0 int (Number (pos n)) (at p)

-- ## `x = x + 1;`

abbrev increments : TypedTrees
increments = one (performs (an_assignment int (x 1) (a_binary Ops.Add Ints.Int (value (x 5)) (number 1) (at 7)) (at 3)))

loads : does increments [] ≡ Acts.Load 0 0 int false (at 5)
unfolding next base pointer_in size_of load_at pointer_of
loads = refl

stores : does increments (says 5 ∷ []) ≡ stores_x 6 3
unfolding next base pointer_in size_of load_at store_at pointer_of answer_of is_of binary number_in number_of
stores = refl

ends : does increments (says 5 ∷ Done ∷ []) ≡ Acts.Ended
unfolding next base pointer_in size_of load_at store_at pointer_of answer_of is_of binary number_in number_of
ends = refl

overflows : does increments (says 2147483647 ∷ []) ≡ Acts.Fault Classes.Overflow (at 7)
unfolding next base pointer_in size_of load_at store_at pointer_of answer_of is_of binary number_in number_of
overflows = refl

no_int : does increments (says 2147483648 ∷ []) ≡ Acts.Misfit
unfolding next base pointer_in size_of load_at store_at pointer_of answer_of is_of
no_int = refl

too_many : does increments (says 5 ∷ Done ∷ Done ∷ []) ≡ Acts.Misfit
unfolding next base pointer_in size_of load_at store_at pointer_of answer_of is_of binary number_in number_of
too_many = refl

-- ## `int i = 0; for (; i < 2; i++) { if (i) continue; x = 7; }`

abbrev counts : TypedTrees
counts =
    and_statement
    (declares (record { object = 0; initialiser = Some (record { given = record { cell = 0; scalar = int; value = number 0 } ∷ []; place = at 7 }) } ∷ []))
    (one
    (loops_for (evaluates None) (Some (a_binary Ops.Lt Ints.Int (value (i 18)) (number 2) (at 20)))
    (Some (a_unit_step (record { minus = false; postfix = true }) Ints.Int Ints.Int false (i 25) (at 26)))
    (runs_block (and_statement (branches (value (i 36)) continues) (one (sets 7 51))))))

counts_clears : does counts [] ≡ Acts.Clear 4
unfolding next clear_at size_of
counts_clears = refl

counts_stores : does counts (Done ∷ []) ≡ Acts.Store 4 0 int (Number (pos 0)) (at 7)
unfolding next clear_at base part pointer_in size_of shifted load_at store_at pointer_of answer_of is_of
counts_stores = refl

counts_tests : does counts (Done ∷ Done ∷ []) ≡ Acts.Load 4 0 int false (at 18)
unfolding next clear_at base part pointer_in size_of shifted load_at store_at pointer_of answer_of is_of
counts_tests = refl

counts_sets : does counts (Done ∷ Done ∷ says 0 ∷ says 0 ∷ []) ≡ stores_x 7 51
unfolding next clear_at base part pointer_in size_of shifted load_at store_at pointer_of answer_of is_of is_true binary number_in number_of
counts_sets = refl

-- `continue` goes to the step
counts_continues : does counts (Done ∷ Done ∷ says 1 ∷ says 1 ∷ []) ≡ Acts.Load 4 0 int false (at 25)
unfolding next clear_at base part pointer_in size_of shifted load_at store_at pointer_of answer_of is_of is_true binary number_in number_of
counts_continues = refl

counts_steps : does counts (Done ∷ Done ∷ says 1 ∷ says 1 ∷ says 1 ∷ []) ≡ Acts.Store 4 0 int (Number (pos 2)) (at 26)
unfolding next clear_at base part pointer_in size_of shifted load_at store_at pointer_of answer_of is_of is_true binary number_in number_of converted
counts_steps = refl

counts_ends : does counts (Done ∷ Done ∷ says 2 ∷ []) ≡ Acts.Ended
unfolding next clear_at base part pointer_in size_of shifted load_at store_at pointer_of answer_of is_of is_true binary number_in number_of
counts_ends = refl

-- ## `while (1);` spins, and `do; while (0);` does not

spins : does (one (loops_while (number 1) (evaluates None))) [] ≡ Acts.Spins
unfolding next is_true
spins = refl

leaves : does (one (loops_do (evaluates None) (number 0))) [] ≡ Acts.Ended
unfolding next is_true
leaves = refl

-- ## `switch (x) { case 1: x = 1; case 2: x = 2; break; default: x = 3; }`

abbrev switches : TypedTrees
switches =
    one
    (selects Ints.Int (value (x 9))
    (and_typed_case (a_label (pos 1) (at 12)) (and_typed_case (a_labelled_step (sets 1 20)) (and_typed_case (a_label (pos 2) (at 25))
    (and_typed_case (a_labelled_step (sets 2 30)) (and_typed_case (a_labelled_step breaks)
    (and_typed_case (a_default_label (at 40)) (and_typed_case (a_labelled_step (sets 3 50)) no_typed_cases))))))))

first_case : does switches (says 1 ∷ []) ≡ stores_x 1 20
unfolding next base pointer_in size_of load_at store_at pointer_of answer_of is_of is_case number_of
first_case = refl

falls_through : does switches (says 1 ∷ Done ∷ []) ≡ stores_x 2 30
unfolding next base pointer_in size_of load_at store_at pointer_of answer_of is_of is_case number_of
falls_through = refl

breaks_out : does switches (says 1 ∷ Done ∷ Done ∷ []) ≡ Acts.Ended
unfolding next base pointer_in size_of load_at store_at pointer_of answer_of is_of is_case number_of
breaks_out = refl

default_case : does switches (says 9 ∷ []) ≡ stores_x 3 50
unfolding next base pointer_in size_of load_at store_at pointer_of answer_of is_of is_case number_of
default_case = refl

-- ## A call: `int f(int n) { if (n) return n * 2; }`, `x = f(x);`

abbrev calls : LaidTree
calls =
    laid (one (performs (an_assignment int (x 1) (a_function_call 1 0 (and_rvalue (value (x 7)) no_rvalues) (at 5)) (at 3))))
    (one (branches (value (an_object (Local 0) (at 21))) (returns (Some (a_binary Ops.Mul Ints.Int (value (an_object (Local 0) (at 31))) (number 2) (at 33))))))

passes : next calls 0 (says 3 ∷ []) ≡ Acts.Store 5 0 int (Number (pos 3)) (at 5)
unfolding next base pointer_in size_of load_at store_at pointer_of answer_of is_of
passes = refl

returned : next calls 0 (says 3 ∷ Done ∷ says 3 ∷ says 3 ∷ []) ≡ stores_x 6 3
unfolding next base pointer_in size_of load_at store_at pointer_of answer_of is_of is_true binary number_in number_of
returned = refl

-- without `return` any value of the result's type
falls_off : next calls 0 (says 0 ∷ Done ∷ says 0 ∷ []) ≡ Acts.Chosen (negsuc 2147483647) (pos 2147483647)
unfolding next base pointer_in size_of load_at store_at pointer_of answer_of is_of is_true
falls_off = refl

chosen : next calls 0 (says 0 ∷ Done ∷ says 0 ∷ says 8 ∷ []) ≡ stores_x 8 3
unfolding next base pointer_in size_of load_at store_at pointer_of answer_of is_of is_true
chosen = refl

-- ## Two arguments: `int f(int n, int k) { return n - k; }`, `x = f(7, 2);`: both are evaluated, and stored in order

abbrev differs : LaidTree
differs =
    laid
    (one
    (performs
    (an_assignment int (x 1) (a_function_call 1 0 (and_rvalue (number 7) (and_rvalue (number 2) no_rvalues)) (at 5)) (at 3))))
    (one
    (returns
    (Some
    (a_binary Ops.Sub Ints.Int (value (an_object (Local 0) (at 31))) (value (an_object (Local 1) (at 35))) (at 33)))))

first_parameter : next differs 0 [] ≡ Acts.Store 5 0 int (Number (pos 7)) (at 5)
unfolding next base pointer_in size_of store_at pointer_of
first_parameter = refl

second_parameter : next differs 0 (Done ∷ []) ≡ Acts.Store 6 0 int (Number (pos 2)) (at 5)
unfolding next base pointer_in size_of store_at pointer_of answer_of
second_parameter = refl

left_first : next differs 0 (Done ∷ Done ∷ []) ≡ Acts.Load 5 0 int false (at 31)
unfolding next base pointer_in size_of load_at store_at pointer_of answer_of
left_first = refl

difference : next differs 0 (Done ∷ Done ∷ says 7 ∷ says 2 ∷ []) ≡ stores_x 5 3
unfolding next base pointer_in size_of load_at store_at pointer_of answer_of is_of binary number_in number_of
difference = refl

-- ## Conversions: `c += 100;` where `signed char c` holds 100, and `c--` where it holds -128

abbrev c : ℕ → LvalueTree
c p = an_object (Static 2) (at p)

converts : does (one (performs (a_compound Ops.Add Ints.Char Ints.Int false (c 1) (number 100) (at 3)))) (says 100 ∷ [])
    ≡ Acts.Store 2 0 (Scalars.Int Ints.Char) (Number (negsuc 55)) (at 3)
unfolding next base pointer_in size_of load_at store_at pointer_of answer_of is_of binary number_in number_of converted
converts = refl

abbrev steps_back : TypedTrees
steps_back = one (performs (an_assignment int (x 1) (a_unit_step (record { minus = true; postfix = true }) Ints.Char Ints.Int false (c 5) (at 6)) (at 3)))

wraps : does steps_back (Given (Number (negsuc 127)) ∷ []) ≡ Acts.Store 2 0 (Scalars.Int Ints.Char) (Number (pos 127)) (at 6)
unfolding next base pointer_in size_of load_at store_at pointer_of answer_of is_of binary number_in number_of converted
wraps = refl

-- the value of `c--` is the old one
old_value : does steps_back (Given (Number (negsuc 127)) ∷ Done ∷ []) ≡ Acts.Store 0 0 int (Number (negsuc 127)) (at 3)
unfolding next base pointer_in size_of load_at store_at pointer_of answer_of is_of binary number_in number_of converted
old_value = refl

-- ## Pointers: `p = a + 1; *p = 4;`, `p + 2` one too far, `*p` where p is one past the last cell, and `a[2]`

abbrev p : ℕ → LvalueTree
p n = an_object (Static 3) (at n)

abbrev begins : RvalueTree
begins = an_address (an_object (Static 1) (at 5)) (at 5)

abbrev moves : ℕ → TypedTrees
moves n =
    and_statement (performs (an_assignment (Scalars.Pointer 13) (p 1) (a_move false 1 false begins (number n) (at 7)) (at 3)))
    (one (performs (an_assignment int (a_pointed (a_load (Scalars.Pointer 13) false (p 14)) 6 (at 13)) (number 4) (at 17))))

moves_one : does (moves 1) [] ≡ Acts.Store 3 0 (Scalars.Pointer 13) (APointer (Pointers.To 1 1)) (at 3)
unfolding next base pointer_in size_of shifted load_at store_at pointer_of moved number_of
moves_one = refl

stores_behind : does (moves 1) (Done ∷ Given (APointer (Pointers.To 1 1)) ∷ []) ≡ Acts.Store 1 1 int (Number (pos 4)) (at 17)
unfolding next base pointer_in size_of shifted load_at store_at pointer_of moved number_of answer_of is_of dereferenced is_dereferenceable type_cells
stores_behind = refl

past_the_end : does (moves 2) (Done ∷ Given (APointer (Pointers.To 1 2)) ∷ []) ≡ Acts.Fault Classes.Deref (at 13)
unfolding next base pointer_in size_of shifted load_at store_at pointer_of moved number_of answer_of is_of dereferenced is_dereferenceable type_cells
past_the_end = refl

too_far : does (moves 3) [] ≡ Acts.Fault Classes.Pointer (at 7)
unfolding next base pointer_in size_of shifted load_at store_at pointer_of moved number_of
too_far = refl

-- the `n` of the call is not alive in the task's own body
not_alive : does (moves 1) (Done ∷ Given (APointer (Pointers.To 5 0)) ∷ []) ≡ Acts.Fault Classes.Deref (at 13)
unfolding next base pointer_in size_of shifted load_at store_at pointer_of moved number_of answer_of is_of dereferenced is_dereferenceable type_cells
not_alive = refl

-- an object of another type does not host an `int`
other_type : does (moves 1) (Done ∷ Given (APointer (Pointers.To 2 0)) ∷ []) ≡ Acts.Fault Classes.Deref (at 13)
unfolding next base pointer_in size_of shifted load_at store_at pointer_of moved number_of answer_of is_of dereferenced is_dereferenceable type_cells
other_type = refl

subscript : does (one (performs (an_assignment int (an_element (an_object (Static 1) (at 1)) (number 2) 2 1 (at 2)) (number 4) (at 6)))) []
    ≡ Acts.Fault Classes.Index (at 2)
unfolding next base pointer_in size_of element number_of
subscript = refl

-- ## `if (0 && 1 / 0) x = 1; x = 2;`: the second operand is not evaluated

short : does (and_statement (branches (an_and (number 0) (a_binary Ops.Div Ints.Int (number 1) (number 0) (at 12)) (at 8)) (sets 1 20)) (one (sets 2 30))) []
    ≡ stores_x 2 30
unfolding next base pointer_in size_of store_at pointer_of is_true
short = refl

-- an invalid pointer is no condition
tested_invalid : does (one (branches (a_load (Scalars.Pointer 13) false (p 5)) (sets 1 20))) (Given (APointer Pointers.Invalid) ∷ [])
    ≡ Acts.Fault Classes.Pointer (at 5)
unfolding next base pointer_in size_of load_at pointer_of answer_of is_of usable
tested_invalid = refl
