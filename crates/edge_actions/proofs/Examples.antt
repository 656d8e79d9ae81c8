-- Edges as actions on a small layout, with the spots and constants that one finds by hand.
use Rattle.std.specs.Prelude.{◌≡◌, ℕ, true, false, pos, negsuc, [], ◌∷◌, Some, None, refl}
use Rattle.strided_dom.specs.Progression.{single, row, empty}
use Rattle.tm_terms.specs.tm_cint.declared.int_types.IntType.TheVariants.{Int, Char}
use Rattle.tm_terms.specs.tm_cint.declared.operators.BinOp.TheVariants.{Lt, Ge, Ne}
use Rattle.tm_typed.specs.declared.types.Scalar.TheVariants as Scalars
use Rattle.tm_typed.specs.Files.{TypedFileTree}
use Rattle.tm_terms.specs.declared.places.Place.{Place}
use Rattle.tm_laid.specs.declared.objects.LaidObject.{LaidObject}
use Rattle.tm_laid.specs.Layouts.{LaidTree}
use Rattle.flow_graph.specs.concrete_values.declared.values.Pointer.TheVariants as Pointers
use Rattle.flow_graph.specs.declared.operations.Into.TheVariants as Into
use Rattle.flow_graph.specs.declared.operations.Test.TheVariants as Tests
use Rattle.flow_graph.specs.declared.operations.Operation.TheVariants as Op
use Rattle.flow_graph.specs.Operations.{opposite}
use Rattle.pointer_dom.specs.PointerSets.{pointer_to, no_pointer}
use Rattle.transfer_rows.specs.StateForms.{only_numbers, only_pointers}
use Rattle.transfer_rows.specs.Actions.{stores, refines, numbers_compare, pointers_compare, temporary, fixed, probes}
use Rattle.edge_actions.specs.Layouts.{numbers_between, open_value, only_invalid, spots_of, is_shared_cell, is_smashed_cell}
use Rattle.edge_actions.specs.Edges.{action_of, pointer_value, cleared_value, only_null}

place : Place
place = record { line = 1; col = 1 }

abbrev object : ℕ → ℕ → ℕ → ℕ → LaidObject
object first cells abstract count = record {
  name = record { start = 0; length = 0 };
  place = place;
  of = record { number = 0; constant = false; volatile = false };
  owner = None;
  first_cell = first;
  cells = cells;
  first_abstract = abstract;
  abstract_cells = count;
}

-- `int x;`, a local `char c;` of the first task, and an `int a[2];` whose cells are smashed
abbrev small : TypedFileTree → LaidTree
small file = record {
  file = file;
  bodies = 0 ∷ 1 ∷ [];
  first_paths = 0 ∷ 1 ∷ [];
  paths = record { body = 0; function = 0; caller = None; paths = 1 } ∷ record { body = 1; function = 1; caller = None; paths = 1 } ∷ [];
  callees = [] ∷ [] ∷ [];
  first_objects = 1 ∷ 2 ∷ [];
  statics = 0 ∷ [];
  objects = object 0 1 0 1 ∷ record (object 1 1 1 1) { owner = Some 0 } ∷ object 2 2 2 1 ∷ [];
  cells =
      record { object = 0; scalar = Scalars.Int Int; abstract_cell = 0 } ∷ record { object = 1; scalar = Scalars.Int Char; abstract_cell = 1 }
      ∷ record { object = 2; scalar = Scalars.Int Int; abstract_cell = 2 } ∷ record { object = 2; scalar = Scalars.Int Int; abstract_cell = 2 } ∷ [];
  abstract_cells =
      record { object = 0; offset = 0; scalar = Scalars.Int Int; smashed = false } ∷ record { object = 1; offset = 0; scalar = Scalars.Int Char; smashed = false }
      ∷ record { object = 2; offset = 0; scalar = Scalars.Int Int; smashed = true } ∷ [];
  initial = [];
}

module _ (file : TypedFileTree) where
  -- an access to an `int` may reach `x` and both elements, whose abstract cell is one
  ints_of : spots_of (small file) 0 (Scalars.Int Int)
      ≡ record { object = 0; offset = 0; cell = 0 } ∷ record { object = 2; offset = 0; cell = 2 } ∷ record { object = 2; offset = 1; cell = 2 } ∷ []
  unfolding spots_of
  ints_of = refl

  -- the first task reaches its `char`, the second does not
  own_char : spots_of (small file) 0 (Scalars.Int Char) ≡ record { object = 1; offset = 0; cell = 1 } ∷ []
  unfolding spots_of
  own_char = refl

  no_char : spots_of (small file) 1 (Scalars.Int Char) ≡ []
  unfolding spots_of
  no_char = refl

  shared : (is_shared_cell (small file) 0 ≡ true) × (is_shared_cell (small file) 1 ≡ false)
  shared = (refl, refl)

  smashed : (is_smashed_cell (small file) 0 ≡ false) × (is_smashed_cell (small file) 2 ≡ true)
  smashed = (refl, refl)

  -- `x=1;`
  store_edge : action_of (small file) 0 false false (Op.Store 0 1 (Scalars.Int Int) (Into.Object 0) place) ≡ stores (spots_of (small file) 0 (Scalars.Int Int)) 0 1
  store_edge = refl

  -- a local object that is cleared holds any value of its type, and no other cell changes
  own_cleared : cleared_value (small file) 1 1 ≡ Some (only_numbers (row (negsuc 127) 0 254))
  own_cleared = refl

  others_stay : (cleared_value (small file) 1 0 ≡ None) × (cleared_value (small file) 1 2 ≡ None)
  others_stay = (refl, refl)

  -- one past the end is an address, and two past is none
  at_end : pointer_value (small file) (Pointers.To 0 1) ≡ pointer_to 0 1 1
  at_end = refl

  past_end : pointer_value (small file) (Pointers.To 0 2) ≡ no_pointer
  past_end = refl

  -- the two branches of `t`, where it is a number and where it is a pointer
  is_true : action_of (small file) 0 false false (Op.Assume (Tests.Truth true 5)) ≡ refines (numbers_compare Ne (temporary 5) (fixed (only_numbers (single (pos 0)))))
  is_true = refl

  is_not_null : action_of (small file) 0 true false (Op.Assume (Tests.Truth true 5)) ≡ refines (pointers_compare false (temporary 5) (fixed (only_pointers only_null)))
  is_not_null = refl

  is_null : action_of (small file) 0 true false (Op.Assume (opposite (Tests.Truth true 5))) ≡ refines (pointers_compare true (temporary 5) (fixed (only_pointers only_null)))
  is_null = refl

  -- the opposite of a comparison, and a label
  not_less : action_of (small file) 0 false false (Op.Assume (opposite (Tests.Numbers Lt Int 3 4))) ≡ refines (numbers_compare Ge (temporary 3) (temporary 4))
  not_less = refl

  no_case : action_of (small file) 0 false false (Op.Assume (opposite (Tests.Case true (pos 7) 3))) ≡ refines (numbers_compare Ne (temporary 3) (fixed (only_numbers (single (pos 7)))))
  no_case = refl

  probe_copy : action_of (small file) 0 false true (Op.Probe 6 2 place) ≡ probes 2 6 true
  probe_copy = refl

numbers : (numbers_between (pos 3) (pos 5) ≡ row (pos 3) 0 1) × (numbers_between (pos 3) (pos 3) ≡ single (pos 3)) × (numbers_between (pos 3) (pos 2) ≡ empty)
numbers = (refl, refl, refl)

open_pointer : (class : ℕ) → open_value (Scalars.Pointer class) ≡ only_pointers only_invalid
open_pointer class = refl
