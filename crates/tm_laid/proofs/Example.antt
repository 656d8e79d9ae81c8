-- A file laid out: structures in an array, an array of 64 elements and one of 65, an object that is only declared, two
-- tasks with calls on two levels, and `main`.
--
--   struct P { int x; char y; };  struct P a[2];  int b[64];  extern int e;  int c[65];  int *p = &b[3];
--   void g(int k) {}  void f(int n) { int m; g(1); g(2); }
--   __task(1) void t(void) { f(1); g(3); }  __task(2) void u(void) { struct P q; f(2); }
--   int main(void) { g(0); return 0; }
use Rattle.std.proofs.Common.{◌≡◌, refl, ℕ, Bool, true, false, List, [], ◌∷◌, ◌++◌, map, length, get_or, Some, None}
use Rattle.tm_typed.specs.tm_cint.declared.int_types.IntType.TheVariants as Ints
use Rattle.tm_typed.specs.tm_terms.declared.places.Place.{Place}
use Rattle.tm_typed.specs.tm_terms.declared.tokens.Name.{Name}
use Rattle.tm_typed.specs.tm_terms.declared.refusals.Limit.TheVariants as Limits
use Rattle.tm_typed.specs.declared.types.Qualified.{Qualified}
use Rattle.tm_typed.specs.declared.types.CType.{CType}
use Rattle.tm_typed.specs.declared.types.CType.TheVariants as Types
use Rattle.tm_typed.specs.declared.types.TypeEntry.{TypeEntry}
use Rattle.tm_typed.specs.declared.types.Scalar.TheVariants as Scalars
use Rattle.tm_typed.specs.declared.files.LocalEntry.{LocalEntry}
use Rattle.tm_typed.specs.declared.files.StaticCell.{StaticCell}
use Rattle.tm_typed.specs.declared.files.StaticValue.TheVariants as Values
use Rattle.tm_typed.specs.Types.{first_types}
use Rattle.tm_typed.specs.States.{Static}
use Rattle.tm_typed.specs.TypedStatements.{no_statements}
use Rattle.tm_typed.specs.Files.{TypedFunctionTree, TypedFileTree}
use Rattle.tm_laid.specs.declared.objects.Initial.TheVariants as Initials
use Rattle.tm_laid.specs.CallTrees.{call_tree}
use Rattle.tm_laid.specs.TypeCells.{cell_count, abstract_count, type_cells, type_abstracts}
use Rattle.tm_laid.specs.Layouts.{layout_of, laid_count, cell_at, abstract_at, stands_at, is_alive}

name : ℕ → Name
name n = record { start = n; length = 1 }

at : Place
at = record { line = 1; col = 1 }

of : ℕ → Qualified
of n = record { number = n; constant = false; volatile = false }

row : CType → ℕ → ℕ → ℕ → TypeEntry
row t n cells abstract = record { ctype = t; class = n; cells = cells; abstract_cells = abstract; size = 0; tight_size = 0; alignment = 0; of_pointers = false }

static : ℕ → ℕ → Bool → List StaticCell → Static
static n type defined given = record { name = name n; place = at; of = of type; defined = defined; initialised = false; given = given }

local : ℕ → ℕ → LocalEntry
local n type = record { name = name n; place = at; of = of type }

function : ℕ → List LocalEntry → TypedFunctionTree
function n locals = record {
  name = name n;
  place = at;
  result = 0;
  parameters = [];
  body = Some (record { locals = locals; parameters = 0; statements = no_statements });
}

file : TypedFileTree
unfolding of
file = record {
  types = first_types ++ row (Types.Struct 0) 13 0 0 ∷ row (Types.Array 13 2) 14 4 4 ∷ row (Types.Array 6 64) 15 64 64 ∷ row (Types.Array 6 65) 16 65 1 ∷ row (Types.Pointer (of 6)) 17 1 1 ∷ [];
  structs = record {
    opened = true;
    complete = true;
    members = record { name = name 1; part = record { of = of 6; cell = 0 } } ∷ record { name = name 2; part = record { of = of 2; cell = 1 } } ∷ [];
    cells = 2;
    abstract_cells = 2;
    size = 8;
    tight_size = 8;
    alignment = 4;
  } ∷ [];
  statics = static 10 14 true [] ∷ static 11 15 true [] ∷ static 12 6 false [] ∷ static 13 16 true []
      ∷ static 14 17 true (record { cell = 0; value = Values.Address 1 3 } ∷ []) ∷ [];
  functions = function 20 (local 21 6 ∷ []) ∷ function 22 (local 23 6 ∷ local 24 6 ∷ []) ∷ function 25 [] ∷ function 26 (local 27 13 ∷ []) ∷ function 28 [] ∷ [];
  calls = [] ∷ (0 ∷ 0 ∷ []) ∷ (1 ∷ 0 ∷ []) ∷ (1 ∷ []) ∷ (0 ∷ []) ∷ [];
  tasks = record { function = 2; priority = 1 } ∷ record { function = 3; priority = 2 } ∷ [];
  mutexes = [];
  main = Some 4;
  lengths = [];
  constants = [];
  labels = [];
  sizes = [];
}

-- the functions in which the paths end, and their first objects
path_functions : map (λ p. p.function) (layout_of file).paths ≡ 2 ∷ 1 ∷ 0 ∷ 0 ∷ 0 ∷ 3 ∷ 1 ∷ 0 ∷ 0 ∷ 4 ∷ 0 ∷ []
unfolding layout_of call_tree file function
path_functions = refl

-- the first object of each path: five static ones are declared, and four defined
first_objects : (layout_of file).first_objects ≡ 4 ∷ 4 ∷ 6 ∷ 7 ∷ 8 ∷ 9 ∷ 10 ∷ 12 ∷ 13 ∷ 14 ∷ 14 ∷ []
unfolding layout_of call_tree file function static
first_objects = refl

-- how many paths begin with each
path_counts : map (λ p. p.paths) (layout_of file).paths ≡ 5 ∷ 3 ∷ 1 ∷ 1 ∷ 1 ∷ 4 ∷ 3 ∷ 1 ∷ 1 ∷ 2 ∷ 1 ∷ []
unfolding layout_of call_tree file function static
path_counts = refl

first_paths : (layout_of file).first_paths ≡ 0 ∷ 5 ∷ 9 ∷ []
unfolding layout_of call_tree file function static
first_paths = refl

callees : (layout_of file).callees ≡ (1 ∷ 4 ∷ []) ∷ (2 ∷ 3 ∷ []) ∷ [] ∷ [] ∷ [] ∷ (6 ∷ []) ∷ (7 ∷ 8 ∷ []) ∷ [] ∷ [] ∷ (10 ∷ []) ∷ [] ∷ []
unfolding layout_of call_tree file function static
callees = refl

-- who calls the paths
callers : map (λ p. p.caller) (layout_of file).paths
    ≡ None ∷ Some (record { path = 0; site = 0 }) ∷ Some (record { path = 1; site = 0 }) ∷ Some (record { path = 1; site = 1 }) ∷ Some (record { path = 0; site = 1 })
    ∷ None ∷ Some (record { path = 5; site = 0 }) ∷ Some (record { path = 6; site = 0 }) ∷ Some (record { path = 6; site = 1 }) ∷ None ∷ Some (record { path = 9; site = 0 }) ∷ []
unfolding layout_of call_tree file function static
callers = refl

-- the names of the objects, and their first cells and abstract cells
names : map (λ o. o.name.start) (layout_of file).objects ≡ 10 ∷ 11 ∷ 13 ∷ 14 ∷ 23 ∷ 24 ∷ 21 ∷ 21 ∷ 21 ∷ 27 ∷ 23 ∷ 24 ∷ 21 ∷ 21 ∷ 21 ∷ []
unfolding layout_of call_tree file function static local name
names = refl

first_cells : map (λ o. o.first_cell) (layout_of file).objects ≡ 0 ∷ 4 ∷ 68 ∷ 133 ∷ 134 ∷ 135 ∷ 136 ∷ 137 ∷ 138 ∷ 139 ∷ 141 ∷ 142 ∷ 143 ∷ 144 ∷ 145 ∷ []
unfolding layout_of call_tree file function static local row of cell_count
first_cells = refl

first_abstracts : map (λ o. o.first_abstract) (layout_of file).objects ≡ 0 ∷ 4 ∷ 68 ∷ 69 ∷ 70 ∷ 71 ∷ 72 ∷ 73 ∷ 74 ∷ 75 ∷ 77 ∷ 78 ∷ 79 ∷ 80 ∷ 81 ∷ []
unfolding layout_of call_tree file function static local row of cell_count abstract_count
first_abstracts = refl

-- the second member of the second structure; elements of the array of 64 and of that of 65
cells : map (λ c. (cell_at (layout_of file) c).abstract_cell) (3 ∷ 4 ∷ 67 ∷ 68 ∷ 132 ∷ 133 ∷ 134 ∷ 145 ∷ []) ≡ 3 ∷ 4 ∷ 67 ∷ 68 ∷ 68 ∷ 69 ∷ 70 ∷ 81 ∷ []
unfolding layout_of call_tree file function static local row of cell_count abstract_count type_cells
cells = refl

abstracts : abstract_at (layout_of file) 3 ∷ abstract_at (layout_of file) 67 ∷ abstract_at (layout_of file) 68 ∷ abstract_at (layout_of file) 69 ∷ []
    ≡ record { object = 0; offset = 3; scalar = Scalars.Int Ints.Char; smashed = false } ∷ record { object = 1; offset = 63; scalar = Scalars.Int Ints.Int; smashed = false }
    ∷ record { object = 2; offset = 0; scalar = Scalars.Int Ints.Int; smashed = true } ∷ record { object = 3; offset = 0; scalar = Scalars.Pointer 17; smashed = false } ∷ []
unfolding layout_of call_tree file function static local row of cell_count abstract_count type_cells type_abstracts
abstracts = refl

-- as many as the limits count
counts : map (laid_count file) (Limits.Tasks ∷ Limits.Mutexes ∷ Limits.Paths ∷ Limits.Cells ∷ Limits.Abstract ∷ []) ≡ 2 ∷ 0 ∷ 11 ∷ 146 ∷ 82 ∷ []
unfolding laid_count call_tree file function static local row of cell_count abstract_count
counts = refl

lengths : length (layout_of file).cells ∷ length (layout_of file).abstract_cells ∷ length (layout_of file).initial ∷ [] ≡ 146 ∷ 82 ∷ 134 ∷ []
unfolding layout_of laid_count call_tree file function static local row of cell_count abstract_count type_cells type_abstracts
lengths = refl

-- `p` points to the element 3 of `b`
initial : get_or (layout_of file).initial 133 Initials.Null ≡ Initials.To 1 3
unfolding layout_of call_tree file function static local row of cell_count abstract_count type_cells type_abstracts
initial = refl

-- the structure stands at even offsets of `a`, and `int` at every offset of `b` but that behind it
standing : map (λ k. stands_at (layout_of file) 0 k 13) (0 ∷ 1 ∷ 2 ∷ 3 ∷ []) ++ map (λ k. stands_at (layout_of file) 1 k 6) (0 ∷ 63 ∷ 64 ∷ []) ≡ true ∷ false ∷ true ∷ false ∷ true ∷ true ∷ false ∷ []
unfolding layout_of call_tree file function static local row of cell_count abstract_count type_cells type_abstracts
standing = refl

-- the objects of `f` on path 1 are alive on the paths 1 to 3
alive : map (λ p. is_alive (layout_of file) p 5) (0 ∷ 1 ∷ 2 ∷ 3 ∷ 4 ∷ 6 ∷ []) ++ map (λ p. is_alive (layout_of file) p 0) (0 ∷ 10 ∷ []) ≡ false ∷ true ∷ true ∷ true ∷ false ∷ false ∷ true ∷ true ∷ []
unfolding layout_of call_tree file function static local row of cell_count abstract_count type_cells type_abstracts
alive = refl
