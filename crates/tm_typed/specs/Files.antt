-- The typing of files: their items in the order of the text; then uses of what has no definition; then recursion.
use Rattle.std.specs.Prelude.{◌≡◌, ℕ, zero, ℤ, pos, ◌⊎◌, Bool, true, false, not, ◌||◌, cond, is_some, is_none, nat_le}
use Rattle.std.specs.Prelude.{List, [], ◌∷◌, ◌++◌, length, get_or, slice_set, find, option_map, Option, Some, None}
use Rattle.std.specs.Prelude.{Result, Ok, Err}
use Rattle.tm_trees.specs.tm_terms.declared.places.Place.{Place}
use Rattle.tm_trees.specs.tm_terms.declared.tokens.Name.{Name}
use Rattle.tm_trees.specs.tm_terms.declared.refusals.Kind.TheVariants as Kinds
use Rattle.tm_trees.specs.tm_terms.declared.refusals.Refusal.{Refusal}
use Rattle.tm_trees.specs.tm_terms.ExprTrees.{Tree}
use Rattle.tm_trees.specs.FileTrees.{PartTrees, FunctionTree, ItemTree, a_declaration, a_function, an_empty_item}
use Rattle.tm_trees.specs.FileTrees.{a_mutex, a_task}
use Rattle.tm_typed.specs.declared.types.TypeEntry.{TypeEntry}
use Rattle.tm_typed.specs.declared.scopes.Named.{Named}
use Rattle.tm_typed.specs.declared.scopes.Named.TheVariants as Names
use Rattle.tm_typed.specs.declared.scopes.Binding.{Binding}
use Rattle.tm_typed.specs.declared.specifiers.Shape.{Shape}
use Rattle.tm_typed.specs.declared.files.LocalEntry.{LocalEntry}
use Rattle.tm_typed.specs.declared.files.TypedTask.{TypedTask}
use Rattle.tm_typed.specs.declared.files.MutexEntry.{MutexEntry}
use Rattle.tm_typed.specs.declared.uses.Used.{Used}
use Rattle.tm_typed.specs.declared.uses.Used.TheVariants as Uses
use Rattle.tm_typed.specs.Types.{first_types, void_number}
use Rattle.tm_typed.specs.Scopes.{Scope, Structure, named, named_here}
use Rattle.tm_typed.specs.Refusals.{refused, then_with, row, row_unless}
use Rattle.tm_typed.specs.States.{Static, State, static, with_name, entered, in_scope}
use Rattle.tm_typed.specs.Evaluation.{measured, folded_value}
use Rattle.tm_typed.specs.Specifiers.{base}
use Rattle.tm_typed.specs.Declarators.{declared_pointers}
use Rattle.tm_typed.specs.Structures.{is_declared_here, specified}
use Rattle.tm_typed.specs.Declarations.{linked, file_declaration}
use Rattle.tm_typed.specs.StatementTyping.{enter}
use Rattle.tm_typed.specs.CallGraph.{calls_in, Reaches, IsFirstRecursive}
use Rattle.tm_typed.specs.Functions.{parameters_in, left_names, left_tags, to_file, entered_with, names_here}
use Rattle.tm_typed.specs.Functions.{body_begins, types_of, Head, with_function, number_of, function_rules}
use Rattle.tm_typed.specs.Functions.{TypedBodyTree, FoundBody, body_in}

-- ## What the items of a file give

-- a function or a task: its name and place where it is defined, or else first declared, its types, and its body
pub record TypedFunctionTree : Type 0 where
  pub name : Name
  pub place : Place
  pub result : ℕ
  pub parameters : List ℕ
  pub body : Option TypedBodyTree

-- What is found so far: the state, the functions and the functions that each calls, the tasks and mutexes, and the
-- functions with bodies in the order of the text.
pub record FileState : Type 0 where
  pub state : State
  pub functions : List TypedFunctionTree
  pub calls : List (List ℕ)
  pub tasks : List TypedTask
  pub mutexes : List MutexEntry
  pub definitions : List ℕ

-- before the first item
abbrev pub first_scope : Scope
first_scope = record {
  names = [];
  tags = [];
  outer_names = 0;
  outer_tags = 0;
  types = first_types;
  structs = [];
  functions = [];
}

abbrev pub first_state : State
first_state = record {
  scope = first_scope;
  statics = [];
  linkage = [];
  locals = [];
  site = 0;
  uses = [];
  lengths = [];
  constants = [];
  labels = [];
  sizes = [];
}

abbrev pub first_file_state : FileState
first_file_state = record {
  state = first_state;
  functions = [];
  calls = [];
  tasks = [];
  mutexes = [];
  definitions =
      [];
}

-- ## Functions

-- what stands in place of a function that there is not
abbrev pub no_typed_function : TypedFunctionTree
no_typed_function = record {
  name = record { start = 0; length = 0 };
  place = record { line = 0; col = 0 };
  result = 0;
  parameters = [];
  body = None;
}

abbrev pub typed_function : FileState → ℕ → TypedFunctionTree
typed_function f k = get_or f.functions k no_typed_function

-- a declaration of a function: a new one has no body and no calls so far
abbrev pub declared_function : FileState → State → Head → Option Named → FileState
declared_function f s h (Some (Names.Function k)) = record f { state = s }
declared_function f s h _ = record f {
  state = s;
  functions = f.functions
      ++ record { name = h.name; place = h.place; result = h.result; parameters = h.parameters; body = None } ∷ [];
  calls = f.calls ++ [] ∷ [];
}

-- the body of the function k, whose name stands at this place
abbrev pub defined_function : FileState → ℕ → Place → FoundBody → State → FileState
defined_function f k p b s = record f {
  state = s;
  functions = slice_set f.functions k (record (typed_function f k) { place = p; body = Some b.body });
  calls = slice_set f.calls k b.calls;
  definitions = f.definitions ++ k ∷ [];
}

abbrev pub head_of : FunctionTree → Shape → List LocalEntry → Head
head_of g result parameters = record {
  name = g.name;
  place = g.place;
  result = result.of.number;
  parameters = types_of parameters;
  is_definition = is_some g.body;
}

-- The function k behind its head, whose parameters have these names: the block of a declaration ends, and the body of a
-- definition follows in it.
abbrev pub with_body : FileState → List Binding → ℕ → Head → Option PartTrees → Result FileState Refusal
with_body f names k h None = Ok (record f { state = body_begins (in_scope f.state (left_tags f.state.scope)) })
with_body f names k h (Some parts) =
    then_with (body_in (in_scope f.state (entered_with names f.state.scope)) h.result parts) (λ b.
    Ok (defined_function f k h.place b (to_file b.state)))

-- the head of a function is declared at file scope, outside its parameters
abbrev pub headed : FileState → List Binding → Head → Option PartTrees → Result FileState Refusal
headed f names h body =
    let already = named_here f.state.scope h.name in
    with_body (declared_function f (in_scope f.state (with_function f.state.scope h already)) h already)
    names (number_of f.state.scope already) h body

abbrev pub with_state : FileState → State → FileState
with_state f s = record f { state = s }

abbrev pub function_in : FileState → FunctionTree → Result FileState Refusal
function_in f g =
    then_with (specified f.state g.specifiers) (λ m.
    let result = declared_pointers m.1 (base m.0) g.pointers in
    then_with (parameters_in (enter (body_begins result.1)) g.parameters) (λ s.
    let h = head_of g result.0 s.locals in
    let t = in_scope s (left_names s.scope) in
    then_with (function_rules t h m.0.storage result.0) (λ u. headed (with_state f t) (names_here s.scope) h g.body)))

-- ## Tasks and mutexes

-- a priority is 0 to 255
abbrev pub priority_of : Option ℤ → Option ℕ
priority_of (Some (pos n)) = cond (nat_le n 255) (Some n) None
priority_of _ = None

-- a task is a function without parameters and result, which is not called
abbrev pub task_scope : Scope → Name → Scope
task_scope scope n =
    with_name n Names.Task
    (record scope {
      functions = scope.functions
          ++ record { result = void_number; parameters = []; defined = true } ∷ [];
    })

abbrev pub with_task : FileState → ℕ → Name → Place → FoundBody → State → FileState
with_task f priority n q b s = record {
  state = s;
  functions = f.functions ++ record { name = n; place = q; result = void_number; parameters = []; body = Some b.body }
      ∷ [];
  calls = f.calls ++ b.calls ∷ [];
  tasks = f.tasks ++ record { function = length f.functions; priority = priority } ∷ [];
  mutexes = f.mutexes;
  definitions = f.definitions ++ length f.functions ∷ [];
}

-- its name is declared once, and its body follows
abbrev pub named_task_in : FileState → ℕ → Name → Place → PartTrees → Result FileState Refusal
named_task_in f priority n q parts =
    row (is_declared_here f.state n || is_some (linked f.state n)) Kinds.Redeclared q
    (then_with (body_in (enter (body_begins (in_scope f.state (task_scope f.state.scope n)))) void_number parts) (λ b.
    Ok (with_task f priority n q b (to_file b.state))))

-- its priority is folded and in range
abbrev pub task_in : FileState → Tree → Name → Place → PartTrees → Place → Result FileState Refusal
task_in f t n q parts p =
    then_with (measured f.state t) (λ m.
    row_unless (priority_of (folded_value m.0)) Kinds.BadTask p (λ priority.
    named_task_in (with_state f m.1) priority n q parts))

abbrev pub mutex_in : FileState → Name → Place → Result FileState Refusal
mutex_in f n p =
    row (is_declared_here f.state n) Kinds.Redeclared p
    (Ok (record f {
      state = in_scope f.state (with_name n (Names.Mutex (length f.mutexes)) f.state.scope);
      mutexes = f.mutexes ++ record { name = n; place = p } ∷ [];
    }))

-- ## Items

abbrev pub item_in : FileState → ItemTree → Result FileState Refusal
item_in f (a_declaration d) = then_with (file_declaration f.state d) (λ s. Ok (with_state f s))
item_in f (a_function g) = function_in f g
item_in f an_empty_item = Ok f
item_in f (a_mutex n p) = mutex_in f n p
item_in f (a_task t n q parts p) = task_in f t n q parts p

abbrev pub items_in : FileState → List ItemTree → Result FileState Refusal
items_in f [] = Ok f
items_in f (i ∷ is) = then_with (item_in f i) (λ g. items_in g is)

-- ## Whole files

-- what is typed: the tables, the objects, functions, tasks and mutexes, the function `main`, what thresholds need,
-- and the places of `sizeof` that depend on the alignment of `long long`
pub record TypedFileTree : Type 0 where
  pub types : List TypeEntry
  pub structs : List Structure
  pub statics : List Static
  pub functions : List TypedFunctionTree
  pub calls : List (List ℕ)
  pub tasks : List TypedTask
  pub mutexes : List MutexEntry
  pub main : Option ℕ
  pub lengths : List ℕ
  pub constants : List ℤ
  pub labels : List ℤ
  pub sizes : List Place

-- a function of this name that is defined
abbrev pub defined_by : FileState → Option Named → Option ℕ
defined_by f (Some (Names.Function k)) = cond (is_some (typed_function f k).body) (Some k) None
defined_by f _ = None

-- the function `main`, by its name
abbrev pub main_of : FileState → Option Name → Option ℕ
main_of f None = None
main_of f (Some n) = defined_by f (named f.state.scope n)

abbrev pub file_of : FileState → Option Name → TypedFileTree
file_of f main = record {
  types = f.state.scope.types;
  structs = f.state.scope.structs;
  statics = f.state.statics;
  functions = f.functions;
  calls = f.calls;
  tasks = f.tasks;
  mutexes = f.mutexes;
  main = main_of f main;
  lengths = f.state.lengths;
  constants = f.state.constants;
  labels = f.state.labels;
  sizes = f.state.sizes;
}

-- what the file does not define
abbrev pub is_undefined : FileState → Used → Bool
is_undefined f (Uses.Function k) = is_none (typed_function f k).body
is_undefined f (Uses.Static k) = not (static f.state k).defined

-- the first use, in the order of the text, of what the file does not define
abbrev pub undefined_use : FileState → Option Place
undefined_use f = option_map (λ u. u.place) (find (λ u. is_undefined f u.used) f.state.uses)

-- no function reaches itself by calls
abbrev pub IsAcyclic : FileState → Type 0
IsAcyclic f = (k : ℕ) → Reaches (calls_in f.calls) k k → ⊥

-- the answer is a refusal of the first function, in the order of the text, that reaches itself
pub record IsRecursive (f : FileState) (answer : Result TypedFileTree Refusal) : Type 0 where
  pub function : ℕ
  pub first : IsFirstRecursive (calls_in f.calls) f.definitions function
  pub answered : answer ≡ refused Kinds.Recursive (typed_function f function).place

-- the file is typed, and no function of it reaches itself
pub record IsDone (f : FileState) (main : Option Name) (answer : Result TypedFileTree Refusal) : Type 0 where
  pub acyclic : IsAcyclic f
  pub answered : answer ≡ Ok (file_of f main)

-- a file whose items are typed: a use without a definition is refused, then recursion
abbrev pub Closes : FileState → Option Name → Option Place → Result TypedFileTree Refusal → Type 0
Closes f main (Some p) answer = answer ≡ refused Kinds.NoBody p
Closes f main None answer = IsRecursive f answer ⊎ IsDone f main answer

abbrev pub Ends : Option Name → Result FileState Refusal → Result TypedFileTree Refusal → Type 0
Ends main (Err r) answer = answer ≡ Err r
Ends main (Ok f) answer = Closes f main (undefined_use f) answer

-- The answer for a file: its typed form, or the first construct that meets a row, with its kind and place. `main` is
-- the name that is spelled so.
abbrev pub IsTyped : Option Name → List ItemTree → Result TypedFileTree Refusal → Type 0
IsTyped main items answer = Ends main (items_in first_file_state items) answer
