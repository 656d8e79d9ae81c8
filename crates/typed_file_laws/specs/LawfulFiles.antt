-- What holds of a file at every moment of its typing, and of a typed file.
use Rattle.std.specs.Prelude.{◌≡◌, ℕ, ◌<◌, true, List, [], All, map, length, Option, Some, None}
use Rattle.tm_laid.specs.tm_typed.declared.files.LocalEntry.{LocalEntry}
use Rattle.tm_laid.specs.tm_typed.Scopes.{Function, is_same_type}
use Rattle.tm_laid.specs.tm_typed.Functions.{TypedBodyTree}
use Rattle.tm_laid.specs.tm_typed.Files.{TypedFunctionTree, FileState}
use Rattle.tm_laid.specs.tm_typed.WellTyped.{Context}
use Rattle.typed_file_laws.specs.Tables.{IsType}
use Rattle.typed_file_laws.specs.Lawful.{object_type, IsLawfulState}
use Rattle.typed_file_laws.specs.Bodies.{AreStatements}

-- the types of a function's result and parameters
abbrev pub type_of_function : Function → ℕ × List ℕ
type_of_function f = (f.result, f.parameters)

abbrev pub type_of_typed : TypedFunctionTree → ℕ × List ℕ
type_of_typed f = (f.result, f.parameters)

-- the statements of a body stand where the objects are those of static storage and these
abbrev pub body_context : FileState → List LocalEntry → Context
body_context f locals =
    record { scope = f.state.scope; type_of = object_type f.state.statics locals; mutexes = length f.mutexes }

-- The objects of a body have types of the table, and its statements are well formed, where the function returns what
-- is but for `const` its result.
pub record IsBody (f : FileState) (result : ℕ) (body : TypedBodyTree) : Type 0 where
  pub locals : All (λ o. IsType f.state.scope o.of.number) body.locals
  pub returned : ℕ
  pub type : IsType f.state.scope returned
  pub same : is_same_type f.state.scope returned result ≡ true
  pub statements : AreStatements (body_context f body.locals) returned body.statements

abbrev pub OnBody : FileState → ℕ → Option TypedBodyTree → Type 0
OnBody f result None = Unit {0}
OnBody f result (Some body) = IsBody f result body

-- the result has a type of the table, and so has what the body speaks of
abbrev pub HasBody : FileState → TypedFunctionTree → Type 0
HasBody f g = IsType f.state.scope g.result × OnBody f g.result g.body

-- The state is lawful; between items there is no body; functions have the types with which they are visible; calls name
-- functions; bodies are well formed; and tasks run functions.
pub record IsLawfulFile (f : FileState) : Type 0 where
  pub state : IsLawfulState (length f.mutexes) f.state
  pub locals : f.state.locals ≡ []
  pub alike : map type_of_typed f.functions ≡ map type_of_function f.state.scope.functions
  pub graph : length f.calls ≡ length f.functions
  pub callees : All (All (λ g. g < length f.functions)) f.calls
  pub bodies : All (HasBody f) f.functions
  pub tasks : All (λ t. t.function < length f.functions) f.tasks
