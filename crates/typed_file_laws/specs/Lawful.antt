-- What holds of all that typing has found, at every moment: numbers name what there is.
use Rattle.std.specs.Prelude.{◌≡◌, ℕ, ℤ, ◌<◌, List, All, slice_get, Option, Some, option_map, length}
use Rattle.tm_laid.specs.tm_cint.declared.int_types.IntType.{IntType}
use Rattle.tm_laid.specs.tm_cint.declared.int_types.IntType.TheVariants as Ints
use Rattle.tm_laid.specs.tm_cint.IntTypes.{IsIn}
use Rattle.tm_laid.specs.tm_typed.declared.scopes.Named.{Named}
use Rattle.tm_laid.specs.tm_typed.declared.scopes.Named.TheVariants as Names
use Rattle.tm_laid.specs.tm_typed.declared.scopes.ObjectNumber.{ObjectNumber}
use Rattle.tm_laid.specs.tm_typed.declared.scopes.ObjectNumber.TheVariants as Objects
use Rattle.tm_laid.specs.tm_typed.declared.files.LocalEntry.{LocalEntry}
use Rattle.tm_laid.specs.tm_typed.declared.uses.Used.{Used}
use Rattle.tm_laid.specs.tm_typed.declared.uses.Used.TheVariants as Uses
use Rattle.tm_laid.specs.tm_typed.Scopes.{Scope, Function}
use Rattle.tm_laid.specs.tm_typed.States.{Static, State}
use Rattle.tm_laid.specs.tm_typed.WellTyped.{Context}
use Rattle.typed_file_laws.specs.Tables.{IsType, AreLawfulTables}

-- ## Numbers that name something

-- the type of an object: of static storage, or of the body that is typed
abbrev pub object_type : List Static → List LocalEntry → ObjectNumber → Option ℕ
object_type statics locals (Objects.Static k) = option_map (λ o. o.of.number) (slice_get statics k)
object_type statics locals (Objects.Local k) = option_map (λ o. o.of.number) (slice_get locals k)

-- an expression is typed in this context, where there are so many mutexes
abbrev pub context : ℕ → State → Context
context mutexes s = record { scope = s.scope; type_of = object_type s.statics s.locals; mutexes = mutexes }

-- a name names something that there is
abbrev pub IsBound : ℕ → State → Named → Type 0
IsBound mutexes s (Names.Object o q) = object_type s.statics s.locals o ≡ Some q.number
IsBound mutexes s (Names.Function f) = f < length s.scope.functions
IsBound mutexes s (Names.Alias q) = IsType s.scope q.number
IsBound mutexes s Names.Task = Unit {0}
IsBound mutexes s (Names.Mutex m) = m < mutexes
IsBound mutexes s (Names.Enumerator z) = IsIn Ints.Int z

-- a name with linkage names an object of static storage that there is
abbrev pub IsLinked : State → Named → Type 0
IsLinked s (Names.Object (Objects.Static k) q) = object_type s.statics s.locals (Objects.Static k) ≡ Some q.number
IsLinked s n = Unit {0}

-- a use is one of something that there is
abbrev pub IsUse : State → Used → Type 0
IsUse s (Uses.Function f) = f < length s.scope.functions
IsUse s (Uses.Static k) = k < length s.statics

-- the result and the parameters of a function have types of the table
pub record IsFunction (scope : Scope) (f : Function) : Type 0 where
  pub result : IsType scope f.result
  pub parameters : All (IsType scope) f.parameters

-- a number that some integer type has
pub record IsNumber (z : ℤ) : Type 0 where
  pub type : IntType
  pub within : IsIn type z

-- ## States

-- The tables are lawful; names and uses name what there is; functions and objects have types of the table; and
-- constants and labels are numbers of integer types.
pub record IsLawfulState (mutexes : ℕ) (s : State) : Type 0 where
  pub tables : AreLawfulTables s.scope
  pub names : All (λ b. IsBound mutexes s b.named) s.scope.names
  pub linkage : All (λ b. IsLinked s b.named) s.linkage
  pub functions : All (IsFunction s.scope) s.scope.functions
  pub statics : All (λ o. IsType s.scope o.of.number) s.statics
  pub locals : All (λ o. IsType s.scope o.of.number) s.locals
  pub uses : All (λ u. IsUse s u.used) s.uses
  pub constants : All IsNumber s.constants
  pub labels : All IsNumber s.labels
