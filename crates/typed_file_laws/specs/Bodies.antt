-- Well-formed statements: every expression gives a value of its kind, where all that it names exists.
use Rattle.std.specs.Prelude.{◌≡◌, ℕ, ◌<◌, All, Option, Some, None}
use Rattle.tm_laid.specs.tm_typed.declared.types.CType.TheVariants as Types
use Rattle.tm_laid.specs.tm_typed.declared.types.Scalar.{Scalar}
use Rattle.tm_laid.specs.tm_typed.declared.scopes.ObjectNumber.TheVariants as Objects
use Rattle.tm_laid.specs.tm_typed.Scopes.{ctype_of}
use Rattle.tm_laid.specs.tm_typed.TypedTrees.{RvalueTree}
use Rattle.tm_laid.specs.tm_typed.Operands.{scalar_of}
use Rattle.tm_laid.specs.tm_typed.WellTyped.{ValueKind, a_number, kind_of_scalar, IsCondition, Context, IsRvalue}
use Rattle.tm_laid.specs.tm_typed.TypedStatements.{GivenTree, LocalInitialiserTree, LocalTree, TypedTree, evaluates}
use Rattle.tm_laid.specs.tm_typed.TypedStatements.{declares}
use Rattle.tm_laid.specs.tm_typed.TypedStatements.{runs_block, branches, branches_else, loops_while, loops_do}
use Rattle.tm_laid.specs.tm_typed.TypedStatements.{loops_for}
use Rattle.tm_laid.specs.tm_typed.TypedStatements.{selects, breaks, continues, returns, locks, unlocks, yields}
use Rattle.tm_laid.specs.tm_typed.TypedStatements.{TypedTrees}
use Rattle.tm_laid.specs.tm_typed.TypedStatements.{no_statements, and_statement, TypedCase, a_label, a_default_label}
use Rattle.tm_laid.specs.tm_typed.TypedStatements.{a_labelled_step, TypedCases, no_typed_cases, and_typed_case}

-- ## Expressions as parts of statements

-- an expression for its value, or for what it does
abbrev pub IsAnyRvalue : Context → RvalueTree → Type 0
IsAnyRvalue w e = (k : ValueKind) × IsRvalue w k e

-- a condition is a number or a pointer
abbrev pub IsTest : Context → RvalueTree → Type 0
IsTest w e = (k : ValueKind) × IsCondition k × IsRvalue w k e

-- what is said of an expression, where there is one
abbrev pub IfGiven : (RvalueTree → Type 0) → Option RvalueTree → Type 0
IfGiven P None = Unit {0}
IfGiven P (Some e) = P e

-- ## Local objects

-- a cell is given a value of its scalar type
abbrev pub IsGivenCell : Context → GivenTree → Type 0
IsGivenCell w g = IsRvalue w (kind_of_scalar g.scalar) g.value

abbrev pub AreGivenBy : Context → Option LocalInitialiserTree → Type 0
AreGivenBy w None = Unit {0}
AreGivenBy w (Some i) = All (IsGivenCell w) i.given

-- what is declared is an object of the body
pub record IsLocal (w : Context) (l : LocalTree) : Type 0 where
  pub type : ℕ
  pub object : w.type_of (Objects.Local l.object) ≡ Some type
  pub given : AreGivenBy w l.initialiser

-- ## Statements of a function with a result of this type

-- `return;` stands where there is no result, and `return e;` gives a value of the result's scalar type
abbrev pub IsReturned : Context → ℕ → Option RvalueTree → Type 0
IsReturned w result None = ctype_of w.scope result ≡ Types.Void
IsReturned w result (Some e) = (s : Scalar) × (scalar_of w.scope result ≡ Some s) × IsRvalue w (kind_of_scalar s) e

abbrev mutual
  pub IsStatement : Context → ℕ → TypedTree → Type 0
  IsStatement w result (evaluates e) = IfGiven (IsAnyRvalue w) e
  IsStatement w result (declares ls) = All (IsLocal w) ls
  IsStatement w result (runs_block ss) = AreStatements w result ss
  IsStatement w result (branches e s) = IsTest w e × IsStatement w result s
  IsStatement w result (branches_else e s t) = IsTest w e × IsStatement w result s × IsStatement w result t
  IsStatement w result (loops_while e s) = IsTest w e × IsStatement w result s
  IsStatement w result (loops_do s e) = IsTest w e × IsStatement w result s
  IsStatement w result (loops_for f c e s) =
      IsStatement w result f × IfGiven (IsTest w) c × IfGiven (IsAnyRvalue w) e × IsStatement w result s
  IsStatement w result (selects t e cs) = IsRvalue w (a_number t) e × AreParts w result cs
  IsStatement w result breaks = Unit {0}
  IsStatement w result continues = Unit {0}
  IsStatement w result (returns e) = IsReturned w result e
  IsStatement w result (locks m p) = m < w.mutexes
  IsStatement w result (unlocks m p) = m < w.mutexes
  IsStatement w result yields = Unit {0}

  pub AreStatements : Context → ℕ → TypedTrees → Type 0
  AreStatements w result no_statements = Unit {0}
  AreStatements w result (and_statement s ss) = IsStatement w result s × AreStatements w result ss

  -- the parts of a `switch`
  pub AreParts : Context → ℕ → TypedCases → Type 0
  AreParts w result no_typed_cases = Unit {0}
  AreParts w result (and_typed_case c cs) = IsPart w result c × AreParts w result cs

  pub IsPart : Context → ℕ → TypedCase → Type 0
  IsPart w result (a_label z p) = Unit {0}
  IsPart w result (a_default_label p) = Unit {0}
  IsPart w result (a_labelled_step s) = IsStatement w result s
