-- What typing sees to in bodies besides what their expressions need: `break` and `continue` stand where they may, cells
-- that an initialiser gives have the types of the object's cells, and parameters are the first objects of a body.
use Rattle.std.specs.Prelude.{◌≡◌, ℕ, ◌+◌, Bool, true, false, ◌||◌, List, [], ◌∷◌, All}
use Rattle.std.specs.Prelude.{Option, Some, None}
use Rattle.cell_layout.specs.tm_typed.declared.types.Scalar.{Scalar}
use Rattle.cell_layout.specs.tm_typed.declared.scopes.Part.{Part}
use Rattle.cell_layout.specs.tm_typed.declared.scopes.ObjectNumber.TheVariants as Objects
use Rattle.cell_layout.specs.tm_typed.declared.files.LocalEntry.{LocalEntry}
use Rattle.cell_layout.specs.tm_typed.Scopes.{Scope}
use Rattle.cell_layout.specs.tm_typed.TypeRows.{clipped}
use Rattle.cell_layout.specs.tm_typed.Operands.{scalar_of}
use Rattle.cell_layout.specs.tm_typed.Initialisers.{part}
use Rattle.cell_layout.specs.tm_typed.WellTyped.{Context}
use Rattle.cell_layout.specs.tm_typed.TypedStatements.{LocalInitialiserTree, LocalTree, TypedTree, evaluates, declares}
use Rattle.cell_layout.specs.tm_typed.TypedStatements.{runs_block}
use Rattle.cell_layout.specs.tm_typed.TypedStatements.{branches, branches_else, loops_while, loops_do, loops_for}
use Rattle.cell_layout.specs.tm_typed.TypedStatements.{selects, breaks}
use Rattle.cell_layout.specs.tm_typed.TypedStatements.{continues, returns, locks, unlocks, yields, TypedTrees}
use Rattle.cell_layout.specs.tm_typed.TypedStatements.{no_statements}
use Rattle.cell_layout.specs.tm_typed.TypedStatements.{and_statement, TypedCase, a_label, a_default_label}
use Rattle.cell_layout.specs.tm_typed.TypedStatements.{a_labelled_step}
use Rattle.cell_layout.specs.tm_typed.TypedStatements.{TypedCases, no_typed_cases, and_typed_case}
use Rattle.cell_layout.specs.tm_typed.Functions.{TypedBodyTree}
use Rattle.cell_layout.specs.tm_typed.Files.{TypedFunctionTree, TypedFileTree}
use Rattle.typed_file_laws.specs.TypedBodies.{file_context}
use Rattle.typed_file_laws.specs.Sites.{function_of_file}

-- ## Cells of a type

-- a type, and its parts: at the cell c of the type n begins a part of this type
pub data PartBegins (scope : Scope) (n : ℕ) : ℕ → ℕ → Type 0 where
  whole : PartBegins scope n 0 n
  inner : (c m i : ℕ) (q : Part) → PartBegins scope n c m → part scope m i ≡ Some q
      → PartBegins scope n (clipped (c + q.cell)) q.of.number

-- the cell c of the type n is of this scalar type
pub record HasScalar (scope : Scope) (n c : ℕ) (s : Scalar) : Type 0 where
  pub type : ℕ
  pub begins : PartBegins scope n c type
  pub scalar : scalar_of scope type ≡ Some s

-- ## Statements

-- the cells that an initialiser gives are cells of the object's type
abbrev pub GivesCells : Context → ℕ → Option LocalInitialiserTree → Type 0
GivesCells w object None = Unit {0}
GivesCells w object (Some i) = (n : ℕ) × (w.type_of (Objects.Local object) ≡ Some n)
    × All (λ g. HasScalar w.scope n g.cell g.scalar) i.given

-- a statement, which stands in a loop or not, and in a `switch` or not
abbrev mutual
  pub IsRegular : Context → (loop switch : Bool) → TypedTree → Type 0
  IsRegular w loop switch (evaluates e) = Unit {0}
  IsRegular w loop switch (declares ls) = All (λ (l : LocalTree). GivesCells w l.object l.initialiser) ls
  IsRegular w loop switch (runs_block ss) = AreRegular w loop switch ss
  IsRegular w loop switch (branches c s) = IsRegular w loop switch s
  IsRegular w loop switch (branches_else c s t) = IsRegular w loop switch s × IsRegular w loop switch t
  IsRegular w loop switch (loops_while c s) = IsRegular w true switch s
  IsRegular w loop switch (loops_do s c) = IsRegular w true switch s
  IsRegular w loop switch (loops_for f c e s) = IsRegular w loop switch f × IsRegular w true switch s
  IsRegular w loop switch (selects t e cs) = AreRegularParts w loop true cs
  IsRegular w loop switch breaks = (loop || switch) ≡ true
  IsRegular w loop switch continues = loop ≡ true
  IsRegular w loop switch (returns e) = Unit {0}
  IsRegular w loop switch (locks m p) = Unit {0}
  IsRegular w loop switch (unlocks m p) = Unit {0}
  IsRegular w loop switch yields = Unit {0}

  pub AreRegular : Context → (loop switch : Bool) → TypedTrees → Type 0
  AreRegular w loop switch no_statements = Unit {0}
  AreRegular w loop switch (and_statement s ss) = IsRegular w loop switch s × AreRegular w loop switch ss

  pub AreRegularParts : Context → (loop switch : Bool) → TypedCases → Type 0
  AreRegularParts w loop switch no_typed_cases = Unit {0}
  AreRegularParts w loop switch (and_typed_case c cs) = IsRegularPart w loop switch c × AreRegularParts w loop switch cs

  pub IsRegularPart : Context → (loop switch : Bool) → TypedCase → Type 0
  IsRegularPart w loop switch (a_label z p) = Unit {0}
  IsRegularPart w loop switch (a_default_label p) = Unit {0}
  IsRegularPart w loop switch (a_labelled_step s) = IsRegular w loop switch s

-- ## Whole files

-- The first objects of a body are the parameters: they have cells of the same types.
abbrev pub AreParameters : Scope → List ℕ → List LocalEntry → Type 0
AreParameters scope [] ls = Unit {0}
AreParameters scope (n ∷ ns) [] = ⊥
AreParameters scope (n ∷ ns) (l ∷ ls) =
    (scalar_of scope l.of.number ≡ scalar_of scope n) × AreParameters scope ns ls

-- a body of a function of the file
pub record IsRegularBody (file : TypedFileTree) (f : TypedFunctionTree) (b : TypedBodyTree) : Type 0 where
  pub parameters : AreParameters (file_context file b.locals).scope f.parameters b.locals
  pub statements : AreRegular (file_context file b.locals) false false b.statements

-- the bodies of all functions
abbrev pub AreRegularBodies : TypedFileTree → Type 0
AreRegularBodies file =
    (k : ℕ) (b : TypedBodyTree) → (function_of_file file k).body ≡ Some b
    → IsRegularBody file (function_of_file file k) b
