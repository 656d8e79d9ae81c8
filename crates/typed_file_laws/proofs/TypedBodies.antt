-- The bodies of a typed file are well formed in the file's own tables.
use Rattle.std.proofs.Common.{◌≡◌, ℕ, zero, suc, List, [], ◌∷◌, length, get_or, refl, sym, subst, ap, ◌∙◌, arith}
use Rattle.std.specs.Prelude.{Bool, true, false, All, map, drop, slice_get, Option, Some, None}
use Rattle.std.proofs.lemmas.Bool.{false≢true, eqb-true}
use Rattle.std.proofs.lemmas.Option.{none-some, same_Some}
use Rattle.std.proofs.lemmas.List.{append-nil}
use Rattle.std.proofs.lemmas.List.Elements.{All-weaker}
use Rattle.tm_laid.specs.tm_terms.declared.tokens.Name.{Name}
use Rattle.tm_laid.specs.tm_typed.declared.types.CType.{CType}
use Rattle.tm_laid.specs.tm_typed.declared.types.CType.TheVariants as Types
use Rattle.tm_laid.specs.tm_typed.declared.types.TypeEntry.{TypeEntry}
use Rattle.tm_laid.specs.tm_typed.declared.types.Scalar.{Scalar}
use Rattle.tm_laid.specs.tm_typed.declared.types.Scalar.TheVariants as Scalars
use Rattle.tm_laid.specs.tm_typed.declared.files.LocalEntry.{LocalEntry}
use Rattle.tm_laid.specs.tm_typed.Scopes.{Scope, Function, entry, ctype_of, is_same_type}
use Rattle.tm_laid.specs.tm_typed.Operands.{scalar_by, scalar_of}
use Rattle.tm_laid.specs.tm_typed.TypedTrees.{RvalueTree}
use Rattle.tm_laid.specs.tm_typed.TypedStatements.{TypedTree, evaluates, declares, runs_block, branches, branches_else}
use Rattle.tm_laid.specs.tm_typed.TypedStatements.{loops_while, loops_do, loops_for, selects, breaks, continues}
use Rattle.tm_laid.specs.tm_typed.TypedStatements.{returns, locks, unlocks, yields, TypedTrees, no_statements}
use Rattle.tm_laid.specs.tm_typed.TypedStatements.{and_statement, TypedCase, a_label, a_default_label, a_labelled_step}
use Rattle.tm_laid.specs.tm_typed.TypedStatements.{TypedCases, no_typed_cases, and_typed_case}
use Rattle.tm_laid.specs.tm_typed.Functions.{TypedBodyTree}
use Rattle.tm_laid.specs.tm_typed.Files.{TypedFunctionTree, FileState, TypedFileTree, file_of}
use Rattle.tm_laid.specs.tm_typed.WellTyped.{Context, SameFunction, Extends}
use Rattle.typed_file_laws.specs.Tables.{IsType, form, AreLawfulTables}
use Rattle.typed_file_laws.specs.Lawful.{IsFunction, IsNumber}
use Rattle.typed_file_laws.specs.Bodies.{IsReturned, IsStatement, AreStatements, AreParts, IsPart}
use Rattle.typed_file_laws.specs.LawfulFiles.{type_of_function, type_of_typed, body_context, OnBody, HasBody, IsLawfulFile}
use Rattle.typed_file_laws.specs.TypedBodies.{called, file_context, IsBodyOf, BodiesAreWellFormed, NumbersAreOfTypes}
use Rattle.typed_file_laws.proofs.TableRows.{row_at}
use Rattle.typed_file_laws.proofs.Growing.{all_at, statements_stay}
use Rattle.typed_file_laws.proofs.Layable.{Comes, comes}

-- ## Types that are the same but for `const`

-- the scalar of a cell, by its class and form
abbrev by_form : ℕ → CType → Option Scalar
by_form c (Types.Int t) = Some (Scalars.Int t)
by_form c (Types.Pointer q) = Some (Scalars.Pointer c)
by_form c t = None

scalar_by_form : (e : TypeEntry) (t : CType) → scalar_by e t ≡ by_form e.class (form t)
scalar_by_form e Types.Void = refl
scalar_by_form e (Types.Int t) = refl
scalar_by_form e (Types.Pointer q) = refl
scalar_by_form e (Types.Array f n) = refl
scalar_by_form e (Types.Struct k) = refl

abbrev has_void : CType → Bool
has_void Types.Void = true
has_void t = false

void_form : (t : CType) → has_void (form t) ≡ true → t ≡ Types.Void
void_form Types.Void h = refl
void_form (Types.Int t) h = absurd (false≢true h)
void_form (Types.Pointer q) h = absurd (false≢true h)
void_form (Types.Array f n) h = absurd (false≢true h)
void_form (Types.Struct k) h = absurd (false≢true h)

same_class : (v : Scope) (a b : ℕ) → is_same_type v a b ≡ true → (entry v a).class ≡ (entry v b).class
same_class v a b h = eqb-true (entry v a).class (entry v b).class h

same_form : (v : Scope) → AreLawfulTables v → (a b : ℕ) → IsType v a → IsType v b → is_same_type v a b ≡ true → form (ctype_of v a) ≡ form (ctype_of v b)
same_form v h a b i j s =
    sym (row_at v h.rows a i).alike ∙ ap (λ (c : ℕ). form (ctype_of v c)) (same_class v a b s) ∙ (row_at v h.rows b j).alike

-- a value is of the same scalar
same_scalar : (v : Scope) → AreLawfulTables v → (a b : ℕ) → IsType v a → IsType v b → is_same_type v a b ≡ true → scalar_of v a ≡ scalar_of v b
same_scalar v h a b i j s =
    scalar_by_form (entry v a) (ctype_of v a)
    ∙ ap (λ (c : ℕ). by_form c (form (ctype_of v a))) (same_class v a b s)
    ∙ ap (λ (t : CType). by_form (entry v b).class t) (same_form v h a b i j s)
    ∙ sym (scalar_by_form (entry v b) (ctype_of v b))

returned_as : (w : Context) → AreLawfulTables w.scope → (a b : ℕ) → IsType w.scope a → IsType w.scope b → is_same_type w.scope a b ≡ true → (e : Option RvalueTree) → IsReturned w a e → IsReturned w b e
returned_as w h a b i j s None r =
    void_form (ctype_of w.scope b) (
    let P : CType → Type 0 = λ t. has_void t ≡ true in
    let Q : CType → Type 0 = λ t. has_void (form t) ≡ true in
    subst P (same_form w.scope h a b i j s) (subst Q (sym r) refl))
returned_as w h a b i j s (Some e) r = (r.0, sym (same_scalar w.scope h a b i j s) ∙ r.1, r.2)

-- ## Statements of a function with another result, which returns the same

abbrev Returns : Context → ℕ → ℕ → Type 0
Returns w a b = (e : Option RvalueTree) → IsReturned w a e → IsReturned w b e

mutual
  statement_as : (w : Context) (a b : ℕ) → Returns w a b → (s : TypedTree) → IsStatement w a s → IsStatement w b s
  statement_as w a b r (evaluates e) h = h
  statement_as w a b r (declares ls) h = h
  statement_as w a b r (runs_block ss) h = statements_as w a b r ss h
  statement_as w a b r (branches e s) h = (h.0, statement_as w a b r s h.1)
  statement_as w a b r (branches_else e s t) h = (h.0, statement_as w a b r s h.1, statement_as w a b r t h.2)
  statement_as w a b r (loops_while e s) h = (h.0, statement_as w a b r s h.1)
  statement_as w a b r (loops_do s e) h = (h.0, statement_as w a b r s h.1)
  statement_as w a b r (loops_for f c e s) h = (statement_as w a b r f h.0, h.1, h.2, statement_as w a b r s h.3)
  statement_as w a b r (selects t e cs) h = (h.0, parts_as w a b r cs h.1)
  statement_as w a b r breaks h = tt
  statement_as w a b r continues h = tt
  statement_as w a b r (returns e) h = r e h
  statement_as w a b r (locks m p) h = h
  statement_as w a b r (unlocks m p) h = h
  statement_as w a b r yields h = tt

  statements_as : (w : Context) (a b : ℕ) → Returns w a b → (ss : TypedTrees) → AreStatements w a ss → AreStatements w b ss
  statements_as w a b r no_statements h = tt
  statements_as w a b r (and_statement s ss) h = (statement_as w a b r s h.0, statements_as w a b r ss h.1)

  parts_as : (w : Context) (a b : ℕ) → Returns w a b → (cs : TypedCases) → AreParts w a cs → AreParts w b cs
  parts_as w a b r no_typed_cases h = tt
  parts_as w a b r (and_typed_case c cs) h = (part_as w a b r c h.0, parts_as w a b r cs h.1)

  part_as : (w : Context) (a b : ℕ) → Returns w a b → (c : TypedCase) → IsPart w a c → IsPart w b c
  part_as w a b r (a_label z p) h = tt
  part_as w a b r (a_default_label p) h = tt
  part_as w a b r (a_labelled_step s) h = statement_as w a b r s h

-- ## The file's own tables

abbrev CalledAs : List TypedFunctionTree → ℕ → Function → Type 0
CalledAs xs n f = (g : Function) × (slice_get (map called xs) n ≡ Some g) × SameFunction f g

called_alike : (xs : List TypedFunctionTree) (ys : List Function) (n : ℕ) (f : Function) → map type_of_typed xs ≡ map type_of_function ys → slice_get ys n ≡ Some f → CalledAs xs n f
called_alike xs [] n f e q = absurd (none-some f q)
called_alike [] (y ∷ ys) n f e q = absurd (let l : 0 ≡ suc (length (map type_of_function ys)) = ap length e in omega (arith, l))
called_alike (x ∷ xs) (y ∷ ys) zero f e q =
    let same : type_of_typed x ≡ type_of_function y = ap (λ (ts : List (ℕ × List ℕ)). get_or ts 0 (0, [])) e in
    let is : y ≡ f = same_Some y f q in (
      called x,
      refl,
      record {
        result = ap (λ (g : Function). g.result) (sym is) ∙ ap (λ (t : ℕ × List ℕ). t.0) (sym same);
        parameters = ap (λ (g : Function). g.parameters) (sym is) ∙ ap (λ (t : ℕ × List ℕ). t.1) (sym same);
      },
    )
called_alike (x ∷ xs) (y ∷ ys) (suc n) f e q = called_alike xs ys n f (ap (λ (ts : List (ℕ × List ℕ)). drop 1 ts) e) q

closed : (f : FileState) (main : Option Name) (locals : List LocalEntry) → IsLawfulFile f → Extends (body_context f locals) (file_context (file_of f main) locals)
closed f main locals h = record {
  more = [];
  types = sym (append-nil f.state.scope.types);
  structures = λ k c. refl;
  functions = λ n g e. called_alike f.functions f.state.scope.functions n g h.alike e;
  results = λ n g e. (all_at (IsFunction f.state.scope) f.state.scope.functions n g h.state.functions e).result;
  objects = λ o n e. e;
  mutexes = omega arith;
}

body_is : (f : FileState) (main : Option Name) → IsLawfulFile f → (x : TypedFunctionTree) → IsType f.state.scope x.result → (b : Option TypedBodyTree) → OnBody f x.result b → IsBodyOf (file_of f main) x b
body_is f main h x t None k = tt
body_is f main h x t (Some b) k =
    let v : Context = body_context f b.locals in let w : Context = file_context (file_of f main) b.locals in
    statements_stay v w (closed f main b.locals h) x.result t b.statements
    (statements_as v k.returned x.result (returned_as v h.state.tables k.returned x.result k.type t k.same) b.statements k.statements)

bodies_are : (f : FileState) (main : Option Name) → IsLawfulFile f → All (λ (x : TypedFunctionTree). IsBodyOf (file_of f main) x x.body) f.functions
bodies_are f main h = All-weaker (HasBody f) (λ (x : TypedFunctionTree). IsBodyOf (file_of f main) x x.body) (λ x k. body_is f main h x k.0 x.body k.1) f.functions h.bodies

pub bodies_are_well_formed : BodiesAreWellFormed
bodies_are_well_formed main items file e =
    let c : Comes main file = comes main items file e in
    let P : TypedFileTree → Type 0 = λ x. All (λ f. IsBodyOf x f f.body) x.functions in
    subst P (sym c.is) (bodies_are c.found main c.lawful)

pub numbers_are_of_types : NumbersAreOfTypes
numbers_are_of_types main items file e =
    let c : Comes main file = comes main items file e in
    (subst (λ (x : TypedFileTree). All IsNumber x.constants) (sym c.is) c.lawful.state.constants, subst (λ (x : TypedFileTree). All IsNumber x.labels) (sym c.is) c.lawful.state.labels)
