-- What is well formed behind one step stays so behind the next.
use Rattle.std.proofs.Common.{◌≡◌, ℕ, List, get_or, refl, sym, subst, ap, ◌∙◌, arith}
use Rattle.std.specs.Prelude.{All, slice_get, Option, Some, None}
use Rattle.std.proofs.lemmas.Option.{slice_get_within, get_or_from_slice_get}
use Rattle.std.proofs.lemmas.List.Elements.{All-weaker, All-get_or}
use Rattle.tm_laid.specs.tm_terms.declared.places.Place.{Place}
use Rattle.tm_laid.specs.tm_typed.declared.types.TypeEntry.{TypeEntry}
use Rattle.tm_laid.specs.tm_typed.declared.operands.Fold.TheVariants as Folds
use Rattle.tm_laid.specs.tm_typed.declared.operands.Sort.{Sort}
use Rattle.tm_laid.specs.tm_typed.declared.operands.Sort.TheVariants as Sorts
use Rattle.tm_laid.specs.tm_typed.declared.scopes.ObjectNumber.TheVariants as Objects
use Rattle.std.proofs.lemmas.List.{get_or_append_left}
use Rattle.tm_laid.specs.tm_typed.Types.{no_type}
use Rattle.tm_laid.specs.tm_typed.Scopes.{Function, entry}
use Rattle.tm_laid.specs.tm_typed.Operands.{scalar_by}
use Rattle.tm_laid.specs.tm_typed.TypedTrees.{RvalueTree, a_value}
use Rattle.tm_laid.specs.tm_typed.States.{State}
use Rattle.tm_laid.specs.tm_typed.WellTyped.{ValueKind, a_number, a_pointer, no_value, kind_of_scalar, Context}
use Rattle.tm_laid.specs.tm_typed.WellTyped.{IsRvalue, SameFunction, Extends}
use Rattle.tm_laid.specs.tm_typed.TypedStatements.{GivenTree, LocalInitialiserTree, LocalTree, TypedTree, evaluates}
use Rattle.tm_laid.specs.tm_typed.TypedStatements.{declares, runs_block, branches, branches_else, loops_while, loops_do}
use Rattle.tm_laid.specs.tm_typed.TypedStatements.{loops_for, selects, breaks, continues, returns, locks, unlocks}
use Rattle.tm_laid.specs.tm_typed.TypedStatements.{yields, TypedTrees, no_statements, and_statement, TypedCase, a_label}
use Rattle.tm_laid.specs.tm_typed.TypedStatements.{a_default_label, a_labelled_step, TypedCases, no_typed_cases}
use Rattle.tm_laid.specs.tm_typed.TypedStatements.{and_typed_case}
use Rattle.c_expr_typing.proofs.WellTypedGrowth.{operand_stays}
use Rattle.typed_file_laws.specs.Tables.{IsType}
use Rattle.typed_file_laws.specs.Lawful.{context, IsFunction, IsLawfulState}
use Rattle.typed_file_laws.specs.Bodies.{IsAnyRvalue, IsTest, IfGiven, IsGivenCell, AreGivenBy, IsLocal, IsReturned, IsStatement, AreStatements, AreParts, IsPart}
use Rattle.typed_file_laws.proofs.StateSteps.{Keeps, Continues}

-- what holds of each element holds of what stands at a place
pub all_at : {A : Type 0} (P : A → Type 0) (xs : List A) (k : ℕ) (x : A) → All P xs → slice_get xs k ≡ Some x → P x
all_at P xs k x h e = subst P (get_or_from_slice_get xs k x x e) (All-get_or P xs k x (slice_get_within xs k x e) h)

same_function : (f : Function) → SameFunction f f
same_function f = record { result = refl; parameters = refl }

pub extends_by : (m : ℕ) (s t : State) → IsLawfulState m s → Keeps s t → t.scope.functions ≡ s.scope.functions → Extends (context m s) (context m t)
extends_by m s t h k same = record {
  more = k.grown.more;
  types = k.grown.types;
  structures = k.grown.structures;
  functions = λ n f e. (f, (let P : List Function → Type 0 = λ fs. slice_get fs n ≡ Some f in subst P (sym same) e), same_function f);
  results = λ n f e. (all_at (IsFunction s.scope) s.scope.functions n f h.functions e).result;
  objects = k.objects;
  mutexes = omega arith;
}

pub extends : (m : ℕ) (s t : State) → IsLawfulState m s → Continues m s t → Extends (context m s) (context m t)
extends m s t h c = extends_by m s t h c.keeps c.functions

-- a sort of this kind
sort_of : ValueKind → Sort
sort_of (a_number t) = Sorts.Integer t Folds.Unbuilt
sort_of a_pointer = Sorts.Null
sort_of no_value = Sorts.Nothing

no_place : Place
no_place = record { line = 0; col = 0 }

pub rvalue_stays : (v w : Context) → Extends v w → (k : ValueKind) (e : RvalueTree) → IsRvalue v k e → IsRvalue w k e
unfolding sort_of
rvalue_stays v w x (a_number t) e h = (operand_stays v w x (a_value (record { value = e; sort = sort_of (a_number t); place = no_place })) (h, tt)).0
rvalue_stays v w x a_pointer e h = (operand_stays v w x (a_value (record { value = e; sort = sort_of a_pointer; place = no_place })) (h, tt)).0
rvalue_stays v w x no_value e h = (operand_stays v w x (a_value (record { value = e; sort = sort_of no_value; place = no_place })) (h, tt)).0

pub given_stays : (v w : Context) → Extends v w → (gs : List GivenTree) → All (IsGivenCell v) gs → All (IsGivenCell w) gs
given_stays v w x gs h = All-weaker (IsGivenCell v) (IsGivenCell w) (λ g i. rvalue_stays v w x (kind_of_scalar g.scalar) g.value i) gs h

given_by_stays : (v w : Context) → Extends v w → (i : Option LocalInitialiserTree) → AreGivenBy v i → AreGivenBy w i
given_by_stays v w x None h = tt
given_by_stays v w x (Some i) h = given_stays v w x i.given h

pub local_stays : (v w : Context) → Extends v w → (l : LocalTree) → IsLocal v l → IsLocal w l
local_stays v w x l h = record { type = h.type; object = x.objects (Objects.Local l.object) h.type h.object; given = given_by_stays v w x l.initialiser h.given }

pub locals_stay_well : (v w : Context) → Extends v w → (ls : List LocalTree) → All (IsLocal v) ls → All (IsLocal w) ls
locals_stay_well v w x ls h = All-weaker (IsLocal v) (IsLocal w) (local_stays v w x) ls h

pub any_stays : (v w : Context) → Extends v w → (e : RvalueTree) → IsAnyRvalue v e → IsAnyRvalue w e
any_stays v w x e h = (h.0, rvalue_stays v w x h.0 e h.1)

pub test_stays : (v w : Context) → Extends v w → (e : RvalueTree) → IsTest v e → IsTest w e
test_stays v w x e h = (h.0, h.1, rvalue_stays v w x h.0 e h.2)

pub optional_stays : (P Q : RvalueTree → Type 0) (e : Option RvalueTree) → ((e : RvalueTree) → P e → Q e) → IfGiven P e → IfGiven Q e
optional_stays P Q None f h = tt
optional_stays P Q (Some e) f h = f e h

-- a type of the table keeps its row
row_stays_well : (v w : Context) → Extends v w → (n : ℕ) → IsType v.scope n → entry w.scope n ≡ entry v.scope n
row_stays_well v w x n l =
    let P : List TypeEntry → Type 0 = λ ts. get_or ts n no_type ≡ get_or v.scope.types n no_type in
    subst P (sym x.types) (get_or_append_left v.scope.types x.more no_type n l)

returned_stays : (v w : Context) → Extends v w → (n : ℕ) → IsType v.scope n → (e : Option RvalueTree) → IsReturned v n e → IsReturned w n e
returned_stays v w x n l None h = ap (λ (e : TypeEntry). e.ctype) (row_stays_well v w x n l) ∙ h
returned_stays v w x n l (Some e) h = (h.0, ap (λ (e : TypeEntry). scalar_by e e.ctype) (row_stays_well v w x n l) ∙ h.1, rvalue_stays v w x (kind_of_scalar h.0) e h.2)

mutual
  pub statement_stays : (v w : Context) → Extends v w → (n : ℕ) → IsType v.scope n → (s : TypedTree) → IsStatement v n s → IsStatement w n s
  statement_stays v w x n l (evaluates e) h = optional_stays (IsAnyRvalue v) (IsAnyRvalue w) e (any_stays v w x) h
  statement_stays v w x n l (declares ls) h = locals_stay_well v w x ls h
  statement_stays v w x n l (runs_block ss) h = statements_stay v w x n l ss h
  statement_stays v w x n l (branches e s) h = (test_stays v w x e h.0, statement_stays v w x n l s h.1)
  statement_stays v w x n l (branches_else e s t) h = (test_stays v w x e h.0, statement_stays v w x n l s h.1, statement_stays v w x n l t h.2)
  statement_stays v w x n l (loops_while e s) h = (test_stays v w x e h.0, statement_stays v w x n l s h.1)
  statement_stays v w x n l (loops_do s e) h = (test_stays v w x e h.0, statement_stays v w x n l s h.1)
  statement_stays v w x n l (loops_for f c e s) h = (
    statement_stays v w x n l f h.0,
    optional_stays (IsTest v) (IsTest w) c (test_stays v w x) h.1,
    optional_stays (IsAnyRvalue v) (IsAnyRvalue w) e (any_stays v w x) h.2,
    statement_stays v w x n l s h.3,
  )
  statement_stays v w x n l (selects t e cs) h = (rvalue_stays v w x (a_number t) e h.0, parts_stay v w x n l cs h.1)
  statement_stays v w x n l breaks h = tt
  statement_stays v w x n l continues h = tt
  statement_stays v w x n l (returns e) h = returned_stays v w x n l e h
  statement_stays v w x n l (locks m p) h = omega (arith, h, x.mutexes)
  statement_stays v w x n l (unlocks m p) h = omega (arith, h, x.mutexes)
  statement_stays v w x n l yields h = tt

  pub statements_stay : (v w : Context) → Extends v w → (n : ℕ) → IsType v.scope n → (ss : TypedTrees) → AreStatements v n ss → AreStatements w n ss
  statements_stay v w x n l no_statements h = tt
  statements_stay v w x n l (and_statement s ss) h = (statement_stays v w x n l s h.0, statements_stay v w x n l ss h.1)

  pub parts_stay : (v w : Context) → Extends v w → (n : ℕ) → IsType v.scope n → (cs : TypedCases) → AreParts v n cs → AreParts w n cs
  parts_stay v w x n l no_typed_cases h = tt
  parts_stay v w x n l (and_typed_case c cs) h = (part_stays v w x n l c h.0, parts_stay v w x n l cs h.1)

  pub part_stays : (v w : Context) → Extends v w → (n : ℕ) → IsType v.scope n → (c : TypedCase) → IsPart v n c → IsPart w n c
  part_stays v w x n l (a_label z p) h = tt
  part_stays v w x n l (a_default_label p) h = tt
  part_stays v w x n l (a_labelled_step s) h = statement_stays v w x n l s h
