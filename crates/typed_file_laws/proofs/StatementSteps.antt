-- Statements keep states lawful, and are well formed.
use Rattle.std.proofs.Common.{◌≡◌, ℕ, ◌<◌, List, [], ◌∷◌, ◌++◌, length, refl, sym, ap, ◌∙◌, arith}
use Rattle.std.specs.Prelude.{ℤ, Bool, true, false, not, ◌||◌, All, take, Option, Some, None, Result, Ok}
use Rattle.std.proofs.lemmas.Bool.{not-false, false≢true}
use Rattle.std.proofs.lemmas.List.{append-nil, take_at}
use Rattle.std.proofs.lemmas.List.Elements.{All-take}
use Rattle.tm_laid.specs.tm_cint.declared.int_types.IntType.{IntType}
use Rattle.tm_laid.specs.tm_cint.IntTypes.{IsIn}
use Rattle.tm_laid.specs.tm_cint.Conversions.{converted_value}
use Rattle.tm_laid.specs.tm_terms.declared.places.Place.{Place}
use Rattle.tm_laid.specs.tm_terms.declared.refusals.Kind.TheVariants as Kinds
use Rattle.tm_laid.specs.tm_terms.declared.refusals.Refusal.{Refusal}
use Rattle.tm_laid.specs.tm_terms.ExprTrees.{Tree, place_of}
use Rattle.tm_laid.specs.tm_trees.FileTrees.{ForFirstTree, by_expression, by_declaration, StatementTree, a_block}
use Rattle.tm_laid.specs.tm_trees.FileTrees.{a_value, an_if, an_if_else, a_while, a_do, a_for, a_switch, a_break}
use Rattle.tm_laid.specs.tm_trees.FileTrees.{a_continue, a_return, a_lock, an_unlock, a_yield, PartTree, a_local}
use Rattle.tm_laid.specs.tm_trees.FileTrees.{a_step, PartTrees, no_parts, and_part, CaseTree, a_case, a_default}
use Rattle.tm_laid.specs.tm_trees.FileTrees.{a_case_step, CaseTrees, no_cases, and_case}
use Rattle.tm_laid.specs.tm_typed.declared.types.CType.{CType}
use Rattle.tm_laid.specs.tm_typed.declared.types.CType.TheVariants as Types
use Rattle.tm_laid.specs.tm_typed.declared.operands.Sort.{Sort}
use Rattle.tm_laid.specs.tm_typed.declared.operands.Sort.TheVariants as Sorts
use Rattle.tm_laid.specs.tm_typed.declared.scopes.Binding.{Binding}
use Rattle.tm_laid.specs.tm_typed.declared.scopes.TagBinding.{TagBinding}
use Rattle.tm_laid.specs.tm_typed.declared.scopes.Named.{Named}
use Rattle.tm_laid.specs.tm_typed.declared.scopes.Named.TheVariants as Names
use Rattle.tm_laid.specs.tm_typed.Scopes.{named, ctype_of}
use Rattle.tm_laid.specs.tm_typed.TypedTrees.{RvalueTree, Rated}
use Rattle.tm_laid.specs.tm_typed.Operands.{valued, given, is_structure, is_condition}
use Rattle.tm_laid.specs.tm_typed.TypeNames.{is_void}
use Rattle.tm_laid.specs.tm_typed.Refusals.{then_with, row}
use Rattle.tm_laid.specs.tm_typed.States.{State, in_scope}
use Rattle.tm_laid.specs.tm_typed.Evaluation.{folded_value}
use Rattle.tm_laid.specs.tm_typed.Declarations.{Locals, local_declaration}
use Rattle.tm_laid.specs.tm_typed.WellTyped.{a_number, kind_of, OnAnswer, Context, IsRvalue, IsRated, Extends}
use Rattle.tm_laid.specs.tm_typed.TypedStatements.{TypedTree, evaluates, declares, breaks, continues, returns, locks}
use Rattle.tm_laid.specs.tm_typed.TypedStatements.{unlocks, TypedTrees, TypedCase, a_label, a_default_label}
use Rattle.tm_laid.specs.tm_typed.TypedStatements.{a_labelled_step, TypedCases, and_typed_case}
use Rattle.tm_laid.specs.tm_typed.StatementRules.{Around, looping, switching, condition_rules, Selector, selector_rules}
use Rattle.tm_laid.specs.tm_typed.StatementRules.{Labels, no_labels, with_label, is_labelled, label_rules}
use Rattle.tm_laid.specs.tm_typed.StatementRules.{default_rules, return_rules, return_value_rules, mutex_rules}
use Rattle.tm_laid.specs.tm_typed.StatementTyping.{value_in, condition_in, optional_value_in, optional_condition_in}
use Rattle.tm_laid.specs.tm_typed.StatementTyping.{return_in, selector_in, label_in, first_in, enter, leave}
use Rattle.tm_laid.specs.tm_typed.StatementTyping.{statement_in, part_in, parts_in, case_in, cases_in}
use Rattle.c_expr_typing.proofs.WellTypedRules.{converted_fits, valued_fits, condition_of}
use Rattle.typed_file_laws.specs.Tables.{IsType, IsTag}
use Rattle.typed_file_laws.specs.Lawful.{context, IsBound, IsLawfulState}
use Rattle.typed_file_laws.specs.Bodies.{IsAnyRvalue, IsTest, IfGiven, IsReturned, IsStatement, AreStatements, AreParts, IsPart}
use Rattle.typing_laws.proofs.Steps.{then_on, then_any}
use Rattle.typed_file_laws.proofs.RuleSteps.{on_row, OnSome, on_row_unless}
use Rattle.c_expr_typing.proofs.low.c_folds.ConvertedValues.{converted_is_in}
use Rattle.typed_file_laws.proofs.TableGrowth.{type_stays}
use Rattle.typed_file_laws.proofs.StateSteps.{rescoped, rescoped_grows, rescoped_lawful, Keeps, keeps_on, AreBound, all_bound, all_linked, all_uses, functions_stay, statics_stay, locals_stay, Continues, continues_none, continues_on, label_noted, names_stand}
use Rattle.typed_file_laws.proofs.Growing.{extends_by, extends, rvalue_stays, any_stays, test_stays, optional_stays, statement_stays, statements_stay, parts_stay, part_stays}
use Rattle.typed_file_laws.proofs.DeclarationSteps.{evaluated_on, given_for, Locates, local_declaration_locates}

-- ## Blocks

-- other names and tags are visible, which name what there is
abbrev pub seeing : State → List Binding → List TagBinding → ℕ → ℕ → State
seeing s names tags outer_names outer_tags = in_scope s (rescoped s.scope names tags outer_names outer_tags s.scope.functions)

pub seeing_keeps : (s : State) (names : List Binding) (tags : List TagBinding) (outer_names outer_tags : ℕ) → Keeps s (seeing s names tags outer_names outer_tags)
seeing_keeps s names tags outer_names outer_tags =
    record { grown = rescoped_grows s.scope names tags outer_names outer_tags s.scope.functions; functions = omega arith; objects = λ o n e. e; statics = omega arith }

pub seeing_lawful : (m : ℕ) (s : State) (names : List Binding) (tags : List TagBinding) (outer_names outer_tags : ℕ) → IsLawfulState m s → AreBound m s names
    → All (λ (b : TagBinding). IsTag s.scope b.tagged) tags → IsLawfulState m (seeing s names tags outer_names outer_tags)
seeing_lawful m s names tags outer_names outer_tags h bs ts =
    let t : State = seeing s names tags outer_names outer_tags in
    let k : Keeps s t = seeing_keeps s names tags outer_names outer_tags in record {
      tables = rescoped_lawful s.scope names tags outer_names outer_tags s.scope.functions h.tables ts;
      names = all_bound m s t k names bs;
      linkage = all_linked s t k s.linkage h.linkage;
      functions = functions_stay s.scope t.scope k.grown s.scope.functions h.functions;
      statics = statics_stay s.scope t.scope k.grown s.statics h.statics;
      locals = locals_stay s.scope t.scope k.grown s.locals h.locals;
      uses = all_uses s t k s.uses h.uses;
      constants = h.constants;
      labels = h.labels;
    }

pub enter_lawful : (m : ℕ) (s : State) → IsLawfulState m s → IsLawfulState m (enter s)
enter_lawful m s h = seeing_lawful m s s.scope.names s.scope.tags (length s.scope.names) (length s.scope.tags) h h.names h.tables.tags

enter_keeps : (s : State) → Keeps s (enter s)
enter_keeps s = seeing_keeps s s.scope.names s.scope.tags (length s.scope.names) (length s.scope.tags)

-- names of the block are no longer visible behind it
abbrev left_seeing : State → State → State
left_seeing s t = seeing t (take t.scope.outer_names t.scope.names) (take t.scope.outer_tags t.scope.tags) s.scope.outer_names s.scope.outer_tags

left_keeps : (s t : State) → Keeps t (leave s t)
left_keeps s t = seeing_keeps t (take t.scope.outer_names t.scope.names) (take t.scope.outer_tags t.scope.tags) s.scope.outer_names s.scope.outer_tags

pub leaves : (m : ℕ) (s t : State) → Continues m (enter s) t → Continues m s (leave s t)
leaves m s t c = record {
  lawful = seeing_lawful m t (take t.scope.outer_names t.scope.names) (take t.scope.outer_tags t.scope.tags) s.scope.outer_names s.scope.outer_tags c.lawful
      (All-take (λ (b : Binding). IsBound m t b.named) t.scope.outer_names t.scope.names c.lawful.names)
      (All-take (λ (b : TagBinding). IsTag t.scope b.tagged) t.scope.outer_tags t.scope.tags c.lawful.tables.tags);
  keeps = keeps_on s t (leave s t) (keeps_on s (enter s) t (enter_keeps s) c.keeps) (left_keeps s t);
  added = [];
  names =
      ap (λ (n : ℕ). take n t.scope.names) c.outer ∙ ap (λ (bs : List Binding). take (length s.scope.names) bs) c.names
      ∙ take_at s.scope.names c.added (length s.scope.names) refl ∙ sym (append-nil s.scope.names);
  outer = refl;
  functions = c.functions;
  declared = c.declared;
  locals = c.locals;
}

left_extends : (m : ℕ) (s t : State) → IsLawfulState m t → Extends (context m t) (context m (leave s t))
left_extends m s t h = extends_by m t (leave s t) h (left_keeps s t) refl

-- ## Expressions as parts of statements

abbrev Values : ℕ → State → RvalueTree × State → Type 0
Values m s a = Continues m s a.1 × IsAnyRvalue (context m a.1) a.0

abbrev Tests : ℕ → State → RvalueTree × State → Type 0
Tests m s a = Continues m s a.1 × IsTest (context m a.1) a.0

abbrev MayValues : ℕ → State → Option RvalueTree × State → Type 0
MayValues m s a = Continues m s a.1 × IfGiven (IsAnyRvalue (context m a.1)) a.0

abbrev MayTests : ℕ → State → Option RvalueTree × State → Type 0
MayTests m s a = Continues m s a.1 × IfGiven (IsTest (context m a.1)) a.0

value_values : (m : ℕ) (s : State) (t : Tree) → IsLawfulState m s → OnAnswer (Values m s) (value_in s t)
value_values m s t h = evaluated_on m s t (Values m s) _ h (λ a c o.
    let v : Rated = valued a.1.scope a.0 in (c, (kind_of v.sort, (valued_fits (context m a.1) a.0 o).0)))

condition_tests : (w : Context) (p : Place) (v : Rated) → IsRated w v → OnAnswer (IsTest w) (condition_rules p v)
condition_tests w p v h = on_row (IsTest w) (not (is_condition v.sort)) Kinds.Mismatch p (Ok v.value) (λ e.
    (kind_of v.sort, condition_of v.sort (not-false (is_condition v.sort) e), h.0))

test_tests : (m : ℕ) (s : State) (t : Tree) → IsLawfulState m s → OnAnswer (Tests m s) (condition_in s t)
test_tests m s t h = evaluated_on m s t (Tests m s) _ h (λ a c o.
    then_on (IsTest (context m a.1)) (Tests m s) (condition_rules (place_of t) (valued a.1.scope a.0)) (λ e. Ok (e, a.1))
    (condition_tests (context m a.1) (place_of t) (valued a.1.scope a.0) (valued_fits (context m a.1) a.0 o)) (λ e i. (c, i)))

may_value : (m : ℕ) (s : State) (t : Option Tree) → IsLawfulState m s → OnAnswer (MayValues m s) (optional_value_in s t)
may_value m s None h = (continues_none m s h, tt)
may_value m s (Some t) h = then_on (Values m s) (MayValues m s) (value_in s t) (λ a. Ok (Some a.0, a.1)) (value_values m s t h) (λ a c. c)

may_test : (m : ℕ) (s : State) (t : Option Tree) → IsLawfulState m s → OnAnswer (MayTests m s) (optional_condition_in s t)
may_test m s None h = (continues_none m s h, tt)
may_test m s (Some t) h = then_on (Tests m s) (MayTests m s) (condition_in s t) (λ a. Ok (Some a.0, a.1)) (test_tests m s t h) (λ a c. c)

-- ## Single statements

abbrev pub Stands : ℕ → State → ℕ → TypedTree × State → Type 0
Stands m s n a = Continues m s a.1 × IsStatement (context m a.1) n a.0

void_is : (t : CType) → is_void t ≡ true → t ≡ Types.Void
void_is Types.Void e = refl
void_is (Types.Int t) e = absurd (false≢true e)
void_is (Types.Pointer q) e = absurd (false≢true e)
void_is (Types.Array f n) e = absurd (false≢true e)
void_is (Types.Struct k) e = absurd (false≢true e)

return_stands : (m : ℕ) (s : State) (around : Around) (t : Option Tree) (p : Place) → IsLawfulState m s → OnAnswer (Stands m s around.result) (return_in s around t p)
return_stands m s around None p h =
    then_on (IsStatement (context m s) around.result) (Stands m s around.result) (return_rules s.scope around.result p) (λ r. Ok (r, s))
    (on_row (IsStatement (context m s) around.result) (not (is_void (ctype_of s.scope around.result))) Kinds.Mismatch p (Ok (returns None)) (λ e.
    void_is (ctype_of s.scope around.result) (not-false (is_void (ctype_of s.scope around.result)) e)))
    (λ r i. (continues_none m s h, i))
return_stands m s around (Some t) p h =
    evaluated_on m s t (Stands m s around.result) _ h (λ a c o.
    let v : Rated = valued a.1.scope a.0 in
    then_on (IsStatement (context m a.1) around.result) (Stands m s around.result) (return_value_rules a.1.scope around.result p v) (λ r. Ok (r, a.1))
    (on_row (IsStatement (context m a.1) around.result) (is_structure v.sort) Kinds.Unsupported p _ (λ e.
    on_row_unless (λ x. IsReturned (context m a.1) around.result (Some x)) (IsStatement (context m a.1) around.result) (given a.1.scope v around.result) Kinds.Mismatch p _
    (given_for (context m a.1) around.result v (valued_fits (context m a.1) a.0 o)) (λ x i. i)))
    (λ r i. (c, i)))

abbrev Selects : ℕ → State → Selector × State → Type 0
Selects m s a = Continues m s a.1 × IsRvalue (context m a.1) (a_number a.0.works_in) a.0.value

selected : (w : Context) (p : Place) (v : Rated) (s : Sort) → IsRvalue w (kind_of s) v.value → OnAnswer (λ (x : Selector). IsRvalue w (a_number x.works_in) x.value) (selector_rules p v s)
selected w p v (Sorts.Integer t f) h = converted_fits w t _ v h
selected w p v (Sorts.Pointer q) h = tt
selected w p v Sorts.Null h = tt
selected w p v (Sorts.Structure k) h = tt
selected w p v Sorts.Nothing h = tt

selector_selects : (m : ℕ) (s : State) (t : Tree) → IsLawfulState m s → OnAnswer (Selects m s) (selector_in s t)
selector_selects m s t h = evaluated_on m s t (Selects m s) _ h (λ a c o.
    let v : Rated = valued a.1.scope a.0 in
    then_on (λ (x : Selector). IsRvalue (context m a.1) (a_number x.works_in) x.value) (Selects m s) (selector_rules (place_of t) v v.sort) (λ x. Ok (x, a.1))
    (selected (context m a.1) (place_of t) v v.sort (valued_fits (context m a.1) a.0 o).0) (λ x i. (c, i)))

-- a label lies in the type in which the `switch` compares
label_within : (t : IntType) (labels : List ℤ) (word p : Place) (value : Option ℤ) → OnAnswer (IsIn t) (label_rules t labels word p value)
label_within t labels word p None = tt
label_within t labels word p (Some z) = on_row (IsIn t) (is_labelled labels (converted_value z t)) Kinds.Redeclared word (Ok (converted_value z t)) (λ e. converted_is_in t z)

label_continues : (m : ℕ) (s : State) (t : IntType) (labels : List ℤ) (e : Tree) (p : Place) → IsLawfulState m s → OnAnswer (λ (a : ℤ × State). Continues m s a.1) (label_in s t labels e p)
label_continues m s t labels e p h = evaluated_on m s e (λ (a : ℤ × State). Continues m s a.1) _ h (λ a c o.
    then_on (IsIn t) (λ (a : ℤ × State). Continues m s a.1) (label_rules t labels p (place_of e) (folded_value a.0)) _ (label_within t labels p (place_of e) (folded_value a.0)) (λ z i.
    continues_on m s a.1 (record a.1 { labels = a.1.labels ++ z ∷ [] }) c (label_noted m a.1 z c.lawful (record { type = t; within = i }))))

mutex_there : (m : ℕ) (s : State) (p : Place) (n : Option Named) → OnSome (IsBound m s) n → OnAnswer (λ (i : ℕ). i < m) (mutex_rules p n)
mutex_there m s p None h = tt
mutex_there m s p (Some (Names.Mutex i)) h = h
mutex_there m s p (Some (Names.Object o q)) h = tt
mutex_there m s p (Some (Names.Function f)) h = tt
mutex_there m s p (Some (Names.Alias q)) h = tt
mutex_there m s p (Some Names.Task) h = tt
mutex_there m s p (Some (Names.Enumerator z)) h = tt

jump_stands : (m : ℕ) (s : State) (n : ℕ) (b : Bool) (p : Place) (r : TypedTree) → IsLawfulState m s → IsStatement (context m s) n r → OnAnswer (Stands m s n) (then_with (row b Kinds.Mismatch p (Ok r)) (λ x. Ok (x, s)))
jump_stands m s n true p r h i = tt
jump_stands m s n false p r h i = (continues_none m s h, i)

declaration_stands : (m : ℕ) (s : State) (n : ℕ) (r : Result Locals Refusal) → OnAnswer (Locates m s) r → OnAnswer (Stands m s n) (then_with r (λ a. Ok (declares a.0, a.1)))
declaration_stands m s n r h = then_on (Locates m s) (Stands m s n) r (λ a. Ok (declares a.0, a.1)) h (λ a c. c)

first_stands : (m : ℕ) (s : State) (n : ℕ) (f : ForFirstTree) → IsLawfulState m s → OnAnswer (Stands m s n) (first_in s f)
first_stands m s n (by_expression t) h = then_on (MayValues m s) (Stands m s n) (optional_value_in s t) (λ a. Ok (evaluates a.0, a.1)) (may_value m s t h) (λ a c. c)
first_stands m s n (by_declaration d) h = declaration_stands m s n (local_declaration s d) (local_declaration_locates m s d h)

-- ## Statements

abbrev pub AllStand : ℕ → State → ℕ → TypedTrees × State → Type 0
AllStand m s n a = Continues m s a.1 × AreStatements (context m a.1) n a.0

abbrev PartStands : ℕ → State → ℕ → TypedCase × Labels × State → Type 0
PartStands m s n a = Continues m s a.2 × IsPart (context m a.2) n a.0

abbrev PartsStand : ℕ → State → ℕ → TypedCases × State → Type 0
PartsStand m s n a = Continues m s a.1 × AreParts (context m a.1) n a.0

-- the type of the result stays one of the table
later_type : (m : ℕ) (s t : State) (n : ℕ) → Continues m s t → IsType s.scope n → IsType t.scope n
later_type m s t n c i = type_stays s.scope t.scope c.keeps.grown n i

mutual
  pub statement_stands : (m : ℕ) (s : State) (around : Around) (t : StatementTree) → IsLawfulState m s → IsType s.scope around.result → OnAnswer (Stands m s around.result) (statement_in s around t)
  statement_stands m s around (a_block parts) h i =
      let n : ℕ = around.result in
      then_on (AllStand m (enter s) n) (Stands m s n) (parts_in (enter s) around parts) _ (all_stand m (enter s) around parts (enter_lawful m s h) i) (λ b c.
      (leaves m s b.1 c.0, statements_stay (context m b.1) (context m (leave s b.1)) (left_extends m s b.1 c.0.lawful) n (later_type m (enter s) b.1 n c.0 i) b.0 c.1))
  statement_stands m s around (a_value t) h i = first_stands m s around.result (by_expression t) h
  statement_stands m s around (an_if c t) h i =
      let n : ℕ = around.result in
      then_on (Tests m s) (Stands m s n) (condition_in s c) _ (test_tests m s c h) (λ a x.
      then_on (Stands m a.1 n) (Stands m s n) (statement_in a.1 around t) _ (statement_stands m a.1 around t x.0.lawful (later_type m s a.1 n x.0 i)) (λ b y.
      (continues_on m s a.1 b.1 x.0 y.0, (test_stays (context m a.1) (context m b.1) (extends m a.1 b.1 x.0.lawful y.0) a.0 x.1, y.1))))
  statement_stands m s around (an_if_else c t u) h i =
      let n : ℕ = around.result in
      then_on (Tests m s) (Stands m s n) (condition_in s c) _ (test_tests m s c h) (λ a x.
      then_on (Stands m a.1 n) (Stands m s n) (statement_in a.1 around t) _ (statement_stands m a.1 around t x.0.lawful (later_type m s a.1 n x.0 i)) (λ b y.
      let xy : Continues m s b.1 = continues_on m s a.1 b.1 x.0 y.0 in
      then_on (Stands m b.1 n) (Stands m s n) (statement_in b.1 around u) _ (statement_stands m b.1 around u y.0.lawful (later_type m s b.1 n xy i)) (λ d z. (
        continues_on m s b.1 d.1 xy z.0,
        (
          test_stays (context m a.1) (context m d.1) (extends m a.1 d.1 x.0.lawful (continues_on m a.1 b.1 d.1 y.0 z.0)) a.0 x.1,
          statement_stays (context m b.1) (context m d.1) (extends m b.1 d.1 y.0.lawful z.0) n (later_type m s b.1 n xy i) b.0 y.1,
          z.1,
        ),
      ))))
  statement_stands m s around (a_while c t) h i =
      let n : ℕ = around.result in
      then_on (Tests m s) (Stands m s n) (condition_in s c) _ (test_tests m s c h) (λ a x.
      then_on (Stands m a.1 n) (Stands m s n) (statement_in a.1 (looping around) t) _ (statement_stands m a.1 (looping around) t x.0.lawful (later_type m s a.1 n x.0 i)) (λ b y.
      (continues_on m s a.1 b.1 x.0 y.0, (test_stays (context m a.1) (context m b.1) (extends m a.1 b.1 x.0.lawful y.0) a.0 x.1, y.1))))
  statement_stands m s around (a_do t c) h i =
      let n : ℕ = around.result in
      then_on (Stands m s n) (Stands m s n) (statement_in s (looping around) t) _ (statement_stands m s (looping around) t h i) (λ a x.
      then_on (Tests m a.1) (Stands m s n) (condition_in a.1 c) _ (test_tests m a.1 c x.0.lawful) (λ b y.
      (continues_on m s a.1 b.1 x.0 y.0, (y.1, statement_stays (context m a.1) (context m b.1) (extends m a.1 b.1 x.0.lawful y.0) n (later_type m s a.1 n x.0 i) a.0 x.1))))
  statement_stands m s around (a_for f c step t) h i =
      let n : ℕ = around.result in let r : State = enter s in
      then_on (Stands m r n) (Stands m s n) (first_in r f) _ (first_stands m r n f (enter_lawful m s h)) (λ a x.
      then_on (MayTests m a.1) (Stands m s n) (optional_condition_in a.1 c) _ (may_test m a.1 c x.0.lawful) (λ b y.
      then_on (MayValues m b.1) (Stands m s n) (optional_value_in b.1 step) _ (may_value m b.1 step y.0.lawful) (λ d z.
      let to_a : IsType a.1.scope n = later_type m r a.1 n x.0 i in
      let yz : Continues m a.1 d.1 = continues_on m a.1 b.1 d.1 y.0 z.0 in
      then_on (Stands m d.1 n) (Stands m s n) (statement_in d.1 (looping around) t) _ (statement_stands m d.1 (looping around) t z.0.lawful (later_type m a.1 d.1 n yz to_a)) (λ e w.
      let wz : Continues m b.1 e.1 = continues_on m b.1 d.1 e.1 z.0 w.0 in
      let all : Continues m a.1 e.1 = continues_on m a.1 b.1 e.1 y.0 wz in
      let out : Extends (context m e.1) (context m (leave s e.1)) = left_extends m s e.1 w.0.lawful in
      let v : Context = context m e.1 in let o : Context = context m (leave s e.1) in
      let to_e : IsType e.1.scope n = later_type m a.1 e.1 n all to_a in (
        leaves m s e.1 (continues_on m r a.1 e.1 x.0 all),
        (
          statement_stays v o out n to_e a.0 (statement_stays (context m a.1) v (extends m a.1 e.1 x.0.lawful all) n to_a a.0 x.1),
          optional_stays (IsTest v) (IsTest o) b.0 (test_stays v o out) (optional_stays (IsTest (context m b.1)) (IsTest v) b.0 (test_stays (context m b.1) v (extends m b.1 e.1 y.0.lawful wz)) y.1),
          optional_stays (IsAnyRvalue v) (IsAnyRvalue o) d.0 (any_stays v o out) (optional_stays (IsAnyRvalue (context m d.1)) (IsAnyRvalue v) d.0 (any_stays (context m d.1) v (extends m d.1 e.1 z.0.lawful w.0)) z.1),
          statement_stays v o out n to_e e.0 w.1,
        ),
      )))))
  statement_stands m s around (a_switch t cases) h i =
      let n : ℕ = around.result in
      then_on (Selects m s) (Stands m s n) (selector_in s t) _ (selector_selects m s t h) (λ a x.
      let to_a : IsType a.1.scope n = later_type m s a.1 n x.0 i in
      then_on (PartsStand m (enter a.1) n) (Stands m s n) (cases_in (enter a.1) (switching around) a.0.works_in no_labels cases) _
      (parts_stand m (enter a.1) (switching around) a.0.works_in no_labels cases (enter_lawful m a.1 x.0.lawful) to_a) (λ b y.
      let c : Continues m a.1 (leave a.1 b.1) = leaves m a.1 b.1 y.0 in (
        continues_on m s a.1 (leave a.1 b.1) x.0 c,
        (
          rvalue_stays (context m a.1) (context m (leave a.1 b.1)) (extends m a.1 (leave a.1 b.1) x.0.lawful c) (a_number a.0.works_in) a.0.value x.1,
          parts_stay (context m b.1) (context m (leave a.1 b.1)) (left_extends m a.1 b.1 y.0.lawful) n (later_type m (enter a.1) b.1 n y.0 to_a) b.0 y.1,
        ),
      )))
  statement_stands m s around (a_break p) h i = jump_stands m s around.result (not (around.in_loop || around.in_switch)) p breaks h tt
  statement_stands m s around (a_continue p) h i = jump_stands m s around.result (not around.in_loop) p continues h tt
  statement_stands m s around (a_return t p) h i = return_stands m s around t p h
  statement_stands m s around (a_lock x q p) h i =
      then_on (λ (k : ℕ). k < m) (Stands m s around.result) (mutex_rules q (named s.scope x)) (λ k. Ok (locks k p, s)) (mutex_there m s q (named s.scope x) (names_stand m s h x)) (λ k l. (continues_none m s h, l))
  statement_stands m s around (an_unlock x q p) h i =
      then_on (λ (k : ℕ). k < m) (Stands m s around.result) (mutex_rules q (named s.scope x)) (λ k. Ok (unlocks k p, s)) (mutex_there m s q (named s.scope x) (names_stand m s h x)) (λ k l. (continues_none m s h, l))
  statement_stands m s around (a_yield p) h i = (continues_none m s h, tt)

  pub part_stands : (m : ℕ) (s : State) (around : Around) (t : PartTree) → IsLawfulState m s → IsType s.scope around.result → OnAnswer (Stands m s around.result) (part_in s around t)
  part_stands m s around (a_local d) h i = declaration_stands m s around.result (local_declaration s d) (local_declaration_locates m s d h)
  part_stands m s around (a_step t) h i = statement_stands m s around t h i

  pub all_stand : (m : ℕ) (s : State) (around : Around) (ts : PartTrees) → IsLawfulState m s → IsType s.scope around.result → OnAnswer (AllStand m s around.result) (parts_in s around ts)
  all_stand m s around no_parts h i = (continues_none m s h, tt)
  all_stand m s around (and_part t ts) h i =
      let n : ℕ = around.result in
      then_on (Stands m s n) (AllStand m s n) (part_in s around t) _ (part_stands m s around t h i) (λ a x.
      let to_a : IsType a.1.scope n = later_type m s a.1 n x.0 i in
      then_on (AllStand m a.1 n) (AllStand m s n) (parts_in a.1 around ts) _ (all_stand m a.1 around ts x.0.lawful to_a) (λ b y.
      (continues_on m s a.1 b.1 x.0 y.0, (statement_stays (context m a.1) (context m b.1) (extends m a.1 b.1 x.0.lawful y.0) n to_a a.0 x.1, y.1))))

  pub case_stands : (m : ℕ) (s : State) (around : Around) (t : IntType) (labels : Labels) (c : CaseTree) → IsLawfulState m s → IsType s.scope around.result → OnAnswer (PartStands m s around.result) (case_in s around t labels c)
  case_stands m s around t labels (a_case e p) h i =
      then_on (λ (a : ℤ × State). Continues m s a.1) (PartStands m s around.result) (label_in s t labels.values e p) (λ a. Ok (a_label a.0 p, with_label labels a.0, a.1)) (label_continues m s t labels.values e p h) (λ a c. (c, tt))
  case_stands m s around t labels (a_default p) h i =
      then_any (PartStands m s around.result) (default_rules labels p) (λ l. Ok (a_default_label p, l, s)) (λ l. (continues_none m s h, tt))
  case_stands m s around t labels (a_case_step u) h i =
      then_on (Stands m s around.result) (PartStands m s around.result) (statement_in s around u) (λ a. Ok (a_labelled_step a.0, labels, a.1)) (statement_stands m s around u h i) (λ a c. c)

  pub parts_stand : (m : ℕ) (s : State) (around : Around) (t : IntType) (labels : Labels) (cs : CaseTrees) → IsLawfulState m s → IsType s.scope around.result → OnAnswer (PartsStand m s around.result) (cases_in s around t labels cs)
  parts_stand m s around t labels no_cases h i = (continues_none m s h, tt)
  parts_stand m s around t labels (and_case c cs) h i =
      let n : ℕ = around.result in
      then_on (PartStands m s n) (PartsStand m s n) (case_in s around t labels c) (λ a. then_with (cases_in a.2 around t a.1 cs) (λ b. Ok (and_typed_case a.0 b.0, b.1))) (case_stands m s around t labels c h i) (λ a x.
      let to_a : IsType a.2.scope n = later_type m s a.2 n x.0 i in
      then_on (PartsStand m a.2 n) (PartsStand m s n) (cases_in a.2 around t a.1 cs) (λ b. Ok (and_typed_case a.0 b.0, b.1)) (parts_stand m a.2 around t a.1 cs x.0.lawful to_a) (λ b y.
      (continues_on m s a.2 b.1 x.0 y.0, (part_stays (context m a.2) (context m b.1) (extends m a.2 b.1 x.0.lawful y.0) n to_a a.0 x.1, y.1))))
