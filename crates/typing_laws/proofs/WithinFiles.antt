-- Functions that are named, used and called are declared: for statements, functions and whole files.
use Rattle.std.proofs.Common.{◌≡◌, ℕ, ◌<◌, ◌≤◌, List, [], ◌∷◌, ◌++◌, length, map, refl, sym, ◌∙◌, ap, subst, arith, zero}
use Rattle.std.specs.Prelude.{ℤ, suc, Bool, true, false, cond, not, ◌&&◌, ◌||◌, All, is_some, slice_set, take, drop, Option, Some, None, option_map, Result, Ok, Err}
use Rattle.std.specs.List.{filter_map, cons_option}
use Rattle.std.proofs.lemmas.List.{length-append, length-set}
use Rattle.std.proofs.lemmas.List.Elements.{All-nil, All-cons, All-head, All-tail, All-append, All-push, All-set, All-take, All-weaker}
use Rattle.tm_typed.specs.tm_cint.declared.int_types.IntType.{IntType}
use Rattle.tm_typed.specs.tm_terms.declared.places.Place.{Place}
use Rattle.tm_typed.specs.tm_terms.declared.tokens.Name.{Name}
use Rattle.tm_typed.specs.tm_terms.declared.refusals.Kind.TheVariants as Kinds
use Rattle.tm_typed.specs.tm_terms.declared.refusals.Refusal.{Refusal}
use Rattle.tm_typed.specs.tm_terms.ExprTrees.{Tree, place_of}
use Rattle.tm_typed.specs.tm_trees.DeclarationTrees.{declared_name, DeclaratorTree, SpecifierTrees}
use Rattle.tm_typed.specs.tm_trees.FileTrees.{ForFirstTree, by_expression, by_declaration, StatementTree, a_block}
use Rattle.tm_typed.specs.tm_trees.FileTrees.{a_value, an_if, an_if_else, a_while, a_do, a_for, a_switch, a_break}
use Rattle.tm_typed.specs.tm_trees.FileTrees.{a_continue, a_return, a_lock, an_unlock, a_yield, PartTree, a_local}
use Rattle.tm_typed.specs.tm_trees.FileTrees.{a_step, PartTrees, no_parts, and_part, CaseTree, a_case, a_default}
use Rattle.tm_typed.specs.tm_trees.FileTrees.{a_case_step, CaseTrees, no_cases, and_case, ParameterTree}
use Rattle.tm_typed.specs.tm_trees.FileTrees.{a_named_parameter, an_unnamed_parameter, ParametersTree, only_void}
use Rattle.tm_typed.specs.tm_trees.FileTrees.{some_parameters, FunctionTree, ItemTree, a_declaration, a_function}
use Rattle.tm_typed.specs.tm_trees.FileTrees.{an_empty_item, a_mutex, a_task}
use Rattle.tm_typed.specs.declared.types.CType.{CType}
use Rattle.tm_typed.specs.declared.types.CType.TheVariants as Types
use Rattle.tm_typed.specs.declared.scopes.Named.{Named}
use Rattle.tm_typed.specs.declared.scopes.Named.TheVariants as Names
use Rattle.tm_typed.specs.declared.scopes.ObjectNumber.TheVariants as Objects
use Rattle.tm_typed.specs.declared.scopes.Binding.{Binding}
use Rattle.tm_typed.specs.declared.specifiers.Shape.{Shape}
use Rattle.tm_typed.specs.declared.files.LocalEntry.{LocalEntry}
use Rattle.tm_typed.specs.declared.uses.Use.{Use}
use Rattle.tm_typed.specs.declared.uses.Used.{Used}
use Rattle.tm_typed.specs.declared.uses.Used.TheVariants as Uses
use Rattle.tm_typed.specs.Scopes.{Scope, Function, named, named_here, ctype_of}
use Rattle.tm_typed.specs.States.{State, with_name, in_scope, entered}
use Rattle.tm_typed.specs.Evaluation.{typed_in, measured, folded_value}
use Rattle.tm_typed.specs.Refusals.{row, row_unless, then_with}
use Rattle.tm_typed.specs.TypedTrees.{RvalueTree}
use Rattle.tm_typed.specs.Operands.{valued}
use Rattle.tm_typed.specs.TypeRows.{with_type}
use Rattle.tm_typed.specs.Types.{void_number}
use Rattle.tm_typed.specs.Specifiers.{base}
use Rattle.tm_typed.specs.Declarators.{declared, declared_pointers}
use Rattle.tm_typed.specs.Structures.{declared_place, is_declared_here, specified}
use Rattle.tm_typed.specs.Declarations.{linked, file_declaration, local_declaration}
use Rattle.tm_typed.specs.TypedStatements.{TypedTree, TypedTrees, TypedCase, TypedCases, evaluates, declares, runs_block, branches, branches_else, loops_while, loops_do, loops_for, selects, locks, unlocks, yields, and_statement, a_label, a_default_label, a_labelled_step, and_typed_case}
use Rattle.tm_typed.specs.StatementRules.{Around, in_body, looping, switching, condition_rules, Selector, selector_rules, Labels, no_labels, with_label, label_rules, default_rules, break_rules, continue_rules, return_rules, return_value_rules, mutex_rules}
use Rattle.tm_typed.specs.StatementTyping.{value_in, condition_in, optional_value_in, optional_condition_in, return_in, selector_in, label_in, first_in, enter, leave, statement_in, part_in, parts_in, case_in, cases_in}
use Rattle.tm_typed.specs.WellTyped.{OnAnswer}
use Rattle.tm_typed.specs.Functions.{type_in, adjusted_type, adjusted, is_by_value, is_of_void, with_parameter, parameter_rules, no_name, first_place, parameter_in, listed_parameters, parameters_in, left_names, left_tags, to_file, entered_with, names_here, body_begins, Head, function, with_function, number_of, function_rules, function_used, called_function, called_since, FoundBody, body_in}
use Rattle.tm_typed.specs.Files.{FileState, first_file_state, declared_function, defined_function, typed_function, head_of, with_body, headed, with_state, function_in, priority_of, task_scope, with_task, named_task_in, task_in, mutex_in, item_in, items_in}
use Rattle.typing_laws.proofs.SameNames.{SameNames, same, type_same}
use Rattle.typing_laws.proofs.Steps.{then_on, then_any, from_answer}
use Rattle.typing_laws.proofs.Definitions.{IsKept, file_kept}
use Rattle.typing_laws.proofs.WithinUses.{IsNamedBelow, IsUsedBelow, IsBelow, named_below, IsWithin, Within, in_same_scope, typed_within, measured_within}
use Rattle.typing_laws.proofs.WithinDeclarations.{row_on, row_unless_on, rows_on, named_within, declared_within, pointers_within, specified_within}
use Rattle.typing_laws.proofs.WithinObjects.{file_declaration_within, local_declaration_within}

-- ## Parts of statements

value_within : (n : ℕ) (s : State) (t : Tree) → IsWithin n s → OnAnswer (Within n) (value_in s t)
value_within n s t h = then_on (Within n) (Within n) (typed_in s t) _ (typed_within n s t h) (λ a k. k)

condition_within : (n : ℕ) (s : State) (t : Tree) → IsWithin n s → OnAnswer (Within n) (condition_in s t)
condition_within n s t h =
    then_on (Within n) (Within n) (typed_in s t) _ (typed_within n s t h) (λ a k.
    then_any (Within n) (condition_rules (place_of t) (valued a.1.scope a.0)) (λ c. Ok (c, a.1)) (λ c. k))

optional_value_within : (n : ℕ) (s : State) (t : Option Tree) → IsWithin n s → OnAnswer (Within n) (optional_value_in s t)
optional_value_within n s None h = h
optional_value_within n s (Some t) h = then_on (Within n) (Within n) (value_in s t) _ (value_within n s t h) (λ a k. k)

optional_condition_within : (n : ℕ) (s : State) (t : Option Tree) → IsWithin n s → OnAnswer (Within n) (optional_condition_in s t)
optional_condition_within n s None h = h
optional_condition_within n s (Some t) h = then_on (Within n) (Within n) (condition_in s t) _ (condition_within n s t h) (λ a k. k)

return_within : (n : ℕ) (s : State) (around : Around) (t : Option Tree) (p : Place) → IsWithin n s → OnAnswer (Within n) (return_in s around t p)
return_within n s around None p h = then_any (Within n) (return_rules s.scope around.result p) (λ r. Ok (r, s)) (λ r. h)
return_within n s around (Some t) p h =
    then_on (Within n) (Within n) (typed_in s t) _ (typed_within n s t h) (λ a k.
    then_any (Within n) (return_value_rules a.1.scope around.result p (valued a.1.scope a.0)) (λ r. Ok (r, a.1)) (λ r. k))

selector_within : (n : ℕ) (s : State) (t : Tree) → IsWithin n s → OnAnswer (Within n) (selector_in s t)
selector_within n s t h =
    then_on (Within n) (Within n) (typed_in s t) _ (typed_within n s t h) (λ a k.
    then_any (Within n) (selector_rules (place_of t) (valued a.1.scope a.0) (valued a.1.scope a.0).sort) (λ x. Ok (x, a.1)) (λ x. k))

label_within : (n : ℕ) (s : State) (t : IntType) (labels : List ℤ) (e : Tree) (word : Place) → IsWithin n s → OnAnswer (Within n) (label_in s t labels e word)
label_within n s t labels e word h =
    then_on (Within n) (Within n) (typed_in s e) _ (typed_within n s e h) (λ a k.
    then_any (Within n) (label_rules t labels word (place_of e) (folded_value a.0)) (λ z. Ok (z, record a.1 { labels = a.1.labels ++ z ∷ [] }))
    (λ z. record { functions = k.functions; names = k.names; uses = k.uses }))

first_within : (n : ℕ) (s : State) (f : ForFirstTree) → IsWithin n s → OnAnswer (Within n) (first_in s f)
first_within n s (by_expression t) h = then_on (Within n) (Within n) (optional_value_in s t) _ (optional_value_within n s t h) (λ a k. k)
first_within n s (by_declaration d) h = then_on (Within n) (Within n) (local_declaration s d) _ (local_declaration_within n s d h) (λ a k. k)

-- ## Statements

entered_within : (n : ℕ) (s : State) → IsWithin n s → IsWithin n (enter s)
entered_within n s h = record { functions = h.functions; names = h.names; uses = h.uses }

left_within : (n : ℕ) (before s : State) → IsWithin n s → IsWithin n (leave before s)
left_within n before s h = record {
  functions = h.functions;
  names = All-take (λ b. IsNamedBelow n b.named) s.scope.outer_names s.scope.names h.names;
  uses = h.uses;
}

WithinCase : ℕ → TypedCase × Labels × State → Type 0
WithinCase n c = IsWithin n c.2

mutual
  unfolding WithinCase

  statement_within : (n : ℕ) (s : State) (around : Around) (t : StatementTree) → IsWithin n s → OnAnswer (Within n) (statement_in s around t)
  statement_within n s around (a_block parts) h =
      then_on (Within n) (Within n) (parts_in (enter s) around parts) _ (parts_within n (enter s) around parts (entered_within n s h)) (λ b k. left_within n s b.1 k)
  statement_within n s around (a_value t) h = then_on (Within n) (Within n) (optional_value_in s t) _ (optional_value_within n s t h) (λ a k. k)
  statement_within n s around (an_if c t) h =
      then_on (Within n) (Within n) (condition_in s c) _ (condition_within n s c h) (λ a k.
      then_on (Within n) (Within n) (statement_in a.1 around t) _ (statement_within n a.1 around t k) (λ b j. j))
  statement_within n s around (an_if_else c t u) h =
      then_on (Within n) (Within n) (condition_in s c) _ (condition_within n s c h) (λ a k.
      then_on (Within n) (Within n) (statement_in a.1 around t) _ (statement_within n a.1 around t k) (λ b j.
      then_on (Within n) (Within n) (statement_in b.1 around u) _ (statement_within n b.1 around u j) (λ d i. i)))
  statement_within n s around (a_while c t) h =
      then_on (Within n) (Within n) (condition_in s c) _ (condition_within n s c h) (λ a k.
      then_on (Within n) (Within n) (statement_in a.1 (looping around) t) _ (statement_within n a.1 (looping around) t k) (λ b j. j))
  statement_within n s around (a_do t c) h =
      then_on (Within n) (Within n) (statement_in s (looping around) t) _ (statement_within n s (looping around) t h) (λ a k.
      then_on (Within n) (Within n) (condition_in a.1 c) _ (condition_within n a.1 c k) (λ b j. j))
  statement_within n s around (a_for first c step t) h =
      then_on (Within n) (Within n) (first_in (enter s) first) _ (first_within n (enter s) first (entered_within n s h)) (λ a k.
      then_on (Within n) (Within n) (optional_condition_in a.1 c) _ (optional_condition_within n a.1 c k) (λ b j.
      then_on (Within n) (Within n) (optional_value_in b.1 step) _ (optional_value_within n b.1 step j) (λ d i.
      then_on (Within n) (Within n) (statement_in d.1 (looping around) t) _ (statement_within n d.1 (looping around) t i) (λ e g. left_within n s e.1 g))))
  statement_within n s around (a_switch t cases) h =
      then_on (Within n) (Within n) (selector_in s t) _ (selector_within n s t h) (λ a k.
      then_on (Within n) (Within n) (cases_in (enter a.1) (switching around) a.0.works_in no_labels cases) _
      (cases_within n (enter a.1) (switching around) a.0.works_in no_labels cases (entered_within n a.1 k)) (λ b j. left_within n a.1 b.1 j))
  statement_within n s around (a_break p) h = then_any (Within n) (break_rules around p) (λ r. Ok (r, s)) (λ r. h)
  statement_within n s around (a_continue p) h = then_any (Within n) (continue_rules around p) (λ r. Ok (r, s)) (λ r. h)
  statement_within n s around (a_return t p) h = return_within n s around t p h
  statement_within n s around (a_lock m q p) h = then_any (Within n) (mutex_rules q (named s.scope m)) (λ k. Ok (locks k p, s)) (λ k. h)
  statement_within n s around (an_unlock m q p) h = then_any (Within n) (mutex_rules q (named s.scope m)) (λ k. Ok (unlocks k p, s)) (λ k. h)
  statement_within n s around (a_yield p) h = h

  part_within : (n : ℕ) (s : State) (around : Around) (part : PartTree) → IsWithin n s → OnAnswer (Within n) (part_in s around part)
  part_within n s around (a_local d) h = then_on (Within n) (Within n) (local_declaration s d) _ (local_declaration_within n s d h) (λ a k. k)
  part_within n s around (a_step t) h = statement_within n s around t h

  parts_within : (n : ℕ) (s : State) (around : Around) (parts : PartTrees) → IsWithin n s → OnAnswer (Within n) (parts_in s around parts)
  parts_within n s around no_parts h = h
  parts_within n s around (and_part part parts) h =
      then_on (Within n) (Within n) (part_in s around part) _ (part_within n s around part h) (λ a k.
      then_on (Within n) (Within n) (parts_in a.1 around parts) _ (parts_within n a.1 around parts k) (λ b j. j))

  case_within : (n : ℕ) (s : State) (around : Around) (t : IntType) (labels : Labels) (c : CaseTree) → IsWithin n s → OnAnswer (WithinCase n) (case_in s around t labels c)
  case_within n s around t labels (a_case e p) h =
      then_on (Within n) (WithinCase n) (label_in s t labels.values e p) _ (label_within n s t labels.values e p h) (λ a k. k)
  case_within n s around t labels (a_default p) h = then_any (WithinCase n) (default_rules labels p) (λ l. Ok (a_default_label p, l, s)) (λ l. h)
  case_within n s around t labels (a_case_step u) h =
      then_on (Within n) (WithinCase n) (statement_in s around u) (λ a. Ok (a_labelled_step a.0, labels, a.1)) (statement_within n s around u h) (λ a k. k)

  cases_within : (n : ℕ) (s : State) (around : Around) (t : IntType) (labels : Labels) (cases : CaseTrees) → IsWithin n s → OnAnswer (Within n) (cases_in s around t labels cases)
  cases_within n s around t labels no_cases h = h
  cases_within n s around t labels (and_case part cases) h =
      then_on (WithinCase n) (Within n) (case_in s around t labels part) _ (case_within n s around t labels part h) (λ a k.
      then_on (Within n) (Within n) (cases_in a.2 around t a.1 cases) _ (cases_within n a.2 around t a.1 cases k) (λ b j. j))

pub body_within : (n : ℕ) (s : State) (around : Around) (parts : PartTrees) → IsWithin n s → OnAnswer (Within n) (parts_in s around parts)
body_within = parts_within

-- ## Parameters

type_in_within : (n : ℕ) (s : State) (t : CType) → IsWithin n s → IsWithin n (in_scope s (type_in s.scope t).1)
type_in_within n s t h = in_same_scope n s (with_type s.scope t) (type_same s.scope t) h

adjusted_type_within : (n : ℕ) (s : State) (shape : Shape) (t : CType) → IsWithin n s → IsWithin n (in_scope s (adjusted_type s.scope shape t).1)
adjusted_type_within n s shape (Types.Array element m) h = type_in_within n s (Types.Pointer (record shape.of { number = element })) h
adjusted_type_within n s shape Types.Void h = h
adjusted_type_within n s shape (Types.Int t) h = h
adjusted_type_within n s shape (Types.Pointer q) h = h
adjusted_type_within n s shape (Types.Struct k) h = h

adjusted_within : (n : ℕ) (s : State) (shape : Shape) → IsWithin n s → IsWithin n (in_scope s (adjusted s.scope shape).1)
adjusted_within n s shape h = by_open shape.is_open
  where
    by_open : (b : Bool) → IsWithin n (in_scope s (cond b (type_in s.scope (Types.Pointer shape.of)) (adjusted_type s.scope shape (ctype_of s.scope shape.of.number))).1)
    by_open true = type_in_within n s (Types.Pointer shape.of) h
    by_open false = adjusted_type_within n s shape (ctype_of s.scope shape.of.number) h

added_within : (n : ℕ) (s : State) (is_named : Bool) (entry : LocalEntry) → IsWithin n s → IsWithin n (with_parameter s is_named entry)
added_within n s true entry h =
    let k = named_within n s entry.name (Names.Object (Objects.Local (length s.locals)) entry.of) tt h in
    record { functions = k.functions; names = k.names; uses = k.uses }
added_within n s false entry h = record { functions = h.functions; names = h.names; uses = h.uses }

parameter_by_within : (n : ℕ) (s : State) (is_named : Bool) (m : Name) (p : Place) (shape : Shape) → IsWithin n s → OnAnswer (IsWithin n) (parameter_rules s is_named m p shape)
parameter_by_within n s is_named m p shape h =
    let a = adjusted s.scope shape in
    rows_on (IsWithin n) (shape.left_out || is_by_value s.scope shape) (is_named && is_declared_here s m) (shape.mismatch || is_of_void s.scope shape) Kinds.Unsupported Kinds.Redeclared Kinds.Mismatch p
    (Ok (with_parameter (in_scope s a.1) is_named (record { name = m; place = p; of = a.0 })))
    (added_within n (in_scope s a.1) is_named (record { name = m; place = p; of = a.0 }) (adjusted_within n s shape h))

parameter_within : (n : ℕ) (s : State) (p : ParameterTree) → IsWithin n s → OnAnswer (IsWithin n) (parameter_in s p)
parameter_within n s (a_named_parameter specifiers d) h =
    then_on (Within n) (IsWithin n) (specified s specifiers) _ (specified_within n s specifiers h) (λ m k.
    then_on (Within n) (IsWithin n) (declared m.1 (base m.0) d) _ (declared_within n m.1 (base m.0) d k) (λ a j.
    parameter_by_within n a.1 true (declared_name d) (declared_place d) a.0 j))
parameter_within n s (an_unnamed_parameter specifiers pointers) h =
    then_on (Within n) (IsWithin n) (specified s specifiers) _ (specified_within n s specifiers h) (λ m k.
    let a = declared_pointers m.1 (base m.0) pointers in
    parameter_by_within n a.1 false no_name (first_place specifiers) a.0 (pointers_within n m.1 (base m.0) pointers k))

listed_within : (n : ℕ) (s : State) (ps : List ParameterTree) → IsWithin n s → OnAnswer (IsWithin n) (listed_parameters s ps)
listed_within n s [] h = h
listed_within n s (p ∷ ps) h = then_on (IsWithin n) (IsWithin n) (parameter_in s p) _ (parameter_within n s p h) (λ t k. listed_within n t ps k)

parameters_within : (n : ℕ) (s : State) (ps : ParametersTree) → IsWithin n s → OnAnswer (IsWithin n) (parameters_in s ps)
parameters_within n s only_void h = h
parameters_within n s (some_parameters ps) h = listed_within n s ps h

-- ## Bodies

-- what is within the first n functions is within more
more_within : (n : ℕ) (s t : State) → t.scope.names ≡ s.scope.names → t.uses ≡ s.uses → length t.scope.functions ≡ suc n → IsWithin n s → IsWithin (suc n) t
more_within n s t names uses functions h = record {
  functions = functions;
  names =
      let P : List Binding → Type 0 = All (λ b. IsNamedBelow (suc n) b.named) in
      subst P (sym names) (All-weaker (λ b. IsNamedBelow n b.named) (λ b. IsNamedBelow (suc n) b.named) (λ b k. named_more n b.named k) s.scope.names h.names);
  uses =
      let P : List Use → Type 0 = All (λ u. IsUsedBelow (suc n) u.used) in
      subst P (sym uses) (All-weaker (λ u. IsUsedBelow n u.used) (λ u. IsUsedBelow (suc n) u.used) (λ u k. used_more n u.used k) s.uses h.uses);
}
  where
    named_more : (n : ℕ) (x : Named) → IsNamedBelow n x → IsNamedBelow (suc n) x
    named_more n (Names.Function k) l = omega (arith, l)
    named_more n (Names.Object o q) l = tt
    named_more n (Names.Alias q) l = tt
    named_more n Names.Task l = tt
    named_more n (Names.Mutex m) l = tt
    named_more n (Names.Enumerator z) l = tt

    used_more : (n : ℕ) (u : Used) → IsUsedBelow n u → IsUsedBelow (suc n) u
    used_more n (Uses.Function k) l = omega (arith, l)
    used_more n (Uses.Static k) l = tt

pub AreBelow : ℕ → List ℕ → Type 0
AreBelow n ks = All (λ k. k < n) ks

called_below : (n : ℕ) (uses : List Use) → All (λ u. IsUsedBelow n u.used) uses → AreBelow n (filter_map called_function uses)
unfolding AreBelow
called_below n [] h = All-nil (λ k. k < n)
called_below n (u ∷ uses) h =
    by_use u.used (All-head (λ u. IsUsedBelow n u.used) u uses h) (called_below n uses (All-tail (λ u. IsUsedBelow n u.used) u uses h))
  where
    by_use : (x : Used) → IsUsedBelow n x → All (λ k. k < n) (filter_map called_function uses) → All (λ k. k < n) (cons_option (function_used x) (filter_map called_function uses))
    by_use (Uses.Function k) l t = All-cons (λ k. k < n) k (filter_map called_function uses) l t
    by_use (Uses.Static k) l t = t

All-drop : (n m : ℕ) (uses : List Use) → All (λ u. IsUsedBelow n u.used) uses → All (λ u. IsUsedBelow n u.used) (drop m uses)
All-drop n zero uses h = h
All-drop n (suc m) [] h = h
All-drop n (suc m) (u ∷ uses) h = All-drop n m uses (All-tail (λ u. IsUsedBelow n u.used) u uses h)

-- a body that is found: its state has n functions, and it calls these alone
record IsFound (n : ℕ) (b : FoundBody) : Type 0 where
  state : IsWithin n b.state
  calls : AreBelow n b.calls

found_within : (n : ℕ) (s : State) (result : ℕ) (parts : PartTrees) → IsWithin n s → OnAnswer (IsFound n) (body_in s result parts)
found_within n s result parts h =
    then_on (Within n) (IsFound n) (parts_in s (in_body result) parts) _ (parts_within n s (in_body result) parts h) (λ b k. record {
      state = record { functions = k.functions; names = k.names; uses = k.uses };
      calls = called_below n (drop (length s.uses) b.1.uses) (All-drop n (length s.uses) b.1.uses k.uses);
    })

-- ## Files

-- the file has n functions, and all that are named, used, called or defined are of these
pub record IsNumbered (n : ℕ) (f : FileState) : Type 0 where
  pub functions : length f.functions ≡ n
  pub state : IsWithin n f.state
  pub callees : All (AreBelow n) f.calls
  pub definitions : AreBelow n f.definitions

-- .. whatever n is
abbrev pub AreNumbered : FileState → Type 0
AreNumbered f = IsNumbered (length f.functions) f

from_number : (n : ℕ) (f : FileState) → IsNumbered n f → AreNumbered f
from_number n f h = let P : ℕ → Type 0 = λ m. IsNumbered m f in subst P (sym h.functions) h

more_below : (n : ℕ) (ks : List ℕ) → AreBelow n ks → AreBelow (suc n) ks
unfolding AreBelow
more_below n ks h = All-weaker (λ k. k < n) (λ k. k < suc n) (λ k l. omega (arith, l)) ks h

more_callees : (n : ℕ) (calls : List (List ℕ)) → All (AreBelow n) calls → All (AreBelow (suc n)) calls
more_callees n calls h = All-weaker (AreBelow n) (AreBelow (suc n)) (λ ks k. more_below n ks k) calls h

no_calls : (n : ℕ) → AreBelow n []
unfolding AreBelow
no_calls n = All-nil (λ k. k < n)

one_more : (n : ℕ) (ks : List ℕ) (k : ℕ) → AreBelow n ks → k < n → AreBelow n (ks ++ k ∷ [])
unfolding AreBelow
one_more n ks k h l = All-push (λ i. i < n) ks k h l

number_within : (n : ℕ) (f : FileState) (s : State) → IsNumbered n f → IsWithin n s → IsNumbered n (with_state f s)
number_within n f s h k = record { functions = h.functions; state = k; callees = h.callees; definitions = h.definitions }

AreNamesBelow : ℕ → List Binding → Type 0
AreNamesBelow n names = All (λ b. IsNamedBelow n b.named) names

dropped_names : (n m : ℕ) (names : List Binding) → AreNamesBelow n names → AreNamesBelow n (drop m names)
unfolding AreNamesBelow
dropped_names n zero names h = h
dropped_names n (suc m) [] h = h
dropped_names n (suc m) (b ∷ names) h = dropped_names n m names (All-tail (λ b. IsNamedBelow n b.named) b names h)

-- ## Functions

more_functions : (n : ℕ) (s : State) (fs : List Function) → length fs ≡ suc n → IsWithin n s → IsWithin (suc n) (in_scope s (record s.scope { functions = fs }))
more_functions n s fs e h = more_within n s (in_scope s (record s.scope { functions = fs })) refl refl e h

new_head : (n : ℕ) (s : State) (h : Head) → IsWithin n s → IsWithin (suc n) (in_scope s (with_function s.scope h None))
new_head n s h k =
    let new : Function = record { result = h.result; parameters = h.parameters; defined = h.is_definition } in
    let fs = s.scope.functions ++ new ∷ [] in
    let more = more_functions n s fs (omega (arith, k.functions, length-append s.scope.functions (new ∷ []))) k in
    named_within (suc n) (in_scope s (record s.scope { functions = fs })) h.name (Names.Function (length s.scope.functions)) (omega (arith, k.functions)) more

old_head : (n : ℕ) (s : State) (h : Head) (j : ℕ) → IsWithin n s → IsWithin n (in_scope s (with_function s.scope h (Some (Names.Function j))))
old_head n s h j k = by_case h.is_definition
  where
    by_case : (b : Bool) → IsWithin n (in_scope s (cond b (record s.scope { functions = slice_set s.scope.functions j (record (function s.scope j) { defined = true }) }) s.scope))
    by_case true = record { functions = length-set s.scope.functions j (record (function s.scope j) { defined = true }) ∙ k.functions; names = k.names; uses = k.uses }
    by_case false = k

-- a function is declared, and its number is one of those of the file
record IsDeclared (f : FileState) (j : ℕ) (names : List Binding) : Type 0 where
  n : ℕ
  numbered : IsNumbered n f
  within : j < n
  below : AreNamesBelow n names

named_more : (n : ℕ) (names : List Binding) → AreNamesBelow n names → AreNamesBelow (suc n) names
unfolding AreNamesBelow
named_more n names h = All-weaker (λ b. IsNamedBelow n b.named) (λ b. IsNamedBelow (suc n) b.named) (λ b k. one b.named k) names h
  where
    one : (x : Named) → IsNamedBelow n x → IsNamedBelow (suc n) x
    one (Names.Function k) l = omega (arith, l)
    one (Names.Object o q) l = tt
    one (Names.Alias q) l = tt
    one Names.Task l = tt
    one (Names.Mutex m) l = tt
    one (Names.Enumerator z) l = tt

new_declared : (n : ℕ) (f : FileState) (h : Head) (names : List Binding) → IsNumbered n f → AreNamesBelow n names
    → IsDeclared (declared_function f (in_scope f.state (with_function f.state.scope h None)) h None) (length f.state.scope.functions) names
new_declared n f h names k ns = record {
  n = suc n;
  numbered = record {
    functions = omega (arith, k.functions, length-append f.functions (record { name = h.name; place = h.place; result = h.result; parameters = h.parameters; body = None } ∷ []));
    state = new_head n f.state h k.state;
    callees = All-push (AreBelow (suc n)) f.calls [] (more_callees n f.calls k.callees) (no_calls (suc n));
    definitions = more_below n f.definitions k.definitions;
  };
  within = omega (arith, k.state.functions);
  below = named_more n names ns;
}

declared_numbered : (n : ℕ) (f : FileState) (h : Head) (names : List Binding) (already : Option Named) → IsNumbered n f → AreNamesBelow n names → IsBelow n already
    → IsDeclared (declared_function f (in_scope f.state (with_function f.state.scope h already)) h already) (number_of f.state.scope already) names
declared_numbered n f h names (Some (Names.Function j)) k ns l = record {
  n = n;
  numbered = record { functions = k.functions; state = old_head n f.state h j k.state; callees = k.callees; definitions = k.definitions };
  within = l;
  below = ns;
}
declared_numbered n f h names None k ns l = new_declared n f h names k ns
declared_numbered n f h names (Some (Names.Object o q)) k ns l = new_declared n f h names k ns
declared_numbered n f h names (Some (Names.Alias q)) k ns l = new_declared n f h names k ns
declared_numbered n f h names (Some Names.Task) k ns l = new_declared n f h names k ns
declared_numbered n f h names (Some (Names.Mutex m)) k ns l = new_declared n f h names k ns
declared_numbered n f h names (Some (Names.Enumerator z)) k ns l = new_declared n f h names k ns

defined_numbered : (n : ℕ) (f : FileState) (j : ℕ) (p : Place) (b : FoundBody) (s : State) → IsNumbered n f → j < n → AreBelow n b.calls → IsWithin n s → IsNumbered n (defined_function f j p b s)
defined_numbered n f j p b s k l calls h = record {
  functions = length-set f.functions j (record (typed_function f j) { place = p; body = Some b.body }) ∙ k.functions;
  state = h;
  callees = All-set (AreBelow n) f.calls j b.calls calls k.callees;
  definitions = one_more n f.definitions j k.definitions l;
}

to_file_within : (n : ℕ) (s : State) → IsWithin n s → IsWithin n (to_file s)
to_file_within n s h = record {
  functions = h.functions;
  names = All-take (λ b. IsNamedBelow n b.named) s.scope.outer_names s.scope.names h.names;
  uses = h.uses;
}

body_numbered : (f : FileState) (names : List Binding) (j : ℕ) (h : Head) (body : Option PartTrees) → IsDeclared f j names → OnAnswer AreNumbered (with_body f names j h body)
unfolding AreNamesBelow
body_numbered f names j h None d =
    let k = d.numbered in
    from_number d.n (with_state f (body_begins (in_scope f.state (left_tags f.state.scope))))
    (number_within d.n f (body_begins (in_scope f.state (left_tags f.state.scope))) k (record { functions = k.state.functions; names = k.state.names; uses = k.state.uses }))
body_numbered f names j h (Some parts) d =
    let n = d.n in
    let k = d.numbered in
    let begun : State = in_scope f.state (entered_with names f.state.scope) in
    let within : IsWithin n begun = record {
      functions = k.state.functions;
      names = All-append (λ b. IsNamedBelow n b.named) f.state.scope.names names k.state.names d.below;
      uses = k.state.uses;
    } in
    then_on (IsFound n) AreNumbered (body_in begun h.result parts) (λ b. Ok (defined_function f j h.place b (to_file b.state))) (found_within n begun h.result parts within) (λ b i.
    from_number n (defined_function f j h.place b (to_file b.state)) (defined_numbered n f j h.place b (to_file b.state) k d.within i.calls (to_file_within n b.state i.state)))

headed_numbered : (n : ℕ) (f : FileState) (names : List Binding) (h : Head) (body : Option PartTrees) → IsNumbered n f → AreNamesBelow n names → OnAnswer AreNumbered (headed f names h body)
unfolding AreNamesBelow
headed_numbered n f names h body k ns =
    let already : Option Named = named_here f.state.scope h.name in
    let below : IsBelow n already = named_below n h.name (drop f.state.scope.outer_names f.state.scope.names) (dropped_names n f.state.scope.outer_names f.state.scope.names k.state.names) in
    body_numbered (declared_function f (in_scope f.state (with_function f.state.scope h already)) h already) names (number_of f.state.scope already) h body
    (declared_numbered n f h names already k ns below)

function_numbered : (n : ℕ) (f : FileState) (g : FunctionTree) → IsNumbered n f → OnAnswer AreNumbered (function_in f g)
unfolding AreNamesBelow
function_numbered n f g k =
    then_on (Within n) AreNumbered (specified f.state g.specifiers) _ (specified_within n f.state g.specifiers k.state) (λ m i.
    let result = declared_pointers m.1 (base m.0) g.pointers in
    let before = pointers_within n m.1 (base m.0) g.pointers i in
    then_on (IsWithin n) AreNumbered (parameters_in (enter (body_begins result.1)) g.parameters) _
    (parameters_within n (enter (body_begins result.1)) g.parameters (record { functions = before.functions; names = before.names; uses = before.uses })) (λ s j.
    let h = head_of g result.0 s.locals in
    let t = in_scope s (left_names s.scope) in
    then_any AreNumbered (function_rules t h m.0.storage result.0) (λ u. headed (with_state f t) (names_here s.scope) h g.body) (λ u.
    headed_numbered n (with_state f t) (names_here s.scope) h g.body
    (number_within n f t k (record { functions = j.functions; names = All-take (λ b. IsNamedBelow n b.named) s.scope.outer_names s.scope.names j.names; uses = j.uses }))
    (dropped_names n s.scope.outer_names s.scope.names j.names))))

-- ## Tasks and mutexes

task_scope_within : (n : ℕ) (s : State) (m : Name) → IsWithin n s → IsWithin (suc n) (in_scope s (task_scope s.scope m))
task_scope_within n s m k =
    let new : Function = record { result = void_number; parameters = []; defined = true } in
    let fs = s.scope.functions ++ new ∷ [] in
    let more = more_functions n s fs (omega (arith, k.functions, length-append s.scope.functions (new ∷ []))) k in
    named_within (suc n) (in_scope s (record s.scope { functions = fs })) m Names.Task tt more

task_added : (n : ℕ) (f : FileState) (priority : ℕ) (m : Name) (q : Place) (b : FoundBody) (s : State) → IsNumbered n f → AreBelow (suc n) b.calls → IsWithin (suc n) s → IsNumbered (suc n) (with_task f priority m q b s)
task_added n f priority m q b s k calls h = record {
  functions = omega (arith, k.functions, length-append f.functions (record { name = m; place = q; result = void_number; parameters = []; body = Some b.body } ∷ []));
  state = h;
  callees = All-push (AreBelow (suc n)) f.calls b.calls (more_callees n f.calls k.callees) calls;
  definitions = one_more (suc n) f.definitions (length f.functions) (more_below n f.definitions k.definitions) (omega (arith, k.functions));
}

named_task_numbered : (n : ℕ) (f : FileState) (priority : ℕ) (m : Name) (q : Place) (parts : PartTrees) → IsNumbered n f → OnAnswer AreNumbered (named_task_in f priority m q parts)
named_task_numbered n f priority m q parts k =
    let begun = task_scope_within n f.state m k.state in
    let body : State = enter (body_begins (in_scope f.state (task_scope f.state.scope m))) in
    let last : FoundBody → Result FileState Refusal = λ b. Ok (with_task f priority m q b (to_file b.state)) in
    row_on AreNumbered (is_declared_here f.state m || is_some (linked f.state m)) Kinds.Redeclared q (then_with (body_in body void_number parts) last)
    (then_on (IsFound (suc n)) AreNumbered (body_in body void_number parts) last
    (found_within (suc n) body void_number parts (record { functions = begun.functions; names = begun.names; uses = begun.uses })) (λ b i.
    from_number (suc n) (with_task f priority m q b (to_file b.state)) (task_added n f priority m q b (to_file b.state) k i.calls (to_file_within (suc n) b.state i.state))))

task_numbered : (n : ℕ) (f : FileState) (t : Tree) (m : Name) (q : Place) (parts : PartTrees) (p : Place) → IsNumbered n f → OnAnswer AreNumbered (task_in f t m q parts p)
task_numbered n f t m q parts p k =
    then_on (Within n) AreNumbered (measured f.state t) _ (measured_within n f.state t k.state) (λ a j.
    row_unless_on AreNumbered (priority_of (folded_value a.0)) Kinds.BadTask p (λ priority. named_task_in (with_state f a.1) priority m q parts) (λ priority.
    named_task_numbered n (with_state f a.1) priority m q parts (number_within n f a.1 k j)))

mutex_numbered : (n : ℕ) (f : FileState) (m : Name) (p : Place) → IsNumbered n f → OnAnswer AreNumbered (mutex_in f m p)
mutex_numbered n f m p k =
    row_on AreNumbered (is_declared_here f.state m) Kinds.Redeclared p
    (Ok (record f { state = in_scope f.state (with_name m (Names.Mutex (length f.mutexes)) f.state.scope); mutexes = f.mutexes ++ record { name = m; place = p } ∷ [] }))
    (from_number n _ (record {
      functions = k.functions;
      state = named_within n f.state m (Names.Mutex (length f.mutexes)) tt k.state;
      callees = k.callees;
      definitions = k.definitions;
    }))

-- ## Items

item_numbered : (f : FileState) (i : ItemTree) → AreNumbered f → OnAnswer AreNumbered (item_in f i)
item_numbered f (a_declaration d) k =
    then_on (IsWithin (length f.functions)) AreNumbered (file_declaration f.state d) (λ s. Ok (with_state f s)) (file_declaration_within (length f.functions) f.state d k.state)
    (λ s j. number_within (length f.functions) f s k j)
item_numbered f (a_function g) k = function_numbered (length f.functions) f g k
item_numbered f an_empty_item k = k
item_numbered f (a_mutex m p) k = mutex_numbered (length f.functions) f m p k
item_numbered f (a_task t m q parts p) k = task_numbered (length f.functions) f t m q parts p k

items_numbered : (f : FileState) (is : List ItemTree) → AreNumbered f → OnAnswer AreNumbered (items_in f is)
items_numbered f [] k = k
items_numbered f (i ∷ is) k = then_on AreNumbered AreNumbered (item_in f i) (λ g. items_in g is) (item_numbered f i k) (λ g. items_numbered g is)

first_numbered : AreNumbered first_file_state
unfolding AreBelow
first_numbered = record {
  functions = refl;
  state = record {
    functions = refl;
    names = All-nil (λ b. IsNamedBelow 0 b.named);
    uses = All-nil (λ u. IsUsedBelow 0 u.used);
  };
  callees = All-nil (AreBelow 0);
  definitions = All-nil (λ k. k < 0);
}

pub file_numbered : (items : List ItemTree) → OnAnswer AreNumbered (items_in first_file_state items)
file_numbered items = items_numbered first_file_state items first_numbered

-- ## What the calls of a file are

module _ (items : List ItemTree) (f : FileState) (typed : items_in first_file_state items ≡ Ok f) where
  numbered : AreNumbered f
  numbered = from_answer AreNumbered (items_in first_file_state items) f (file_numbered items) typed

  kept : IsKept f
  kept = from_answer IsKept (items_in first_file_state items) f (file_kept items) typed

  -- a call is of one of the functions
  pub calls_within : All (λ callees. All (λ g. g < length f.calls) callees) f.calls
  unfolding AreBelow
  calls_within = let P : ℕ → Type 0 = λ n. All (λ callees. All (λ g. g < n) callees) f.calls in subst P (sym kept.same) numbered.callees

  -- and so is a definition
  pub definitions_within : All (λ k. k < length f.calls) f.definitions
  unfolding AreBelow
  definitions_within = let P : ℕ → Type 0 = λ n. All (λ k. k < n) f.definitions in subst P (sym kept.same) numbered.definitions
