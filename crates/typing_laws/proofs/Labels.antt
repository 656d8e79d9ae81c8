-- The labels of a `switch` differ, and lie in the type in which it compares.
use Rattle.std.proofs.Common.{◌≡◌, refl, sym, subst, rules}
use Rattle.tm_typed.specs.TypeNames.{is_void}
use Rattle.tm_typed.specs.tm_cint.declared.int_types.IntType.TheVariants as Ints
use Rattle.tm_typed.specs.tm_cint.Conversions.{is_zero}
use Rattle.tm_typed.proofs.low.tm_cint.Values.{wrapped-in}
use Rattle.std.specs.Prelude.{ℤ, pos, List, [], ◌∷◌, ◌++◌, Bool, true, false, cond, not, ◌||◌, Option, Some, None, Result, Ok, Err}
use Rattle.tm_typed.specs.tm_cint.declared.int_types.IntType.{IntType}
use Rattle.tm_typed.specs.tm_cint.IntTypes.{IsIn}
use Rattle.tm_typed.specs.tm_cint.Conversions.{converted_value}
use Rattle.tm_typed.specs.tm_terms.declared.places.Place.{Place}
use Rattle.tm_typed.specs.tm_terms.declared.refusals.Kind.TheVariants as Kinds
use Rattle.tm_typed.specs.tm_terms.declared.refusals.Refusal.{Refusal}
use Rattle.tm_typed.specs.tm_terms.ExprTrees.{Tree, place_of}
use Rattle.tm_typed.specs.tm_trees.FileTrees.{ForFirstTree, by_expression, by_declaration, StatementTree, a_block}
use Rattle.tm_typed.specs.tm_trees.FileTrees.{a_value, an_if, an_if_else, a_while, a_do, a_for, a_switch, a_break}
use Rattle.tm_typed.specs.tm_trees.FileTrees.{a_continue, a_return, a_lock, an_unlock, a_yield, PartTree, a_local}
use Rattle.tm_typed.specs.tm_trees.FileTrees.{a_step, PartTrees, no_parts, and_part, CaseTree, a_case, a_default}
use Rattle.tm_typed.specs.tm_trees.FileTrees.{a_case_step, CaseTrees, no_cases, and_case}
use Rattle.tm_typed.specs.Scopes.{named, ctype_of}
use Rattle.tm_typed.specs.TypedTrees.{RvalueTree}
use Rattle.tm_typed.specs.Refusals.{then_with, row, row_unless, refused}
use Rattle.tm_typed.specs.Operands.{valued, given, is_structure}
use Rattle.tm_typed.specs.States.{State}
use Rattle.tm_typed.specs.Evaluation.{typed_in, folded_value}
use Rattle.tm_typed.specs.Declarations.{local_declaration}
use Rattle.tm_typed.specs.WellTyped.{OnAnswer}
use Rattle.tm_typed.specs.TypedStatements.{TypedTree, evaluates, declares, runs_block, branches, branches_else, loops_while, loops_do, loops_for, selects, breaks, continues, returns, locks, unlocks, yields, TypedTrees, no_statements, and_statement, TypedCase, a_label, a_default_label, a_labelled_step, TypedCases, no_typed_cases, and_typed_case}
use Rattle.tm_typed.specs.StatementRules.{Around, looping, switching, Labels, no_labels, with_label, is_labelled, label_rules, default_rules, break_rules, continue_rules, return_rules, return_value_rules, mutex_rules}
use Rattle.tm_typed.specs.StatementTyping.{value_in, condition_in, optional_value_in, optional_condition_in, return_in, selector_in, label_in, first_in, enter, leave, statement_in, part_in, parts_in, case_in, cases_in}
use Rattle.typing_laws.specs.Placement.{HaveLabels, HaveAllLabels, HaveCaseLabels, AreDifferent}
use Rattle.typing_laws.proofs.Steps.{then_on, then_any, from_answer}

abbrev Labelled : TypedTree × State → Type 0
Labelled a = HaveLabels a.0

-- ## One label

truth_in_type : (b : Bool) → IsIn Ints.Bool (cond b (pos 0) (pos 1))
truth_in_type true = record { at_least = search rules; at_most = search rules }
truth_in_type false = record { at_least = search rules; at_most = search rules }

-- a converted value is one of its type
converted_in_type : (v : ℤ) (t : IntType) → IsIn t (converted_value v t)
converted_in_type v Ints.Bool = truth_in_type (is_zero v)
converted_in_type v Ints.Char = wrapped-in Ints.Char v
converted_in_type v Ints.UChar = wrapped-in Ints.UChar v
converted_in_type v Ints.Short = wrapped-in Ints.Short v
converted_in_type v Ints.UShort = wrapped-in Ints.UShort v
converted_in_type v Ints.Int = wrapped-in Ints.Int v
converted_in_type v Ints.UInt = wrapped-in Ints.UInt v
converted_in_type v Ints.Long = wrapped-in Ints.Long v
converted_in_type v Ints.ULong = wrapped-in Ints.ULong v
converted_in_type v Ints.LLong = wrapped-in Ints.LLong v
converted_in_type v Ints.ULLong = wrapped-in Ints.ULLong v

abbrev IsNew : IntType → List ℤ → ℤ → Type 0
IsNew t labels z = IsIn t z × (is_labelled labels z ≡ false)

unless_labelled : (t : IntType) (labels : List ℤ) (word : Place) (z : ℤ) (b : Bool) → is_labelled labels (converted_value z t) ≡ b → OnAnswer (IsNew t labels) (row b Kinds.Redeclared word (Ok (converted_value z t)))
unless_labelled t labels word z true e = tt
unless_labelled t labels word z false e = (converted_in_type z t, e)

label_new : (t : IntType) (labels : List ℤ) (word p : Place) (value : Option ℤ) → OnAnswer (IsNew t labels) (label_rules t labels word p value)
label_new t labels word p None = tt
label_new t labels word p (Some z) = unless_labelled t labels word z (is_labelled labels (converted_value z t)) refl

label_in_new : (s : State) (t : IntType) (labels : List ℤ) (e : Tree) (word : Place) → OnAnswer (λ (a : ℤ × State). IsNew t labels a.0) (label_in s t labels e word)
label_in_new s t labels e word =
    then_any (λ (a : ℤ × State). IsNew t labels a.0) (typed_in s e) (λ a. then_with (label_rules t labels word (place_of e) (folded_value a.0)) (λ z. Ok (z, record a.1 { labels = a.1.labels ++ z ∷ [] }))) (λ a.
    then_on (IsNew t labels) (λ (a : ℤ × State). IsNew t labels a.0) (label_rules t labels word (place_of e) (folded_value a.0)) (λ z. Ok (z, record a.1 { labels = a.1.labels ++ z ∷ [] })) (label_new t labels word (place_of e) (folded_value a.0)) (λ z h. h))

-- what one part of a `switch` is behind these labels, and the labels behind it
abbrev Stands : IntType → Labels → TypedCase → Labels → Type 0
Stands t before (a_label z p) after = IsIn t z × (is_labelled before.values z ≡ false) × (after ≡ with_label before z)
Stands t before (a_default_label p) after = (before.has_default ≡ false) × (after ≡ record before { has_default = true })
Stands t before (a_labelled_step s) after = HaveLabels s × (after ≡ before)

abbrev PartStands : IntType → Labels → TypedCase × Labels × State → Type 0
PartStands t before a = Stands t before a.0 a.1

abbrev DefaultStands : Labels → Labels → Type 0
DefaultStands before after = (before.has_default ≡ false) × (after ≡ record before { has_default = true })

default_new : (before : Labels) (word : Place) (b : Bool) → before.has_default ≡ b → OnAnswer (DefaultStands before) (row b Kinds.Redeclared word (Ok (record before { has_default = true })))
default_new before word true e = tt
default_new before word false e = (e, refl)

different_more : (t : IntType) (before after : Labels) (c : TypedCase) (cs : TypedCases) → Stands t before c after → AreDifferent t after cs → AreDifferent t before (and_typed_case c cs)
different_more t before after (a_label z p) cs h d = let P : Labels → Type 0 = λ l. AreDifferent t l cs in (h.0, h.1, subst P h.2 d)
different_more t before after (a_default_label p) cs h d = let P : Labels → Type 0 = λ l. AreDifferent t l cs in (h.0, subst P h.1 d)
different_more t before after (a_labelled_step s) cs h d = let P : Labels → Type 0 = λ l. AreDifferent t l cs in subst P h.1 d

labels_more : (t : IntType) (before after : Labels) (c : TypedCase) (cs : TypedCases) → Stands t before c after → HaveCaseLabels cs → HaveCaseLabels (and_typed_case c cs)
labels_more t before after (a_label z p) cs h d = d
labels_more t before after (a_default_label p) cs h d = d
labels_more t before after (a_labelled_step s) cs h d = (h.0, d)

-- ## Statements

first_labelled : (s : State) (f : ForFirstTree) → OnAnswer Labelled (first_in s f)
first_labelled s (by_expression t) = then_any Labelled (optional_value_in s t) (λ a. Ok (evaluates a.0, a.1)) (λ a. tt)
first_labelled s (by_declaration d) = then_any Labelled (local_declaration s d) (λ a. Ok (declares a.0, a.1)) (λ a. tt)

abbrev AnyPlain : TypedTree → Type 0
AnyPlain r = HaveLabels r

plain_jump : (p : Place) (b : Bool) (r : TypedTree) → HaveLabels r → OnAnswer AnyPlain (row b Kinds.Mismatch p (Ok r))
plain_jump p true r h = tt
plain_jump p false r h = h

given_return : (p : Place) (e : Option RvalueTree) → OnAnswer AnyPlain (row_unless e Kinds.Mismatch p (λ x. Ok (returns (Some x))))
given_return p None = tt
given_return p (Some e) = tt

value_return : (p : Place) (b : Bool) (e : Option RvalueTree) → OnAnswer AnyPlain (row b Kinds.Unsupported p (row_unless e Kinds.Mismatch p (λ x. Ok (returns (Some x)))))
value_return p true e = tt
value_return p false e = given_return p e

return_labelled : (s : State) (around : Around) (t : Option Tree) (p : Place) → OnAnswer Labelled (return_in s around t p)
return_labelled s around None p = then_on AnyPlain Labelled (return_rules s.scope around.result p) (λ r. Ok (r, s)) (plain_jump p (not (is_void (ctype_of s.scope around.result))) (returns None) tt) (λ r h. h)
return_labelled s around (Some t) p =
    then_any Labelled (typed_in s t) (λ a. then_with (return_value_rules a.1.scope around.result p (valued a.1.scope a.0)) (λ r. Ok (r, a.1))) (λ a.
    then_on AnyPlain Labelled (return_value_rules a.1.scope around.result p (valued a.1.scope a.0)) (λ r. Ok (r, a.1))
    (value_return p (is_structure (valued a.1.scope a.0).sort) (given a.1.scope (valued a.1.scope a.0) around.result)) (λ r h. h))

abbrev AllLabelled : TypedTrees × State → Type 0
AllLabelled b = HaveAllLabels b.0

abbrev CasesLabelled : IntType → Labels → TypedCases × State → Type 0
CasesLabelled t labels b = AreDifferent t labels b.0 × HaveCaseLabels b.0

mutual
  pub labelled : (s : State) (around : Around) (source : StatementTree) → OnAnswer Labelled (statement_in s around source)
  labelled s around (a_block parts) = then_on AllLabelled Labelled (parts_in (enter s) around parts) (λ b. Ok (runs_block b.0, leave s b.1)) (all_labelled (enter s) around parts) (λ b h. h)
  labelled s around (a_value t) = then_any Labelled (optional_value_in s t) (λ a. Ok (evaluates a.0, a.1)) (λ a. tt)
  labelled s around (an_if c t) =
      then_any Labelled (condition_in s c) (λ a. then_with (statement_in a.1 around t) (λ b. Ok (branches a.0 b.0, b.1))) (λ a.
      then_on Labelled Labelled (statement_in a.1 around t) (λ b. Ok (branches a.0 b.0, b.1)) (labelled a.1 around t) (λ b h. h))
  labelled s around (an_if_else c t u) =
      then_any Labelled (condition_in s c) (λ a. then_with (statement_in a.1 around t) (λ b. then_with (statement_in b.1 around u) (λ d. Ok (branches_else a.0 b.0 d.0, d.1)))) (λ a.
      then_on Labelled Labelled (statement_in a.1 around t) (λ b. then_with (statement_in b.1 around u) (λ d. Ok (branches_else a.0 b.0 d.0, d.1))) (labelled a.1 around t) (λ b h.
      then_on Labelled Labelled (statement_in b.1 around u) (λ d. Ok (branches_else a.0 b.0 d.0, d.1)) (labelled b.1 around u) (λ d i. (h, i))))
  labelled s around (a_while c t) =
      then_any Labelled (condition_in s c) (λ a. then_with (statement_in a.1 (looping around) t) (λ b. Ok (loops_while a.0 b.0, b.1))) (λ a.
      then_on Labelled Labelled (statement_in a.1 (looping around) t) (λ b. Ok (loops_while a.0 b.0, b.1)) (labelled a.1 (looping around) t) (λ b h. h))
  labelled s around (a_do t c) =
      then_on Labelled Labelled (statement_in s (looping around) t) (λ a. then_with (condition_in a.1 c) (λ b. Ok (loops_do a.0 b.0, b.1))) (labelled s (looping around) t) (λ a h.
      then_any Labelled (condition_in a.1 c) (λ b. Ok (loops_do a.0 b.0, b.1)) (λ b. h))
  labelled s around (a_for f c step t) =
      then_any Labelled (first_in (enter s) f) (λ a. then_with (optional_condition_in a.1 c) (λ b. then_with (optional_value_in b.1 step) (λ d. then_with (statement_in d.1 (looping around) t) (λ e. Ok (loops_for a.0 b.0 d.0 e.0, leave s e.1))))) (λ a.
      then_any Labelled (optional_condition_in a.1 c) (λ b. then_with (optional_value_in b.1 step) (λ d. then_with (statement_in d.1 (looping around) t) (λ e. Ok (loops_for a.0 b.0 d.0 e.0, leave s e.1)))) (λ b.
      then_any Labelled (optional_value_in b.1 step) (λ d. then_with (statement_in d.1 (looping around) t) (λ e. Ok (loops_for a.0 b.0 d.0 e.0, leave s e.1))) (λ d.
      then_on Labelled Labelled (statement_in d.1 (looping around) t) (λ e. Ok (loops_for a.0 b.0 d.0 e.0, leave s e.1)) (labelled d.1 (looping around) t) (λ e i. i))))
  labelled s around (a_switch t cases) =
      then_any Labelled (selector_in s t) (λ a. then_with (cases_in (enter a.1) (switching around) a.0.works_in no_labels cases) (λ b. Ok (selects a.0.works_in a.0.value b.0, leave a.1 b.1))) (λ a.
      then_on (CasesLabelled a.0.works_in no_labels) Labelled (cases_in (enter a.1) (switching around) a.0.works_in no_labels cases) (λ b. Ok (selects a.0.works_in a.0.value b.0, leave a.1 b.1)) (cases_labelled (enter a.1) (switching around) a.0.works_in no_labels cases) (λ b h. h))
  labelled s around (a_break p) = then_on AnyPlain Labelled (break_rules around p) (λ r. Ok (r, s)) (plain_jump p (not (around.in_loop || around.in_switch)) breaks tt) (λ r h. h)
  labelled s around (a_continue p) = then_on AnyPlain Labelled (continue_rules around p) (λ r. Ok (r, s)) (plain_jump p (not around.in_loop) continues tt) (λ r h. h)
  labelled s around (a_return t p) = return_labelled s around t p
  labelled s around (a_lock m q p) = then_any Labelled (mutex_rules q (named s.scope m)) (λ n. Ok (locks n p, s)) (λ n. tt)
  labelled s around (an_unlock m q p) = then_any Labelled (mutex_rules q (named s.scope m)) (λ n. Ok (unlocks n p, s)) (λ n. tt)
  labelled s around (a_yield p) = tt

  part_labelled : (s : State) (around : Around) (part : PartTree) → OnAnswer Labelled (part_in s around part)
  part_labelled s around (a_local d) = then_any Labelled (local_declaration s d) (λ a. Ok (declares a.0, a.1)) (λ a. tt)
  part_labelled s around (a_step t) = labelled s around t

  all_labelled : (s : State) (around : Around) (parts : PartTrees) → OnAnswer AllLabelled (parts_in s around parts)
  all_labelled s around no_parts = tt
  all_labelled s around (and_part part parts) =
      then_on Labelled AllLabelled (part_in s around part) (λ a. then_with (parts_in a.1 around parts) (λ b. Ok (and_statement a.0 b.0, b.1))) (part_labelled s around part) (λ a h.
      then_on AllLabelled AllLabelled (parts_in a.1 around parts) (λ b. Ok (and_statement a.0 b.0, b.1)) (all_labelled a.1 around parts) (λ b i. (h, i)))

  case_labelled : (s : State) (around : Around) (t : IntType) (labels : Labels) (part : CaseTree) → OnAnswer (PartStands t labels) (case_in s around t labels part)
  case_labelled s around t labels (a_case e p) =
      then_on (λ (a : ℤ × State). IsNew t labels.values a.0) (PartStands t labels) (label_in s t labels.values e p) (λ a. Ok (a_label a.0 p, with_label labels a.0, a.1)) (label_in_new s t labels.values e p) (λ a h. (h.0, h.1, refl))
  case_labelled s around t labels (a_default p) =
      then_on (DefaultStands labels) (PartStands t labels) (default_rules labels p) (λ l. Ok (a_default_label p, l, s)) (default_new labels p labels.has_default refl) (λ l h. h)
  case_labelled s around t labels (a_case_step u) =
      then_on Labelled (PartStands t labels) (statement_in s around u) (λ a. Ok (a_labelled_step a.0, labels, a.1)) (labelled s around u) (λ a h. (h, refl))

  cases_labelled : (s : State) (around : Around) (t : IntType) (labels : Labels) (cases : CaseTrees) → OnAnswer (CasesLabelled t labels) (cases_in s around t labels cases)
  cases_labelled s around t labels no_cases = (tt, tt)
  cases_labelled s around t labels (and_case part cases) =
      then_on (PartStands t labels) (CasesLabelled t labels) (case_in s around t labels part) (λ a. then_with (cases_in a.2 around t a.1 cases) (λ b. Ok (and_typed_case a.0 b.0, b.1))) (case_labelled s around t labels part) (λ a h.
      then_on (CasesLabelled t a.1) (CasesLabelled t labels) (cases_in a.2 around t a.1 cases) (λ b. Ok (and_typed_case a.0 b.0, b.1)) (cases_labelled a.2 around t a.1 cases) (λ b i.
      (different_more t labels a.1 a.0 b.0 h i.0, labels_more t labels a.1 a.0 b.0 h i.1)))

pub labels_differ : (s t : State) (around : Around) (source : StatementTree) (typed : TypedTree) → statement_in s around source ≡ Ok (typed, t) → HaveLabels typed
labels_differ s t around source typed e = from_answer Labelled (statement_in s around source) (typed, t) (labelled s around source) e
