-- What typed trees mention: the objects of static storage that they name, the functions that they call, what they load
-- as volatile, the types in which they complement, and the bounds of their inputs.
use Rattle.std.specs.Prelude.{◌≡◌, ℕ, Bool, true, false, int_le, List, All, slice_get, Option, Some, None}
use Rattle.tm_laid.specs.tm_cint.declared.int_types.IntType.{IntType}
use Rattle.tm_laid.specs.tm_cint.declared.int_types.IntType.TheVariants as Ints
use Rattle.tm_laid.specs.tm_typed.declared.expressions.Unary.{Unary}
use Rattle.tm_laid.specs.tm_typed.declared.expressions.Unary.TheVariants.{Complement}
use Rattle.tm_laid.specs.tm_typed.declared.types.Scalar.{Scalar}
use Rattle.tm_laid.specs.tm_typed.declared.types.Scalar.TheVariants as Scalars
use Rattle.tm_laid.specs.tm_typed.declared.scopes.ObjectNumber.TheVariants as Objects
use Rattle.tm_laid.specs.tm_typed.TypedTrees.{RvalueTree, a_constant, a_folded, a_null, a_load, an_address, a_structure}
use Rattle.tm_laid.specs.tm_typed.TypedTrees.{the_same, a_unary, a_binary, a_comparison_of_pointers, a_move, a_not}
use Rattle.tm_laid.specs.tm_typed.TypedTrees.{an_and}
use Rattle.tm_laid.specs.tm_typed.TypedTrees.{an_or, a_choice, an_assignment, a_compound, a_compound_move, a_unit_step}
use Rattle.tm_laid.specs.tm_typed.TypedTrees.{a_pointer_step, a_function_call, an_input_value, a_probe, a_comma}
use Rattle.tm_laid.specs.tm_typed.TypedTrees.{a_conversion}
use Rattle.tm_laid.specs.tm_typed.TypedTrees.{a_discard, LvalueTree, an_object, an_element, a_pointed_element}
use Rattle.tm_laid.specs.tm_typed.TypedTrees.{a_pointed}
use Rattle.tm_laid.specs.tm_typed.TypedTrees.{an_arrow, a_part, RvalueTrees, no_rvalues, and_rvalue, OperandTree}
use Rattle.tm_laid.specs.tm_typed.TypedTrees.{an_lvalue}
use Rattle.tm_laid.specs.tm_typed.TypedTrees.{a_value}
use Rattle.tm_laid.specs.tm_typed.TypedStatements.{LocalInitialiserTree, TypedTree, evaluates, declares, runs_block}
use Rattle.tm_laid.specs.tm_typed.TypedStatements.{branches}
use Rattle.tm_laid.specs.tm_typed.TypedStatements.{branches_else, loops_while, loops_do, loops_for, selects, breaks}
use Rattle.tm_laid.specs.tm_typed.TypedStatements.{continues, returns, locks, unlocks, yields, TypedTrees}
use Rattle.tm_laid.specs.tm_typed.TypedStatements.{no_statements}
use Rattle.tm_laid.specs.tm_typed.TypedStatements.{and_statement, TypedCase, a_label, a_default_label, a_labelled_step}
use Rattle.tm_laid.specs.tm_typed.TypedStatements.{TypedCases, no_typed_cases, and_typed_case}

-- ## Expressions

-- no pointer is loaded as volatile (so that each volatile load is one of an integer)
abbrev pub MayLoad : Scalar → Bool → Type 0
MayLoad (Scalars.Int t) volatile = Unit {0}
MayLoad (Scalars.Pointer class) volatile = volatile ≡ false

-- the operator, if it is `~`, does not work in `_Bool` (C99 6.5.3.3: its operand is promoted)
abbrev pub WorksIn : Unary → IntType → Type 0
WorksIn operator of = operator ≡ Complement → of ≡ Ints.Bool → ⊥

abbrev mutual
  -- Each object of static storage that is named passes the test, the call with this site calls the function that stands
  -- there in the list, no pointer is loaded as volatile, each operator works in such a type, and the bounds of each
  -- input are in order.
  pub Mentions : (ℕ → Bool) → List ℕ → RvalueTree → Type 0
  Mentions o c (a_constant t z p) = Unit {0}
  Mentions o c (a_folded z e) = Mentions o c e
  Mentions o c (a_null p) = Unit {0}
  Mentions o c (a_load s v l) = MayLoad s v × LvalueMentions o c l
  Mentions o c (an_address l p) = LvalueMentions o c l
  Mentions o c (a_structure l) = LvalueMentions o c l
  Mentions o c (the_same e p) = Mentions o c e
  Mentions o c (a_unary u t e p) = WorksIn u t × Mentions o c e
  Mentions o c (a_binary u t l r p) = Mentions o c l × Mentions o c r
  Mentions o c (a_comparison_of_pointers b l r p) = Mentions o c l × Mentions o c r
  Mentions o c (a_move m n f e i p) = Mentions o c e × Mentions o c i
  Mentions o c (a_not e p) = Mentions o c e
  Mentions o c (an_and l r p) = Mentions o c l × Mentions o c r
  Mentions o c (an_or l r p) = Mentions o c l × Mentions o c r
  Mentions o c (a_choice x y z p) = Mentions o c x × Mentions o c y × Mentions o c z
  Mentions o c (an_assignment s l e p) = LvalueMentions o c l × Mentions o c e
  Mentions o c (a_compound u n t v l e p) = LvalueMentions o c l × Mentions o c e
  Mentions o c (a_compound_move m n k l e p) = LvalueMentions o c l × Mentions o c e
  Mentions o c (a_unit_step s n t v l p) = LvalueMentions o c l
  Mentions o c (a_pointer_step s n k l p) = LvalueMentions o c l
  Mentions o c (a_function_call f site es p) = (slice_get c site ≡ Some f) × AllMention o c es
  Mentions o c (an_input_value low high p) = int_le low high ≡ true
  Mentions o c (a_probe m p) = Unit {0}
  Mentions o c (a_comma l r p) = Mentions o c l × Mentions o c r
  Mentions o c (a_conversion f t e p) = Mentions o c e
  Mentions o c (a_discard e p) = Mentions o c e

  pub LvalueMentions : (ℕ → Bool) → List ℕ → LvalueTree → Type 0
  LvalueMentions o c (an_object (Objects.Static k) p) = o k ≡ true
  LvalueMentions o c (an_object (Objects.Local k) p) = Unit {0}
  LvalueMentions o c (an_element l i n k p) = LvalueMentions o c l × Mentions o c i
  LvalueMentions o c (a_pointed_element e i k t p) = Mentions o c e × Mentions o c i
  LvalueMentions o c (a_pointed e t p) = Mentions o c e
  LvalueMentions o c (an_arrow e t k p) = Mentions o c e
  LvalueMentions o c (a_part l k p) = LvalueMentions o c l

  pub AllMention : (ℕ → Bool) → List ℕ → RvalueTrees → Type 0
  AllMention o c no_rvalues = Unit {0}
  AllMention o c (and_rvalue e es) = Mentions o c e × AllMention o c es

abbrev pub OperandMentions : (ℕ → Bool) → List ℕ → OperandTree → Type 0
OperandMentions o c (an_lvalue l q) = LvalueMentions o c l
OperandMentions o c (a_value v) = Mentions o c v.value

abbrev pub MayMention : (ℕ → Bool) → List ℕ → Option RvalueTree → Type 0
MayMention o c None = Unit {0}
MayMention o c (Some e) = Mentions o c e

-- ## Statements

abbrev pub GivenMention : (ℕ → Bool) → List ℕ → Option LocalInitialiserTree → Type 0
GivenMention o c None = Unit {0}
GivenMention o c (Some i) = All (λ g. Mentions o c g.value) i.given

abbrev mutual
  pub StatementMentions : (ℕ → Bool) → List ℕ → TypedTree → Type 0
  StatementMentions o c (evaluates e) = MayMention o c e
  StatementMentions o c (declares ls) = All (λ l. GivenMention o c l.initialiser) ls
  StatementMentions o c (runs_block ss) = StatementsMention o c ss
  StatementMentions o c (branches e s) = Mentions o c e × StatementMentions o c s
  StatementMentions o c (branches_else e s t) = Mentions o c e × StatementMentions o c s × StatementMentions o c t
  StatementMentions o c (loops_while e s) = Mentions o c e × StatementMentions o c s
  StatementMentions o c (loops_do s e) = StatementMentions o c s × Mentions o c e
  StatementMentions o c (loops_for f e d s) =
      StatementMentions o c f × MayMention o c e × MayMention o c d × StatementMentions o c s
  StatementMentions o c (selects t e cs) = Mentions o c e × CasesMention o c cs
  StatementMentions o c breaks = Unit {0}
  StatementMentions o c continues = Unit {0}
  StatementMentions o c (returns e) = MayMention o c e
  StatementMentions o c (locks m p) = Unit {0}
  StatementMentions o c (unlocks m p) = Unit {0}
  StatementMentions o c yields = Unit {0}

  pub StatementsMention : (ℕ → Bool) → List ℕ → TypedTrees → Type 0
  StatementsMention o c no_statements = Unit {0}
  StatementsMention o c (and_statement s ss) = StatementMentions o c s × StatementsMention o c ss

  pub CasesMention : (ℕ → Bool) → List ℕ → TypedCases → Type 0
  CasesMention o c no_typed_cases = Unit {0}
  CasesMention o c (and_typed_case x cs) = CaseMentions o c x × CasesMention o c cs

  pub CaseMentions : (ℕ → Bool) → List ℕ → TypedCase → Type 0
  CaseMentions o c (a_label z p) = Unit {0}
  CaseMentions o c (a_default_label p) = Unit {0}
  CaseMentions o c (a_labelled_step s) = StatementMentions o c s
