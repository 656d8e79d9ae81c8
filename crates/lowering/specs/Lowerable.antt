-- What lowering needs of typed bodies, which the typing table sees to: each operand has a value, `break` and `continue`
-- stand where they may, and a function with a result gives one back.
use Rattle.std.specs.Prelude.{◌≡◌, ◌<◌, ℕ, Bool, true, false, List, [], ◌∷◌, Option, Some, None, length}
use Rattle.concrete_steps.specs.tm_typed.TypedTrees.{RvalueTree, a_constant, a_folded, a_null, a_load, an_address}
use Rattle.concrete_steps.specs.tm_typed.TypedTrees.{a_structure}
use Rattle.concrete_steps.specs.tm_typed.TypedTrees.{the_same, a_unary, a_binary, a_comparison_of_pointers, a_move}
use Rattle.concrete_steps.specs.tm_typed.TypedTrees.{a_not, an_and}
use Rattle.concrete_steps.specs.tm_typed.TypedTrees.{an_or, a_choice, an_assignment, a_compound, a_compound_move}
use Rattle.concrete_steps.specs.tm_typed.TypedTrees.{a_unit_step}
use Rattle.concrete_steps.specs.tm_typed.TypedTrees.{a_pointer_step, a_function_call, an_input_value, a_probe, a_comma}
use Rattle.concrete_steps.specs.tm_typed.TypedTrees.{a_conversion}
use Rattle.concrete_steps.specs.tm_typed.TypedTrees.{a_discard, LvalueTree, an_object, an_element, a_pointed_element}
use Rattle.concrete_steps.specs.tm_typed.TypedTrees.{a_pointed}
use Rattle.concrete_steps.specs.tm_typed.TypedTrees.{an_arrow, a_part, RvalueTrees, no_rvalues, and_rvalue}
use Rattle.concrete_steps.specs.tm_typed.TypedStatements.{GivenTree, LocalInitialiserTree, LocalTree, TypedTree}
use Rattle.concrete_steps.specs.tm_typed.TypedStatements.{evaluates, declares}
use Rattle.concrete_steps.specs.tm_typed.TypedStatements.{runs_block, branches, branches_else, loops_while, loops_do}
use Rattle.concrete_steps.specs.tm_typed.TypedStatements.{loops_for}
use Rattle.concrete_steps.specs.tm_typed.TypedStatements.{selects, breaks, continues, returns, locks, unlocks, yields}
use Rattle.concrete_steps.specs.tm_typed.TypedStatements.{TypedTrees}
use Rattle.concrete_steps.specs.tm_typed.TypedStatements.{no_statements, and_statement, TypedCase, a_label}
use Rattle.concrete_steps.specs.tm_typed.TypedStatements.{a_default_label}
use Rattle.concrete_steps.specs.tm_typed.TypedStatements.{a_labelled_step, TypedCases, no_typed_cases, and_typed_case}
use Rattle.concrete_steps.specs.tm_typed.Functions.{TypedBodyTree}
use Rattle.concrete_steps.specs.tm_laid.Layouts.{LaidTree, first_path, callee}
use Rattle.concrete_steps.specs.Places.{result_type}
use Rattle.concrete_steps.specs.NextAction.{function_at}
use Rattle.lowering.specs.Table.{is_value_type, has_value}

-- ## Expressions

module _ (laid : LaidTree) (path : ℕ) where
  abbrev mutual
    pub Valued : RvalueTree → Type 0
    Valued (a_constant t z p) = Unit {0}
    Valued (a_folded z e) = Valued e × (has_value laid path e ≡ true)
    Valued (a_null p) = Unit {0}
    Valued (a_load s v l) = ValuedAt l
    Valued (an_address l p) = ValuedAt l
    Valued (a_structure l) = ValuedAt l
    Valued (the_same e p) = Valued e
    Valued (a_unary o t e p) = Valued e × (has_value laid path e ≡ true)
    Valued (a_binary o t l r p) = (Valued l × (has_value laid path l ≡ true))
        × (Valued r × (has_value laid path r ≡ true))
    Valued (a_comparison_of_pointers q l r p) = (Valued l × (has_value laid path l ≡ true))
        × (Valued r × (has_value laid path r ≡ true))
    Valued (a_move m c f e i p) = (Valued e × (has_value laid path e ≡ true))
        × (Valued i × (has_value laid path i ≡ true))
    Valued (a_not e p) = Valued e × (has_value laid path e ≡ true)
    Valued (an_and l r p) = (Valued l × (has_value laid path l ≡ true)) × (Valued r × (has_value laid path r ≡ true))
    Valued (an_or l r p) = (Valued l × (has_value laid path l ≡ true)) × (Valued r × (has_value laid path r ≡ true))
    Valued (a_choice c x y p) = (Valued c × (has_value laid path c ≡ true)) × Valued x × Valued y
        × (has_value laid path y ≡ has_value laid path x)
    Valued (an_assignment s l e p) = ValuedAt l × (Valued e × (has_value laid path e ≡ true))
    Valued (a_compound o c t v l e p) = ValuedAt l × (Valued e × (has_value laid path e ≡ true))
    Valued (a_compound_move m c k l e p) = ValuedAt l × (Valued e × (has_value laid path e ≡ true))
    Valued (a_unit_step s c t v l p) = ValuedAt l
    Valued (a_pointer_step s c k l p) = ValuedAt l
    Valued (a_function_call f s es p) = AllValued es
    Valued (an_input_value low high p) = Unit {0}
    Valued (a_probe m p) = Unit {0}
    Valued (a_comma l r p) = Valued l × Valued r
    Valued (a_conversion f t e p) = Valued e × (has_value laid path e ≡ true)
    Valued (a_discard e p) = Valued e

    pub ValuedAt : LvalueTree → Type 0
    ValuedAt (an_object o p) = Unit {0}
    ValuedAt (an_element l i n c p) = ValuedAt l × (Valued i × (has_value laid path i ≡ true))
    ValuedAt (a_pointed_element e i c t p) = (Valued e × (has_value laid path e ≡ true))
        × (Valued i × (has_value laid path i ≡ true))
    ValuedAt (a_pointed e t p) = Valued e × (has_value laid path e ≡ true)
    ValuedAt (an_arrow e t c p) = Valued e × (has_value laid path e ≡ true)
    ValuedAt (a_part l c p) = ValuedAt l

    pub AllValued : RvalueTrees → Type 0
    AllValued no_rvalues = Unit {0}
    AllValued (and_rvalue e es) = (Valued e × (has_value laid path e ≡ true)) × AllValued es

  -- an expression whose value is used
  abbrev pub Used : RvalueTree → Type 0
  Used e = Valued e × (has_value laid path e ≡ true)

  -- ## Statements

  abbrev pub AllGiven : List GivenTree → Type 0
  AllGiven [] = Unit {0}
  AllGiven (g ∷ gs) = Used g.value × AllGiven gs

  abbrev pub IsInitialiser : Option LocalInitialiserTree → Type 0
  IsInitialiser None = Unit {0}
  IsInitialiser (Some i) = AllGiven i.given

  abbrev pub AllLocals : List LocalTree → Type 0
  AllLocals [] = Unit {0}
  AllLocals (l ∷ ls) = IsInitialiser l.initialiser × AllLocals ls

  abbrev pub IsEffect : Option RvalueTree → Type 0
  IsEffect None = Unit {0}
  IsEffect (Some e) = Valued e

  abbrev pub IsTest : Option RvalueTree → Type 0
  IsTest None = Unit {0}
  IsTest (Some e) = Used e

  abbrev pub IsReturned : Bool → Option RvalueTree → Type 0
  IsReturned valued None = valued ≡ false
  IsReturned valued (Some e) = Used e

  abbrev pub HasNoDefault : TypedCases → Type 0
  HasNoDefault no_typed_cases = Unit {0}
  HasNoDefault (and_typed_case (a_label z p) cs) = HasNoDefault cs
  HasNoDefault (and_typed_case (a_default_label p) cs) = ⊥
  HasNoDefault (and_typed_case (a_labelled_step s) cs) = HasNoDefault cs

  abbrev pub HasOneDefault : TypedCases → Type 0
  HasOneDefault no_typed_cases = Unit {0}
  HasOneDefault (and_typed_case (a_label z p) cs) = HasOneDefault cs
  HasOneDefault (and_typed_case (a_default_label p) cs) = HasNoDefault cs
  HasOneDefault (and_typed_case (a_labelled_step s) cs) = HasOneDefault cs

  -- a statement of a body that has a value or has none, where a `break` and a `continue` may stand or may not
  abbrev mutual
    pub IsStatement : (valued break_off go_on : Bool) → TypedTree → Type 0
    IsStatement valued br co (evaluates e) = IsEffect e
    IsStatement valued br co (declares ls) = AllLocals ls
    IsStatement valued br co (runs_block ss) = AreStatements valued br co ss
    IsStatement valued br co (branches c s) = Used c × IsStatement valued br co s
    IsStatement valued br co (branches_else c s r) = Used c × IsStatement valued br co s × IsStatement valued br co r
    IsStatement valued br co (loops_while c s) = Used c × IsStatement valued true true s
    IsStatement valued br co (loops_do s c) = IsStatement valued true true s × Used c
    IsStatement valued br co (loops_for first c step s) = IsStatement valued br co first × IsTest c × IsEffect step
        × IsStatement valued true true s
    IsStatement valued br co (selects t e cs) = Used e × HasOneDefault cs × AreCases valued true co cs
    IsStatement valued br co breaks = br ≡ true
    IsStatement valued br co continues = co ≡ true
    IsStatement valued br co (returns e) = IsReturned valued e
    IsStatement valued br co (locks m p) = Unit {0}
    IsStatement valued br co (unlocks m p) = Unit {0}
    IsStatement valued br co yields = Unit {0}

    pub AreStatements : Bool → Bool → Bool → TypedTrees → Type 0
    AreStatements valued br co no_statements = Unit {0}
    AreStatements valued br co (and_statement s ss) = IsStatement valued br co s × AreStatements valued br co ss

    pub IsCase : Bool → Bool → Bool → TypedCase → Type 0
    IsCase valued br co (a_label z p) = Unit {0}
    IsCase valued br co (a_default_label p) = Unit {0}
    IsCase valued br co (a_labelled_step s) = IsStatement valued br co s

    pub AreCases : Bool → Bool → Bool → TypedCases → Type 0
    AreCases valued br co no_typed_cases = Unit {0}
    AreCases valued br co (and_typed_case c cs) = IsCase valued br co c × AreCases valued br co cs

  abbrev pub IsBody : Bool → Option TypedBodyTree → Type 0
  IsBody valued None = Unit {0}
  IsBody valued (Some body) = AreStatements valued false false body.statements

-- The body of each call path is so, and a call, as the beginning of a body, is on one of the paths that the layout has.
pub record IsLowerable (laid : LaidTree) : Type 0 where
  pub first : (body : ℕ) → first_path laid body < length laid.paths
  pub inside : (path site : ℕ) → callee laid path site < length laid.paths
  pub bodies : (path : ℕ) → path < length laid.paths
      → IsBody laid path (is_value_type (result_type laid (function_at laid path))) (function_at laid path).body
