-- Typed statements as plain trees, apart from boxes and vectors: what a statement does, with nothing left to find out.
use Rattle.std.specs.Prelude.{ℕ, ℤ, List, [], ◌∷◌, map, Option, Some, None}
use Rattle.std.specs.declared.alloc.Global.{Global}
use Rattle.std.specs.Prelude.{Box}
use Rattle.tm_trees.specs.tm_cint.declared.int_types.IntType.{IntType}
use Rattle.tm_trees.specs.tm_terms.declared.places.Place.{Place}
use Rattle.tm_typed.specs.declared.types.Scalar.{Scalar}
use Rattle.tm_typed.specs.declared.expressions.Rvalue.{Rvalue}
use Rattle.tm_typed.specs.declared.statements.GivenCell.{GivenCell}
use Rattle.tm_typed.specs.declared.statements.LocalInitialiser.{LocalInitialiser}
use Rattle.tm_typed.specs.declared.statements.LocalObject.{LocalObject}
use Rattle.tm_typed.specs.declared.statements.TypedStatement.{TypedStatement, Held-TypedStatement-If-2, None', Some'}
use Rattle.tm_typed.specs.declared.statements.TypedStatement.{Row_of-TypedStatement, end_of-TypedStatement}
use Rattle.tm_typed.specs.declared.statements.TypedStatement.{more_of-TypedStatement, Row_of-TypedSwitchPart}
use Rattle.tm_typed.specs.declared.statements.TypedStatement.{end_of-TypedSwitchPart, more_of-TypedSwitchPart}
use Rattle.tm_typed.specs.declared.statements.TypedStatement.TheVariants as Typed
use Rattle.tm_typed.specs.declared.statements.TypedSwitchPart.{TypedSwitchPart}
use Rattle.tm_typed.specs.declared.statements.TypedSwitchPart.TheVariants as Parts
use Rattle.tm_typed.specs.TypedTrees.{RvalueTree, rvalue_tree}

-- ## Local objects

-- a cell of an object, and what is stored there
pub record GivenTree : Type 0 where
  pub cell : ℕ
  pub scalar : Scalar
  pub value : RvalueTree

-- the cells that an initialiser gives, in rising order, and the place of its `=`; the other cells are zero or null
pub record LocalInitialiserTree : Type 0 where
  pub given : List GivenTree
  pub place : Place

-- the declaration of a local object, by its number in the body
pub record LocalTree : Type 0 where
  pub object : ℕ
  pub initialiser : Option LocalInitialiserTree

-- ## Statements

mutual
  -- Conditions are integers or pointers. The value of a `switch` and its labels have the type in which it compares. A
  -- returned value has the type of the result.
  pub data TypedTree : Type 0 where
    evaluates : Option RvalueTree → TypedTree
    declares : List LocalTree → TypedTree
    runs_block : TypedTrees → TypedTree
    branches : RvalueTree → TypedTree → TypedTree
    branches_else : RvalueTree → TypedTree → TypedTree → TypedTree
    loops_while : RvalueTree → TypedTree → TypedTree
    loops_do : TypedTree → RvalueTree → TypedTree
    loops_for : TypedTree → Option RvalueTree → Option RvalueTree → TypedTree → TypedTree
    selects : IntType → RvalueTree → TypedCases → TypedTree
    breaks : TypedTree
    continues : TypedTree
    returns : Option RvalueTree → TypedTree
    locks : ℕ → Place → TypedTree
    unlocks : ℕ → Place → TypedTree
    yields : TypedTree

  -- statements in their order
  pub data TypedTrees : Type 0 where
    no_statements : TypedTrees
    and_statement : TypedTree → TypedTrees → TypedTrees

  -- a part of the block of a `switch`
  pub data TypedCase : Type 0 where
    a_label : ℤ → Place → TypedCase
    a_default_label : Place → TypedCase
    a_labelled_step : TypedTree → TypedCase

  pub data TypedCases : Type 0 where
    no_typed_cases : TypedCases
    and_typed_case : TypedCase → TypedCases → TypedCases

-- ## What the code holds, as plain trees

abbrev pub given_tree : GivenCell → GivenTree
given_tree g = record { cell = g.cell; scalar = g.scalar; value = rvalue_tree g.value.value }

abbrev pub local_initialiser_tree : Option LocalInitialiser → Option LocalInitialiserTree
local_initialiser_tree None = None
local_initialiser_tree (Some i) = Some (record { given = map given_tree i.given.items; place = i.place })

abbrev pub local_tree : LocalObject → LocalTree
local_tree l = record { object = l.object; initialiser = local_initialiser_tree l.initialiser }

abbrev pub optional_rvalue_tree : Option (Box Rvalue Global) → Option RvalueTree
optional_rvalue_tree None = None
optional_rvalue_tree (Some b) = Some (rvalue_tree b.value)

abbrev mutual
  pub typed_tree : TypedStatement → TypedTree
  typed_tree (Typed.Evaluate e) = evaluates (optional_rvalue_tree e)
  typed_tree (Typed.Declare locals) = declares (map local_tree locals.items)
  typed_tree (Typed.Block' shape row) = runs_block (typed_trees_of row)
  typed_tree (Typed.If' c b s r) = with_typed_second (rvalue_tree c.value) (typed_tree s) r
  typed_tree (Typed.While' c b s) = loops_while (rvalue_tree c.value) (typed_tree s)
  typed_tree (Typed.Do' b s c) = loops_do (typed_tree s) (rvalue_tree c.value)
  typed_tree (Typed.For' b first c step d s) =
      loops_for (typed_tree first) (optional_rvalue_tree c) (optional_rvalue_tree step) (typed_tree s)
  typed_tree (Typed.Switch' t e shape row) = selects t (rvalue_tree e.value) (typed_cases_of row)
  typed_tree Typed.Break = breaks
  typed_tree Typed.Continue = continues
  typed_tree (Typed.Return e) = returns (optional_rvalue_tree e)
  typed_tree (Typed.Lock m p) = locks m p
  typed_tree (Typed.Unlock m p) = unlocks m p
  typed_tree Typed.Yield = yields

  pub with_typed_second : RvalueTree → TypedTree → Held-TypedStatement-If-2 → TypedTree
  with_typed_second c s None' = branches c s
  with_typed_second c s (Some' b r) = branches_else c s (typed_tree r)

  -- statements and parts of a `switch` as they lie in a vector
  pub typed_trees_of : {m : _} → Row_of-TypedStatement m → TypedTrees
  typed_trees_of end_of-TypedStatement = no_statements
  typed_trees_of (more_of-TypedStatement s row) = and_statement (typed_tree s) (typed_trees_of row)

  pub typed_case : TypedSwitchPart → TypedCase
  typed_case (Parts.Case z p) = a_label z p
  typed_case (Parts.Default p) = a_default_label p
  typed_case (Parts.Statement s) = a_labelled_step (typed_tree s)

  pub typed_cases_of : {m : _} → Row_of-TypedSwitchPart m → TypedCases
  typed_cases_of end_of-TypedSwitchPart = no_typed_cases
  typed_cases_of (more_of-TypedSwitchPart part row) = and_typed_case (typed_case part) (typed_cases_of row)

-- lists as those that stand inside a tree
abbrev pub as_typed_trees : List TypedStatement → TypedTrees
as_typed_trees [] = no_statements
as_typed_trees (s ∷ ss) = and_statement (typed_tree s) (as_typed_trees ss)

abbrev pub as_typed_cases : List TypedSwitchPart → TypedCases
as_typed_cases [] = no_typed_cases
as_typed_cases (part ∷ parts) = and_typed_case (typed_case part) (as_typed_cases parts)
