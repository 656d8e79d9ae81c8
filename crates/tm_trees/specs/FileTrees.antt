-- Statements and files as plain trees, apart from boxes and vectors.
use Rattle.std.specs.Prelude.{ℕ, List, [], ◌∷◌, suc, max, map, Option, Some, None}
use Rattle.tm_terms.specs.declared.places.Place.{Place}
use Rattle.tm_terms.specs.declared.tokens.Name.{Name}
use Rattle.tm_terms.specs.declared.types_named.PointerWord.{PointerWord}
use Rattle.tm_terms.specs.ExprTrees.{Tree, tree_of, height}
use Rattle.tm_trees.specs.declared.statements.Block.{Block}
use Rattle.tm_trees.specs.declared.statements.BlockPart.{BlockPart}
use Rattle.tm_trees.specs.declared.statements.BlockPart.TheVariants as BlockParts
use Rattle.tm_trees.specs.declared.statements.SwitchPart.{SwitchPart}
use Rattle.tm_trees.specs.declared.statements.SwitchPart.TheVariants as SwitchParts
use Rattle.tm_trees.specs.declared.statements.ForFirst.{ForFirst}
use Rattle.tm_trees.specs.declared.statements.ForFirst.TheVariants as Firsts
use Rattle.tm_trees.specs.declared.statements.Statement.{Statement, Held-Statement-If-2, None', Some', Row_of-BlockPart}
use Rattle.tm_trees.specs.declared.statements.Statement.{end_of-BlockPart, more_of-BlockPart, Row_of-SwitchPart}
use Rattle.tm_trees.specs.declared.statements.Statement.{end_of-SwitchPart, more_of-SwitchPart}
use Rattle.tm_trees.specs.declared.statements.Statement.TheVariants as Statements
use Rattle.tm_trees.specs.declared.files.Parameter.{Parameter}
use Rattle.tm_trees.specs.declared.files.Parameter.TheVariants as ParameterForms
use Rattle.tm_trees.specs.declared.files.Parameters.{Parameters}
use Rattle.tm_trees.specs.declared.files.Parameters.TheVariants as ParametersForms
use Rattle.tm_trees.specs.declared.files.Function.{Function}
use Rattle.tm_trees.specs.declared.files.Item.{Item}
use Rattle.tm_trees.specs.declared.files.Item.TheVariants as Items
use Rattle.tm_trees.specs.declared.files.File.{File}
use Rattle.tm_trees.specs.DeclarationTrees.{DeclaratorTree, declarator_tree, declarator_height, SpecifierTrees}
use Rattle.tm_trees.specs.DeclarationTrees.{specifier_trees, specifiers_height, DeclarationTree, declaration_tree}
use Rattle.tm_trees.specs.DeclarationTrees.{declaration_height, optional_height, optional_tree}

-- ## Statements (C99 6.8)

-- what a `for` does first
pub data ForFirstTree : Type 0 where
  by_expression : Option Tree → ForFirstTree
  by_declaration : DeclarationTree → ForFirstTree

mutual
  pub data StatementTree : Type 0 where
    a_block : PartTrees → StatementTree
    a_value : Option Tree → StatementTree
    an_if : Tree → StatementTree → StatementTree
    an_if_else : Tree → StatementTree → StatementTree → StatementTree
    a_while : Tree → StatementTree → StatementTree
    a_do : StatementTree → Tree → StatementTree
    a_for : ForFirstTree → Option Tree → Option Tree → StatementTree → StatementTree
    a_switch : Tree → CaseTrees → StatementTree
    a_break : Place → StatementTree
    a_continue : Place → StatementTree
    a_return : Option Tree → Place → StatementTree
    a_lock : Name → Place → Place → StatementTree
    an_unlock : Name → Place → Place → StatementTree
    a_yield : Place → StatementTree

  -- a part of a block
  pub data PartTree : Type 0 where
    a_local : DeclarationTree → PartTree
    a_step : StatementTree → PartTree

  pub data PartTrees : Type 0 where
    no_parts : PartTrees
    and_part : PartTree → PartTrees → PartTrees

  -- a part of the block of a `switch`
  pub data CaseTree : Type 0 where
    a_case : Tree → Place → CaseTree
    a_default : Place → CaseTree
    a_case_step : StatementTree → CaseTree

  pub data CaseTrees : Type 0 where
    no_cases : CaseTrees
    and_case : CaseTree → CaseTrees → CaseTrees

-- ## Files (C99 6.9)

pub data ParameterTree : Type 0 where
  a_named_parameter : SpecifierTrees → DeclaratorTree → ParameterTree
  an_unnamed_parameter : SpecifierTrees → List PointerWord → ParameterTree

-- `void` alone, or a list that may be empty
pub data ParametersTree : Type 0 where
  only_void : ParametersTree
  some_parameters : List ParameterTree → ParametersTree

pub record FunctionTree : Type 0 where
  pub specifiers : SpecifierTrees
  pub pointers : List PointerWord
  pub name : Name
  pub parameters : ParametersTree
  pub body : Option PartTrees
  pub place : Place

pub data ItemTree : Type 0 where
  a_declaration : DeclarationTree → ItemTree
  a_function : FunctionTree → ItemTree
  an_empty_item : ItemTree
  a_mutex : Name → Place → ItemTree
  a_task : Tree → Name → Place → PartTrees → Place → ItemTree

-- ## Heights

abbrev pub first_height : ForFirstTree → ℕ
first_height (by_expression t) = optional_height t
first_height (by_declaration d) = declaration_height d

-- A statement is a node, a block one of its own below the statement that it is, and a label too.
abbrev mutual
  pub statement_height : StatementTree → ℕ
  statement_height (a_block parts) = suc (suc (parts_height parts))
  statement_height (a_value t) = suc (optional_height t)
  statement_height (an_if c s) = suc (max (height c) (statement_height s))
  statement_height (an_if_else c s r) = suc (max (height c) (max (statement_height s) (statement_height r)))
  statement_height (a_while c s) = suc (max (height c) (statement_height s))
  statement_height (a_do s c) = suc (max (statement_height s) (height c))
  statement_height (a_for first c step s) =
      suc (max (first_height first) (max (optional_height c) (max (optional_height step) (statement_height s))))
  statement_height (a_switch t cases) = suc (max (height t) (cases_height cases))
  statement_height (a_break p) = 1
  statement_height (a_continue p) = 1
  statement_height (a_return t p) = suc (optional_height t)
  statement_height (a_lock n q p) = 1
  statement_height (an_unlock n q p) = 1
  statement_height (a_yield p) = 1

  pub part_height : PartTree → ℕ
  part_height (a_local d) = declaration_height d
  part_height (a_step s) = statement_height s

  pub parts_height : PartTrees → ℕ
  parts_height no_parts = 0
  parts_height (and_part part parts) = max (part_height part) (parts_height parts)

  pub case_height : CaseTree → ℕ
  case_height (a_case t p) = suc (height t)
  case_height (a_default p) = 1
  case_height (a_case_step s) = statement_height s

  pub cases_height : CaseTrees → ℕ
  cases_height no_cases = 0
  cases_height (and_case part cases) = max (case_height part) (cases_height cases)

abbrev pub block_height : PartTrees → ℕ
block_height parts = suc (parts_height parts)

-- a parameter is a node
abbrev pub parameter_height : ParameterTree → ℕ
parameter_height (a_named_parameter specifiers d) = suc (max (specifiers_height specifiers) (declarator_height d))
parameter_height (an_unnamed_parameter specifiers pointers) = suc (specifiers_height specifiers)

abbrev pub tallest_parameter : List ParameterTree → ℕ
tallest_parameter [] = 0
tallest_parameter (p ∷ parameters) = max (parameter_height p) (tallest_parameter parameters)

abbrev pub parameters_height : ParametersTree → ℕ
parameters_height only_void = 0
parameters_height (some_parameters parameters) = tallest_parameter parameters

abbrev pub body_height : Option PartTrees → ℕ
body_height None = 0
body_height (Some parts) = block_height parts

-- an item is a node, with its function
abbrev pub item_height : ItemTree → ℕ
item_height (a_declaration d) = suc (declaration_height d)
item_height (a_function f) =
    suc (max (specifiers_height f.specifiers) (max (parameters_height f.parameters) (body_height f.body)))
item_height an_empty_item = 1
item_height (a_mutex n p) = 1
item_height (a_task t n q parts p) = suc (max (height t) (block_height parts))

abbrev pub tallest_item : List ItemTree → ℕ
tallest_item [] = 0
tallest_item (i ∷ items) = max (item_height i) (tallest_item items)

-- a file is a node
abbrev pub file_height : List ItemTree → ℕ
file_height items = suc (tallest_item items)

-- ## From the code's types

abbrev pub first_tree : ForFirst → ForFirstTree
first_tree (Firsts.Expression e) = by_expression (optional_tree e)
first_tree (Firsts.Declaration d) = by_declaration (declaration_tree d)

abbrev mutual
  pub statement_tree : Statement → StatementTree
  statement_tree (Statements.Block' shape row) = a_block (parts_of row)
  statement_tree (Statements.Expression e) = a_value (optional_tree e)
  statement_tree (Statements.If' c b s r) = with_second (tree_of c) (statement_tree s) r
  statement_tree (Statements.While' c b s) = a_while (tree_of c) (statement_tree s)
  statement_tree (Statements.Do' b s c) = a_do (statement_tree s) (tree_of c)
  statement_tree (Statements.For' first c step b s) =
      a_for (first_tree first) (optional_tree c) (optional_tree step) (statement_tree s)
  statement_tree (Statements.Switch' e shape row) = a_switch (tree_of e) (cases_of row)
  statement_tree (Statements.Break p) = a_break p
  statement_tree (Statements.Continue p) = a_continue p
  statement_tree (Statements.Return e p) = a_return (optional_tree e) p
  statement_tree (Statements.Lock n q p) = a_lock n q p
  statement_tree (Statements.Unlock n q p) = an_unlock n q p
  statement_tree (Statements.Yield p) = a_yield p

  pub with_second : Tree → StatementTree → Held-Statement-If-2 → StatementTree
  with_second c s None' = an_if c s
  with_second c s (Some' b r) = an_if_else c s (statement_tree r)

  pub parts_of : {m : _} → Row_of-BlockPart m → PartTrees
  parts_of end_of-BlockPart = no_parts
  parts_of (more_of-BlockPart part row) = and_part (part_tree part) (parts_of row)

  pub part_tree : BlockPart → PartTree
  part_tree (BlockParts.Declaration d) = a_local (declaration_tree d)
  part_tree (BlockParts.Statement s) = a_step (statement_tree s)

  pub cases_of : {m : _} → Row_of-SwitchPart m → CaseTrees
  cases_of end_of-SwitchPart = no_cases
  cases_of (more_of-SwitchPart part row) = and_case (case_tree part) (cases_of row)

  pub case_tree : SwitchPart → CaseTree
  case_tree (SwitchParts.Case e p) = a_case (tree_of e) p
  case_tree (SwitchParts.Default p) = a_default p
  case_tree (SwitchParts.Statement s) = a_case_step (statement_tree s)

-- lists as those that stand inside a tree
abbrev pub as_parts : List PartTree → PartTrees
as_parts [] = no_parts
as_parts (part ∷ parts) = and_part part (as_parts parts)

abbrev pub as_cases : List CaseTree → CaseTrees
as_cases [] = no_cases
as_cases (part ∷ parts) = and_case part (as_cases parts)

abbrev pub block_tree : Block → PartTrees
block_tree b = as_parts (map part_tree b.parts.items)

abbrev pub parameter_tree : Parameter → ParameterTree
parameter_tree (ParameterForms.Named specifiers d) =
    a_named_parameter (specifier_trees specifiers.items) (declarator_tree d)
parameter_tree (ParameterForms.Unnamed specifiers pointers) =
    an_unnamed_parameter (specifier_trees specifiers.items) pointers.items

abbrev pub parameters_tree : Parameters → ParametersTree
parameters_tree ParametersForms.Void = only_void
parameters_tree (ParametersForms.List parameters) = some_parameters (map parameter_tree parameters.items)

abbrev pub body_tree : Option Block → Option PartTrees
body_tree None = None
body_tree (Some b) = Some (block_tree b)

abbrev pub function_tree : Function → FunctionTree
function_tree f =
    record {
      specifiers = specifier_trees f.specifiers.items;
      pointers = f.pointers.items;
      name = f.name;
      parameters = parameters_tree f.parameters;
      body = body_tree f.body;
      place = f.place;
    }

abbrev pub item_tree : Item → ItemTree
item_tree (Items.Declaration d) = a_declaration (declaration_tree d)
item_tree (Items.Function f) = a_function (function_tree f)
item_tree Items.Empty = an_empty_item
item_tree (Items.Mutex n p) = a_mutex n p
item_tree (Items.Task t n q b p) = a_task (tree_of t) n q (block_tree b) p

abbrev pub file_tree : File → List ItemTree
file_tree f = map item_tree f.items.items
