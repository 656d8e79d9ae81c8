-- What the initialisers of static storage of a file leave open, item by item: a list, and which choices stand there.
use Rattle.std.specs.Prelude.{◌≡◌, ℕ, true, cond, map, List, [], ◌∷◌, ◌++◌, Contains, Option, Some, None}
use Rattle.tm_terms.specs.declared.places.Place.{Place}
use Rattle.tm_terms.specs.declared.types_named.Storage.TheVariants as Storages
use Rattle.tm_terms.specs.ExprTrees.{Tree, place_of}
use Rattle.tm_trees.specs.DeclarationTrees.{ValueTree, an_expression, a_list, ValueTrees, no_values, and_value}
use Rattle.tm_trees.specs.DeclarationTrees.{InitDeclaratorTree, InitialiserTree, DeclarationTree, declared_name}
use Rattle.tm_trees.specs.FileTrees.{ItemTree, a_declaration, a_function, an_empty_item, a_mutex, a_task, PartTree}
use Rattle.tm_trees.specs.FileTrees.{PartTrees, no_parts, and_part, a_local, a_step, StatementTree, a_block, an_if}
use Rattle.tm_trees.specs.FileTrees.{an_if_else, a_while, a_do, a_for, a_switch, by_declaration, ForFirstTree}
use Rattle.tm_trees.specs.FileTrees.{CaseTrees, no_cases, and_case, CaseTree, a_case_step}
use Rattle.tm_typed.specs.declared.types.CType.{CType}
use Rattle.tm_typed.specs.declared.types.CType.TheVariants as Types
use Rattle.tm_laid.specs.Layouts.{LaidTree}
use Rattle.text_choices.specs.declared.kinds.Kind.TheVariants as Kinds
use Rattle.text_choices.specs.declared.kinds.Choice.{Choice}
use Rattle.text_choices.specs.Texts.{has_storage, declarator_place}
use Rattle.text_choices.specs.AddressConstants.{Spot, Led, pointed}
use Rattle.text_choices.specs.Initialisers.{InItem, named_at, scalar_type, is_lost}

-- ## Which choices

module _ (laid : LaidTree) where
  abbrev pub led_by : Tree → Led
  led_by e = pointed laid (named_at laid) e

  -- what an expression leaves open in the initialiser of an object
  pub data Leaves (e : Tree) (one : InitDeclaratorTree) (c : Choice) : Type 0 where
    moved : c.kind ≡ Kinds.Member → Contains (led_by e).left c.place → Leaves e one c
    given : c.kind ≡ Kinds.Const → place_of e ≡ c.place → (spot object : Spot) → (led_by e).spot ≡ Some spot
        → named_at laid (declared_name one.declarator) (declarator_place one.declarator) ≡ Some object
        → is_lost spot (scalar_type laid object.of) ≡ true → Leaves e one c

  -- a choice that the initialisers of static storage of a file leave open
  pub record IsOfFile (items : List ItemTree) (c : Choice) : Type 0 where
    pub value : Tree
    pub one : InitDeclaratorTree
    pub item : ItemTree
    pub among : Contains items item
    pub stands : InItem value one item
    pub leaves : Leaves value one c

-- ## The list

-- the type of the elements of an array
abbrev pub element_type : CType → Option ℕ
element_type (Types.Array element length) = Some element
element_type _ = None

-- a pointer leaves its array there
abbrev pub left_at : Place → Choice
left_at p = record { place = p; kind = Kinds.Member }

-- what is given to each scalar of an object, if there is such an object
abbrev pub given_to : LaidTree → Option Spot → CType
given_to laid None = Types.Void
given_to laid (Some object) = scalar_type laid object.of

abbrev pub lost_at : Place → CType → Option Spot → List Choice
lost_at p to None = []
lost_at p to (Some s) = cond (is_lost s to) (record { place = p; kind = Kinds.Const } ∷ []) []

module _ (laid : LaidTree) where
  abbrev pub expression_choices : CType → Tree → List Choice
  expression_choices to e =
      map left_at (led_by laid e).left ++ lost_at (place_of e) to (led_by laid e).spot

  abbrev mutual
    pub value_choices : CType → ValueTree → List Choice
    value_choices to (an_expression e) = expression_choices to e
    value_choices to (a_list vs p) = values_choices to vs

    pub values_choices : CType → ValueTrees → List Choice
    values_choices to no_values = []
    values_choices to (and_value v vs) = value_choices to v ++ values_choices to vs

  abbrev pub given_type : InitDeclaratorTree → CType
  given_type one = given_to laid (named_at laid (declared_name one.declarator) (declarator_place one.declarator))

  abbrev pub initialiser_choices : CType → Option InitialiserTree → List Choice
  initialiser_choices to None = []
  initialiser_choices to (Some i) = value_choices to i.value

  abbrev pub declarator_choices : InitDeclaratorTree → List Choice
  declarator_choices one = initialiser_choices (given_type one) one.initialiser

  abbrev pub declarators_choices : List InitDeclaratorTree → List Choice
  declarators_choices [] = []
  declarators_choices (one ∷ ds) = declarator_choices one ++ declarators_choices ds

  -- of a declaration in a block, if its objects are of static storage
  abbrev pub local_choices : DeclarationTree → List Choice
  local_choices d = cond (has_storage Storages.Static d.specifiers) (declarators_choices d.declarators) []

  abbrev pub first_choices : ForFirstTree → List Choice
  first_choices (by_declaration d) = local_choices d
  first_choices _ = []

  abbrev mutual
    pub statement_choices : StatementTree → List Choice
    statement_choices (a_block parts) = parts_choices parts
    statement_choices (an_if c s) = statement_choices s
    statement_choices (an_if_else c s r) = statement_choices s ++ statement_choices r
    statement_choices (a_while c s) = statement_choices s
    statement_choices (a_do s c) = statement_choices s
    statement_choices (a_for first c step s) = first_choices first ++ statement_choices s
    statement_choices (a_switch e cases) = cases_choices cases
    statement_choices _ = []

    pub part_choices : PartTree → List Choice
    part_choices (a_local d) = local_choices d
    part_choices (a_step s) = statement_choices s

    pub parts_choices : PartTrees → List Choice
    parts_choices no_parts = []
    parts_choices (and_part part parts) = part_choices part ++ parts_choices parts

    pub case_choices : CaseTree → List Choice
    case_choices (a_case_step s) = statement_choices s
    case_choices _ = []

    pub cases_choices : CaseTrees → List Choice
    cases_choices no_cases = []
    cases_choices (and_case part cases) = case_choices part ++ cases_choices cases

  abbrev pub body_choices : Option PartTrees → List Choice
  body_choices None = []
  body_choices (Some parts) = parts_choices parts

  abbrev pub item_choices : ItemTree → List Choice
  item_choices (a_declaration d) = declarators_choices d.declarators
  item_choices (a_function f) = body_choices f.body
  item_choices an_empty_item = []
  item_choices (a_mutex n p) = []
  item_choices (a_task t n q parts p) = parts_choices parts

  abbrev pub file_choices : List ItemTree → List Choice
  file_choices [] = []
  file_choices (i ∷ items) = item_choices i ++ file_choices items
