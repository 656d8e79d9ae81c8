-- Declarations as plain trees, apart from boxes and vectors.
use Rattle.std.specs.Prelude.{ℕ, List, [], ◌∷◌, suc, max, map, Option, Some, None}
use Rattle.tm_terms.specs.declared.places.Place.{Place}
use Rattle.tm_terms.specs.declared.tokens.Name.{Name}
use Rattle.tm_terms.specs.declared.types_named.Spec.{Spec}
use Rattle.tm_terms.specs.declared.types_named.SpecWord.{SpecWord}
use Rattle.tm_terms.specs.declared.types_named.SpecWord.TheVariants as Specs
use Rattle.tm_terms.specs.declared.types_named.TagKind.TheVariants as Tags
use Rattle.tm_terms.specs.declared.types_named.PointerWord.{PointerWord}
use Rattle.tm_terms.specs.declared.exprs.Expr.{Expr}
use Rattle.tm_terms.specs.ExprTrees.{Tree, tree_of, height}
use Rattle.tm_trees.specs.declared.declarations.Tag.{Tag}
use Rattle.tm_trees.specs.declared.declarations.Length.{Length}
use Rattle.tm_trees.specs.declared.declarations.Enumerator.{Enumerator}
use Rattle.tm_trees.specs.declared.declarations.Declarator.{Declarator}
use Rattle.tm_trees.specs.declared.declarations.Declarator.TheVariants as Declarators
use Rattle.tm_trees.specs.declared.declarations.Specifier.{Specifier, Row_of-Specifier, end_of-Specifier}
use Rattle.tm_trees.specs.declared.declarations.Specifier.{more_of-Specifier, Row_of-Member, end_of-Member}
use Rattle.tm_trees.specs.declared.declarations.Specifier.{more_of-Member}
use Rattle.tm_trees.specs.declared.declarations.Specifier.TheVariants as Specifiers
use Rattle.tm_trees.specs.declared.declarations.Member.{Member}
use Rattle.tm_trees.specs.declared.declarations.Value.{Value, Row_of-Value, end_of-Value, more_of-Value}
use Rattle.tm_trees.specs.declared.declarations.Value.TheVariants as Values
use Rattle.tm_trees.specs.declared.declarations.Initialiser.{Initialiser}
use Rattle.tm_trees.specs.declared.declarations.InitDeclarator.{InitDeclarator}
use Rattle.tm_trees.specs.declared.declarations.Declaration.{Declaration}

-- ## Declarators

-- the length of an array, where one is written, and the place of its `[`
pub record LengthTree : Type 0 where
  pub value : Option Tree
  pub place : Place

-- A declarator (C99 6.7.5): a name, or a declarator in parentheses, with the stars before it and the lengths behind it.
pub data DeclaratorTree : Type 0 where
  a_declared_name : List PointerWord → Name → Place → List LengthTree → DeclaratorTree
  a_nested : List PointerWord → DeclaratorTree → List LengthTree → DeclaratorTree

-- the name that a declarator declares
abbrev pub declared_name : DeclaratorTree → Name
declared_name (a_declared_name pointers n p lengths) = n
declared_name (a_nested pointers d lengths) = declared_name d

-- ## Specifiers

-- an enumeration constant and its value, where one is written
pub record EnumeratorTree : Type 0 where
  pub name : Name
  pub value : Option Tree
  pub place : Place

-- A specifier (C99 6.7): as in a type name, or a structure with its members, or an enumeration with its constants.
mutual
  pub data SpecifierTree : Type 0 where
    a_plain : Spec → SpecifierTree
    a_struct : Option Tag → MemberTrees → Place → SpecifierTree
    an_enum : Option Tag → List EnumeratorTree → Place → SpecifierTree

  -- specifiers in their order
  pub data SpecifierTrees : Type 0 where
    no_specifiers : SpecifierTrees
    and_specifier : SpecifierTree → SpecifierTrees → SpecifierTrees

  -- members, as their declarations give them
  pub data MemberTrees : Type 0 where
    no_members : MemberTrees
    and_members : SpecifierTrees → List DeclaratorTree → MemberTrees → MemberTrees

abbrev pub name_or_none : Option Tag → Name
name_or_none None = record { start = 0; length = 0 }
name_or_none (Some tag) = tag.name

-- what a specifier counts for in a list: a structure or an enumeration for one tag
abbrev pub counts_as : SpecifierTree → Spec
counts_as (a_plain s) = s
counts_as (a_struct tag _ p) = record { word = Specs.Tagged Tags.Struct (name_or_none tag) p; place = p }
counts_as (an_enum tag _ p) = record { word = Specs.Tagged Tags.Enum (name_or_none tag) p; place = p }

abbrev pub count_as : SpecifierTrees → List Spec
count_as no_specifiers = []
count_as (and_specifier s specifiers) = counts_as s ∷ count_as specifiers

-- ## Values and whole declarations

-- What an object is initialised with (C99 6.7.8): an expression, or values in braces.
mutual
  pub data ValueTree : Type 0 where
    an_expression : Tree → ValueTree
    a_list : ValueTrees → Place → ValueTree

  pub data ValueTrees : Type 0 where
    no_values : ValueTrees
    and_value : ValueTree → ValueTrees → ValueTrees

-- a value and the place of the `=` before it
pub record InitialiserTree : Type 0 where
  pub value : ValueTree
  pub place : Place

pub record InitDeclaratorTree : Type 0 where
  pub declarator : DeclaratorTree
  pub initialiser : Option InitialiserTree

pub record DeclarationTree : Type 0 where
  pub specifiers : SpecifierTrees
  pub declarators : List InitDeclaratorTree

-- ## Heights: the nodes on the longest path

-- 0 where no expression is written
abbrev pub optional_height : Option Tree → ℕ
optional_height None = 0
optional_height (Some t) = height t

abbrev pub lengths_height : List LengthTree → ℕ
lengths_height [] = 0
lengths_height (l ∷ lengths) = max (optional_height l.value) (lengths_height lengths)

-- a declarator is a node
abbrev pub declarator_height : DeclaratorTree → ℕ
declarator_height (a_declared_name pointers n p lengths) = suc (lengths_height lengths)
declarator_height (a_nested pointers d lengths) = suc (max (declarator_height d) (lengths_height lengths))

abbrev pub declarators_height : List DeclaratorTree → ℕ
declarators_height [] = 0
declarators_height (d ∷ declarators) = max (declarator_height d) (declarators_height declarators)

-- an enumeration constant is a node
abbrev pub enumerators_height : List EnumeratorTree → ℕ
enumerators_height [] = 0
enumerators_height (e ∷ enumerators) = max (suc (optional_height e.value)) (enumerators_height enumerators)

-- `struct` or `enum` with a tag alone is a node, and the other words are none
abbrev pub word_height : SpecWord → ℕ
word_height (Specs.Tagged kind tag p) = 1
word_height _ = 0

-- A list of specifiers is a node; in it each structure and each enumeration, and in a structure the members of one
-- declaration.
abbrev mutual
  pub specifier_height : SpecifierTree → ℕ
  specifier_height (a_plain s) = word_height s.word
  specifier_height (a_struct tag members p) = suc (members_height members)
  specifier_height (an_enum tag enumerators p) = suc (enumerators_height enumerators)

  -- the tallest of some specifiers
  pub tallest_specifier : SpecifierTrees → ℕ
  tallest_specifier no_specifiers = 0
  tallest_specifier (and_specifier s specifiers) = max (specifier_height s) (tallest_specifier specifiers)

  pub members_height : MemberTrees → ℕ
  members_height no_members = 0
  members_height (and_members specifiers declarators members) =
      max (suc (max (suc (tallest_specifier specifiers)) (declarators_height declarators))) (members_height members)

abbrev pub specifiers_height : SpecifierTrees → ℕ
specifiers_height specifiers = suc (tallest_specifier specifiers)

-- values in braces are a node
abbrev mutual
  pub value_height : ValueTree → ℕ
  value_height (an_expression t) = height t
  value_height (a_list values p) = suc (values_height values)

  pub values_height : ValueTrees → ℕ
  values_height no_values = 0
  values_height (and_value v values) = max (value_height v) (values_height values)

abbrev pub initialiser_height : Option InitialiserTree → ℕ
initialiser_height None = 0
initialiser_height (Some i) = value_height i.value

-- a declarator with its value is a node
abbrev pub init_declarator_height : InitDeclaratorTree → ℕ
init_declarator_height d = suc (max (declarator_height d.declarator) (initialiser_height d.initialiser))

abbrev pub init_declarators_height : List InitDeclaratorTree → ℕ
init_declarators_height [] = 0
init_declarators_height (d ∷ declarators) = max (init_declarator_height d) (init_declarators_height declarators)

-- a declaration is no node of its own
abbrev pub declaration_height : DeclarationTree → ℕ
declaration_height d = max (specifiers_height d.specifiers) (init_declarators_height d.declarators)

-- ## From the code's types

-- lists as those that stand inside a tree
abbrev pub as_specifiers : List SpecifierTree → SpecifierTrees
as_specifiers [] = no_specifiers
as_specifiers (s ∷ specifiers) = and_specifier s (as_specifiers specifiers)

abbrev pub as_members : List (SpecifierTrees × List DeclaratorTree) → MemberTrees
as_members [] = no_members
as_members (m ∷ members) = and_members m.0 m.1 (as_members members)

abbrev pub as_values : List ValueTree → ValueTrees
as_values [] = no_values
as_values (v ∷ values) = and_value v (as_values values)

abbrev pub optional_tree : Option Expr → Option Tree
optional_tree None = None
optional_tree (Some e) = Some (tree_of e)

abbrev pub length_tree : Length → LengthTree
length_tree l = record { value = optional_tree l.value; place = l.place }

abbrev pub declarator_tree : Declarator → DeclaratorTree
declarator_tree (Declarators.Name pointers n lengths p) =
    a_declared_name pointers.items n p (map length_tree lengths.items)
declarator_tree (Declarators.Nested' pointers b d lengths) =
    a_nested pointers.items (declarator_tree d) (map length_tree lengths.items)

abbrev pub enumerator_tree : Enumerator → EnumeratorTree
enumerator_tree e = record { name = e.name; value = optional_tree e.value; place = e.place }

abbrev mutual
  pub specifier_tree : Specifier → SpecifierTree
  specifier_tree (Specifiers.Plain s) = a_plain s
  specifier_tree (Specifiers.Struct' tag shape row p) = a_struct tag (members_of row) p
  specifier_tree (Specifiers.Enum tag enumerators p) = an_enum tag (map enumerator_tree enumerators.items) p

  -- specifiers and members as they lie in a vector
  pub specifiers_of : {m : _} → Row_of-Specifier m → SpecifierTrees
  specifiers_of end_of-Specifier = no_specifiers
  specifiers_of (more_of-Specifier s row) = and_specifier (specifier_tree s) (specifiers_of row)

  pub members_of : {m : _} → Row_of-Member m → MemberTrees
  members_of end_of-Member = no_members
  members_of (more_of-Member shape specifiers declarators row) =
      and_members (specifiers_of specifiers) (map declarator_tree declarators.items) (members_of row)

abbrev pub specifier_trees : List Specifier → SpecifierTrees
specifier_trees specifiers = as_specifiers (map specifier_tree specifiers)

abbrev pub member_tree : Member → SpecifierTrees × List DeclaratorTree
member_tree m = (specifier_trees m.specifiers.items, map declarator_tree m.declarators.items)

abbrev mutual
  pub value_tree : Value → ValueTree
  value_tree (Values.Expression e) = an_expression (tree_of e)
  value_tree (Values.List' shape row p) = a_list (values_of row) p

  pub values_of : {m : _} → Row_of-Value m → ValueTrees
  values_of end_of-Value = no_values
  values_of (more_of-Value v row) = and_value (value_tree v) (values_of row)

abbrev pub initialiser_tree : Option Initialiser → Option InitialiserTree
initialiser_tree None = None
initialiser_tree (Some i) = Some (record { value = value_tree i.value; place = i.place })

abbrev pub init_declarator_tree : InitDeclarator → InitDeclaratorTree
init_declarator_tree d =
    record { declarator = declarator_tree d.declarator; initialiser = initialiser_tree d.initialiser }

abbrev pub declaration_tree : Declaration → DeclarationTree
declaration_tree d =
    record {
      specifiers = specifier_trees d.specifiers.items;
      declarators = map init_declarator_tree d.declarators.items;
    }
