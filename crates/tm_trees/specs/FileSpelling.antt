-- The grammar of statements and files: which tokens spell which tree (C99 6.8, 6.9, cut to the profile).
-- Each relation says that the tokens `ts` begin with something, and that `rest` follows it.
use Rattle.std.specs.Prelude.{◌≡◌, false, List, [], ◌∷◌, Option, Some, None, IsTrue, ⊤}
use Rattle.tm_terms.specs.declared.tokens.Name.{Name}
use Rattle.tm_terms.specs.declared.tokens.Word.TheVariants as Words
use Rattle.tm_terms.specs.declared.tokens.Sign.TheVariants as Signs
use Rattle.tm_terms.specs.declared.tokens.Shape.TheVariants as Shapes
use Rattle.tm_terms.specs.declared.tokens.Token.{Token}
use Rattle.tm_terms.specs.declared.places.Place.{Place}
use Rattle.tm_terms.specs.declared.exprs.Level.TheVariants as Levels
use Rattle.tm_terms.specs.ExprTrees.{Tree, rank}
use Rattle.tm_terms.specs.ExprSpelling.{Begins, BySign, ByName, Spells, SpellsPointers, BeginsWithStar}
use Rattle.tm_terms.specs.ExprSpelling.{is_type_name_list}
use Rattle.tm_trees.specs.DeclarationTrees.{count_as, InitDeclaratorTree}
use Rattle.tm_trees.specs.DeclarationSpelling.{ByWord, SpellsAt, SpellsOptional, SpellsDeclarator, SpellsSpecifiers}
use Rattle.tm_trees.specs.DeclarationSpelling.{is_file_list, is_typedef_list, with_declared, SpellsFileDeclaration}
use Rattle.tm_trees.specs.DeclarationSpelling.{SpellsLocalDeclaration}
use Rattle.tm_trees.specs.FileTrees.{ForFirstTree, by_expression, by_declaration, StatementTree, a_block, a_value}
use Rattle.tm_trees.specs.FileTrees.{an_if, an_if_else, a_while, a_do, a_for, a_switch, a_break, a_continue, a_return}
use Rattle.tm_trees.specs.FileTrees.{a_lock, an_unlock, a_yield, PartTree, a_local, a_step, PartTrees, no_parts}
use Rattle.tm_trees.specs.FileTrees.{and_part, CaseTree, a_case, a_default, a_case_step, CaseTrees, no_cases, and_case}
use Rattle.tm_trees.specs.FileTrees.{ParameterTree, a_named_parameter, an_unnamed_parameter, ParametersTree, only_void}
use Rattle.tm_trees.specs.FileTrees.{some_parameters, FunctionTree, ItemTree, a_declaration, a_function, an_empty_item}
use Rattle.tm_trees.specs.FileTrees.{a_mutex, a_task}

-- an expression in parentheses
abbrev pub SpellsInParentheses : List Name → Tree → List Token → List Token → Type 0
SpellsInParentheses types t ts rest =
    (a : List Token) × (b : List Token) × BySign Signs.OpenParenthesis ts a × Spells types t a b
    × BySign Signs.CloseParenthesis b rest

-- an expression or nothing, and a `;`
abbrev pub SpellsClosed : List Name → Option Tree → List Token → List Token → Type 0
SpellsClosed types t ts rest =
    (a : List Token) × SpellsOptional types (rank Levels.Comma) t ts a × BySign Signs.Semicolon a rest

-- a mutex in parentheses, and a `;`
abbrev pub SpellsMutex : List Name → Name → Place → List Token → List Token → Type 0
SpellsMutex types n q ts rest =
    (a : List Token) × (b : List Token) × (c : List Token) × BySign Signs.OpenParenthesis ts a × ByName types n q a b
    × BySign Signs.CloseParenthesis b c × BySign Signs.Semicolon c rest

-- a declaration declares something
abbrev pub HasDeclarator : List InitDeclaratorTree → Type 0
HasDeclarator [] = ⊥
HasDeclarator (d ∷ declarators) = ⊤

-- what a `for` does first, and the `;` after it (C99 6.8.5.3)
abbrev pub SpellsFirst : List Name → ForFirstTree → List Token → List Token → Type 0
SpellsFirst types (by_expression t) ts rest = SpellsClosed types t ts rest
SpellsFirst types (by_declaration d) ts rest = SpellsLocalDeclaration types d ts rest × HasDeclarator d.declarators

-- A statement, where `types` are the names of typedefs. An `else` belongs to the nearest `if`: none follows an `if`
-- that has none (C99 6.8.4.1).
abbrev mutual
  pub SpellsStatement : List Name → StatementTree → List Token → List Token → Type 0
  SpellsStatement types (a_block parts) ts rest =
      (a : List Token) × BySign Signs.OpenBrace ts a × SpellsParts types parts a rest
  SpellsStatement types (a_value t) ts rest = SpellsClosed types t ts rest
  SpellsStatement types (an_if c s) ts rest =
      (a : List Token) × (b : List Token) × ByWord Words.If ts a × SpellsInParentheses types c a b
      × SpellsStatement types s b rest
      × ((after : List Token) → ByWord Words.Else rest after → ⊥)
  SpellsStatement types (an_if_else c s r) ts rest =
      (a : List Token) × (b : List Token) × (d : List Token) × (e : List Token) × ByWord Words.If ts a
      × SpellsInParentheses types c a b
      × SpellsStatement types s b d × ByWord Words.Else d e × SpellsStatement types r e rest
  SpellsStatement types (a_while c s) ts rest =
      (a : List Token) × (b : List Token) × ByWord Words.While ts a × SpellsInParentheses types c a b
      × SpellsStatement types s b rest
  SpellsStatement types (a_do s c) ts rest =
      (a : List Token) × (b : List Token) × (d : List Token) × (e : List Token) × ByWord Words.Do ts a
      × SpellsStatement types s a b
      × ByWord Words.While b d × SpellsInParentheses types c d e × BySign Signs.Semicolon e rest
  SpellsStatement types (a_for first c step s) ts rest =
      (a : List Token) × (b : List Token) × (d : List Token) × (e : List Token) × (f : List Token) × (g : List Token)
      × ByWord Words.For ts a × BySign Signs.OpenParenthesis a b × SpellsFirst types first b d
      × SpellsClosed types c d e
      × SpellsOptional types (rank Levels.Comma) step e f × BySign Signs.CloseParenthesis f g
      × SpellsStatement types s g rest
  SpellsStatement types (a_switch t cases) ts rest =
      (a : List Token) × (b : List Token) × (d : List Token) × ByWord Words.Switch ts a
      × SpellsInParentheses types t a b
      × BySign Signs.OpenBrace b d × SpellsCases types cases d rest
  SpellsStatement types (a_break p) ts rest =
      (a : List Token) × Begins (Shapes.Word Words.Break) p ts a × BySign Signs.Semicolon a rest
  SpellsStatement types (a_continue p) ts rest =
      (a : List Token) × Begins (Shapes.Word Words.Continue) p ts a × BySign Signs.Semicolon a rest
  SpellsStatement types (a_return t p) ts rest =
      (a : List Token) × Begins (Shapes.Word Words.Return) p ts a × SpellsClosed types t a rest
  SpellsStatement types (a_lock n q p) ts rest =
      (a : List Token) × Begins (Shapes.Word Words.Lock) p ts a × SpellsMutex types n q a rest
  SpellsStatement types (an_unlock n q p) ts rest =
      (a : List Token) × Begins (Shapes.Word Words.Unlock) p ts a × SpellsMutex types n q a rest
  SpellsStatement types (a_yield p) ts rest =
      (a : List Token) × (b : List Token) × (c : List Token) × Begins (Shapes.Word Words.Yield) p ts a
      × BySign Signs.OpenParenthesis a b
      × BySign Signs.CloseParenthesis b c × BySign Signs.Semicolon c rest

  -- a part of a block
  pub SpellsPart : List Name → PartTree → List Token → List Token → Type 0
  SpellsPart types (a_local d) ts rest = SpellsLocalDeclaration types d ts rest
  SpellsPart types (a_step s) ts rest = SpellsStatement types s ts rest

  -- the parts of a block, and its `}`
  pub SpellsParts : List Name → PartTrees → List Token → List Token → Type 0
  SpellsParts types no_parts ts rest = BySign Signs.CloseBrace ts rest
  SpellsParts types (and_part part parts) ts rest =
      (a : List Token) × SpellsPart types part ts a × SpellsParts types parts a rest

  -- a part of the block of a `switch`: a label, or a statement
  pub SpellsCase : List Name → CaseTree → List Token → List Token → Type 0
  SpellsCase types (a_case t p) ts rest =
      (a : List Token) × (b : List Token) × Begins (Shapes.Word Words.Case) p ts a
      × SpellsAt types (rank Levels.Condition) t a b × BySign Signs.Colon b rest
  SpellsCase types (a_default p) ts rest =
      (a : List Token) × Begins (Shapes.Word Words.Default) p ts a × BySign Signs.Colon a rest
  SpellsCase types (a_case_step s) ts rest = SpellsStatement types s ts rest

  -- these parts, and the `}`
  pub SpellsCases : List Name → CaseTrees → List Token → List Token → Type 0
  SpellsCases types no_cases ts rest = BySign Signs.CloseBrace ts rest
  SpellsCases types (and_case part cases) ts rest =
      (a : List Token) × SpellsCase types part ts a × SpellsCases types cases a rest

-- `{`, the parts of a block, and `}`
abbrev pub SpellsBlock : List Name → PartTrees → List Token → List Token → Type 0
SpellsBlock types parts ts rest = (a : List Token) × BySign Signs.OpenBrace ts a × SpellsParts types parts a rest

-- ## Functions (C99 6.7.5.3, 6.9.1)

abbrev pub SpellsParameter : List Name → ParameterTree → List Token → List Token → Type 0
SpellsParameter types (a_named_parameter specifiers d) ts rest =
    (a : List Token) × SpellsSpecifiers types false specifiers ts a × IsTrue (is_type_name_list (count_as specifiers))
    × SpellsDeclarator false types d a rest
SpellsParameter types (an_unnamed_parameter specifiers pointers) ts rest =
    (a : List Token) × SpellsSpecifiers types false specifiers ts a × IsTrue (is_type_name_list (count_as specifiers))
    × SpellsPointers pointers a rest × BeginsWithStar pointers

-- further parameters, each after a `,`, and the `)`
abbrev pub SpellsMoreParameters : List Name → List ParameterTree → List Token → List Token → Type 0
SpellsMoreParameters types [] ts rest = BySign Signs.CloseParenthesis ts rest
SpellsMoreParameters types (p ∷ parameters) ts rest =
    (a : List Token) × (b : List Token) × BySign Signs.Comma ts a × SpellsParameter types p a b
    × SpellsMoreParameters types parameters b rest

-- the word `void` alone, and the `)`
abbrev pub BeginsOnlyVoid : List Token → List Token → Type 0
BeginsOnlyVoid ts rest = (a : List Token) × ByWord Words.Void ts a × BySign Signs.CloseParenthesis a rest

-- The parameters after the `(`, and the `)`. The word `void` alone is no parameter.
abbrev pub SpellsParameters : List Name → ParametersTree → List Token → List Token → Type 0
SpellsParameters types only_void ts rest = BeginsOnlyVoid ts rest
SpellsParameters types (some_parameters []) ts rest = BySign Signs.CloseParenthesis ts rest
SpellsParameters types (some_parameters (p ∷ parameters)) ts rest =
    (a : List Token) × ((after : List Token) → BeginsOnlyVoid ts after → ⊥) × SpellsParameter types p ts a
    × SpellsMoreParameters types parameters a rest

-- a body, or a `;` in its place
abbrev pub SpellsBody : List Name → Option PartTrees → List Token → List Token → Type 0
SpellsBody types None ts rest = BySign Signs.Semicolon ts rest
SpellsBody types (Some parts) ts rest = SpellsBlock types parts ts rest

-- A function. One that a `typedef` declares is the name of a typedef behind its parameters.
abbrev pub SpellsFunction : List Name → FunctionTree → List Token → List Name → List Token → Type 0
SpellsFunction types f ts types' rest =
    (a : List Token) × (b : List Token) × (c : List Token) × (d : List Token) × (e : List Token)
    × SpellsSpecifiers types false f.specifiers ts a × IsTrue (is_file_list (count_as f.specifiers))
    × SpellsPointers f.pointers a b × BeginsWithStar f.pointers × ByName types f.name f.place b c
    × BySign Signs.OpenParenthesis c d × SpellsParameters types f.parameters d e
    × (types' ≡ with_declared (is_typedef_list (count_as f.specifiers)) types f.name) × SpellsBody types' f.body e rest

-- ## Files (C99 6.9)

-- `void`, the name of a task, and `(void)`
abbrev pub SpellsTaskHead : List Name → Name → Place → List Token → List Token → Type 0
SpellsTaskHead types n q ts rest =
    (a : List Token) × (b : List Token) × (c : List Token) × ByWord Words.Void ts a × ByName types n q a b
    × BySign Signs.OpenParenthesis b c × BeginsOnlyVoid c rest

-- One part of a file, where `types` are the names of typedefs before it and `types'` those behind it.
abbrev pub SpellsItem : List Name → ItemTree → List Token → List Name → List Token → Type 0
SpellsItem types (a_declaration d) ts types' rest = SpellsFileDeclaration types d ts types' rest
SpellsItem types (a_function f) ts types' rest = SpellsFunction types f ts types' rest
SpellsItem types an_empty_item ts types' rest = (types ≡ types') × BySign Signs.Semicolon ts rest
SpellsItem types (a_mutex n p) ts types' rest =
    (types ≡ types') × (a : List Token) × (b : List Token) × ByWord Words.Mutex ts a × ByName types n p a b
    × BySign Signs.Semicolon b rest
SpellsItem types (a_task t n q parts p) ts types' rest =
    (types ≡ types') × (a : List Token) × (b : List Token) × (c : List Token) × (d : List Token) × (e : List Token)
    × Begins (Shapes.Word Words.Task) p ts a × BySign Signs.OpenParenthesis a b
    × SpellsAt types (rank Levels.Condition) t b c
    × BySign Signs.CloseParenthesis c d × SpellsTaskHead types n q d e × SpellsBlock types parts e rest

-- the items spell all of the tokens, the names of typedefs growing in reading order
abbrev pub SpellsItems : List Name → List ItemTree → List Token → Type 0
SpellsItems types [] ts = ts ≡ []
SpellsItems types (i ∷ items) ts =
    (types' : List Name) × (a : List Token) × SpellsItem types i ts types' a × SpellsItems types' items a

-- a file: it begins with no name of a typedef
abbrev pub SpellsFile : List ItemTree → List Token → Type 0
SpellsFile items ts = SpellsItems [] items ts
