-- The expressions in initialisers of static storage (C99 6.7.8p4), at the level of a file and in its functions; and
-- what they leave open.
use Rattle.std.specs.Prelude.{◌≡◌, ◌&&◌, ◌||◌, ◌==◌, ℕ, zero, suc, nat_lt, nat_le, Bool, true, false, not, cond, List, []}
use Rattle.std.specs.Prelude.{◌∷◌, Contains, Option, Some, None, option_map, Ok}
use Rattle.tm_terms.specs.declared.places.Place.{Place}
use Rattle.tm_terms.specs.declared.tokens.Name.{Name}
use Rattle.tm_terms.specs.declared.tokens.Token.{Token}
use Rattle.tm_terms.specs.declared.types_named.Storage.TheVariants as Storages
use Rattle.tm_terms.specs.Spelling.{Lexes}
use Rattle.tm_terms.specs.Limits.{most_tokens}
use Rattle.tm_terms.specs.ExprTrees.{Tree, place_of}
use Rattle.tm_trees.specs.DeclarationTrees.{ValueTree, an_expression, a_list, ValueTrees, and_value, InitDeclaratorTree}
use Rattle.tm_trees.specs.DeclarationTrees.{InitialiserTree, DeclarationTree, declared_name}
use Rattle.tm_trees.specs.FileTrees.{ItemTree, a_declaration, a_function, a_task, FunctionTree, PartTrees, and_part}
use Rattle.tm_trees.specs.FileTrees.{a_local, a_step, StatementTree, a_block, an_if, an_if_else, a_while, a_do, a_for}
use Rattle.tm_trees.specs.FileTrees.{a_switch, by_declaration, ForFirstTree, CaseTrees, and_case, CaseTree}
use Rattle.tm_trees.specs.FileTrees.{a_case_step}
use Rattle.tm_trees.specs.Parsing.{Parses}
use Rattle.tm_typed.specs.declared.scopes.ObjectNumber.TheVariants as Numbers
use Rattle.tm_terms.specs.Names.{is_same_name}
use Rattle.tm_typed.specs.declared.types.CType.{CType}
use Rattle.tm_typed.specs.States.{Static}
use Rattle.tm_typed.specs.declared.types.CType.TheVariants as Types
use Rattle.tm_laid.specs.TypeCells.{entry_of}
use Rattle.tm_laid.specs.Layouts.{LaidTree, object_of, object_at}
use Rattle.part_extents.specs.Parts.{deepest, unenumerated}
use Rattle.text_choices.specs.Texts.{has_storage, declarator_place}
use Rattle.text_choices.specs.AddressConstants.{Spot, pointed}

-- an expression stands in a value
mutual
  pub data InValue (e : Tree) : ValueTree → Type 0 where
    alone : InValue e (an_expression e)
    listed : {vs : ValueTrees} {p : Place} → InValues e vs → InValue e (a_list vs p)

  pub data InValues (e : Tree) : ValueTrees → Type 0 where
    first : {v : ValueTree} {vs : ValueTrees} → InValue e v → InValues e (and_value v vs)
    later : {v : ValueTree} {vs : ValueTrees} → InValues e vs → InValues e (and_value v vs)

-- in the initialiser of one of the objects of a declaration
pub record InDeclaration (e : Tree) (one : InitDeclaratorTree) (d : DeclarationTree) : Type 0 where
  pub among : Contains d.declarators one
  pub initialiser : InitialiserTree
  pub is : one.initialiser ≡ Some initialiser
  pub value : InValue e initialiser.value

-- in one of static storage among the parts of a block
mutual
  pub data InParts (e : Tree) (one : InitDeclaratorTree) : PartTrees → Type 0 where
    declared : {d : DeclarationTree} {rest : PartTrees} → has_storage Storages.Static d.specifiers ≡ true
        → InDeclaration e one d → InParts e one (and_part (a_local d) rest)
    stepped : {s : StatementTree} {rest : PartTrees} → InStatement e one s → InParts e one (and_part (a_step s) rest)
    later : {part : _} {rest : PartTrees} → InParts e one rest → InParts e one (and_part part rest)

  pub data InStatement (e : Tree) (one : InitDeclaratorTree) : StatementTree → Type 0 where
    in_block : {parts : PartTrees} → InParts e one parts → InStatement e one (a_block parts)
    in_if : {c : Tree} {s : StatementTree} → InStatement e one s → InStatement e one (an_if c s)
    in_first : {c : Tree} {s r : StatementTree} → InStatement e one s → InStatement e one (an_if_else c s r)
    in_second : {c : Tree} {s r : StatementTree} → InStatement e one r → InStatement e one (an_if_else c s r)
    in_while : {c : Tree} {s : StatementTree} → InStatement e one s → InStatement e one (a_while c s)
    in_do : {c : Tree} {s : StatementTree} → InStatement e one s → InStatement e one (a_do s c)
    in_for : {f : ForFirstTree} {c t : Option Tree} {s : StatementTree} → InStatement e one s
        → InStatement e one (a_for f c t s)
    in_for_first : {d : DeclarationTree} {c t : Option Tree} {s : StatementTree}
        → has_storage Storages.Static d.specifiers ≡ true → InDeclaration e one d
        → InStatement e one (a_for (by_declaration d) c t s)
    in_switch : {v : Tree} {cases : CaseTrees} → InCases e one cases → InStatement e one (a_switch v cases)

  pub data InCases (e : Tree) (one : InitDeclaratorTree) : CaseTrees → Type 0 where
    here : {s : StatementTree} {rest : CaseTrees} → InStatement e one s → InCases e one (and_case (a_case_step s) rest)
    further : {c : CaseTree} {rest : CaseTrees} → InCases e one rest → InCases e one (and_case c rest)

-- in one of static storage of a file
pub data InItem (e : Tree) (one : InitDeclaratorTree) : ItemTree → Type 0 where
  of_file : {d : DeclarationTree} → InDeclaration e one d → InItem e one (a_declaration d)
  of_function : {f : FunctionTree} (parts : PartTrees) → f.body ≡ Some parts → InParts e one parts
      → InItem e one (a_function f)
  of_task : {t : Tree} {n : Name} {p q : Place} {parts : PartTrees} → InParts e one parts
      → InItem e one (a_task t n q parts p)

-- ## What they leave open

abbrev pub or_later : Option ℕ → Option ℕ → Option ℕ
or_later None now = now
or_later (Some n) now = Some n

-- a place does not come before another one
abbrev pub is_not_before : Place → Place → Bool
is_not_before p q = nat_lt q.line p.line || ((p.line == q.line) && nat_le q.col p.col)

-- the number of the last object with a name that is declared at a place or before it, in the order of the file
abbrev pub last_named : ℕ → List Static → Name → Place → Option ℕ
last_named number [] n p = None
last_named number (o ∷ os) n p = or_later (last_named (suc number) os n p)
    (cond (is_same_name o.name n && is_not_before p o.place) (Some number) None)

-- an object of static storage as a whole
abbrev pub static_spot : LaidTree → ℕ → Spot
static_spot laid number =
    let o = object_of laid 0 (Numbers.Static number) in
    let q = (object_at laid o).of in
    record { object = o; offset = 0; of = q.number; constant = q.constant; cast = false }

abbrev pub named_at : LaidTree → Name → Place → Option Spot
named_at laid n p = option_map (static_spot laid) (last_named 0 laid.file.statics n p)

-- an expression in the initialiser of an object of static storage
pub record IsStaticValue (bytes : List ℕ) (e : Tree) (one : InitDeclaratorTree) : Type 0 where
  pub tokens : List Token
  pub lexed : Lexes most_tokens bytes (Ok tokens)
  pub items : List ItemTree
  pub parsed : Parses tokens (Ok items)
  pub item : ItemTree
  pub among : Contains items item
  pub stands : InItem e one item

-- an address constant leaves its array on the way
pub record IsConstantMoved (bytes : List ℕ) (laid : LaidTree) (place : Place) : Type 0 where
  pub value : Tree
  pub one : InitDeclaratorTree
  pub stands : IsStaticValue bytes value one
  pub moved : (let led = pointed laid (named_at laid) value in Contains led.left place)

-- the scalars of a type that is one, or an array of such, through so many arrays at most
abbrev pub element_in : (ℕ → ℕ) → ℕ → CType → ℕ
element_in scalar number (Types.Array element length) = scalar element
element_in scalar number _ = number

unfoldable pub scalar_within : LaidTree → ℕ → ℕ → ℕ
scalar_within laid zero number = number
scalar_within laid (suc depth) number =
    element_in (scalar_within laid depth) number (entry_of laid.file number).ctype

abbrev pub scalar_type : LaidTree → ℕ → CType
scalar_type laid number = (entry_of laid.file (scalar_within laid deepest number)).ctype

-- A `const` is lost where a pointer to a spot is given to a type, or the targets differ, enumerations being `int`; a cast
-- may give anything.
abbrev pub is_lost : Spot → CType → Bool
is_lost s (Types.Pointer to) =
    not s.cast && ((s.constant && not to.constant) || not (unenumerated s.of == unenumerated to.number))
is_lost s _ = false

-- An address constant loses a `const` where it is given to a pointer, or differs below. Of the members of structures
-- nothing is told.
pub record IsConstantGiven (bytes : List ℕ) (laid : LaidTree) (place : Place) : Type 0 where
  pub value : Tree
  pub one : InitDeclaratorTree
  pub stands : IsStaticValue bytes value one
  pub is : place_of value ≡ place
  pub spot : Spot
  pub points : (let led = pointed laid (named_at laid) value in led.spot ≡ Some spot)
  pub object : Spot
  pub named : named_at laid (declared_name one.declarator) (declarator_place one.declarator) ≡ Some object
  pub lost : is_lost spot (scalar_type laid object.of) ≡ true
