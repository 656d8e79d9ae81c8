-- The grammar of declarations: which tokens spell which tree (C99 6.7, cut to the profile).
-- Each relation says that the tokens `ts` begin with something, and that `rest` follows it.
use Rattle.std.specs.Prelude.{◌≡◌, ℕ, ◌≤◌, Bool, true, false, ◌||◌, ◌&&◌, ◌==◌, not, if◌then◌else◌, nat_le, List, []}
use Rattle.std.specs.Prelude.{◌∷◌, Option, Some, None, IsTrue, ◌⊎◌, ⊤}
use Rattle.tm_terms.specs.declared.tokens.Name.{Name}
use Rattle.tm_terms.specs.declared.tokens.Word.{Word}
use Rattle.tm_terms.specs.declared.tokens.Word.TheVariants as Words
use Rattle.tm_terms.specs.declared.tokens.Sign.TheVariants as Signs
use Rattle.tm_terms.specs.declared.tokens.Shape.TheVariants as Shapes
use Rattle.tm_terms.specs.declared.tokens.Token.{Token}
use Rattle.tm_terms.specs.declared.places.Place.{Place}
use Rattle.tm_terms.specs.declared.types_named.Spec.{Spec}
use Rattle.tm_terms.specs.declared.exprs.Level.TheVariants as Levels
use Rattle.tm_terms.specs.Names.{with_typedef}
use Rattle.tm_terms.specs.ExprTrees.{Tree, level, rank}
use Rattle.tm_terms.specs.ExprSpelling.{Begins, BySign, ByName, Spells, SpellsSpec, SpellsPointers, BeginsWithStar}
use Rattle.tm_terms.specs.ExprSpelling.{is_type_spec, is_type_list, is_type_name_list, is_storage, is_typedef_word}
use Rattle.tm_terms.specs.ExprSpelling.{many}
use Rattle.tm_trees.specs.declared.declarations.Tag.{Tag}
use Rattle.tm_trees.specs.DeclarationTrees.{LengthTree, DeclaratorTree, a_declared_name, a_nested, declared_name}
use Rattle.tm_trees.specs.DeclarationTrees.{EnumeratorTree, SpecifierTree, a_plain, a_struct, an_enum, SpecifierTrees}
use Rattle.tm_trees.specs.DeclarationTrees.{no_specifiers, and_specifier, MemberTrees, no_members, and_members}
use Rattle.tm_trees.specs.DeclarationTrees.{counts_as, count_as, ValueTree, an_expression, a_list, ValueTrees}
use Rattle.tm_trees.specs.DeclarationTrees.{no_values, and_value, InitialiserTree, InitDeclaratorTree, DeclarationTree}

-- the first token is this word, at some place
abbrev pub ByWord : Word → List Token → List Token → Type 0
ByWord word ts rest = (place : Place) × Begins (Shapes.Word word) place ts rest

-- an expression that stands at least at a level
abbrev pub SpellsAt : List Name → ℕ → Tree → List Token → List Token → Type 0
SpellsAt types at t ts rest = Spells types t ts rest × (at ≤ level t)

-- the same, or nothing
abbrev pub SpellsOptional : List Name → ℕ → Option Tree → List Token → List Token → Type 0
SpellsOptional types at None ts rest = ts ≡ rest
SpellsOptional types at (Some t) ts rest = SpellsAt types at t ts rest

-- ## Declarators (C99 6.7.5)

-- lengths of arrays, each in brackets
abbrev pub SpellsLengths : List Name → List LengthTree → List Token → List Token → Type 0
SpellsLengths types [] ts rest = ts ≡ rest
SpellsLengths types (l ∷ lengths) ts rest =
    (a : List Token) × (b : List Token) × (c : List Token) × Begins (Shapes.Sign Signs.OpenBracket) l.place ts a
    × SpellsOptional types (rank Levels.Condition) l.value a b × BySign Signs.CloseBracket b c
    × SpellsLengths types lengths c rest

-- A declared name is no name of a typedef. That of a member may be any: members belong to their structure (C99 6.2.3).
abbrev pub SpellsDeclaredName : Bool → List Name → Name → Place → List Token → List Token → Type 0
SpellsDeclaredName true types n p ts rest = Begins (Shapes.Name n) p ts rest
SpellsDeclaredName false types n p ts rest = ByName types n p ts rest

-- a declarator, where `member` says whether it declares a member of a structure
abbrev pub SpellsDeclarator : Bool → List Name → DeclaratorTree → List Token → List Token → Type 0
SpellsDeclarator member types (a_declared_name pointers n p lengths) ts rest =
    (a : List Token) × (b : List Token) × SpellsPointers pointers ts a × BeginsWithStar pointers
    × SpellsDeclaredName member types n p a b × SpellsLengths types lengths b rest
SpellsDeclarator member types (a_nested pointers d lengths) ts rest =
    (a : List Token) × (b : List Token) × (c : List Token) × (e : List Token) × SpellsPointers pointers ts a
    × BeginsWithStar pointers
    × BySign Signs.OpenParenthesis a b × SpellsDeclarator member types d b c × BySign Signs.CloseParenthesis c e
    × SpellsLengths types lengths e rest

-- ## Enumerations (C99 6.7.2.2)

-- the value of a constant, after a `=`, or nothing
abbrev pub SpellsConstant : List Name → Option Tree → List Token → List Token → Type 0
SpellsConstant types None ts rest = ts ≡ rest
SpellsConstant types (Some t) ts rest =
    (a : List Token) × BySign Signs.Equal ts a × SpellsAt types (rank Levels.Condition) t a rest

abbrev pub SpellsEnumerator : List Name → EnumeratorTree → List Token → List Token → Type 0
SpellsEnumerator types e ts rest =
    (a : List Token) × ByName types e.name e.place ts a × SpellsConstant types e.value a rest

-- a `}`, before which a `,` may stand
abbrev pub EndsBraces : List Token → List Token → Type 0
EndsBraces ts rest =
    BySign Signs.CloseBrace ts rest ⊎ ((a : List Token) × BySign Signs.Comma ts a × BySign Signs.CloseBrace a rest)

-- further constants, each after a `,`, and the end
abbrev pub SpellsMoreEnumerators : List Name → List EnumeratorTree → List Token → List Token → Type 0
SpellsMoreEnumerators types [] ts rest = EndsBraces ts rest
SpellsMoreEnumerators types (e ∷ enumerators) ts rest =
    (a : List Token) × (b : List Token) × BySign Signs.Comma ts a × SpellsEnumerator types e a b
    × SpellsMoreEnumerators types enumerators b rest

-- at least one constant, and the end
abbrev pub SpellsEnumerators : List Name → List EnumeratorTree → List Token → List Token → Type 0
SpellsEnumerators types [] ts rest = ⊥
SpellsEnumerators types (e ∷ enumerators) ts rest =
    (a : List Token) × SpellsEnumerator types e ts a × SpellsMoreEnumerators types enumerators a rest

-- ## Specifiers and members (C99 6.7, 6.7.2.1)

-- A tag, or nothing. It may be any name: tags have a name space of their own (C99 6.2.3).
abbrev pub SpellsTag : Option Tag → List Token → List Token → Type 0
SpellsTag None ts rest = ts ≡ rest
SpellsTag (Some tag) ts rest = Begins (Shapes.Name tag.name) tag.place ts rest

-- the specifiers of a declaration at file scope: one type, and at most one storage word
abbrev pub is_file_list : List Spec → Bool
is_file_list specs = is_type_list specs && nat_le (many is_storage specs) 1

-- they make their declarators names of types
abbrev pub is_typedef_list : List Spec → Bool
is_typedef_list specs = not (many is_typedef_word specs == 0)

-- the declarators of members, each after a `,`
abbrev pub SpellsMoreMembers : List Name → List DeclaratorTree → List Token → List Token → Type 0
SpellsMoreMembers types [] ts rest = ts ≡ rest
SpellsMoreMembers types (d ∷ declarators) ts rest =
    (a : List Token) × (b : List Token) × BySign Signs.Comma ts a × SpellsDeclarator true types d a b
    × SpellsMoreMembers types declarators b rest

-- at least one of them
abbrev pub SpellsMemberDeclarators : List Name → List DeclaratorTree → List Token → List Token → Type 0
SpellsMemberDeclarators types [] ts rest = ⊥
SpellsMemberDeclarators types (d ∷ declarators) ts rest =
    (a : List Token) × SpellsDeclarator true types d ts a × SpellsMoreMembers types declarators a rest

-- a structure has at least one member
abbrev pub HasMembers : MemberTrees → Type 0
HasMembers no_members = ⊥
HasMembers (and_members _ _ _) = ⊤

-- A specifier, where `seen` says whether a type stands before it in the same list: only where none does is the name
-- of a typedef one.
abbrev mutual
  pub SpellsSpecifier : List Name → Bool → SpecifierTree → List Token → List Token → Type 0
  SpellsSpecifier types seen (a_plain s) ts rest = SpellsSpec types seen s.word s.place ts rest
  SpellsSpecifier types seen (a_struct tag members p) ts rest =
      (a : List Token) × (b : List Token) × (c : List Token) × Begins (Shapes.Word Words.Struct) p ts a
      × SpellsTag tag a b
      × BySign Signs.OpenBrace b c × HasMembers members × SpellsMembers types members c rest
  SpellsSpecifier types seen (an_enum tag enumerators p) ts rest =
      (a : List Token) × (b : List Token) × (c : List Token) × Begins (Shapes.Word Words.Enum) p ts a
      × SpellsTag tag a b
      × BySign Signs.OpenBrace b c × SpellsEnumerators types enumerators c rest

  -- specifiers in any order
  pub SpellsSpecifiers : List Name → Bool → SpecifierTrees → List Token → List Token → Type 0
  SpellsSpecifiers types seen no_specifiers ts rest = ts ≡ rest
  SpellsSpecifiers types seen (and_specifier s specifiers) ts rest =
      (a : List Token) × SpellsSpecifier types seen s ts a
      × SpellsSpecifiers types (seen || is_type_spec (counts_as s).word) specifiers a rest

  -- the members that each declaration gives, and the `}`; the specifiers are those of a type name
  pub SpellsMembers : List Name → MemberTrees → List Token → List Token → Type 0
  SpellsMembers types no_members ts rest = BySign Signs.CloseBrace ts rest
  SpellsMembers types (and_members specifiers declarators members) ts rest =
      (a : List Token) × (b : List Token) × (c : List Token) × SpellsSpecifiers types false specifiers ts a
      × IsTrue (is_type_name_list (count_as specifiers))
      × SpellsMemberDeclarators types declarators a b × BySign Signs.Semicolon b c × SpellsMembers types members c rest

-- ## Values (C99 6.7.8)

abbrev mutual
  pub SpellsValue : List Name → ValueTree → List Token → List Token → Type 0
  SpellsValue types (an_expression t) ts rest = SpellsAt types (rank Levels.Assignment) t ts rest
  SpellsValue types (a_list values p) ts rest =
      (a : List Token) × Begins (Shapes.Sign Signs.OpenBrace) p ts a × SpellsValues types values a rest

  -- at least one value, and the end
  pub SpellsValues : List Name → ValueTrees → List Token → List Token → Type 0
  SpellsValues types no_values ts rest = ⊥
  SpellsValues types (and_value v values) ts rest =
      (a : List Token) × SpellsValue types v ts a × SpellsMoreValues types values a rest

  -- further values, each after a `,`, and the end
  pub SpellsMoreValues : List Name → ValueTrees → List Token → List Token → Type 0
  SpellsMoreValues types no_values ts rest = EndsBraces ts rest
  SpellsMoreValues types (and_value v values) ts rest =
      (a : List Token) × (b : List Token) × BySign Signs.Comma ts a × SpellsValue types v a b
      × SpellsMoreValues types values b rest

abbrev pub SpellsInitialiser : List Name → Option InitialiserTree → List Token → List Token → Type 0
SpellsInitialiser types None ts rest = ts ≡ rest
SpellsInitialiser types (Some i) ts rest =
    (a : List Token) × Begins (Shapes.Sign Signs.Equal) i.place ts a × SpellsValue types i.value a rest

-- ## Declarations (C99 6.7)

-- the names of typedefs once this name is declared, where `typedef` says whether by a typedef
abbrev pub with_declared : Bool → List Name → Name → List Name
with_declared typedef types n = if typedef then with_typedef types n else types

-- A declarator and its value. A typedef's name is one from the end of its declarator on: `types'` are the names
-- behind it.
abbrev pub SpellsInitDeclarator : Bool → List Name → InitDeclaratorTree → List Token → List Name → List Token → Type 0
SpellsInitDeclarator typedef types d ts types' rest =
    (a : List Token) × SpellsDeclarator false types d.declarator ts a
    × (types' ≡ with_declared typedef types (declared_name d.declarator))
    × SpellsInitialiser types' d.initialiser a rest

-- further ones, each after a `,`
abbrev pub SpellsMoreInitDeclarators : Bool → List Name → List InitDeclaratorTree → List Token → List Name → List Token
    → Type 0
SpellsMoreInitDeclarators typedef types [] ts types' rest = (types ≡ types') × (ts ≡ rest)
SpellsMoreInitDeclarators typedef types (d ∷ declarators) ts types' rest =
    (a : List Token) × (b : List Token) × (mid : List Name) × BySign Signs.Comma ts a
    × SpellsInitDeclarator typedef types d a mid b
    × SpellsMoreInitDeclarators typedef mid declarators b types' rest

-- any number of them
abbrev pub SpellsInitDeclarators : Bool → List Name → List InitDeclaratorTree → List Token → List Name → List Token
    → Type 0
SpellsInitDeclarators typedef types [] ts types' rest = (types ≡ types') × (ts ≡ rest)
SpellsInitDeclarators typedef types (d ∷ declarators) ts types' rest =
    (a : List Token) × (mid : List Name) × SpellsInitDeclarator typedef types d ts mid a
    × SpellsMoreInitDeclarators typedef mid declarators a types' rest

-- a declaration at file scope
abbrev pub SpellsFileDeclaration : List Name → DeclarationTree → List Token → List Name → List Token → Type 0
SpellsFileDeclaration types d ts types' rest =
    (a : List Token) × (b : List Token) × SpellsSpecifiers types false d.specifiers ts a
    × IsTrue (is_file_list (count_as d.specifiers))
    × SpellsInitDeclarators (is_typedef_list (count_as d.specifiers)) types d.declarators a types' b
    × BySign Signs.Semicolon b rest

-- A declaration in a block: it has no `typedef`.
abbrev pub SpellsLocalDeclaration : List Name → DeclarationTree → List Token → List Token → Type 0
SpellsLocalDeclaration types d ts rest =
    (a : List Token) × (b : List Token) × SpellsSpecifiers types false d.specifiers ts a
    × IsTrue (is_type_name_list (count_as d.specifiers))
    × SpellsInitDeclarators false types d.declarators a types b × BySign Signs.Semicolon b rest
