-- The descent for declarations. `allowed` is the greatest height of what is read.
use Rattle.std.specs.Prelude.{ℕ, zero, suc, Bool, true, false, cond, ◌||◌, nat_le, List, [], ◌∷◌, ◌++◌, length, Option}
use Rattle.std.specs.Prelude.{Some, None}
use Rattle.tm_terms.specs.declared.places.Place.{Place}
use Rattle.tm_terms.specs.declared.tokens.Name.{Name}
use Rattle.tm_terms.specs.declared.tokens.Word.{Word}
use Rattle.tm_terms.specs.declared.tokens.Word.TheVariants as Words
use Rattle.tm_terms.specs.declared.tokens.Shape.{Shape}
use Rattle.tm_terms.specs.declared.tokens.Shape.TheVariants as Shapes
use Rattle.tm_terms.specs.declared.tokens.Token.{Token}
use Rattle.tm_terms.specs.declared.types_named.Spec.{Spec}
use Rattle.tm_terms.specs.declared.types_named.TagKind.{TagKind}
use Rattle.tm_terms.specs.declared.types_named.TagKind.TheVariants as Tags
use Rattle.tm_terms.specs.declared.types_named.PointerWord.{PointerWord}
use Rattle.tm_terms.specs.ExprTrees.{Tree}
use Rattle.tm_terms.specs.ExprSpelling.{is_type_spec, is_type_name_list}
use Rattle.c_expr_parser.specs.declared.marks.Mark.TheVariants as Marks
use Rattle.c_expr_parser.specs.reading.Parts.{then_read, and_after, after, name_at, spec_at, pointers_from}
use Rattle.tm_trees.specs.declared.declarations.Tag.{Tag}
use Rattle.tm_trees.specs.DeclarationTrees.{LengthTree, DeclaratorTree, a_declared_name, a_nested, declared_name}
use Rattle.tm_trees.specs.DeclarationTrees.{EnumeratorTree, SpecifierTree, a_plain, a_struct, an_enum, SpecifierTrees}
use Rattle.tm_trees.specs.DeclarationTrees.{counts_as, count_as, as_specifiers, as_members, word_height, ValueTree}
use Rattle.tm_trees.specs.DeclarationTrees.{an_expression, a_list, as_values, InitialiserTree, InitDeclaratorTree}
use Rattle.tm_trees.specs.DeclarationTrees.{DeclarationTree}
use Rattle.tm_trees.specs.DeclarationSpelling.{with_declared}
use Rattle.c_decl_parser.specs.reading.Parts.{place_after, declared_at, expression, until}
use Rattle.c_decl_parser.specs.reading.Repetitions.{separated_by, separated, one_or_more, until_brace, in_braces}

-- ## Declarators

abbrev pub lengths_by : {A : Type 0} → Option (Place × List Token) → A → (Place → List Token → Option A) → Option A
lengths_by None stop go = Some stop
lengths_by (Some x) stop go = go x.0 x.1

-- behind those read so far the further lengths of arrays, at most n
unfoldable pub lengths_from : List Name → ℕ → ℕ → List LengthTree → List Token → Option (List LengthTree × List Token)
lengths_from types allowed zero found ts = Some (found, ts)
lengths_from types allowed (suc n) found ts = lengths_by (place_after Marks.OpenBracket ts) (found, ts) (λ place a.
    then_read (until types allowed 2 Marks.CloseBracket a)
    (λ value rest. lengths_from types allowed n (found ++ record { value = value; place = place } ∷ []) rest))

-- all lengths of arrays that come first
abbrev pub lengths : List Name → ℕ → List Token → Option (List LengthTree × List Token)
lengths types allowed ts = lengths_from types allowed (length ts) [] ts

-- the pointer part that comes first
abbrev pub pointers : List Token → List PointerWord × List Token
pointers ts = pointers_from (length ts) false [] ts

abbrev pub named_by : List Name → ℕ → List PointerWord → Option ((Name × Place) × List Token)
    → Option (DeclaratorTree × List Token)
named_by types allowed words found =
    then_read found (λ n a. then_read (lengths types allowed a)
    (λ sizes rest. Some (a_declared_name words n.0 n.1 sizes, rest)))

abbrev pub nested_by : List Name → ℕ → List PointerWord → Option (DeclaratorTree × List Token)
    → Option (DeclaratorTree × List Token)
nested_by types allowed words found = then_read found (λ d a. and_after (after Marks.CloseParenthesis a) (λ b.
    then_read (lengths types allowed b) (λ sizes rest. Some (a_nested words d sizes, rest))))

abbrev pub direct_by : Bool → List Name → ℕ → (List PointerWord → List Token → Option (DeclaratorTree × List Token))
    → List PointerWord → Option (List Token) → List Token → Option (DeclaratorTree × List Token)
direct_by member types allowed read words (Some inside) ts =
    nested_by types allowed words (read (pointers inside).0 (pointers inside).1)
direct_by member types allowed read words None ts = named_by types allowed words (declared_at member types ts)

-- the declarator whose pointer part was read
unfoldable pub declarator_after : Bool → List Name → ℕ → List PointerWord → List Token
    → Option (DeclaratorTree × List Token)
declarator_after member types zero words ts = None
declarator_after member types (suc allowed) words ts =
    direct_by member types allowed (declarator_after member types allowed) words (after Marks.OpenParenthesis ts) ts

abbrev pub declarator : Bool → List Name → ℕ → List Token → Option (DeclaratorTree × List Token)
declarator member types allowed ts = declarator_after member types allowed (pointers ts).0 (pointers ts).1

-- ## Enumerations

abbrev pub constant_by : List Name → ℕ → Option (List Token) → List Token → Option (Option Tree × List Token)
constant_by types allowed None ts = Some (None, ts)
constant_by types allowed (Some a) ts = then_read (expression types allowed 2 a) (λ t rest. Some (Some t, rest))

-- the value of a constant, if a `=` comes first
unfoldable pub constant : List Name → ℕ → List Token → Option (Option Tree × List Token)
constant types allowed ts = constant_by types allowed (after Marks.Equal ts) ts

unfoldable pub enumerator : List Name → ℕ → List Token → Option (EnumeratorTree × List Token)
enumerator types zero ts = None
enumerator types (suc allowed) ts = then_read (declared_at false types ts) (λ n a.
    then_read (constant types allowed a) (λ value rest. Some (record { name = n.0; value = value; place = n.1 }, rest)))

-- ## Specifiers

-- `struct` or `enum`, its place, the tag, if there is one, and a `{`
pub record Opened : Type 0 where
  pub kind : TagKind
  pub tag : Option Tag
  pub place : Place

abbrev pub tag_by : Option ((Name × Place) × List Token) → List Token → Option Tag × List Token
tag_by None ts = (None, ts)
tag_by (Some x) ts = (Some (record { name = x.0.0; place = x.0.1 }), x.1)

-- a tag, if a name comes first
abbrev pub tag_at : List Token → Option Tag × List Token
tag_at ts = tag_by (name_at ts) ts

abbrev pub opened_by : TagKind → Place → Option Tag × List Token → Option (Opened × List Token)
opened_by kind place x =
    and_after (after Marks.OpenBrace x.1) (λ rest. Some (record { kind = kind; tag = x.0; place = place }, rest))

abbrev pub opened_word : Word → Place → List Token → Option (Opened × List Token)
opened_word Words.Struct place ts = opened_by Tags.Struct place (tag_at ts)
opened_word Words.Enum place ts = opened_by Tags.Enum place (tag_at ts)
opened_word _ place ts = None

abbrev pub opened_shape : Shape → Place → List Token → Option (Opened × List Token)
opened_shape (Shapes.Word w) place ts = opened_word w place ts
opened_shape _ place ts = None

-- what opens the body of a structure or an enumeration, if it comes first
unfoldable pub opened : List Token → Option (Opened × List Token)
opened [] = None
opened (t ∷ ts) = opened_shape t.shape t.place ts

-- a word, a typedef name or a tag alone, as high as it may be
abbrev pub plain_by : ℕ → Option (Spec × List Token) → Option (Option (SpecifierTree × List Token))
plain_by allowed None = Some None
plain_by allowed (Some x) = cond (nat_le (word_height x.0.word) allowed) (Some (Some (a_plain x.0, x.1))) None

abbrev pub found_specifier : Option (SpecifierTree × List Token) → Option (Option (SpecifierTree × List Token))
found_specifier None = None
found_specifier (Some x) = Some (Some x)

abbrev pub specifier_by : List Name → Bool → ℕ → (Opened → List Token → Option (SpecifierTree × List Token))
    → Option (Opened × List Token) → List Token → Option (Option (SpecifierTree × List Token))
specifier_by types seen allowed body (Some x) ts = found_specifier (body x.0 x.1)
specifier_by types seen allowed body None ts = plain_by allowed (spec_at types seen ts)

-- the specifier that comes first: none may begin, or one that begins may be no specifier
unfoldable pub specifier : List Name → Bool → ℕ → (Opened → List Token → Option (SpecifierTree × List Token))
    → List Token → Option (Option (SpecifierTree × List Token))
specifier types seen allowed body ts = specifier_by types seen allowed body (opened ts) ts

abbrev pub specifiers_by : {A : Type 0} → Option (Option (SpecifierTree × List Token)) → A
    → (SpecifierTree → List Token → Option A) → Option A
specifiers_by None stop go = None
specifiers_by (Some None) stop go = Some stop
specifiers_by (Some (Some x)) stop go = go x.0 x.1

-- behind those read so far the further specifiers, at most n
unfoldable pub specifiers_from : List Name → ℕ → (Opened → List Token → Option (SpecifierTree × List Token)) → ℕ → Bool
    → List SpecifierTree → List Token → Option (List SpecifierTree × List Token)
specifiers_from types allowed body zero seen found ts = Some (found, ts)
specifiers_from types allowed body (suc n) seen found ts =
    specifiers_by (specifier types seen allowed body ts) (found, ts) (λ s rest.
    specifiers_from types allowed body n (seen || is_type_spec (counts_as s).word) (found ++ s ∷ []) rest)

-- the members of one declaration, whose specifiers were read
abbrev pub member_after : List Name → ℕ → List SpecifierTree → List Token
    → Option ((SpecifierTrees × List DeclaratorTree) × List Token)
member_after types allowed specifiers ts = cond (is_type_name_list (count_as (as_specifiers specifiers)))
    (then_read (one_or_more (declarator true types allowed) ts) (λ declarators a.
    and_after (after Marks.Semicolon a) (λ rest. Some ((as_specifiers specifiers, declarators), rest)))) None

-- at least one declaration of members, and the `}`
abbrev pub members_by : (List Token → Option ((SpecifierTrees × List DeclaratorTree) × List Token)) → List Token
    → Option (List (SpecifierTrees × List DeclaratorTree) × List Token)
members_by read ts = then_read (read ts) (λ m rest. until_brace read (length rest) (m ∷ []) rest)

abbrev pub body_by : List Name → ℕ → (List Token → Option ((SpecifierTrees × List DeclaratorTree) × List Token))
    → TagKind → Option Tag → Place → List Token → Option (SpecifierTree × List Token)
body_by types allowed read Tags.Struct tag place ts =
    then_read (members_by read ts) (λ members rest. Some (a_struct tag (as_members members) place, rest))
body_by types allowed read Tags.Enum tag place ts =
    then_read (in_braces (enumerator types allowed) ts) (λ enumerators rest. Some (an_enum tag enumerators place, rest))

unfoldable mutual
  -- all specifiers that come first
  pub specifiers : List Name → ℕ → List Token → Option (List SpecifierTree × List Token)
  specifiers types zero ts = None
  specifiers types (suc allowed) ts = specifiers_from types allowed (body types allowed) (length ts) false [] ts

  -- the body of a structure or an enumeration after its `{`
  pub body : List Name → ℕ → Opened → List Token → Option (SpecifierTree × List Token)
  body types zero o ts = None
  body types (suc allowed) o ts = body_by types allowed (member types allowed) o.kind o.tag o.place ts

  pub member : List Name → ℕ → List Token → Option ((SpecifierTrees × List DeclaratorTree) × List Token)
  member types zero ts = None
  member types (suc allowed) ts =
      then_read (specifiers types allowed ts) (λ found rest. member_after types allowed found rest)

-- ## Values

abbrev pub value_by : List Name → ℕ → (List Token → Option (ValueTree × List Token)) → Option (Place × List Token)
    → List Token → Option (ValueTree × List Token)
value_by types allowed read None ts =
    then_read (expression types (suc allowed) 1 ts) (λ t rest. Some (an_expression t, rest))
value_by types allowed read (Some x) ts =
    then_read (in_braces read x.1) (λ values rest. Some (a_list (as_values values) x.0, rest))

-- an expression, or values in braces
unfoldable pub value : List Name → ℕ → List Token → Option (ValueTree × List Token)
value types zero ts = None
value types (suc allowed) ts = value_by types allowed (value types allowed) (place_after Marks.OpenBrace ts) ts

abbrev pub initialiser_by : List Name → ℕ → Option (Place × List Token) → List Token
    → Option (Option InitialiserTree × List Token)
initialiser_by types allowed None ts = Some (None, ts)
initialiser_by types allowed (Some x) ts =
    then_read (value types allowed x.1) (λ v rest. Some (Some (record { value = v; place = x.0 }), rest))

-- a value, if a `=` comes first
unfoldable pub initialiser : List Name → ℕ → List Token → Option (Option InitialiserTree × List Token)
initialiser types allowed ts = initialiser_by types allowed (place_after Marks.Equal ts) ts

-- ## Declarations

-- a declarator whose pointer part was read, and its value
unfoldable pub init_declarator_after : List Name → ℕ → List PointerWord → List Token
    → Option (InitDeclaratorTree × List Token)
init_declarator_after types zero words ts = None
init_declarator_after types (suc allowed) words ts = then_read (declarator_after false types allowed words ts) (λ d a.
    then_read (initialiser types allowed a) (λ i rest. Some (record { declarator = d; initialiser = i }, rest)))

abbrev pub init_declarator : List Name → ℕ → List Token → Option (InitDeclaratorTree × List Token)
init_declarator types allowed ts = init_declarator_after types allowed (pointers ts).0 (pointers ts).1

abbrev pub init_declarators_by : List Name → ℕ → Option (List Token) → List Token
    → Option (List InitDeclaratorTree × List Token)
init_declarators_by types allowed (Some rest) ts = Some ([], rest)
init_declarators_by types allowed None ts = then_read (one_or_more (init_declarator types allowed) ts) (λ found a.
    and_after (after Marks.Semicolon a) (λ rest. Some (found, rest)))

-- any number of declarators, and the `;`
unfoldable pub init_declarators : List Name → ℕ → List Token → Option (List InitDeclaratorTree × List Token)
init_declarators types allowed ts = init_declarators_by types allowed (after Marks.Semicolon ts) ts

abbrev pub local_after : List Name → ℕ → List SpecifierTree → List Token → Option (DeclarationTree × List Token)
local_after types allowed found ts = cond (is_type_name_list (count_as (as_specifiers found)))
    (then_read (init_declarators types allowed ts)
    (λ declarators rest. Some (record { specifiers = as_specifiers found; declarators = declarators }, rest))) None

-- a declaration in a block
unfoldable pub local_declaration : List Name → ℕ → List Token → Option (DeclarationTree × List Token)
local_declaration types allowed ts =
    then_read (specifiers types allowed ts) (λ found rest. local_after types allowed found rest)

-- A declarator of a typedef whose pointer part was read, its value, and the names of typedefs behind it.
unfoldable pub typedef_after : List Name → ℕ → List PointerWord → List Token
    → Option ((InitDeclaratorTree × List Name) × List Token)
typedef_after types zero words ts = None
typedef_after types (suc allowed) words ts = then_read (declarator_after false types allowed words ts) (λ d a.
    then_read (initialiser (with_declared true types (declared_name d)) allowed a) (λ i rest.
    Some ((record { declarator = d; initialiser = i }, with_declared true types (declared_name d)), rest)))

-- behind those read so far the further ones, each after a `,`, at most n
unfoldable pub typedefs_from : ℕ → ℕ → List Name → List InitDeclaratorTree → List Token
    → Option ((List InitDeclaratorTree × List Name) × List Token)
typedefs_from allowed zero types found ts = Some ((found, types), ts)
typedefs_from allowed (suc n) types found ts = separated_by (after Marks.Comma ts) ((found, types), ts) (λ a.
    then_read (typedef_after types allowed (pointers a).0 (pointers a).1)
    (λ x rest. typedefs_from allowed n x.1 (found ++ x.0 ∷ []) rest))

abbrev pub rest_of_declaration : List Name → ℕ → Bool → List PointerWord → List Token
    → Option ((List InitDeclaratorTree × List Name) × List Token)
rest_of_declaration types allowed true words ts =
    then_read (typedef_after types allowed words ts) (λ x rest. typedefs_from allowed (length rest) x.1 (x.0 ∷ []) rest)
rest_of_declaration types allowed false words ts = then_read (init_declarator_after types allowed words ts) (λ x rest.
    then_read (separated (init_declarator types allowed) (length rest) (x ∷ []) rest)
    (λ found more. Some ((found, types), more)))

-- The declarators at file scope, the first of which had its pointer part read, and the `;`.
unfoldable pub file_declarators : List Name → ℕ → Bool → List PointerWord → List Token
    → Option ((List InitDeclaratorTree × List Name) × List Token)
file_declarators types allowed typedef words ts = then_read (rest_of_declaration types allowed typedef words ts) (λ x a.
    and_after (after Marks.Semicolon a) (λ rest. Some (x, rest)))
