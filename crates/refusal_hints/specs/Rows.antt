-- Which words stand round a place where a source is refused for a construct: rows of patterns. A row has a pattern of the
-- first word of the declaration or statement at the place, one of the words before the place, and one of the words from
-- the place on; of an empty one nothing is asked. The first row that fits says what stands there.
use Rattle.std.specs.Prelude.{ℕ, List, [], ◌∷◌, ◌++◌, codes}
use Rattle.tm_terms.specs.declared.refusals.Kind.{Kind}
use Rattle.tm_terms.specs.declared.refusals.Kind.TheVariants as kind
use Rattle.refusal_hints.specs.declared.constructs.Construct.{Construct}
use Rattle.refusal_hints.specs.declared.constructs.Construct.TheVariants.{FloatingConstant, LabelRange, BinaryConstant}
use Rattle.refusal_hints.specs.declared.constructs.Construct.TheVariants.{Assembly, StaticAssertion, StringLiteral}
use Rattle.refusal_hints.specs.declared.constructs.Construct.TheVariants.{CharacterConstant, ContinuedComment, DollarName}
use Rattle.refusal_hints.specs.declared.constructs.Construct.TheVariants.{Directive, Backslash, Attribute, ExtensionWord}
use Rattle.refusal_hints.specs.declared.constructs.Construct.TheVariants.{Label, BitField, OmittedOperand}
use Rattle.refusal_hints.specs.declared.constructs.Construct.TheVariants.{StatementExpression, Designator, EmptyBraces}
use Rattle.refusal_hints.specs.declared.constructs.Construct.TheVariants.{EmptyStructure, UnnamedMember, FunctionPointer}
use Rattle.refusal_hints.specs.declared.constructs.Construct.TheVariants.{ArrayType, CompoundLiteral, ArrayBrackets}
use Rattle.refusal_hints.specs.declared.constructs.Construct.TheVariants.{WideCharacter, Digraph, SwitchLabel}
use Rattle.refusal_hints.specs.declared.constructs.Construct.TheVariants.{SwitchDeclaration, RepeatedTypedef, TypedefName}
use Rattle.refusal_hints.specs.declared.constructs.Construct.TheVariants.{UndeclaredType, CallOfExpression}
use Rattle.refusal_hints.specs.declared.constructs.Construct.TheVariants.{ParenthesisedName, SeveralFunctions}
use Rattle.refusal_hints.specs.declared.constructs.Construct.TheVariants.{BlockFunction, OldDefinition, ImplicitInt}
use Rattle.refusal_hints.specs.declared.constructs.Construct.TheVariants.{FloatingType, ComplexType, Union, Goto}
use Rattle.refusal_hints.specs.declared.constructs.Construct.TheVariants.{VariableArguments, VoidPointer, VolatilePointer}
use Rattle.refusal_hints.specs.declared.constructs.Construct.TheVariants.{StructureValue, FunctionValue}
use Rattle.refusal_hints.specs.declared.constructs.Construct.TheVariants.{PointerConversion, PointerDifference}
use Rattle.refusal_hints.specs.declared.constructs.Construct.TheVariants.{PointerOrder, VariableLength}
use Rattle.refusal_hints.specs.declared.constructs.Construct.TheVariants.{ArrayWithoutLength}

-- a row: three patterns, each a text whose words are those of the pattern, and the construct
pub record Row : Type 0 where
  pub opening : List ℕ
  pub before : List ℕ
  pub behind : List ℕ
  pub construct : Construct

abbrev pub row : List ℕ → List ℕ → List ℕ → Construct → Row
row opening before behind construct =
    record { opening = opening; before = before; behind = behind; construct = construct }

-- of Lexical
unfoldable pub lexical_rows : List Row
lexical_rows =
    row (codes "") (codes "") (codes "@exponent") FloatingConstant
    ∷ row (codes "") (codes "") (codes "@number . . .") LabelRange
    ∷ row (codes "") (codes "") (codes "@number .") FloatingConstant
    ∷ row (codes "") (codes "") (codes "@binary") BinaryConstant
    ∷ row (codes "") (codes "@asm (") (codes "@string") Assembly
    ∷ row (codes "") (codes "@asm @volatile (") (codes "@string") Assembly
    ∷ row (codes "") (codes "@asm @volatile @volatile (") (codes "@string") Assembly
    ∷ row (codes "@assertion") (codes "") (codes "@string") StaticAssertion
    ∷ row (codes "") (codes "") (codes "@string") StringLiteral
    ∷ row (codes "") (codes "") (codes "@character") CharacterConstant
    ∷ row (codes "") (codes "") (codes "@comment") ContinuedComment
    ∷ row (codes "") (codes "") (codes "$") DollarName
    ∷ row (codes "") (codes "") (codes "@directive") Directive
    ∷ row (codes "") (codes "") (codes "@backslash") Backslash
    ∷ []

-- of Syntax: attributes, and words of C11 and of compilers
unfoldable pub word_rows : List Row
word_rows =
    row (codes "") (codes "") (codes "@attribute") Attribute
    ∷ row (codes "") (codes "@attribute") (codes "") Attribute
    ∷ row (codes "") (codes "@attribute (") (codes "") Attribute
    ∷ row (codes "@attribute") (codes "") (codes "") Attribute
    ∷ row (codes "") (codes "@attribute ( ( @name ) )") (codes "@name") Attribute
    ∷ row (codes "") (codes "") (codes "[ [") Attribute
    ∷ row (codes "") (codes "") (codes "@assertion") StaticAssertion
    ∷ row (codes "") (codes "") (codes "@extension") ExtensionWord
    ∷ row (codes "") (codes "@extension") (codes "") ExtensionWord
    ∷ row (codes "") (codes "@extension (") (codes "") ExtensionWord
    ∷ row (codes "@extension") (codes "") (codes "") ExtensionWord
    ∷ row (codes "") (codes "_Generic ( @name ,") (codes "") ExtensionWord
    ∷ row (codes "") (codes "@extension ( @name ) )") (codes "") ExtensionWord
    ∷ []

-- of Syntax: labels, members, values in braces
unfoldable pub member_rows : List Row
member_rows =
    row (codes "") (codes "@ended @once") (codes ":") Label
    ∷ row (codes "") (codes "@member @type @name") (codes ":") BitField
    ∷ row (codes "") (codes "@member @name @name") (codes ":") BitField
    ∷ row (codes "") (codes "enum @name @name") (codes ":") BitField
    ∷ row (codes "") (codes "@member @type") (codes ":") BitField
    ∷ row (codes "@specifier") (codes ", @name") (codes ":") BitField
    ∷ row (codes "") (codes "?") (codes ":") OmittedOperand
    ∷ row (codes "") (codes "@operand (") (codes "{") StatementExpression
    ∷ row (codes "") (codes "") (codes ". @number") FloatingConstant
    ∷ row (codes "") (codes "{") (codes ". @name") Designator
    ∷ row (codes "") (codes ",") (codes ". @name") Designator
    ∷ row (codes "") (codes "{") (codes "[") Designator
    ∷ row (codes "") (codes ",") (codes "[") Designator
    ∷ row (codes "") (codes "= {") (codes "}") EmptyBraces
    ∷ row (codes "") (codes ", {") (codes "}") EmptyBraces
    ∷ row (codes "") (codes "{ {") (codes "}") EmptyBraces
    ∷ row (codes "") (codes "struct {") (codes "}") EmptyStructure
    ∷ row (codes "") (codes "struct @name {") (codes "}") EmptyStructure
    ∷ row (codes "") (codes "}") (codes ";") UnnamedMember
    ∷ []

-- of Syntax: pointers to functions, arrays, compound literals
unfoldable pub type_rows : List Row
type_rows =
    row (codes "") (codes "@type ( * @name )") (codes "(") FunctionPointer
    ∷ row (codes "") (codes "@name ( * @name )") (codes "(") FunctionPointer
    ∷ row (codes "") (codes "@type * ( * @name )") (codes "(") FunctionPointer
    ∷ row (codes "") (codes "struct @name * ( * @name )") (codes "(") FunctionPointer
    ∷ row (codes "") (codes "( * const @name )") (codes "(") FunctionPointer
    ∷ row (codes "") (codes "( * @name [ ] )") (codes "(") FunctionPointer
    ∷ row (codes "") (codes "( * @name [ @constant ] )") (codes "(") FunctionPointer
    ∷ row (codes "") (codes "( * @name [ @constant ] [ @constant ] )") (codes "(") FunctionPointer
    ∷ row (codes "") (codes "( * const @name [ ] )") (codes "(") FunctionPointer
    ∷ row (codes "") (codes "( * const @name [ @constant ] )") (codes "(") FunctionPointer
    ∷ row (codes "") (codes "@type ( * @name") (codes "(") FunctionPointer
    ∷ row (codes "") (codes "@name ( * @name") (codes "(") FunctionPointer
    ∷ row (codes "") (codes "( *") (codes ") (") FunctionPointer
    ∷ row (codes "") (codes "@type") (codes "( * ) (") FunctionPointer
    ∷ row (codes "") (codes "@name") (codes "( * ) (") FunctionPointer
    ∷ row (codes "") (codes "( @type @name") (codes "(") FunctionPointer
    ∷ row (codes "") (codes ", @type @name") (codes "(") FunctionPointer
    ∷ row (codes "") (codes "( *") (codes ") [") ArrayType
    ∷ row (codes "") (codes "@type") (codes "( * ) [") ArrayType
    ∷ row (codes "") (codes "@name") (codes "( * ) [") ArrayType
    ∷ row (codes "") (codes "@operand ( @type") (codes "[ ] ) {") CompoundLiteral
    ∷ row (codes "") (codes "@operand ( @name") (codes "[ ] ) {") CompoundLiteral
    ∷ row (codes "") (codes "@operand ( const @type") (codes "[ ] ) {") CompoundLiteral
    ∷ row (codes "") (codes "@operand ( const @name") (codes "[ ] ) {") CompoundLiteral
    ∷ row (codes "") (codes "@operand ( @type") (codes "[ @constant ] ) {") CompoundLiteral
    ∷ row (codes "") (codes "@operand ( @name") (codes "[ @constant ] ) {") CompoundLiteral
    ∷ row (codes "") (codes "( @type") (codes "[") ArrayType
    ∷ row (codes "") (codes "( @name") (codes "[") ArrayType
    ∷ row (codes "") (codes "( struct @name") (codes "[") ArrayType
    ∷ row (codes "") (codes "( @type @type") (codes "[") ArrayType
    ∷ row (codes "") (codes "( const @type") (codes "[") ArrayType
    ∷ row (codes "") (codes "( const @name") (codes "[") ArrayType
    ∷ row (codes "") (codes "( @type *") (codes "[") ArrayType
    ∷ row (codes "") (codes "( @name *") (codes "[") ArrayType
    ∷ row (codes "") (codes ", @type") (codes "[") ArrayType
    ∷ row (codes "") (codes ", @name") (codes "[") ArrayType
    ∷ row (codes "") (codes ", struct @name") (codes "[") ArrayType
    ∷ row (codes "") (codes ", const @type") (codes "[") ArrayType
    ∷ row (codes "") (codes ", const @name") (codes "[") ArrayType
    ∷ row (codes "") (codes "[") (codes "@qualifier") ArrayBrackets
    ∷ row (codes "") (codes "[ *") (codes "]") ArrayBrackets
    ∷ []

-- of Syntax: what stands where it may not, typedefs
unfoldable pub place_rows : List Row
place_rows =
    row (codes "") (codes "( @type )") (codes "{") CompoundLiteral
    ∷ row (codes "") (codes "( @type @type )") (codes "{") CompoundLiteral
    ∷ row (codes "") (codes "( const @type )") (codes "{") CompoundLiteral
    ∷ row (codes "") (codes "( const @type @type )") (codes "{") CompoundLiteral
    ∷ row (codes "") (codes "( @type * )") (codes "{") CompoundLiteral
    ∷ row (codes "") (codes "( @type @type * )") (codes "{") CompoundLiteral
    ∷ row (codes "") (codes "( const @type * )") (codes "{") CompoundLiteral
    ∷ row (codes "") (codes "( const @type @type * )") (codes "{") CompoundLiteral
    ∷ row (codes "") (codes "( struct @name )") (codes "{") CompoundLiteral
    ∷ row (codes "") (codes "( const struct @name )") (codes "{") CompoundLiteral
    ∷ row (codes "") (codes "@operand ( @name )") (codes "{") CompoundLiteral
    ∷ row (codes "") (codes "@operand ( const @name )") (codes "{") CompoundLiteral
    ∷ row (codes "") (codes "@wide") (codes "@character") WideCharacter
    ∷ row (codes "") (codes "") (codes "< :") Digraph
    ∷ row (codes "") (codes "") (codes "< %") Digraph
    ∷ row (codes "") (codes "") (codes "case") SwitchLabel
    ∷ row (codes "") (codes "") (codes "default") SwitchLabel
    ∷ row (codes "") (codes ";") (codes "@specifier") SwitchDeclaration
    ∷ row (codes "") (codes ") {") (codes "@specifier") SwitchDeclaration
    ∷ row (codes "") (codes ":") (codes "@specifier") SwitchDeclaration
    ∷ row (codes "typedef") (codes "@type") (codes "@name ;") RepeatedTypedef
    ∷ row (codes "typedef") (codes "@name") (codes "@name ;") RepeatedTypedef
    ∷ row (codes "") (codes "@frame @type") (codes "@name ;") TypedefName
    ∷ row (codes "") (codes "@frame @type") (codes "@name ,") TypedefName
    ∷ row (codes "") (codes "@frame @type") (codes "@name =") TypedefName
    ∷ row (codes "") (codes "@frame @type") (codes "@name )") TypedefName
    ∷ row (codes "") (codes "@frame @type") (codes "@name [") TypedefName
    ∷ []

-- of Syntax: calls, functions, names without a type
unfoldable pub name_rows : List Row
name_rows =
    row (codes "") (codes "@operand ( @once )") (codes "@number") UndeclaredType
    ∷ row (codes "") (codes "@operand ( @once )") (codes "@name") UndeclaredType
    ∷ row (codes "") (codes "@starter ( @once )") (codes "(") UndeclaredType
    ∷ row (codes "") (codes "@starter ( @name )") (codes "(") CallOfExpression
    ∷ row (codes "") (codes "@starter ( & @name )") (codes "(") CallOfExpression
    ∷ row (codes "") (codes "@starter ( * @name )") (codes "(") CallOfExpression
    ∷ row (codes "") (codes ". @name") (codes "(") CallOfExpression
    ∷ row (codes "") (codes "- > @name") (codes "(") CallOfExpression
    ∷ row (codes "") (codes "]") (codes "(") CallOfExpression
    ∷ row (codes "") (codes "@type ( @name )") (codes "(") ParenthesisedName
    ∷ row (codes "@specifier") (codes ", @name") (codes "(") SeveralFunctions
    ∷ row (codes "@specifier") (codes ", * @name") (codes "(") SeveralFunctions
    ∷ row (codes "@specifier") (codes ")") (codes ",") SeveralFunctions
    ∷ row (codes "") (codes "@type @name") (codes "(") BlockFunction
    ∷ row (codes "") (codes "@name @name") (codes "(") BlockFunction
    ∷ row (codes "") (codes "@type * @name") (codes "(") BlockFunction
    ∷ row (codes "") (codes "@name * @name") (codes "(") BlockFunction
    ∷ row (codes "") (codes "(") (codes "@name ) @specifier") OldDefinition
    ∷ row (codes "") (codes "(") (codes "@name , @name ) @specifier") OldDefinition
    ∷ row (codes "") (codes "(") (codes "@name , @name , @name ) @specifier") OldDefinition
    ∷ row (codes "@none") (codes "") (codes "@once @type") ExtensionWord
    ∷ row (codes "") (codes "@storage") (codes "@once @type") ExtensionWord
    ∷ row (codes "@none") (codes "") (codes "@once @name") UndeclaredType
    ∷ row (codes "@none") (codes "") (codes "@once *") UndeclaredType
    ∷ row (codes "") (codes "(") (codes "@once @name") UndeclaredType
    ∷ row (codes "") (codes "(") (codes "@once *") UndeclaredType
    ∷ row (codes "") (codes "(") (codes "@once ) ;") UndeclaredType
    ∷ row (codes "") (codes ",") (codes "@once @name") UndeclaredType
    ∷ row (codes "") (codes ",") (codes "@once *") UndeclaredType
    ∷ row (codes "") (codes "@storage") (codes "@once @name") UndeclaredType
    ∷ row (codes "") (codes "@storage") (codes "@once *") UndeclaredType
    ∷ row (codes "") (codes "@ended @once") (codes "@name") UndeclaredType
    ∷ row (codes "") (codes "for ( @once") (codes "@name") UndeclaredType
    ∷ row (codes "") (codes "@none") (codes "@name (") ImplicitInt
    ∷ row (codes "") (codes "@none") (codes "@name ;") ImplicitInt
    ∷ row (codes "") (codes ";") (codes "@name (") ImplicitInt
    ∷ row (codes "") (codes ";") (codes "@name ;") ImplicitInt
    ∷ row (codes "@storage") (codes "@storage") (codes "@once (") ImplicitInt
    ∷ row (codes "@storage") (codes "@storage") (codes "@once ;") ImplicitInt
    ∷ row (codes "@storage") (codes "@storage") (codes "@once =") ImplicitInt
    ∷ []

-- of Unsupported
unfoldable pub unsupported_rows : List Row
unsupported_rows =
    row (codes "") (codes "") (codes "@floating") FloatingType
    ∷ row (codes "") (codes "") (codes "@complex") ComplexType
    ∷ row (codes "") (codes "") (codes "union") Union
    ∷ row (codes "") (codes "") (codes "goto") Goto
    ∷ row (codes "case") (codes "") (codes ". . .") LabelRange
    ∷ row (codes "") (codes "[ @constant") (codes ". . .") Designator
    ∷ row (codes "") (codes "") (codes ". . . )") VariableArguments
    ∷ row (codes "") (codes "void *") (codes "@name") VoidPointer
    ∷ row (codes "") (codes "void * *") (codes "@name") VoidPointer
    ∷ row (codes "") (codes "void * const") (codes "@name") VoidPointer
    ∷ row (codes "") (codes "") (codes "void *") VoidPointer
    ∷ row (codes "") (codes "") (codes "const void *") VoidPointer
    ∷ row (codes "") (codes "") (codes "( void *") VoidPointer
    ∷ row (codes "") (codes "") (codes "( const void *") VoidPointer
    ∷ row (codes "") (codes "") (codes "sizeof ( void *") VoidPointer
    ∷ row (codes "") (codes "* volatile") (codes "@name") VolatilePointer
    ∷ row (codes "") (codes "") (codes "=") StructureValue
    ∷ row (codes "") (codes "") (codes "return") StructureValue
    ∷ row (codes "") (codes "@type @name =") (codes "@name") FunctionValue
    ∷ row (codes "") (codes "@name @name =") (codes "@name") StructureValue
    ∷ row (codes "") (codes "@name @name =") (codes "*") StructureValue
    ∷ row (codes "") (codes "@name") (codes "@name") StructureValue
    ∷ row (codes "") (codes "(") (codes "@name )") FunctionValue
    ∷ row (codes "") (codes "(") (codes "@name ,") FunctionValue
    ∷ row (codes "") (codes "&") (codes "@name") FunctionValue
    ∷ row (codes "@none") (codes "") (codes "@name ;") FunctionValue
    ∷ row (codes "") (codes "") (codes "@name (") StructureValue
    ∷ row (codes "") (codes "") (codes "(") PointerConversion
    ∷ row (codes "") (codes "") (codes "-") PointerDifference
    ∷ row (codes "") (codes "") (codes "<") PointerOrder
    ∷ row (codes "") (codes "") (codes ">") PointerOrder
    ∷ []

-- of NotConstant
unfoldable pub constant_rows : List Row
constant_rows =
    row (codes "") (codes "[") (codes "@name") VariableLength
    ∷ row (codes "") (codes "[ @name") (codes "@sign") VariableLength
    ∷ row (codes "") (codes "[ @number") (codes "@sign") VariableLength
    ∷ []

-- of Mismatch
unfoldable pub mismatch_rows : List Row
mismatch_rows =
    row (codes "") (codes "") (codes "@name [ ] ; }") ArrayWithoutLength
    ∷ row (codes "typedef") (codes "") (codes "@name (") FunctionPointer
    ∷ []

-- of Undeclared
unfoldable pub undeclared_rows : List Row
undeclared_rows =
    row (codes "") (codes "") (codes "@attribute") Attribute
    ∷ row (codes "") (codes "") (codes "@extension") ExtensionWord
    ∷ row (codes "@none") (codes "") (codes "@once * @name ;") UndeclaredType
    ∷ row (codes "@none") (codes "") (codes "@once * @name =") UndeclaredType
    ∷ []

-- the rows of a kind of refusal
abbrev pub rows_of : Kind → List Row
rows_of kind.Lexical = lexical_rows
rows_of kind.Syntax = word_rows ++ (member_rows ++ (type_rows ++ (place_rows ++ (name_rows))))
rows_of kind.Unsupported = unsupported_rows
rows_of kind.NotConstant = constant_rows
rows_of kind.Mismatch = mismatch_rows
rows_of kind.Undeclared = undeclared_rows
rows_of _ = []
