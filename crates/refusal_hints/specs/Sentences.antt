-- What each construct is, and what to write instead.
use Rattle.std.specs.Prelude.{ℕ, List, codes}
use Rattle.refusal_hints.specs.declared.constructs.Construct.{Construct}
use Rattle.refusal_hints.specs.declared.constructs.Construct.TheVariants.{FloatingConstant, LabelRange, BinaryConstant}
use Rattle.refusal_hints.specs.declared.constructs.Construct.TheVariants.{Assembly, StaticAssertion, StringLiteral}
use Rattle.refusal_hints.specs.declared.constructs.Construct.TheVariants.{CharacterConstant, ContinuedComment, DollarName}
use Rattle.refusal_hints.specs.declared.constructs.Construct.TheVariants.{Directive, Backslash, Attribute, ExtensionWord}
use Rattle.refusal_hints.specs.declared.constructs.Construct.TheVariants.{Label, BitField, OmittedOperand}
use Rattle.refusal_hints.specs.declared.constructs.Construct.TheVariants.{StatementExpression, Designator, EmptyBraces}
use Rattle.refusal_hints.specs.declared.constructs.Construct.TheVariants.{EmptyStructure, UnnamedMember, FunctionPointer}
use Rattle.refusal_hints.specs.declared.constructs.Construct.TheVariants.{ArrayType, CompoundLiteral, ArrayBrackets}
use Rattle.refusal_hints.specs.declared.constructs.Construct.TheVariants.{WideCharacter, Digraph, SwitchLabel}
use Rattle.refusal_hints.specs.declared.constructs.Construct.TheVariants.{SwitchDeclaration, RepeatedTypedef, TypedefName}
use Rattle.refusal_hints.specs.declared.constructs.Construct.TheVariants.{UndeclaredType, CallOfExpression}
use Rattle.refusal_hints.specs.declared.constructs.Construct.TheVariants.{ParenthesisedName, SeveralFunctions}
use Rattle.refusal_hints.specs.declared.constructs.Construct.TheVariants.{BlockFunction, OldDefinition, ImplicitInt}
use Rattle.refusal_hints.specs.declared.constructs.Construct.TheVariants.{FloatingType, ComplexType, Union, Goto}
use Rattle.refusal_hints.specs.declared.constructs.Construct.TheVariants.{VariableArguments, VoidPointer, VolatilePointer}
use Rattle.refusal_hints.specs.declared.constructs.Construct.TheVariants.{StructureValue, FunctionValue}
use Rattle.refusal_hints.specs.declared.constructs.Construct.TheVariants.{PointerConversion, PointerDifference}
use Rattle.refusal_hints.specs.declared.constructs.Construct.TheVariants.{PointerOrder, VariableLength}
use Rattle.refusal_hints.specs.declared.constructs.Construct.TheVariants.{ArrayWithoutLength}

-- what a construct is, and what to write instead
abbrev pub sentence_text : Construct → List ℕ
sentence_text FloatingConstant = codes "a floating constant: write an integer of a fixed scale, as millivolts"
sentence_text LabelRange = codes "a range of labels: write a label for each value"
sentence_text BinaryConstant = codes "a binary constant: write it as `3`, `03` or `0x3`"
sentence_text Assembly = codes "assembly: let a function say what it does, with `__input` for what it reads"
sentence_text StaticAssertion = codes "a static assertion: leave it to the compiler, as by `-D'_Static_assert(...)='`"
sentence_text StringLiteral = codes "a string literal: write its characters in braces, as `char s[] = { 'a', 'b', 0 };`"
sentence_text CharacterConstant =
    codes "a character constant that is not one byte or an escape of C99 for one: write its number"
sentence_text ContinuedComment =
    codes "a comment that goes on in the next line, or ends before its own, for a compiler: end it with another byte"
sentence_text DollarName = codes "a name with `$`: take letters, digits and `_`"
sentence_text Directive =
    codes "a directive, or one that goes on in the next line: let the preprocessor take it, as by `cc -E`"
sentence_text Backslash =
    codes "a backslash, which joins lines or begins a universal name: write one line, and letters of ASCII"
sentence_text Attribute = codes "an attribute: leave it out, as by `-D'__attribute__(x)='`"
sentence_text ExtensionWord =
    codes "a word that C99 does not have, or a macro that is not defined: leave it out, as by `-DWORD=`"
sentence_text Label = codes "a label: take a loop with `break` and `continue`, or a function with `return`"
sentence_text BitField = codes "a bit-field: take a member of its own, or shifts and masks"
sentence_text OmittedOperand = codes "`?:` without its middle: write `x ? x : y`"
sentence_text StatementExpression = codes "statements in an expression: write a function"
sentence_text Designator = codes "a designated initialiser: write the values in their order, up to the last"
sentence_text EmptyBraces = codes "braces without a value: write `{ 0 }`"
sentence_text EmptyStructure = codes "a structure without members: have no object of it"
sentence_text UnnamedMember = codes "a member without a name: give it one"
sentence_text FunctionPointer =
    codes "a pointer to a function, or a type of functions: take a `switch` over a number, with a call in each case"
sentence_text ArrayType =
    codes "an array type without a name: take an object or a parameter of that type, or `3 * sizeof(int)`"
sentence_text CompoundLiteral = codes "a compound literal: take an object with an initialiser"
sentence_text ArrayBrackets = codes "a qualifier, `static` or `*` in the brackets of a parameter: leave it out"
sentence_text WideCharacter = codes "a wide character: write its number"
sentence_text Digraph = codes "a digraph: write the sign itself"
sentence_text SwitchLabel = codes "a label of a `switch` that stands not directly in its braces: let it stand there"
sentence_text SwitchDeclaration =
    codes "a declaration directly in a `switch`: write it before the `switch`, or in a block behind a label"
sentence_text RepeatedTypedef = codes "a typedef in a block, or a second one of a name: write one, before the functions"
sentence_text TypedefName = codes "the name of a typedef, declared as something else: take another name"
sentence_text UndeclaredType =
    codes "a name as a type that no typedef declares: include the header that does, as <stdint.h>"
sentence_text CallOfExpression =
    codes "a call of something else than a name: write `f(1)`, or a `switch` with a call in each case"
sentence_text ParenthesisedName = codes "a function's name in parentheses: write `int f(void);`"
sentence_text SeveralFunctions = codes "a function beside others in one declaration: write a declaration for each"
sentence_text BlockFunction =
    codes "a function that is declared or defined within another, or within a structure: write it at file scope, before"
sentence_text OldDefinition = codes "parameters by name alone, with their types behind: write `int f(int a)`"
sentence_text ImplicitInt =
    codes "a declaration without a type, or a macro that is not defined: write the type, or define the macro"
sentence_text FloatingType = codes "a floating type: take integers of a fixed scale, as millivolts in a `long`"
sentence_text ComplexType = codes "a complex type: take two objects"
sentence_text Union =
    codes "a union: take a structure with a member for each use, or shifts and masks for the bytes of a number"
sentence_text Goto = codes "`goto`: take a loop with `break` and `continue`, or a function with `return`"
sentence_text VariableArguments = codes "a variable number of arguments: write a function for each number"
sentence_text VoidPointer = codes "a pointer to `void`: take a pointer to the type that is meant"
sentence_text VolatilePointer = codes "a pointer that is volatile itself: let only what it points to be volatile"
sentence_text StructureValue = codes "a structure by value: take a member at a time, or a pointer to it"
sentence_text FunctionValue = codes "a function's or a task's name as a value: write a call"
sentence_text PointerConversion =
    codes "a number as a pointer, a pointer as a number, or a pointer as one to another type: for a register take a `volatile` object"
sentence_text PointerDifference = codes "the difference of pointers: keep an index beside the array"
sentence_text PointerOrder = codes "the order of pointers: keep an index beside the array, or compare by `!=`"
sentence_text VariableLength =
    codes "an array whose length is not a constant: take the greatest length, and the length beside it"
sentence_text ArrayWithoutLength = codes "an array without a length: give it the greatest that it may have"
