-- The tokens that part declarations and tell what they declare (C99 6.7, 6.9).
use Rattle.std.specs.Prelude.{Bool, true, false}
use Rattle.tm_terms.specs.declared.tokens.Shape.{Shape}
use Rattle.tm_terms.specs.declared.tokens.Shape.TheVariants as shape
use Rattle.tm_terms.specs.declared.tokens.Sign.{Sign}
use Rattle.tm_terms.specs.declared.tokens.Sign.TheVariants as sign
use Rattle.tm_terms.specs.declared.tokens.Word.{Word}
use Rattle.tm_terms.specs.declared.tokens.Word.TheVariants as word
use Rattle.unit_plans.specs.declared.declarations.Declared.TheVariants as declared
use Rattle.unit_plans.specs.declared.marks.Mark.{Mark}
use Rattle.unit_plans.specs.declared.marks.Mark.TheVariants as mark

abbrev pub mark_of_sign : Sign → Mark
mark_of_sign sign.OpenParenthesis = mark.OpenParenthesis
mark_of_sign sign.OpenBracket = mark.OpenBracket
mark_of_sign sign.OpenBrace = mark.OpenBrace
mark_of_sign sign.CloseBrace = mark.CloseBrace
mark_of_sign sign.CloseParenthesis = mark.Close
mark_of_sign sign.CloseBracket = mark.Close
mark_of_sign sign.Semicolon = mark.Semicolon
mark_of_sign sign.Comma = mark.Comma
mark_of_sign sign.Equal = mark.Equal
mark_of_sign sign.Dot = mark.Selector
mark_of_sign sign.Arrow = mark.Selector
mark_of_sign _ = mark.Other

abbrev pub mark_of_word : Word → Mark
mark_of_word word.Struct = mark.Struct
mark_of_word word.Enum = mark.Enum
mark_of_word word.Task = mark.Task
mark_of_word word.Static = mark.Storage declared.Static
mark_of_word word.Extern = mark.Storage declared.Extern
mark_of_word word.Typedef = mark.Storage declared.Typedef
mark_of_word word.Mutex = mark.Storage declared.Mutex
mark_of_word _ = mark.Other

-- what a token is to declarations
abbrev pub mark_of : Shape → Mark
mark_of (shape.Name name) = mark.Name name
mark_of (shape.Sign s) = mark_of_sign s
mark_of (shape.Word w) = mark_of_word w
mark_of (shape.Integer constant) = mark.Other
mark_of (shape.Character value) = mark.Other

abbrev pub is_open_brace : Mark → Bool
is_open_brace mark.OpenBrace = true
is_open_brace _ = false

abbrev pub is_open_parenthesis : Mark → Bool
is_open_parenthesis mark.OpenParenthesis = true
is_open_parenthesis _ = false

-- what may stand behind the name of a member (C99 6.7.2.1): `,`, `;`, `[` or `)`
abbrev pub ends_member : Mark → Bool
ends_member mark.Comma = true
ends_member mark.Semicolon = true
ends_member mark.OpenBracket = true
ends_member mark.Close = true
ends_member _ = false
