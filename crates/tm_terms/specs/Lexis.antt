-- What begins at a byte of a source (C99 6.4, cut to the profile), always the longest that does. A text is a list
-- of bytes, and byte 0 stands for none past its end.
use Rattle.std.specs.Prelude.{ℕ, ◌+◌, ◌-◌, ◌*◌, ◌^◌, ℤ, pos, Bool, true, false, ◌&&◌, ◌||◌, if◌then◌else◌}
use Rattle.std.specs.Prelude.{◌==◌, nat_lt, nat_le, List, [], ◌∷◌, length, take, drop, slice_index, Option, Some, None}
use Rattle.std.specs.Prelude.{option_map, option_and_then, bytes_eq, codes, fold, find}
use Rattle.std.specs.List.{prefix_len, list_all}
use Rattle.std.specs.Char.{is_ascii_digit, is_ascii_alphabetic, is_ascii_alphanumeric, is_ascii_hexdigit}
use Rattle.tm_cint.specs.Conversions.{converted_value}
use Rattle.tm_cint.specs.declared.int_types.IntType.TheVariants.{Char}
use Rattle.tm_terms.specs.Splices.{is_other_line, is_spliced_slash, leaves_open}
use Rattle.tm_terms.specs.declared.tokens.IntConstant.{IntConstant}
use Rattle.tm_terms.specs.declared.tokens.Longs.{Longs}
use Rattle.tm_terms.specs.declared.tokens.Longs.TheVariants as longs
use Rattle.tm_terms.specs.declared.tokens.Piece.{Piece}
use Rattle.tm_terms.specs.declared.tokens.Shape.{Shape}
use Rattle.tm_terms.specs.declared.tokens.Shape.TheVariants as shape
use Rattle.tm_terms.specs.declared.tokens.Sign.{Sign}
use Rattle.tm_terms.specs.declared.tokens.Sign.TheVariants as sign
use Rattle.tm_terms.specs.declared.tokens.Word.{Word}
use Rattle.tm_terms.specs.declared.tokens.Word.TheVariants as word
-- ## Bytes

pub use Rattle.tm_terms.specs.Splices.{is_blank, is_in_line, is_blank_in_line}

-- a letter or `_`
abbrev pub is_name_start : ℕ → Bool
is_name_start b = is_ascii_alphabetic b || b == 95

-- a letter, a digit or `_`
abbrev pub is_name_byte : ℕ → Bool
is_name_byte b = is_ascii_alphanumeric b || b == 95

-- a number runs on over letters, digits, `_` and `.`
abbrev pub is_number_byte : ℕ → Bool
is_number_byte b = is_name_byte b || b == 46

-- the longest front of a text whose bytes pass a test, and what follows it
abbrev pub front : (ℕ → Bool) → List ℕ → List ℕ
front test text = take (prefix_len test text) text

abbrev pub behind : (ℕ → Bool) → List ℕ → List ℕ
behind test text = drop (prefix_len test text) text

-- ## Pieces

-- what stands between tokens, of this many bytes
abbrev pub gap : ℕ → Option Piece
gap n = Some (record { shape = None; length = n })

-- a token of this many bytes
abbrev pub token : Shape → ℕ → Option Piece
token s n = Some (record { shape = Some s; length = n })

-- ## Words and names (C99 6.4.1, 6.4.2)

-- the keywords of C99, and the analyser's own words
unfoldable pub words : List (List ℕ × Word)
words =
    (codes "auto", word.Auto) ∷ (codes "break", word.Break) ∷ (codes "case", word.Case) ∷ (codes "char", word.Char)
    ∷ (codes "const", word.Const) ∷ (codes "continue", word.Continue) ∷ (codes "default", word.Default)
    ∷ (codes "do", word.Do)
    ∷ (codes "double", word.Double) ∷ (codes "else", word.Else) ∷ (codes "enum", word.Enum)
    ∷ (codes "extern", word.Extern)
    ∷ (codes "float", word.Float) ∷ (codes "for", word.For) ∷ (codes "goto", word.Goto) ∷ (codes "if", word.If)
    ∷ (codes "inline", word.Inline) ∷ (codes "int", word.Int) ∷ (codes "long", word.Long)
    ∷ (codes "register", word.Register)
    ∷ (codes "restrict", word.Restrict) ∷ (codes "return", word.Return) ∷ (codes "short", word.Short)
    ∷ (codes "signed", word.Signed)
    ∷ (codes "sizeof", word.Sizeof) ∷ (codes "static", word.Static) ∷ (codes "struct", word.Struct)
    ∷ (codes "switch", word.Switch)
    ∷ (codes "typedef", word.Typedef) ∷ (codes "union", word.Union) ∷ (codes "unsigned", word.Unsigned)
    ∷ (codes "void", word.Void)
    ∷ (codes "volatile", word.Volatile) ∷ (codes "while", word.While)
    ∷ (codes "_Bool", word.Bool) ∷ (codes "_Complex", word.Complex) ∷ (codes "_Imaginary", word.Imaginary)
    ∷ (codes "__task", word.Task) ∷ (codes "__mutex", word.Mutex) ∷ (codes "__lock", word.Lock)
    ∷ (codes "__unlock", word.Unlock)
    ∷ (codes "__yield", word.Yield) ∷ (codes "__input", word.Input) ∷ (codes "__islocked", word.Islocked) ∷ []

-- the word with this spelling
unfoldable pub word_of : List ℕ → Option Word
word_of text = option_map (λ e. e.1) (find (λ e. bytes_eq text e.0) words)

-- a name where it stands: the byte at which it begins, and its length
abbrev pub name_at : ℕ → List ℕ → Shape
name_at at text = shape.Name (record { start = at; length = length text })

-- letters, digits and `_` after a letter or `_`: a word where one is spelled so, and else a name
abbrev pub word_or_name : ℕ → List ℕ → Shape
word_or_name at text = shaped (word_of text)
  where
    shaped : Option Word → Shape
    shaped None = name_at at text
    shaped (Some w) = shape.Word w

-- the piece that a letter or `_` begins
unfoldable pub word_piece : ℕ → List ℕ → Option Piece
word_piece at text = token (word_or_name at (front is_name_byte text)) (prefix_len is_name_byte text)

-- ## Integer constants (C99 6.4.4.1)

-- the value of a digit, of `a` to `f` and `A` to `F` too
abbrev pub digit_value : ℕ → ℕ
digit_value b = if is_ascii_digit b then b - 48 else (if nat_le 97 b then b - 87 else b - 55)

-- a digit in base 8, 10 or 16
abbrev pub is_digit_in : ℕ → ℕ → Bool
is_digit_in base b = is_ascii_hexdigit b && nat_lt (digit_value b) base

-- the number that these digits spell
abbrev pub value_in : ℕ → List ℕ → ℕ
value_in base digits = fold (λ v b. v * base + digit_value b) 0 digits

-- `u` or `U`; `l` or `L`
abbrev pub is_u : ℕ → Bool
is_u b = b == 117 || b == 85

abbrev pub is_l : ℕ → Bool
is_l b = b == 108 || b == 76

-- no letter, `l` or `L`, `ll` or `LL`
abbrev pub longs_of : List ℕ → Option Longs
longs_of [] = Some longs.None
longs_of (a ∷ []) = if is_l a then Some longs.One else None
longs_of (a ∷ b ∷ []) = if is_l a && a == b then Some longs.Two else None
longs_of _ = None

-- a suffix: whether it is unsigned, and how long. The `u` stands before the `l` or `ll`, or behind it.
abbrev pub suffix_of : List ℕ → Option (Bool × Longs)
suffix_of text =
    let last = length text - 1 in
    if length text == 0 then Some (false, longs.None)
    else (if is_u (slice_index text 0) then option_map (λ l. (true, l)) (longs_of (drop 1 text))
    else (if is_u (slice_index text last) then option_map (λ l. (true, l)) (longs_of (take last text))
    else option_map (λ l. (false, l)) (longs_of text)))

-- digits in this base, at least one, and a suffix; the value is at most 2^127-1
unfoldable pub constant_in : ℕ → List ℕ → Option IntConstant
constant_in base text =
    let value = value_in base (front (is_digit_in base) text) in
    if prefix_len (is_digit_in base) text == 0 then None
    else (if nat_le (2 ^ 127) value then None
    else option_map (λ s. record { value = value; decimal = base == 10; unsigned = s.0; longs = s.1 })
    (suffix_of (behind (is_digit_in base) text)))

-- a constant: hexadecimal behind `0x` or `0X`, octal from `0` on, and else decimal
unfoldable pub constant_of : List ℕ → Option IntConstant
constant_of text =
    if slice_index text 0 == 48 && (slice_index text 1 == 120 || slice_index text 1 == 88)
    then constant_in 16 (drop 2 text)
    else constant_in (if slice_index text 0 == 48 then 8 else 10) text

-- the piece that a digit begins
unfoldable pub number_piece : List ℕ → Option Piece
number_piece text =
    option_map (λ c. record { shape = Some (shape.Integer c); length = prefix_len is_number_byte text })
    (constant_of (front is_number_byte text))

-- ## Character constants (C99 6.4.4.4)

-- the value of a byte as a `char`
abbrev pub char_value : ℕ → ℤ
char_value b = converted_value (pos b) Char

-- the byte that a simple escape stands for, by the byte behind its `\`
abbrev pub simple_escape : ℕ → Option ℕ
simple_escape b =
    if b == 39 || b == 34 || b == 63 || b == 92 then Some b
    else (if b == 97 then Some 7
    else (if b == 98 then Some 8
    else (if b == 102 then Some 12
    else (if b == 110 then Some 10
    else (if b == 114 then Some 13
    else (if b == 116 then Some 9
    else (if b == 118 then Some 11
    else None)))))))

-- digits of this base as an escape of this many further bytes: at least one digit, and a value of at most 255
unfoldable pub digits_escape : ℕ → List ℕ → ℕ → Option (ℕ × ℕ)
digits_escape base digits more =
    if length digits == 0 then None
    else (if nat_le 256 (value_in base digits) then None
    else Some (value_in base digits, length digits + more))

-- the escape that begins behind a `\`: its byte, and how many bytes it takes. An octal one has one to three digits,
-- a hexadecimal one as many as follow.
unfoldable pub escape : List ℕ → Option (ℕ × ℕ)
escape text =
    if is_digit_in 8 (slice_index text 0) then digits_escape 8 (front (is_digit_in 8) (take 3 text)) 0
    else (if slice_index text 0 == 120 then digits_escape 16 (front (is_digit_in 16) (drop 1 text)) 1
    else option_map (λ b. (b, 1)) (simple_escape (slice_index text 0)))

-- the character behind a quote: a byte other than `'`, `\` and byte 10, or an escape
unfoldable pub character_in : List ℕ → Option (ℕ × ℕ)
character_in text =
    if length text == 0 then None
    else (if slice_index text 0 == 92 then option_map (λ e. (e.0, e.1 + 1)) (escape (drop 1 text))
    else (if slice_index text 0 == 39 || slice_index text 0 == 10 then None
    else Some (slice_index text 0, 1)))

-- a character of this byte and length with a quote before it, where one stands behind it too
abbrev pub quoted : List ℕ → ℕ × ℕ → Option Piece
quoted text c = if slice_index text (c.1 + 1) == 39 then token (shape.Character (char_value c.0)) (c.1 + 2) else None

-- a character constant: a quote, a character and a quote
unfoldable pub character : List ℕ → Option Piece
character text = option_and_then (quoted text) (character_in (drop 1 text))

-- ## Comments and skipped lines (C99 6.4.9, 6.10)

-- the number of the byte behind the first `*/`, where the text begins at byte k; none where joined lines would end the
-- comment before
abbrev pub comment_end : ℕ → List ℕ → Option ℕ
comment_end k [] = None
comment_end k (b ∷ text) =
    if b == 42 && slice_index text 0 == 47 then Some (k + 2)
    else (if b == 42 && is_spliced_slash text then None else comment_end (k + 1) text)

-- a comment from `/*` to the first `*/` behind it; none where it does not end, or where it would end elsewhere if lines
-- were joined
unfoldable pub comment : List ℕ → Option Piece
comment text = option_and_then gap (comment_end 2 (drop 2 text))

-- a comment from `//` up to the end of its line; none where a splice joins the next line to it
abbrev pub line_comment : List ℕ → Option Piece
line_comment text = if is_other_line text then None else gap (prefix_len is_in_line text)

-- behind `#` and blanks of the line stands a decimal number, `line` or `pragma`
abbrev pub is_skipped_word : List ℕ → Bool
is_skipped_word text =
    bytes_eq text (codes "line") || bytes_eq text (codes "pragma")
    || (nat_lt 0 (length text) && list_all is_ascii_digit text)

-- a line that begins with `#`, up to its end; none where it goes on in the next line, by a splice or by a comment
unfoldable pub skipped_line : List ℕ → Option Piece
skipped_line text =
    if is_skipped_word (front is_name_byte (behind is_blank_in_line (drop 1 text)))
    then (if is_other_line text || leaves_open (front is_in_line text) then None else gap (prefix_len is_in_line text))
    else None

-- ## Punctuators (C99 6.4.6)

unfoldable pub long_signs : List (List ℕ × Sign)
long_signs =
    (codes "<<=", sign.ShiftLeftEqual) ∷ (codes ">>=", sign.ShiftRightEqual) ∷ (codes "...", sign.Ellipsis) ∷ []

unfoldable pub double_signs : List (List ℕ × Sign)
double_signs =
    (codes "->", sign.Arrow) ∷ (codes "++", sign.PlusPlus) ∷ (codes "--", sign.MinusMinus)
    ∷ (codes "<<", sign.ShiftLeft)
    ∷ (codes ">>", sign.ShiftRight) ∷ (codes "<=", sign.LessEqual) ∷ (codes ">=", sign.GreaterEqual)
    ∷ (codes "==", sign.EqualEqual)
    ∷ (codes "!=", sign.NotEqual) ∷ (codes "&&", sign.AndAnd) ∷ (codes "||", sign.OrOr) ∷ (codes "*=", sign.StarEqual)
    ∷ (codes "/=", sign.SlashEqual) ∷ (codes "%=", sign.PercentEqual) ∷ (codes "+=", sign.PlusEqual)
    ∷ (codes "-=", sign.MinusEqual)
    ∷ (codes "&=", sign.AndEqual) ∷ (codes "^=", sign.CaretEqual) ∷ (codes "|=", sign.OrEqual) ∷ []

unfoldable pub single_signs : List (List ℕ × Sign)
single_signs =
    (codes "[", sign.OpenBracket) ∷ (codes "]", sign.CloseBracket) ∷ (codes "(", sign.OpenParenthesis)
    ∷ (codes ")", sign.CloseParenthesis)
    ∷ (codes "{", sign.OpenBrace) ∷ (codes "}", sign.CloseBrace) ∷ (codes ".", sign.Dot) ∷ (codes "&", sign.And)
    ∷ (codes "*", sign.Star) ∷ (codes "+", sign.Plus) ∷ (codes "-", sign.Minus) ∷ (codes "~", sign.Tilde)
    ∷ (codes "!", sign.Not) ∷ (codes "/", sign.Slash) ∷ (codes "%", sign.Percent) ∷ (codes "<", sign.Less)
    ∷ (codes ">", sign.Greater) ∷ (codes "^", sign.Caret) ∷ (codes "|", sign.Or) ∷ (codes "?", sign.Question)
    ∷ (codes ":", sign.Colon) ∷ (codes ";", sign.Semicolon) ∷ (codes "=", sign.Equal) ∷ (codes ",", sign.Comma) ∷ []

-- the sign of a table that is spelled so
abbrev pub sign_in : List (List ℕ × Sign) → List ℕ → Option Sign
sign_in table text = option_map (λ e. e.1) (find (λ e. bytes_eq text e.0) table)

-- the piece of the longest of a sign of three bytes, one of two and one of one
abbrev pub longest_sign : Option Sign → Option Sign → Option Sign → Option Piece
longest_sign (Some s) _ _ = token (shape.Sign s) 3
longest_sign None (Some s) _ = token (shape.Sign s) 2
longest_sign None None (Some s) = token (shape.Sign s) 1
longest_sign None None None = None

-- the longest sign that begins a text
unfoldable pub sign_of : List ℕ → Option Piece
sign_of text =
    let a = slice_index text 0 in let b = slice_index text 1 in let c = slice_index text 2 in
    longest_sign (sign_in long_signs (a ∷ b ∷ c ∷ [])) (sign_in double_signs (a ∷ b ∷ []))
    (sign_in single_signs (a ∷ []))

-- ## What begins

-- What begins a text that stands from byte `at` on, where `bare` says that only blanks stand before it on its line.
-- Nothing does at the end, at a comment that does not end or that joined lines would change, at a bad constant, at `#`
-- on another line than a skipped one, and at a byte of no other use.
unfoldable pub begins : ℕ → Bool → List ℕ → Option Piece
begins at bare text =
    let a = slice_index text 0 in let b = slice_index text 1 in
    if length text == 0 then None
    else (if is_blank a then gap 1
    else (if is_name_start a then word_piece at text
    else (if is_ascii_digit a then number_piece text
    else (if a == 39 then character text
    else (if a == 35 then (if bare then skipped_line text else None)
    else (if a == 47 && b == 42 then comment text
    else (if a == 47 && b == 47 then line_comment text
    else sign_of text)))))))
