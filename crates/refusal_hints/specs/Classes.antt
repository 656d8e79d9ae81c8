-- The classes of words that are lists. A pattern names a class by a word that begins with `@`.
use Rattle.std.specs.Prelude.{ℕ, Bool, List, [], ◌∷◌, Option, option_map, bytes_eq, codes, find, is_some}

-- a word of a list
abbrev pub is_among : List (List ℕ) → List ℕ → Bool
is_among words word = is_some (find (λ w. bytes_eq w word) words)

-- the keywords of C99, and the analyser's own words
unfoldable pub keywords : List (List ℕ)
keywords =
    codes "auto" ∷ codes "break" ∷ codes "case" ∷ codes "char" ∷ codes "const" ∷ codes "continue" ∷ codes "default"
    ∷ codes "do" ∷ codes "double" ∷ codes "else" ∷ codes "enum" ∷ codes "extern" ∷ codes "float" ∷ codes "for"
    ∷ codes "goto" ∷ codes "if" ∷ codes "inline" ∷ codes "int" ∷ codes "long" ∷ codes "register" ∷ codes "restrict"
    ∷ codes "return" ∷ codes "short" ∷ codes "signed" ∷ codes "sizeof" ∷ codes "static" ∷ codes "struct"
    ∷ codes "switch" ∷ codes "typedef" ∷ codes "union" ∷ codes "unsigned" ∷ codes "void" ∷ codes "volatile"
    ∷ codes "while" ∷ codes "_Bool" ∷ codes "_Complex" ∷ codes "_Imaginary" ∷ codes "__task" ∷ codes "__mutex"
    ∷ codes "__lock" ∷ codes "__unlock" ∷ codes "__yield" ∷ codes "__input" ∷ codes "__islocked" ∷ []

abbrev pub is_keyword : List ℕ → Bool
is_keyword word = is_among keywords word

-- the classes, each with its words
unfoldable pub classes : List (List ℕ × List (List ℕ))
classes =
    -- words of types
    (
      codes "@type",
      codes "void" ∷ codes "char" ∷ codes "short" ∷ codes "int" ∷ codes "long" ∷ codes "signed" ∷ codes "unsigned"
          ∷ codes "_Bool" ∷ [],
    )
    -- words with which a declaration may begin
    ∷ (
      codes "@specifier",
      codes "void" ∷ codes "char" ∷ codes "short" ∷ codes "int" ∷ codes "long" ∷ codes "signed" ∷ codes "unsigned"
          ∷ codes "_Bool" ∷ codes "static" ∷ codes "extern" ∷ codes "register" ∷ codes "auto" ∷ codes "typedef"
          ∷ codes "const" ∷ codes "volatile" ∷ codes "inline" ∷ codes "struct" ∷ codes "enum" ∷ [],
    )
    -- storage words and qualifiers
    ∷ (
      codes "@storage",
      codes "static" ∷ codes "extern" ∷ codes "register" ∷ codes "auto" ∷ codes "typedef" ∷ codes "const"
          ∷ codes "volatile" ∷ codes "inline" ∷ [],
    )
    -- what C99 lets stand in the brackets of a parameter
    ∷ (
      codes "@qualifier",
      codes "static" ∷ codes "const" ∷ codes "restrict" ∷ codes "volatile" ∷ [],
    )
    -- what may stand between `asm` and its parenthesis
    ∷ (
      codes "@volatile",
      codes "volatile" ∷ codes "__volatile__" ∷ codes "__volatile" ∷ codes "goto" ∷ codes "inline" ∷ [],
    )
    -- words behind which a statement may begin
    ∷ (
      codes "@ended",
      codes ";" ∷ codes "{" ∷ codes "}" ∷ codes ":" ∷ codes ")" ∷ codes "else" ∷ codes "do" ∷ [],
    )
    -- floating types
    ∷ (
      codes "@floating",
      codes "float" ∷ codes "double" ∷ [],
    )
    -- complex types
    ∷ (
      codes "@complex",
      codes "_Complex" ∷ codes "_Imaginary" ∷ [],
    )
    -- assembly
    ∷ (
      codes "@asm",
      codes "asm" ∷ codes "__asm" ∷ codes "__asm__" ∷ [],
    )
    -- static assertions
    ∷ (
      codes "@assertion",
      codes "_Static_assert" ∷ codes "static_assert" ∷ [],
    )
    -- attributes of compilers
    ∷ (
      codes "@attribute",
      codes "__attribute__" ∷ codes "__attribute" ∷ codes "__declspec" ∷ [],
    )
    -- other words of C11 and of compilers
    ∷ (
      codes "@extension",
      codes "__extension__" ∷ codes "_Thread_local" ∷ codes "__thread" ∷ codes "typeof" ∷ codes "__typeof"
          ∷ codes "__typeof__" ∷ codes "_Alignof" ∷ codes "__alignof" ∷ codes "__alignof__" ∷ codes "_Alignas"
          ∷ codes "_Atomic" ∷ codes "_Noreturn" ∷ codes "_Generic" ∷ codes "__inline" ∷ codes "__inline__"
          ∷ codes "__restrict" ∷ codes "__restrict__" ∷ codes "__volatile" ∷ codes "__volatile__" ∷ codes "__const"
          ∷ codes "__const__" ∷ codes "__signed" ∷ codes "__signed__" ∷ codes "__int128" ∷ codes "__auto_type"
          ∷ codes "__label__" ∷ codes "__real__" ∷ codes "__imag__" ∷ codes "asm" ∷ codes "__asm" ∷ codes "__asm__"
          ∷ codes "__interrupt" ∷ codes "__irq" ∷ codes "_Float16" ∷ codes "__fp16" ∷ [],
    )
    -- what stands before a wide character
    ∷ (
      codes "@wide",
      codes "L" ∷ codes "u" ∷ codes "U" ∷ [],
    )
    -- behind what an operand stands, and no declarator
    ∷ (
      codes "@starter",
      codes "=" ∷ codes "return" ∷ codes ";" ∷ codes "{" ∷ codes "+" ∷ codes "-" ∷ codes "/" ∷ codes "%"
          ∷ codes "!" ∷ codes "~" ∷ codes "?" ∷ codes ":" ∷ codes "<" ∷ codes ">" ∷ codes "|" ∷ codes "^" ∷ codes "&"
          ∷ [],
    )
    -- what stands before the last word of a type and the name of a member
    ∷ (
      codes "@member",
      codes "{" ∷ codes ";" ∷ codes "}" ∷ codes "const" ∷ codes "volatile" ∷ codes "void" ∷ codes "char"
          ∷ codes "short" ∷ codes "int" ∷ codes "long" ∷ codes "signed" ∷ codes "unsigned" ∷ [],
    )
    -- what stands before the last word of the type of an object
    ∷ (
      codes "@frame",
      codes ";" ∷ codes "{" ∷ codes "(" ∷ codes "," ∷ codes "const" ∷ codes "static" ∷ codes "volatile"
          ∷ codes "signed" ∷ codes "unsigned" ∷ [],
    )
    ∷ []

-- the words of a class, where there is one of this name
abbrev pub class_of : List ℕ → Option (List (List ℕ))
class_of name = option_map (λ e. e.1) (find (λ e. bytes_eq e.0 name) classes)
