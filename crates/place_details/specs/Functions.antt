-- In which function of a preprocessed text a place stands: the one whose body is open there. A body is open from the `{`
-- outside all braces that follows a `)`, and its function has the name that stands before the last `(` outside all
-- brackets (C99 6.9.1).
use Rattle.std.specs.Prelude.{ℕ, zero, suc, ◌+◌, ◌-◌, ◌==◌, ◌&&◌, ◌||◌, Bool, nat_lt, nat_le, List, [], ◌∷◌, take, drop}
use Rattle.std.specs.Prelude.{slice_index, if◌then◌else◌}
use Rattle.tm_terms.specs.Lexis.{is_name_byte}
use Rattle.place_details.specs.declared.code.Mode.{Mode}
use Rattle.place_details.specs.declared.code.Mode.TheVariants.{Code, Line, Begin, Block, End, Char, Escape}
use Rattle.place_details.specs.declared.functions.Scan.{Scan}
use Rattle.place_details.specs.declared.functions.Span.{Span}

-- ## The code of a text, in which comments, lines that begin with `#` and characters are blank

-- what a byte that stands in code begins, by the byte behind it
abbrev pub begun_by : ℕ → ℕ → Mode
begun_by b next =
    if b == 47 && next == 42 then Begin
    else (if (b == 47 && next == 47) || b == 35 then Line
    else (if b == 39 then Char
    else Code))

-- where the next byte stands, by where this one does and what it is
abbrev pub mode_behind : Mode → ℕ → ℕ → Mode
mode_behind Code b next = begun_by b next
mode_behind Line b next = if b == 10 then Code else Line
mode_behind Begin b next = Block
mode_behind Block b next = if b == 42 && next == 47 then End else Block
mode_behind End b next = Code
mode_behind Char b next = if b == 92 then Escape else (if b == 39 || b == 10 then Code else Char)
mode_behind Escape b next = Char

-- a byte between two places: itself where both stand in code, and a blank elsewhere
abbrev pub shown_in : Mode → Mode → ℕ → ℕ
shown_in Code Code b = b
shown_in _ _ b = 32

abbrev pub code_from : Mode → List ℕ → List ℕ
code_from here [] = []
code_from here (b ∷ text) =
    shown_in here (mode_behind here b (slice_index text 0)) b
    ∷ code_from (mode_behind here b (slice_index text 0)) text

-- the code of a text, byte for byte
abbrev pub code_of : List ℕ → List ℕ
code_of text = code_from Code text

-- ## What stands before a place of code

-- from one byte of the text to before another
abbrev pub from_to : ℕ → ℕ → Span
from_to start end = record { start = start; end = end }

abbrev pub nowhere : Span
nowhere = from_to 0 0

-- the numbers of open brackets, which no text that is read brings to the limit
abbrev pub most_open : ℕ
most_open = 1000000000

abbrev pub one_more : ℕ → ℕ
one_more n = if nat_lt n most_open then n + 1 else n

-- how many are open behind a byte
abbrev pub open_behind : ℕ → ℕ → ℕ → ℕ → ℕ
open_behind opening closing n b = if b == opening then one_more n else (if b == closing then n - 1 else n)

-- a byte stands outside all brackets
abbrev pub is_outside : Scan → Bool
is_outside s = s.braces == 0 && s.parens == 0

-- the last word outside all brackets: it goes on where it ended at the byte before
abbrev pub word_behind : Scan → ℕ → ℕ → Span
word_behind s at b =
    if is_outside s && is_name_byte b then from_to (if s.word.end == at then s.word.start else at) (at + 1)
    else s.word

-- the word right before the last `(` outside all brackets
abbrev pub called_behind : Scan → ℕ → Span
called_behind s b =
    if is_outside s && b == 40 then (if is_name_byte s.last then s.word else nowhere) else s.called

-- the name of the function whose body is open
abbrev pub body_behind : Scan → ℕ → Span
body_behind s b =
    if b == 123 && s.braces == 0 then (if s.last == 41 then s.called else nowhere)
    else (if b == 125 && s.braces == 1 then nowhere else s.body)

-- what stands before the place behind a byte, by what stands before the byte; blanks change nothing
abbrev pub step : Scan → ℕ → ℕ → Scan
step s at b =
    if nat_le b 32 then s
    else record {
      braces = open_behind 123 125 s.braces b;
      parens = open_behind 40 41 s.parens b;
      last = b;
      word = word_behind s at b;
      called = called_behind s b;
      body = body_behind s b;
    }

abbrev pub nothing : Scan
nothing = record { braces = 0; parens = 0; last = 0; word = nowhere; called = nowhere; body = nowhere }

-- what stands before a place of code, behind so many bytes
abbrev pub scanned : List ℕ → ℕ → Scan
scanned code zero = nothing
scanned code (suc n) = step (scanned code n) n (slice_index code n)

-- the bytes of a text from one to before another
abbrev pub bytes_in : List ℕ → Span → List ℕ
bytes_in text span = take (span.end - span.start) (drop span.start text)

-- the name of the function in which a place stands, behind so many bytes of a text: none where it stands in none
abbrev pub function_at : List ℕ → ℕ → List ℕ
function_at text offset = bytes_in text (scanned (code_of text) offset).body
