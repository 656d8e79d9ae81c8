-- What joining lines, or another end of a line, would change. In C a backslash at the end of a line joins the next line
-- to it, before comments are taken out (C99 5.1.1.2), and which bytes end a line is left to the compiler. The profile
-- has no such splices, and its lines end with byte 10: a comment, or a line that is skipped, which either would change
-- is no piece of the lexis.
use Rattle.std.specs.Prelude.{ℕ, zero, suc, ◌+◌, ◌-◌, Bool, true, false, not, ◌&&◌, ◌||◌, if◌then◌else◌, ◌==◌}
use Rattle.std.specs.Prelude.{nat_lt, nat_le, List, [], ◌∷◌, take, drop, slice_index, bytes_eq, codes}
use Rattle.std.specs.List.{prefix_len}

-- ## Bytes

-- space, tab, and bytes 10 to 13
abbrev pub is_blank : ℕ → Bool
is_blank b = b == 32 || (nat_le 9 b && nat_le b 13)

-- a byte of the same line
abbrev pub is_in_line : ℕ → Bool
is_in_line b = not (b == 10)

-- a blank of the same line
abbrev pub is_blank_in_line : ℕ → Bool
is_blank_in_line b = is_blank b && is_in_line b

-- a blank that ends a line for no compiler
abbrev pub is_inner_blank : ℕ → Bool
is_inner_blank b = is_blank_in_line b && not (b == 13)

-- ## Splices (C99 5.1.1.2, 5.2.1.1)

-- how many bytes the end of a line takes that begins a text, where one does, as gcc and clang have it: byte 10, byte 13,
-- or both
abbrev pub line_end : List ℕ → ℕ
line_end text =
    if slice_index text 0 == 10 then 1
    else (if not (slice_index text 0 == 13) then 0
    else (if slice_index text 1 == 10 then 2 else 1))

-- how many bytes the backslash takes that begins a text, where one does: it is written so, or as the trigraph `??/`
abbrev pub backslash : List ℕ → ℕ
backslash text =
    if slice_index text 0 == 92 then 1 else (if bytes_eq (take 3 text) (codes "??/") then 3 else 0)

-- how many bytes the splice takes that begins a text, where one does: a backslash, blanks, and the end of the line
abbrev pub splice : List ℕ → ℕ
splice text = ended (backslash text) (prefix_len is_inner_blank (drop (backslash text) text))
  where
    closed : ℕ → ℕ → ℕ
    closed n end = if nat_lt 0 end then n + end else 0

    ended : ℕ → ℕ → ℕ
    ended b n = if nat_lt 0 b then closed (b + n) (line_end (drop (b + n) text)) else 0

-- what follows all splices that begin a text, behind the first k of its bytes
abbrev pub unspliced : ℕ → List ℕ → List ℕ
unspliced k [] = []
unspliced (suc k) (b ∷ text) = unspliced k text
unspliced zero (b ∷ text) = if splice (b ∷ text) == 0 then b ∷ text else unspliced (splice (b ∷ text) - 1) text

-- one splice or more begins the text, and behind them stands `/`
abbrev pub is_spliced_slash : List ℕ → Bool
is_spliced_slash text = nat_lt 0 (splice text) && slice_index (unspliced 0 text) 0 == 47

-- a compiler ends a line where the text begins, and the lexis does not: byte 13, with no byte 10 behind it
abbrev pub is_lone_return : List ℕ → Bool
is_lone_return text = line_end text == 1 && slice_index text 0 == 13

-- the first line of the text goes on or ends elsewhere for a compiler: a splice or a lone byte 13 stands on it
abbrev pub is_other_line : List ℕ → Bool
is_other_line [] = false
is_other_line (b ∷ text) =
    is_in_line b && (nat_lt 0 (splice (b ∷ text)) || is_lone_return (b ∷ text) || is_other_line text)

-- ## Comments on a line that is skipped

-- where a byte of a line stands: in neither, in a character constant or a string literal that ends at a byte equal to the
-- one that began it (C99 6.4.4.4, 6.4.5), or in a comment from `/*` on (C99 6.4.9)
pub data Within : Type 0 where
  Neither : Within
  Quoted : ℕ → Within
  Comment : Within

-- two bytes begin the text
abbrev pub begins_with : ℕ → ℕ → List ℕ → Bool
begins_with a b text = slice_index text 0 == a && slice_index text 1 == b

-- Behind the first k bytes of a line stands a comment that does not end on it, where what follows them stands so. The
-- flag says whether `'` begins a character constant.
abbrev pub leaves_open_from : Bool → ℕ → Within → List ℕ → Bool
leaves_open_from paired k Neither [] = false
leaves_open_from paired k (Quoted q) [] = false
leaves_open_from paired k Comment [] = true
leaves_open_from paired (suc k) at (b ∷ line) = leaves_open_from paired k at line
leaves_open_from paired zero Neither (b ∷ line) =
    if begins_with 47 47 (b ∷ line) then false
    else (if begins_with 47 42 (b ∷ line) then leaves_open_from paired 1 Comment line
    else leaves_open_from paired 0 (if b == 34 || (paired && b == 39) then Quoted b else Neither) line)
leaves_open_from paired zero (Quoted q) (b ∷ line) =
    leaves_open_from paired (backslash (b ∷ line)) (if b == q then Neither else Quoted q) line
leaves_open_from paired zero Comment (b ∷ line) =
    if begins_with 42 47 (b ∷ line) then leaves_open_from paired 1 Neither line
    else leaves_open_from paired 0 Comment line

-- A comment begins on the line that does not end on it, whether or not `'` begins a character constant there: one that is
-- alone, as in `don't`, has no meaning in C (C99 6.4p3).
abbrev pub leaves_open : List ℕ → Bool
leaves_open line = leaves_open_from false 0 Neither line || leaves_open_from true 0 Neither line
