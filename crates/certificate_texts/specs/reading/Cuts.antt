-- How a text is written up to a limit: once it is longer, no line is appended to it any more.
use Rattle.std.specs.Prelude.{ℕ, nat_lt, cond, List, [], ◌++◌, length}
use Rattle.std.specs.List.{fold}
use Rattle.certificate_words.specs.Words.{Line, line_onto}
use Rattle.certificate_texts.specs.Limits.{certificate_limit}

-- a text with one more line, unless it is longer than the limit already
abbrev pub with_line_to : ℕ → List ℕ → Line → List ℕ
with_line_to limit text line = cond (nat_lt limit (length text)) text (text ++ line_onto line [])

abbrev pub with_lines_to : ℕ → List ℕ → List Line → List ℕ
with_lines_to limit text lines = fold (with_line_to limit) text lines

abbrev pub with_line : List ℕ → Line → List ℕ
with_line text line = with_line_to certificate_limit text line

abbrev pub with_lines : List ℕ → List Line → List ℕ
with_lines text lines = with_lines_to certificate_limit text lines
