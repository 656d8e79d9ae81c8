-- The tests of bytes by which runs go.
use Rattle.std.specs.Prelude.{ℕ, Bool}
use Rattle.tm_terms.specs.Lexis.{is_name_byte, is_number_byte, is_digit_in}
use Rattle.tm_terms.specs.Splices.{is_in_line, is_blank_in_line, is_inner_blank}
use Rattle.c_lexer.specs.declared.runs.Run.{Run}
use Rattle.c_lexer.specs.declared.runs.Run.TheVariants as run

-- whether a byte belongs to a run
abbrev pub belongs : Run → ℕ → Bool
belongs run.Name b = is_name_byte b
belongs run.Number b = is_number_byte b
belongs run.Line b = is_in_line b
belongs run.Blanks b = is_blank_in_line b
belongs run.InnerBlanks b = is_inner_blank b
belongs (run.Digits base) b = is_digit_in base b
