-- Where a byte of a skipped line stands, as the definition has it.
use Rattle.std.specs.Prelude.{ℕ, Bool, false, List, Option, Some, None}
use Rattle.tm_terms.specs.Splices.{Within, Neither, Quoted, Comment, leaves_open_from}
use Rattle.c_lexer.specs.declared.splices.Within.{Within as CodeWithin}
use Rattle.c_lexer.specs.declared.splices.Within.TheVariants as code

abbrev pub within_of : CodeWithin → Within
within_of code.Neither = Neither
within_of (code.Quoted q) = Quoted q
within_of code.Comment = Comment

-- whether a comment is left open, where what follows stands so behind so many bytes
abbrev pub leaves_open_behind : Bool → Option (CodeWithin × ℕ) → List ℕ → Bool
leaves_open_behind paired None line = false
leaves_open_behind paired (Some s) line = leaves_open_from paired s.1 (within_of s.0) line
