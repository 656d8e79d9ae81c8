use Rattle.std.proofs.Common.{◌≡◌, drop}
use Rattle.std.specs.Prelude.{find, bytes_eq}
use Rattle.c_lexer.proofs.words.found_in.Given as goal

abbrev pub invariant-loop-spelling : goal.invariant-loop-spelling
invariant-loop-spelling l = find (λ e. bytes_eq l.text e.0.now) l.table ≡ find (λ e. bytes_eq l.text e.0.now) (drop l.spelling-index l.table)
