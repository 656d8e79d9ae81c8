use Rattle.std.proofs.Common.{◌≡◌, ℕ, List, [], ◌++◌, take, drop, length}
use Rattle.tm_terms.specs.Spelling.{with_first_names}
use Rattle.c_lexer.specs.reading.Starts.{HasStarts}
use Rattle.c_lexer.proofs.names.tell_names.Given as goal

abbrev pub invariant-loop-i : goal.invariant-loop-i
invariant-loop-i l =
    (table : List (List ℕ × ℕ)) × HasStarts l.starts table
    × (with_first_names l.bytes [] l.initial.tokens.items ≡ take l.i l.tokens.items ++ with_first_names l.bytes table (drop l.i l.tokens.items))
    × (length l.tokens.items ≡ length l.initial.tokens.items)
