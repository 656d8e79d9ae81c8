use Rattle.std.proofs.Common.{◌≡◌, ◌-◌, false, []}
use Rattle.c_expr_parser.specs.reading.Parts.{pointers_from}
use Rattle.c_expr_parser.proofs.type_names.read_pointers.Given as goal

-- the rest of the reading gives what the whole gives
abbrev pub invariant-loop-i : goal.invariant-loop-i
invariant-loop-i l =
    pointers_from (l.limit - l._i) l.started l.words.items l.rest ≡ pointers_from l.limit false [] l.tokens
