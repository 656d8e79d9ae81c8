use Rattle.std.proofs.Common.{◌≡◌, ◌-◌, false, []}
use Rattle.c_expr_parser.specs.reading.Parts.{specs_from}
use Rattle.c_expr_parser.proofs.type_names.read_specs.Given as goal

-- the rest of the reading gives what the whole gives
abbrev pub invariant-loop-i : goal.invariant-loop-i
invariant-loop-i l =
    specs_from l.types (l.limit - l._i) l.seen l.specs.items l.rest ≡ specs_from l.types l.limit false [] l.tokens
