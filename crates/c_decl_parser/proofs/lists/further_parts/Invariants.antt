use Rattle.std.proofs.Common.{◌≡◌, ◌-◌, [], ◌∷◌, map}
use Rattle.c_decl_parser.specs.reading.Repetitions.{separated}
use Rattle.c_decl_parser.proofs.lists.further_parts.Given as goal

-- the rest of the reading gives what the whole gives
abbrev pub invariant-parts : goal.invariant-parts
invariant-parts g l =
    let read = g.P.PartReader.reads l.types l.allowed in
    separated read (l.limit - l._i) (map g.P.PartReader.tree l.found.items) l.rest ≡ separated read l.limit (g.P.PartReader.tree l.fn.first ∷ []) l.tokens
