use Rattle.std.specs.Prelude.{◌==◌}
use Rattle.std.specs.Vec.{vec_len}
use Rattle.std.proofs.Common.{◌≡◌, length, ap, ◌∙◌, arith}
use Rattle.std.proofs.lemmas.Bool.{false≢true}
use Rattle.program_solutions.proofs.turns.pass_from.Goals as goal

pub local_from-requires-clause-start : goal.local_from-requires-clause-start
local_from-requires-clause-start c =
    c.requires.kept (λ none.
    let nothing : length c.args.table.items ≡ 0 = ap length none in
    let counted : vec_len c.args.table ≡ 0 = omega (arith, c.args.table.ok.0, nothing) in
    false≢true (c.if-is_empty.ensures ∙ ap (λ n. n == 0) counted))
