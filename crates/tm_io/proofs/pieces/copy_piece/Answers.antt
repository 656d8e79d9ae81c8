use Rattle.std.proofs.Common.{arith, drop}
use Rattle.std.proofs.lemmas.Grind.{common_steps}
use Rattle.tm_io.proofs.Fronts.{next_piece}
use Rattle.tm_io.proofs.pieces.copy_piece.Goals as goal

pub returns-clause-split : goal.returns-clause-split
returns-clause-split c =
    next_piece c.args.bytes.now c.copy_from_slice.new.self (drop c.min-n.result c.args.into.now) c.args.at c.min-n.result (grind (arith, common_steps)) (grind (arith, common_steps))
