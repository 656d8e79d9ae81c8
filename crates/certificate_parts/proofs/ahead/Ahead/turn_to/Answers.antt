use Rattle.std.proofs.Common.{sym}
use Rattle.certificate_parts.proofs.Fronting.{no_text}
use Rattle.certificate_parts.proofs.ahead.Ahead.turn_to.Goals as goal

pub invariant_of-self-in-Err : goal.invariant_of-self-in-Err
invariant_of-self-in-Err c =
    (no_text c.new-self-inside-in-Err.result c.new-self-inside-in-Err.ensures, sym c.new-self-inside-in-Err.ensures)
