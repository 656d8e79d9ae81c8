use Rattle.std.proofs.Common.{ap, Some}
use Rattle.report_reading.proofs.Listed.{number_read, number_never}
use Rattle.report_reading.proofs.listings.number_of.Goals as goal

pub returns-in-Ok : goal.returns-in-Ok
returns-in-Ok c =
    λ n small e. ap Some (number_read n c.in-Ok.number c.args.text.now c.parse.result small e c.parse.ensures.value.0 c.in-Ok.is)

pub returns-in-Err : goal.returns-in-Err
returns-in-Err c =
    λ n small e. absurd (number_never n c.args.text.now c.parse.result c.in-Err.field-0 small e c.parse.ensures.value.0 c.in-Err.is)
