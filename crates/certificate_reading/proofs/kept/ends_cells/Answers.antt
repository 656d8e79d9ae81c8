use Rattle.certificate_reading.proofs.CellsRead.{ends_none, ends_some, not_same}
use Rattle.certificate_reading.proofs.kept.ends_cells.Goals as goal

pub returns-in_default : goal.returns-in_default
returns-in_default c = λ t. ends_none c.args.text.now c.in_default.ensures.value

pub returns : goal.returns
returns c = λ t.
    ends_some c.args.text.now c.in-Some.byte.now c.in-Some.ensures.value
    c.if-byte-eq112.false c.if-byte-eq102.false
    (not_same c.in-Some.byte.now 115 t)
