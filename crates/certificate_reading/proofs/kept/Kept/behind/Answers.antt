use Rattle.std.proofs.Common.{Some}
use Rattle.std.proofs.lemmas.Bool.Decides.{Decides-eqb}
use Rattle.std.proofs.lemmas.Slice.Eq.{strip_prefix_is}
use Rattle.certificate_reading.proofs.CellsRead.{kept_front}
use Rattle.certificate_reading.proofs.kept.Kept.behind.Goals as goal

pub returns-then-ends_cells : goal.returns-then-ends_cells
returns-then-ends_cells c =
    kept_front c.args.self.now.text.now c.args.text.now c.in-Some.more.now c.is_empty.result c.is_empty.ensures
    c.if-is_empty.false
    (strip_prefix_is Decides-eqb c.args.text.now c.args.self.now.text.now (Some c.in-Some.more) c.in-Some.ensures.cases)
    (c.ends_cells.ensures c.if-ends_cells.true)
