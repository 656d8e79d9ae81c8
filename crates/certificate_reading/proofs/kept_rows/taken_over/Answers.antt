use Rattle.std.proofs.Common.{Some}
use Rattle.std.proofs.lemmas.Bool.Decides.{Decides-eqb}
use Rattle.std.proofs.lemmas.Slice.Eq.{strip_prefix_is}
use Rattle.certificate_reading.proofs.kept_rows.taken_over.Goals as goal

pub returns : goal.returns
returns c =
    let row = c.in-Some.row in
    record {
      kept_is = c.in-Some.is;
      of_cell = c.if-row-cell.false;
      is = strip_prefix_is Decides-eqb c.args.text.now row.line.now (Some c.in-Some-strip_prefix.more)
          c.in-Some-strip_prefix.ensures.cases;
    }
