use Rattle.transfer_rows.proofs.CoverValues.{given_in}
use Rattle.transfer_rows.proofs.Covers.{give_covers, skip_covers}
use Rattle.transfer_rows.proofs.coverage.calculations_are_covered.Goals as goal

pub returns : goal.returns
returns c = record {
  gives = λ around sizes s temps target calculation w store ins sized lives h. give_covers around s temps ins target calculation w store (given_in sizes s temps ins sized calculation w lives h);
  skips = λ around s temps store ins. skip_covers around s temps ins store;
}
