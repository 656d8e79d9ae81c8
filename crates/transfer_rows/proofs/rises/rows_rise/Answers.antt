use Rattle.transfer_rows.proofs.RowsRise.{after_rises}
use Rattle.transfer_rows.proofs.rises.rows_rise.Goals as goal

pub returns : goal.returns
returns c = λ around action s s' store store' is s-is s'-is le st-is st'-is grown. after_rises around s s' s-is s'-is le store store' st-is st'-is grown action is
