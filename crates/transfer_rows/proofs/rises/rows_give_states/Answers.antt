use Rattle.transfer_rows.proofs.Fitting.{after_is}
use Rattle.transfer_rows.proofs.rises.rows_give_states.Goals as goal

pub returns : goal.returns
returns c = λ around action s t store is s-is store-is e. after_is around s s-is store store-is action is t e
