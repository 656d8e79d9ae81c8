use Rattle.std.proofs.Common.{pos}
use Rattle.tm_cint.proofs.Values.{zero_in}
use Rattle.transfer_int.proofs.RowPairs.{one_value}
use Rattle.transfer_int.proofs.unary.negate.Goals as goal

pub binary-requires-clause-left : goal.binary-requires-clause-left
binary-requires-clause-left c = one_value c.args.ty (pos 0) c.one.result (zero_in c.args.ty) c.one.ensures
