use Rattle.std.proofs.Common.{sym, subst}
use Rattle.tm_cint.specs.IntTypes.{IsIn}
use Rattle.transfer_int.proofs.Placing.{value_kept}
use Rattle.transfer_int.proofs.RowPairs.{one_value, ones_in}
use Rattle.transfer_int.proofs.unary.invert.Goals as goal

pub differences-requires-clause-left : goal.differences-requires-clause-left
differences-requires-clause-left c =
    let ones = subst (λ x. IsIn c.args.ty x) (sym c.ones.ensures) (ones_in c.args.ty) in
    one_value c.args.ty c.ones.result c.one.result ones (rw (value_kept c.args.ty c.ones.result ones) at c.one.ensures)
