use Rattle.std.proofs.Common.{sym, ◌∙◌}
use Rattle.tm_cint.specs.declared.operators.BinOp.TheVariants.{Sub}
use Rattle.transfer_int.proofs.RowPairs.{leaving_rows}
use Rattle.transfer_int.proofs.sums.differences_leave.Goals as goal

pub returns-in-Some : goal.returns-in-Some
returns-in-Some c = leaving_rows Sub c.args.ty c.args.a.now c.args.b.now c.in-Some.span c.in-Some.class c.leaves.result (sym c.signed.ensures ∙ c.if-not-signed.false) c.in-Some.ensures c.leaves.ensures
