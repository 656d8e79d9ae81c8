use Rattle.std.proofs.Common.{sym, ◌∙◌}
use Rattle.tm_cint.specs.declared.operators.BinOp.TheVariants.{Shl}
use Rattle.transfer_int.proofs.RowPairs.{leaving_rows, none_leaves}
use Rattle.transfer_int.proofs.shifts.left_shifts_leave.Goals as goal

pub returns-in-None : goal.returns-in-None
returns-in-None c = (λ e. absurd cc, λ h. absurd (none_leaves Shl c.args.ty c.args.a.now c.args.b.now c.in-None.ensures h))

pub returns-in-Some : goal.returns-in-Some
returns-in-Some c =
    leaving_rows Shl c.args.ty c.args.a.now c.args.b.now c.in-Some.span c.in-Some.class c.leaves.result (sym c.signed.ensures ∙ c.if-not-signed.false) c.in-Some.ensures c.leaves.ensures
