use Rattle.std.proofs.Common.{sym}
use Rattle.c_typing.proofs.SameTypes.{other_number}
use Rattle.c_typing.proofs.heads.are_same_types.Goals as goal

pub returns-then-left-right : goal.returns-then-left-right
returns-then-left-right c = sym (other_number c.args.scope.now c.args.left.now c.args.right.now c.if-left-right.true)
