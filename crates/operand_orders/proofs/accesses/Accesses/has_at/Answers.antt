use Rattle.operand_orders.proofs.Ranges.{access_is}
use Rattle.operand_orders.proofs.accesses.Accesses.has_at.Goals as goal

pub returns : goal.returns
returns c =
    let same = access_is c.args.self.now c.requires c.deref.result.now c.deref.ensures.value c.args.edge c.args.cell in
    (λ t. same.0 (c.has_between.ensures.0 t), λ h. c.has_between.ensures.1 (same.1 h))
