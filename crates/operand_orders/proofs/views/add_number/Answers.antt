use Rattle.std.proofs.Common.{refl, arith}
use Rattle.std.proofs.lemmas.List.{length-set}
use Rattle.access_races.proofs.Joins.{pushed}
use Rattle.access_races.proofs.Cells.{added}
use Rattle.operand_orders.proofs.views.add_number.Goals as goal

pub returns : goal.returns
returns c = record {
  count = length-set c.args.lists.now.items c.args.edge c.push.new.self;
  added = λ e lt. added c.args.lists.now.items c.args.lists.now.items c.args.edge (omega arith) (λ n. refl)
      c.index_mut.result.now c.push.new.self
      c.index_mut.ensures.value c.args.number
      (pushed c.index_mut.result.now.items c.push.new.self.items c.args.number c.in_ok-push.ensures.items) e;
}
