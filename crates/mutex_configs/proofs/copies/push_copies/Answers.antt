use Rattle.std.proofs.Common.{sym}
use Rattle.mutex_configs.proofs.CopyLists.{pushed_once, pushed_twice}
use Rattle.mutex_configs.proofs.copies.push_copies.Goals as goal

pub returns-in_ok-push-2 : goal.returns-in_ok-push-2
returns-in_ok-push-2 c =
    pushed_twice c.args.copies.now.items c.push.new.self.items c.args.nodes.now.keys c.as_slice.result.now c.as_slice.ensures.keys
    c.args.number c.args.edge c.args.from c.copy.result c.in_ok-push.ensures.items c.copy.ensures
    c.push-then-asks.new.self.items c.copy-then-asks.result c.in_ok-push-2.ensures.items c.copy-then-asks.ensures (sym c.if-asks.ensures)

pub returns-else-asks : goal.returns-else-asks
returns-else-asks c =
    pushed_once c.args.copies.now.items c.push.new.self.items c.args.nodes.now.keys c.as_slice.result.now c.as_slice.ensures.keys
    c.args.number c.args.edge c.args.from c.copy.result c.in_ok-push.ensures.items c.copy.ensures (sym c.if-asks.ensures)
