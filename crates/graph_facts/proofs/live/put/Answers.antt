use Rattle.std.proofs.Common.{arith}
use Rattle.graph_facts.proofs.Puts.{put_searched, put_found}
use Rattle.graph_facts.proofs.live.put.Goals as goal

pub returns-in_ok-insert-in-Err : goal.returns-in_ok-insert-in-Err
returns-in_ok-insert-in-Err c =
    put_searched c.args.list.now.items c.deref.result.now c.insert.new.self.items c.in-Err.at c.args.temporary c.deref.ensures.value c.in_ok-insert-in-Err.ensures.items c.requires
    (omega (arith, c.ranges.temporary.fits)) c.in-Err.ensures.position

pub returns-in-Ok : goal.returns-in-Ok
returns-in-Ok c = put_found c.args.list.now.items c.deref.result.now c.in-Ok.field-0 c.args.temporary c.deref.ensures.value c.requires c.in-Ok.ensures.position
