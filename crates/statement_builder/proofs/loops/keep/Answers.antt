use Rattle.std.proofs.Common.{map, arith}
use Rattle.statement_builder.specs.declared.passed.Pending.{Pending}
use Rattle.statement_builder.specs.declared.passed.Way.TheVariants as Ways
use Rattle.statement_builder.specs.Waiting.{waiting}
use Rattle.statement_builder.specs.reading.Statements.{stays}
use Rattle.statement_builder.proofs.Waiting.{still_more, still_last}
use Rattle.statement_builder.proofs.loops.keep.Goals as goal

pub loop-one-preserved : goal.loop-one-preserved
loop-one-preserved c =
    let d : Pending = record { node = 0; way = Ways.Break } in
    still_more (stays c.args.in_loop) c.args.pending.now c.loop-one.one-index d (map waiting c.loop-one.outside.items)
    (map waiting c.keep_one.new.outside.items) _ (omega arith) c.in_ok-keep_one.ensures c.loop-one.invariant

pub returns : goal.returns
returns c =
    still_last (stays c.args.in_loop) c.args.pending.now c.loop-one.one-index (map waiting c.loop-one.outside.items) _
    (omega arith) c.loop-one.invariant
