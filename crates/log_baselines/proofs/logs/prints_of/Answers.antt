use Rattle.std.proofs.Common.{map}
use Rattle.std.proofs.lemmas.List.{map_push}
use Rattle.log_baselines.specs.reading.Seen.{text_seen, value_seen}
use Rattle.log_baselines.proofs.Looped.{print_lacks, print_more}
use Rattle.log_baselines.proofs.logs.prints_of.Goals as goal

pub returns-in-None : goal.returns-in-None
returns-in-None c =
    print_lacks value_seen c.args.results.now c.loop-value.value-index c.value-item.result c.loop-value-test.true
    c.value-item.is _ (map text_seen c.loop-value.prints.items) c.loop-value.invariant c.in-None.ensures

pub loop-value-preserved : goal.loop-value-preserved
loop-value-preserved c =
    let one_more = print_more value_seen c.args.results.now c.loop-value.value-index c.value-item.result
    c.loop-value-test.true c.value-item.is _ (map text_seen c.loop-value.prints.items) c.in-Some.print.now
    c.loop-value.invariant c.in-Some.ensures in
    rw c.in_ok-push-in-Some.ensures.items (rw map_push one_more)
