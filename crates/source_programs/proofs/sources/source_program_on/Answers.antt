use Rattle.std.proofs.Common.{subst, length, ◌<◌}
use Rattle.source_programs.proofs.Stations.{long_refused}
use Rattle.source_programs.proofs.sources.source_program_on.Goals as goal

pub returns-then-bytes-number-clause-refused : goal.returns-then-bytes-number-clause-refused
returns-then-bytes-number-clause-refused c =
    long_refused c.args.scale c.args.bytes.now
    (subst (λ n. n < length c.args.bytes.now) c.number.ensures c.if-bytes-number.true) c.too_long.result
    c.too_long.ensures
