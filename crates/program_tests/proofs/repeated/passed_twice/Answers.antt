use Rattle.std.proofs.Common.{◌∙◌}
use Rattle.std.specs.Arc.{arc_value}
use Rattle.thread_pass.specs.program_systems.ReadPrograms.{program_of}
use Rattle.program_tests.proofs.SameStores.{empty_fits, same_fits, same_below}
use Rattle.program_tests.proofs.repeated.passed_twice.Goals as goal

pub cold-requires-clause-fits : goal.cold-requires-clause-fits
cold-requires-clause-fits c =
    empty_fits (program_of c.args.analysis.now) (arc_value c.in_ok-store.store)
    (c.in_ok-store.ensures.ok ∙ c.new.ensures)

pub warm-requires-clause-fits : goal.warm-requires-clause-fits
warm-requires-clause-fits c =
    empty_fits (program_of c.args.analysis.now) (arc_value c.in_ok-store.store)
    (c.in_ok-store.ensures.ok ∙ c.new.ensures)

pub warm-requires-clause-kept_fits : goal.warm-requires-clause-kept_fits
warm-requires-clause-kept_fits c =
    same_fits (program_of c.args.analysis.now) (arc_value c.in_ok-store.store) c.in_ok-kept.kept.store
    c.in_ok-kept.ensures.over (c.in_ok-store.ensures.ok ∙ c.new.ensures)

pub warm-requires-clause-below : goal.warm-requires-clause-below
warm-requires-clause-below c =
    same_below (arc_value c.in_ok-store.store) c.in_ok-kept.kept.store c.in_ok-kept.ensures.over
    (c.in_ok-store.ensures.ok ∙ c.new.ensures)
