use Rattle.report_reading.proofs.ways.read_ways.Goals as goal

pub returns-in_default-clause-not_listing : goal.returns-in_default-clause-not_listing
returns-in_default-clause-not_listing c = λ is utf8 list can e. c.in_default.ensures.cases.0 utf8
