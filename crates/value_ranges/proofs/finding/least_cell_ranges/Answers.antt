use Rattle.std.proofs.Common.{length, refl, sym}
use Rattle.std.proofs.lemmas.List.{length-map}
use Rattle.tm_laid.specs.Layouts.{laid_tree}
use Rattle.program_reports.specs.post_recheck.program_systems.ProgramFacts.{program_with}
use Rattle.program_reports.specs.post_recheck.Pairs.{lists_of, pair_of}
use Rattle.program_reports.proofs.low.program_systems.Bodies.{is_program}
use Rattle.value_ranges.proofs.Dead.{few_tables}
use Rattle.value_ranges.proofs.Told.{are_cell_ranges}
use Rattle.value_ranges.proofs.finding.least_cell_ranges.Goals as goal

pub noted_in-requires-clause-count : goal.noted_in-requires-clause-count
noted_in-requires-clause-count c =
    few_tables c.args.program.now c.args.facts.now c.requires.analysable c.requires.facts
    (pair_of c.args.tables.now c.args.store.now) c.requires.fits (length c.args.tables.now)
    (sym (length-map c.args.tables.now (λ v. v.items)))

pub returns : goal.returns
returns c =
    are_cell_ranges (program_with c.args.program.now c.args.facts.now) (lists_of c.args.tables.now) c.args.store.now
    (laid_tree c.args.program.now.laid) refl
    (is_program c.args.program.now c.args.facts.now c.requires.analysable c.requires.facts) c.requires.fits
    c.requires.least c.in_ok-bounds.bounds.items c.in_ok-bounds.ensures
