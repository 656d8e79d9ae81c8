use Rattle.std.proofs.Common.{length, List, refl, sym, subst}
use Rattle.std.proofs.lemmas.List.{length-map}
use Rattle.tm_laid.specs.Layouts.{laid_tree}
use Rattle.flow_graph.specs.declared.graphs.Graph.{Graph}
use Rattle.mutex_configs.specs.declared.nodes.ConfiguredGraph.{ConfiguredGraph}
use Rattle.program_reports.specs.post_recheck.program_systems.ProgramFacts.{program_with}
use Rattle.program_reports.specs.post_recheck.Pairs.{lists_of, pair_of}
use Rattle.program_reports.proofs.low.program_systems.Bodies.{is_program}
use Rattle.value_ranges.specs.declared.object_bounds.Grouping.TheVariants as Groupings
use Rattle.value_ranges.specs.reading.Notes.{Noted, IsNamed, noted_at, AreListed}
use Rattle.value_ranges.specs.reading.Reached.{AreCopiesOf, AreDeadIn}
use Rattle.value_ranges.proofs.Told.{named_in, are_ranges}
use Rattle.value_ranges.proofs.Dead.{copies_of, few_tables, are_dead}
use Rattle.value_ranges.proofs.finding.least_ranges.Goals as goal

pub noted_in-requires-clause-count : goal.noted_in-requires-clause-count
noted_in-requires-clause-count c =
    few_tables c.args.program.now c.args.facts.now c.requires.analysable c.requires.facts
    (pair_of c.args.tables.now c.args.store.now) c.requires.fits (length c.args.tables.now)
    (sym (length-map c.args.tables.now (λ v. v.items)))

pub listed-requires : goal.listed-requires
listed-requires c = λ o.
    subst (λ (xs : List Noted). IsNamed o (noted_at xs o)) (sym c.deref.ensures.value)
    (named_in Groupings.Objects (program_with c.args.program.now c.args.facts.now) (laid_tree c.args.program.now.laid)
    (lists_of c.args.tables.now) c.args.store.now c.in_ok-noted.noted.items c.in_ok-noted.ensures o)

pub dead_places-requires : goal.dead_places-requires
dead_places-requires c =
    let program = c.args.program.now in
    let lists = lists_of c.args.tables.now in
    subst (λ (gs : List Graph). AreCopiesOf gs c.deref-3.result.now lists) (sym c.deref-2.ensures.value)
    (subst (λ (cs : List ConfiguredGraph). AreCopiesOf program.graphs.graphs.items cs lists)
    (sym c.deref-3.ensures.value)
    (copies_of program c.args.facts.now c.requires.analysable c.requires.facts
    (pair_of c.args.tables.now c.args.store.now) c.requires.fits))

pub returns-clause-bounds : goal.returns-clause-bounds
returns-clause-bounds c =
    are_ranges (program_with c.args.program.now c.args.facts.now) (lists_of c.args.tables.now) c.args.store.now
    (laid_tree c.args.program.now.laid) refl
    (is_program c.args.program.now c.args.facts.now c.requires.analysable c.requires.facts) c.requires.fits
    c.requires.least c.in_ok-noted.noted.items c.in_ok-noted.ensures c.in_ok-bounds.bounds.items
    (subst (λ (xs : List Noted). AreListed xs (length xs) c.in_ok-bounds.bounds.items) c.deref.ensures.value
    c.in_ok-bounds.ensures)

pub returns-clause-dead : goal.returns-clause-dead
returns-clause-dead c =
    let program = c.args.program.now in
    let lists = lists_of c.args.tables.now in
    let n = length c.args.tables.now in
    are_dead program c.args.facts.now c.requires.analysable c.requires.facts
    (pair_of c.args.tables.now c.args.store.now) c.requires.fits n
    (sym (length-map c.args.tables.now (λ v. v.items))) c.in_ok-dead.dead.items
    (subst (λ (gs : List Graph). AreDeadIn gs program.configured.items lists n c.in_ok-dead.dead.items)
    c.deref-2.ensures.value
    (subst (λ (cs : List ConfiguredGraph). AreDeadIn c.deref-2.result.now cs lists n c.in_ok-dead.dead.items)
    c.deref-3.ensures.value c.in_ok-dead.ensures))
