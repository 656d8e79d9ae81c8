use Rattle.std.proofs.Common.{Some, IfSome, subst, sym, ap, ◌∙◌, arith}
use Rattle.shared_programs.specs.body_systems.Systems.{body_of, system_of}
use Rattle.table_covers.specs.Solutions.{at, IsFirstUncovered}
use Rattle.shared_programs.specs.program_equations.Programs.{body_at}
use Rattle.shared_programs.specs.program_equations.Systems.{states, FitsBody, FitsProgram}
use Rattle.shared_programs.specs.program_equations.laws.StoresFit.{nothing_fits}
use Rattle.shared_programs.specs.program_systems.ProgramFacts.{program_with}
use Rattle.post_recheck.specs.Pairs.{pair_of}
use Rattle.post_recheck.specs.reading.Numbers.{number_in, IsNumberedIn}
use Rattle.post_recheck.proofs.Fits.{begins_fit}
use Rattle.post_recheck.proofs.Covers.{section_given}
use Rattle.post_recheck.proofs.Given.{is, count, configured_count, in_tables, edges_are, copies_are}
use Rattle.post_recheck.proofs.Found.{table_read, tables_counted, of_section, states_fit, solved_is}
use Rattle.post_recheck.proofs.Found.{number_within, uncovered_is}
use Rattle.post_recheck.proofs.bodies.checked_section.Goals as goal

pub body_over_store-body-requires-clause-store : goal.body_over_store-body-requires-clause-store
body_over_store-body-requires-clause-store c =
    let p = program_with c.args.program.now c.args.facts.now in
    subst (FitsProgram p) (sym c.new-nothing.ensures) (nothing_fits p.laid p.tasks)

pub body_over_store-body-requires-clause-entry : goal.body_over_store-body-requires-clause-entry
body_over_store-body-requires-clause-entry c =
    let program = c.args.program.now in
    let facts = c.args.facts.now in
    let pair = pair_of c.args.tables.now c.args.store.now in
    let entries = c.args.entries.now in
    let number = c.args.number in
    let given = c.requires.given in
    let lt = c.requires.number in
    begins_fit (program_with program facts) (is program facts pair entries given) pair given.fits number lt
    c.requires.section c.in_ok-entry.entry c.in_ok-entry.ensures

pub first_uncovered-requires-clause-fits : goal.first_uncovered-requires-clause-fits
first_uncovered-requires-clause-fits c κs =
    let program = c.args.program.now in
    let facts = c.args.facts.now in
    let pair = pair_of c.args.tables.now c.args.store.now in
    let entries = c.args.entries.now in
    let number = c.args.number in
    let given = c.requires.given in
    let lt = c.requires.number in
    let over = c.body_over_store-body.result in
    let system = of_section (program_with program facts) (is program facts pair entries given) pair given.fits number lt
    c.requires.section (body_of over) over.entry over.store c.body_over_store-body.ensures.body
    (c.body_over_store-body.ensures.entry ∙ ap Some c.in_ok-entry.ensures)
    (c.body_over_store-body.ensures.store ∙ c.new-nothing.ensures) in
    let counted = tables_counted c.args.tables.now number (in_tables program facts pair entries given number lt) in
    let table = table_read c.args.tables.now number c.index-tables-number.result counted
    ∙ ap (λ v. v.items) (sym c.index-tables-number.is) ∙ sym c.deref.ensures.value in
    states_fit (program_with program facts) (is program facts pair entries given) pair given.fits number lt
    (body_of over) over.entry over.store c.body_over_store-body.ensures.body system c.deref.result.now table

pub index-requires : goal.index-requires
index-requires c =
    let all = count c.args.program.now c.args.facts.now (pair_of c.args.tables.now c.args.store.now) c.args.entries.now
    c.requires.given in
    omega (arith, c.requires.number, all, c.args.program.now.graphs.graphs.ok.0)

pub index-requires-in-Some : goal.index-requires-in-Some
index-requires-in-Some c =
    let all = configured_count c.args.program.now c.args.facts.now (pair_of c.args.tables.now c.args.store.now)
    c.args.entries.now c.requires.given in
    omega (arith, c.requires.number, all, c.args.program.now.configured.ok.0)

pub edge_number-requires : goal.edge_number-requires
edge_number-requires c =
    let program = c.args.program.now in
    let facts = c.args.facts.now in
    let pair = pair_of c.args.tables.now c.args.store.now in
    let entries = c.args.entries.now in
    let number = c.args.number in
    let given = c.requires.given in
    let lt = c.requires.number in
    let over = c.body_over_store-body.result in
    let system = of_section (program_with program facts) (is program facts pair entries given) pair given.fits number lt
    c.requires.section (body_of over) over.entry over.store c.body_over_store-body.ensures.body
    (c.body_over_store-body.ensures.entry ∙ ap Some c.in_ok-entry.ensures)
    (c.body_over_store-body.ensures.store ∙ c.new-nothing.ensures) in
    let counted = tables_counted c.args.tables.now number (in_tables program facts pair entries given number lt) in
    let table = table_read c.args.tables.now number c.index-tables-number.result counted
    ∙ ap (λ v. v.items) (sym c.index-tables-number.is) ∙ sym c.deref.ensures.value in
    let h = subst (λ o. IfSome o (IsFirstUncovered states (FitsBody (body_of over)) (system_of over)
    (at c.deref.result.now))) c.in-Some.is c.in_ok-first.ensures.first in
    let edges = edges_are program facts pair entries given number lt c.index.result.now c.index-in-Some.result.now
    c.index.ensures c.index-in-Some.ensures c.deref-in-Some.result.now c.deref-in-Some.ensures.value in
    let copies = copies_are program facts pair entries given number lt c.index.result.now c.index-in-Some.result.now
    c.index.ensures c.index-in-Some.ensures c.deref-in-Some-2.result.now c.deref-in-Some-2.ensures.value in
    subst (λ es. IsNumberedIn es c.deref-in-Some-2.result.now c.in-Some.first) edges
    (subst (λ cs. IsNumberedIn (body_at (program_with program facts) number).edges cs c.in-Some.first) copies
    (number_within (program_with program facts) (is program facts pair entries given) pair given.fits number lt
    (body_of over) over.entry over.store c.body_over_store-body.ensures.body system c.deref.result.now table
    c.in-Some.first h))

pub returns-in-Some : goal.returns-in-Some
returns-in-Some c =
    let program = c.args.program.now in
    let facts = c.args.facts.now in
    let pair = pair_of c.args.tables.now c.args.store.now in
    let entries = c.args.entries.now in
    let number = c.args.number in
    let given = c.requires.given in
    let lt = c.requires.number in
    let over = c.body_over_store-body.result in
    let system = of_section (program_with program facts) (is program facts pair entries given) pair given.fits number lt
    c.requires.section (body_of over) over.entry over.store c.body_over_store-body.ensures.body
    (c.body_over_store-body.ensures.entry ∙ ap Some c.in_ok-entry.ensures)
    (c.body_over_store-body.ensures.store ∙ c.new-nothing.ensures) in
    let counted = tables_counted c.args.tables.now number (in_tables program facts pair entries given number lt) in
    let table = table_read c.args.tables.now number c.index-tables-number.result counted
    ∙ ap (λ v. v.items) (sym c.index-tables-number.is) ∙ sym c.deref.ensures.value in
    let h = subst (λ o. IfSome o (IsFirstUncovered states (FitsBody (body_of over)) (system_of over)
    (at c.deref.result.now))) c.in-Some.is c.in_ok-first.ensures.first in
    let copies = copies_are program facts pair entries given number lt c.index.result.now c.index-in-Some.result.now
    c.index.ensures c.index-in-Some.ensures c.deref-in-Some-2.result.now c.deref-in-Some-2.ensures.value in
    uncovered_is (program_with program facts) (is program facts pair entries given) pair given.fits number lt
    (body_of over) over.entry over.store c.body_over_store-body.ensures.body system c.deref.result.now table
    c.in-Some.first h c.edge_number.result
    (c.edge_number.ensures ∙ ap (λ cs. number_in cs c.in-Some.first) (sym copies))

pub returns : goal.returns
returns c =
    let program = c.args.program.now in
    let facts = c.args.facts.now in
    let pair = pair_of c.args.tables.now c.args.store.now in
    let entries = c.args.entries.now in
    let number = c.args.number in
    let given = c.requires.given in
    let lt = c.requires.number in
    let over = c.body_over_store-body.result in
    let system = of_section (program_with program facts) (is program facts pair entries given) pair given.fits number lt
    c.requires.section (body_of over) over.entry over.store c.body_over_store-body.ensures.body
    (c.body_over_store-body.ensures.entry ∙ ap Some c.in_ok-entry.ensures)
    (c.body_over_store-body.ensures.store ∙ c.new-nothing.ensures) in
    let counted = tables_counted c.args.tables.now number (in_tables program facts pair entries given number lt) in
    let table = table_read c.args.tables.now number c.index-tables-number.result counted
    ∙ ap (λ v. v.items) (sym c.index-tables-number.is) ∙ sym c.deref.ensures.value in
    record {
      solved = solved_is (program_with program facts) (is program facts pair entries given) pair given.fits number lt
          (body_of over) over.entry over.store c.body_over_store-body.ensures.body system c.deref.result.now table
          (c.in_ok-first.ensures.solution.0 c.in-None.is);
      contributed = c.new.ensures
          ∙ sym (section_given (program_with program facts) (is program facts pair entries given) pair given.fits number
          c.requires.section);
    }
