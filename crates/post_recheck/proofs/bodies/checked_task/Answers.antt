use Rattle.std.proofs.Common.{[], ◌<◌, length, None, IfSome, subst, sym, ap, ◌∙◌}
use Rattle.std.proofs.lemmas.List.{get_or_default}
use Rattle.shared_programs.specs.body_systems.Systems.{body_of, system_of}
use Rattle.table_covers.specs.Solutions.{at, IsFirstUncovered}
use Rattle.shared_programs.specs.program_equations.Programs.{body_at}
use Rattle.shared_programs.specs.program_equations.laws.StoresFit.{bottom}
use Rattle.shared_programs.specs.program_equations.Systems.{states, FitsBody}
use Rattle.shared_programs.specs.program_systems.ProgramFacts.{program_with}
use Rattle.post_recheck.specs.Pairs.{pair_of}
use Rattle.post_recheck.specs.reading.Numbers.{number_in, IsNumberedIn}
use Rattle.post_recheck.proofs.Given.{is, in_bodies, in_tables, entry_is, entry_fits, edges_are, copies_are}
use Rattle.post_recheck.proofs.Found.{table_read, tables_counted, of_task, nodes_are, states_fit, solved_is}
use Rattle.post_recheck.proofs.Found.{number_within, uncovered_is, contributed_is}
use Rattle.post_recheck.proofs.bodies.checked_task.Goals as goal

pub bounds-tables-number : goal.bounds-tables-number
bounds-tables-number c =
    let program = c.args.program.now in
    let facts = c.args.facts.now in
    let pair = pair_of c.args.tables.now c.args.store.now in
    let entries = c.args.entries.now in
    let number = c.args.number in
    let given = c.requires.given in
    let lt = in_bodies program facts pair entries given number c.requires.number in
    tables_counted c.args.tables.now number (in_tables program facts pair entries given number lt)

pub body_over_store-body-requires-clause-number : goal.body_over_store-body-requires-clause-number
body_over_store-body-requires-clause-number c =
    let program = c.args.program.now in
    let facts = c.args.facts.now in
    let pair = pair_of c.args.tables.now c.args.store.now in
    let entries = c.args.entries.now in
    let number = c.args.number in
    let given = c.requires.given in
    let lt = in_bodies program facts pair entries given number c.requires.number in
    lt

pub body_over_store-body-requires-clause-entry : goal.body_over_store-body-requires-clause-entry
body_over_store-body-requires-clause-entry c =
    let program = c.args.program.now in
    let facts = c.args.facts.now in
    let pair = pair_of c.args.tables.now c.args.store.now in
    let entries = c.args.entries.now in
    let number = c.args.number in
    let given = c.requires.given in
    let lt = in_bodies program facts pair entries given number c.requires.number in
    let within : number < length entries = subst (λ n. number < n) (sym given.begins.count) c.requires.number in
    let begins = c.as_ref-entry.ensures.value ∙ c.index-entries-number.is
    ∙ get_or_default entries number c.index-entries-number.result None within in
    subst (λ x. IfSome x (FitsBody (body_at (program_with program facts) number) 0)) (sym begins)
    (entry_fits program facts pair entries given number c.requires.number)

pub first_uncovered-requires-clause-nodes : goal.first_uncovered-requires-clause-nodes
first_uncovered-requires-clause-nodes c κs =
    let program = c.args.program.now in
    let facts = c.args.facts.now in
    let pair = pair_of c.args.tables.now c.args.store.now in
    let entries = c.args.entries.now in
    let number = c.args.number in
    let given = c.requires.given in
    let lt = in_bodies program facts pair entries given number c.requires.number in
    let within : number < length entries = subst (λ n. number < n) (sym given.begins.count) c.requires.number in
    let begins = c.as_ref-entry.ensures.value ∙ c.index-entries-number.is
    ∙ get_or_default entries number c.index-entries-number.result None within in
    let over = c.body_over_store-body.result in
    let system = of_task (program_with program facts) (is program facts pair entries given) pair given.fits number lt
    c.requires.number (body_of over) over.entry over.store c.body_over_store-body.ensures.body
    (c.body_over_store-body.ensures.entry ∙ begins
    ∙ entry_is program facts pair entries given number c.requires.number) c.body_over_store-body.ensures.store in
    let counted = tables_counted c.args.tables.now number (in_tables program facts pair entries given number lt) in
    let table = table_read c.args.tables.now number c.index-tables-number.result counted
    ∙ ap (λ v. v.items) (sym c.index-tables-number.is) ∙ sym c.deref.ensures.value in
    nodes_are (program_with program facts) (is program facts pair entries given) pair given.fits number lt
    (body_of over) over.entry over.store c.body_over_store-body.ensures.body system c.deref.result.now table

pub first_uncovered-requires-clause-fits : goal.first_uncovered-requires-clause-fits
first_uncovered-requires-clause-fits c κs =
    let program = c.args.program.now in
    let facts = c.args.facts.now in
    let pair = pair_of c.args.tables.now c.args.store.now in
    let entries = c.args.entries.now in
    let number = c.args.number in
    let given = c.requires.given in
    let lt = in_bodies program facts pair entries given number c.requires.number in
    let within : number < length entries = subst (λ n. number < n) (sym given.begins.count) c.requires.number in
    let begins = c.as_ref-entry.ensures.value ∙ c.index-entries-number.is
    ∙ get_or_default entries number c.index-entries-number.result None within in
    let over = c.body_over_store-body.result in
    let system = of_task (program_with program facts) (is program facts pair entries given) pair given.fits number lt
    c.requires.number (body_of over) over.entry over.store c.body_over_store-body.ensures.body
    (c.body_over_store-body.ensures.entry ∙ begins
    ∙ entry_is program facts pair entries given number c.requires.number) c.body_over_store-body.ensures.store in
    let counted = tables_counted c.args.tables.now number (in_tables program facts pair entries given number lt) in
    let table = table_read c.args.tables.now number c.index-tables-number.result counted
    ∙ ap (λ v. v.items) (sym c.index-tables-number.is) ∙ sym c.deref.ensures.value in
    states_fit (program_with program facts) (is program facts pair entries given) pair given.fits number lt
    (body_of over) over.entry over.store c.body_over_store-body.ensures.body system c.deref.result.now table

pub edge_number-requires : goal.edge_number-requires
edge_number-requires c =
    let program = c.args.program.now in
    let facts = c.args.facts.now in
    let pair = pair_of c.args.tables.now c.args.store.now in
    let entries = c.args.entries.now in
    let number = c.args.number in
    let given = c.requires.given in
    let lt = in_bodies program facts pair entries given number c.requires.number in
    let within : number < length entries = subst (λ n. number < n) (sym given.begins.count) c.requires.number in
    let begins = c.as_ref-entry.ensures.value ∙ c.index-entries-number.is
    ∙ get_or_default entries number c.index-entries-number.result None within in
    let over = c.body_over_store-body.result in
    let system = of_task (program_with program facts) (is program facts pair entries given) pair given.fits number lt
    c.requires.number (body_of over) over.entry over.store c.body_over_store-body.ensures.body
    (c.body_over_store-body.ensures.entry ∙ begins
    ∙ entry_is program facts pair entries given number c.requires.number) c.body_over_store-body.ensures.store in
    let counted = tables_counted c.args.tables.now number (in_tables program facts pair entries given number lt) in
    let table = table_read c.args.tables.now number c.index-tables-number.result counted
    ∙ ap (λ v. v.items) (sym c.index-tables-number.is) ∙ sym c.deref.ensures.value in
    let h = subst (λ o. IfSome o (IsFirstUncovered states (FitsBody (body_of over)) (system_of over)
    (at c.deref.result.now))) c.in-Some.is c.in_ok-first.ensures.first in
    let edges = edges_are program facts pair entries given number lt c.index.result.now c.index-in-Some.result.now
    c.index.ensures c.index-in-Some.ensures c.deref-in-Some.result.now c.deref-in-Some.ensures.value in
    let copies = copies_are program facts pair entries given number lt c.index.result.now c.index-in-Some.result.now
    c.index.ensures c.index-in-Some.ensures c.deref-in-Some-2.result.now c.deref-in-Some-2.ensures.value in
    subst (λ es. IsNumberedIn es c.deref-in-Some-2.result.now c.in-Some.first) edges
    (subst (λ cs. IsNumberedIn (body_at (program_with program facts) number).edges cs c.in-Some.first) copies
    (number_within (program_with program facts) (is program facts pair entries given) pair given.fits number lt
    (body_of over) over.entry over.store c.body_over_store-body.ensures.body system c.deref.result.now table
    c.in-Some.first h))

pub joined_contributions-requires-clause-least : goal.joined_contributions-requires-clause-least
joined_contributions-requires-clause-least c κs = λ store is. (let b = bottom [] in b.below store is)

pub joined_contributions-requires-clause-nodes : goal.joined_contributions-requires-clause-nodes
joined_contributions-requires-clause-nodes c κs =
    let program = c.args.program.now in
    let facts = c.args.facts.now in
    let pair = pair_of c.args.tables.now c.args.store.now in
    let entries = c.args.entries.now in
    let number = c.args.number in
    let given = c.requires.given in
    let lt = in_bodies program facts pair entries given number c.requires.number in
    let within : number < length entries = subst (λ n. number < n) (sym given.begins.count) c.requires.number in
    let begins = c.as_ref-entry.ensures.value ∙ c.index-entries-number.is
    ∙ get_or_default entries number c.index-entries-number.result None within in
    let over = c.body_over_store-body.result in
    let system = of_task (program_with program facts) (is program facts pair entries given) pair given.fits number lt
    c.requires.number (body_of over) over.entry over.store c.body_over_store-body.ensures.body
    (c.body_over_store-body.ensures.entry ∙ begins
    ∙ entry_is program facts pair entries given number c.requires.number) c.body_over_store-body.ensures.store in
    let counted = tables_counted c.args.tables.now number (in_tables program facts pair entries given number lt) in
    let table = table_read c.args.tables.now number c.index-tables-number.result counted
    ∙ ap (λ v. v.items) (sym c.index-tables-number.is) ∙ sym c.deref-in-None.ensures.value in
    nodes_are (program_with program facts) (is program facts pair entries given) pair given.fits number lt
    (body_of over) over.entry over.store c.body_over_store-body.ensures.body system c.deref-in-None.result.now table

pub returns-in-Some : goal.returns-in-Some
returns-in-Some c =
    let program = c.args.program.now in
    let facts = c.args.facts.now in
    let pair = pair_of c.args.tables.now c.args.store.now in
    let entries = c.args.entries.now in
    let number = c.args.number in
    let given = c.requires.given in
    let lt = in_bodies program facts pair entries given number c.requires.number in
    let within : number < length entries = subst (λ n. number < n) (sym given.begins.count) c.requires.number in
    let begins = c.as_ref-entry.ensures.value ∙ c.index-entries-number.is
    ∙ get_or_default entries number c.index-entries-number.result None within in
    let over = c.body_over_store-body.result in
    let system = of_task (program_with program facts) (is program facts pair entries given) pair given.fits number lt
    c.requires.number (body_of over) over.entry over.store c.body_over_store-body.ensures.body
    (c.body_over_store-body.ensures.entry ∙ begins
    ∙ entry_is program facts pair entries given number c.requires.number) c.body_over_store-body.ensures.store in
    let counted = tables_counted c.args.tables.now number (in_tables program facts pair entries given number lt) in
    let table = table_read c.args.tables.now number c.index-tables-number.result counted
    ∙ ap (λ v. v.items) (sym c.index-tables-number.is) ∙ sym c.deref.ensures.value in
    let h = subst (λ o. IfSome o (IsFirstUncovered states (FitsBody (body_of over)) (system_of over)
    (at c.deref.result.now))) c.in-Some.is c.in_ok-first.ensures.first in
    let copies = copies_are program facts pair entries given number lt c.index.result.now c.index-in-Some.result.now
    c.index.ensures c.index-in-Some.ensures c.deref-in-Some-2.result.now c.deref-in-Some-2.ensures.value in
    uncovered_is (program_with program facts) (is program facts pair entries given) pair given.fits number lt
    (body_of over) over.entry over.store c.body_over_store-body.ensures.body system c.deref.result.now table
    c.in-Some.first h c.edge_number.result
    (c.edge_number.ensures ∙ ap (λ cs. number_in cs c.in-Some.first) (sym copies))

pub returns-in_ok-joined_contributions-in-None : goal.returns-in_ok-joined_contributions-in-None
returns-in_ok-joined_contributions-in-None c =
    let program = c.args.program.now in
    let facts = c.args.facts.now in
    let pair = pair_of c.args.tables.now c.args.store.now in
    let entries = c.args.entries.now in
    let number = c.args.number in
    let given = c.requires.given in
    let lt = in_bodies program facts pair entries given number c.requires.number in
    let within : number < length entries = subst (λ n. number < n) (sym given.begins.count) c.requires.number in
    let begins = c.as_ref-entry.ensures.value ∙ c.index-entries-number.is
    ∙ get_or_default entries number c.index-entries-number.result None within in
    let over = c.body_over_store-body.result in
    let system = of_task (program_with program facts) (is program facts pair entries given) pair given.fits number lt
    c.requires.number (body_of over) over.entry over.store c.body_over_store-body.ensures.body
    (c.body_over_store-body.ensures.entry ∙ begins
    ∙ entry_is program facts pair entries given number c.requires.number) c.body_over_store-body.ensures.store in
    let counted = tables_counted c.args.tables.now number (in_tables program facts pair entries given number lt) in
    let table = table_read c.args.tables.now number c.index-tables-number.result counted
    ∙ ap (λ v. v.items) (sym c.index-tables-number.is) ∙ sym c.deref.ensures.value in
    let table-in-None = table_read c.args.tables.now number c.index-tables-number.result counted
    ∙ ap (λ v. v.items) (sym c.index-tables-number.is) ∙ sym c.deref-in-None.ensures.value in
    record {
      solved = solved_is (program_with program facts) (is program facts pair entries given) pair given.fits number lt
          (body_of over) over.entry over.store c.body_over_store-body.ensures.body system c.deref.result.now table
          (c.in_ok-first.ensures.solution.0 c.in-None.is);
      contributed = contributed_is (program_with program facts) (is program facts pair entries given) pair given.fits
          number lt (body_of over) over.entry over.store c.body_over_store-body.ensures.body system
          c.deref-in-None.result.now table-in-None
          c.requires.number c.in_ok-joined_contributions-in-None.field-0
          c.in_ok-joined_contributions-in-None.ensures;
    }
