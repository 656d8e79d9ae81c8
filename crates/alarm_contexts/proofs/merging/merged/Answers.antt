use Rattle.std.proofs.Common.{◌+◌, ◌≤◌, sym, subst, take, get_or, length, arith}
use Rattle.std.proofs.lemmas.List.{take_all}
use Rattle.program_reports.specs.post_recheck.program_equations.Solutions.{tables_of}
use Rattle.program_reports.specs.post_recheck.program_systems.ProgramFacts.{program_with}
use Rattle.program_reports.specs.post_recheck.Pairs.{lists_of}
use Rattle.program_reports.proofs.low.program_systems.Bodies.{is_program}
use Rattle.access_races.proofs.Joins.{front_more}
use Rattle.access_races.specs.Rising.{AreRising}
use Rattle.alarm_contexts.specs.reading.Operands.{operands_of, IsFlawed}
use Rattle.alarm_contexts.specs.reading.Merging.{Precedes, IsAdded, AreMerged}
use Rattle.alarm_contexts.proofs.Merged.{merged_more, after_front, merged_all, no_context}
use Rattle.alarm_contexts.proofs.Fitting.{in_bodies, in_copies, are_values, among}
use Rattle.alarm_contexts.proofs.merging.merged.Goals as goal

pub used_of-requires-clause-number : goal.used_of-requires-clause-number
used_of-requires-clause-number c =
    let program = c.args.program.now in
    let facts = c.args.facts.now in
    let is = is_program program facts c.requires.analysable c.requires.facts in
    let xs = c.deref-context-items.result.now in
    let i = c.loop-context.context-index in
    in_bodies (program_with program facts) is c.args.store.now (tables_of (lists_of c.args.tables.now))
    (get_or xs i no_context) (c.requires.found (get_or xs i no_context)
    (among c.args.contexts.items c.in_ok-ranked.ranked.items c.in_ok-ranked.ensures xs c.deref-context-items.ensures.value
    i no_context c.loop-context-test.true))

pub used_of-requires-clause-copy : goal.used_of-requires-clause-copy
used_of-requires-clause-copy c =
    let program = c.args.program.now in
    let facts = c.args.facts.now in
    let is = is_program program facts c.requires.analysable c.requires.facts in
    let xs = c.deref-context-items.result.now in
    let i = c.loop-context.context-index in
    in_copies (program_with program facts) is c.args.store.now (tables_of (lists_of c.args.tables.now))
    (get_or xs i no_context) (c.requires.found (get_or xs i no_context)
    (among c.args.contexts.items c.in_ok-ranked.ranked.items c.in_ok-ranked.ensures xs c.deref-context-items.ensures.value
    i no_context c.loop-context-test.true))

pub loop-context-preserved : goal.loop-context-preserved
loop-context-preserved c =
    let program = c.args.program.now in
    let facts = c.args.facts.now in
    let p = program_with program facts in
    let is = is_program program facts c.requires.analysable c.requires.facts in
    let tables = lists_of c.args.tables.now in
    let values = operands_of p (tables_of tables) in
    let Flawed = IsFlawed p (tables_of tables) in
    let xs = c.deref-context-items.result.now in
    let i = c.loop-context.context-index in
    let this = get_or xs i no_context in
    let rising = subst (AreRising Precedes) (sym c.deref-context-items.ensures.value) c.in_ok-ranked.ensures.rising in
    merged_more values Flawed (take i xs) (take (i + 1) xs) this (front_more xs i no_context c.loop-context-test.true)
    (are_values p is c.args.store.now tables c.requires.fits c.args.contexts.items c.requires.found
    c.in_ok-ranked.ranked.items c.in_ok-ranked.ensures xs c.deref-context-items.ensures.value (i + 1))
    c.in_ok-used.used.flaws.items c.in_ok-used.ensures.flaws c.loop-context.merged.items c.loop-context.invariant
    (after_front xs i no_context c.loop-context-test.true rising) c.add.new.merged.items
    (subst (λ vs. IsAdded c.loop-context.merged.items this vs c.in_ok-used.used.flaws.items c.add.new.merged.items)
    c.in_ok-used.ensures.operands c.in_ok-add.ensures)

pub returns : goal.returns
returns c =
    let values = operands_of (program_with c.args.program.now c.args.facts.now)
    (tables_of (lists_of c.args.tables.now)) in
    let Flawed = IsFlawed (program_with c.args.program.now c.args.facts.now)
    (tables_of (lists_of c.args.tables.now)) in
    let xs = c.deref-context-items.result.now in
    let end : length xs ≤ c.loop-context.context-index = omega arith in
    let all = subst (λ l. AreMerged values Flawed l c.loop-context.merged.items) (take_all c.loop-context.context-index xs end)
    c.loop-context.invariant in
    merged_all values Flawed c.args.contexts.items c.in_ok-ranked.ranked.items c.loop-context.merged.items
    c.in_ok-ranked.ensures.same
    (subst (λ l. AreMerged values Flawed l c.loop-context.merged.items) c.deref-context-items.ensures.value all)
