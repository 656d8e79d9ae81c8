use Rattle.std.proofs.Common.{◌<◌, subst, sym, ap, arith, ◌∙◌, length, get_or, option_map}
use Rattle.std.proofs.lemmas.List.{get_or_default}
use Rattle.entry_states.specs.body_systems.Systems.{body_of, system_with, IsSystemOf}
use Rattle.program_systems.proofs.Bodies.{body_count}
use Rattle.program_systems.proofs.SystemsOfBodies.{is_system, same_body}
use Rattle.program_systems.proofs.systems.body_over_store.Goals as goal

pub index-requires : goal.index-requires
index-requires c =
    let count = body_count c.args.program.now c.args.facts.now c.requires.analysable c.requires.facts in
    omega (arith, c.requires.number, count, c.args.program.now.graphs.graphs.ok.0)

pub index-requires-2 : goal.index-requires-2
index-requires-2 c =
    let count = body_count c.args.program.now c.args.facts.now c.requires.analysable c.requires.facts in
    omega (arith, c.requires.number, count, c.requires.analysable.count, c.args.program.now.configured.ok.0)

pub bounds-bodies-number : goal.bounds-bodies-number
bounds-bodies-number c =
    let count = body_count c.args.program.now c.args.facts.now c.requires.analysable c.requires.facts in
    let same = ap length c.bodies.ensures in
    omega (arith, c.requires.number, count, c.requires.facts.count, same)

pub new-requires : goal.new-requires
new-requires c =
    let program = c.args.program.now in
    let facts = c.args.facts.now in
    let number = c.args.number in
    let count = body_count program facts c.requires.analysable c.requires.facts in
    let in_graphs : number < length program.graphs.graphs.items = omega (arith, c.requires.number, count) in
    let in_configured : number < length program.configured.items =
    omega (arith, in_graphs, c.requires.analysable.count) in
    let in_facts : number < length facts.bodies = omega (arith, in_graphs, c.requires.facts.count) in
    subst (λ ps. IsSystemOf (system_with program.laid number ps program.marks c.index.result.now c.index-2.result.now
    c.index-bodies-number.result (option_map (λ s. s.now) c.args.entry) c.args.store.now))
    (sym c.priorities.ensures)
    (is_system program facts c.requires.analysable c.requires.facts number (option_map (λ s. s.now) c.args.entry)
    c.args.store.now c.index.result.now c.index-2.result.now c.index-bodies-number.result c.requires.number
    (λ d. sym (c.index.ensures ∙ get_or_default program.graphs.graphs.items number c.index.result.now d in_graphs))
    (λ d. sym (c.index-2.ensures ∙ get_or_default program.configured.items number c.index-2.result.now d in_configured))
    (λ d. sym (c.index-bodies-number.is ∙ ap (λ fs. get_or fs number c.index-bodies-number.result) c.bodies.ensures
    ∙ get_or_default facts.bodies number c.index-bodies-number.result d in_facts))
    c.requires.store c.requires.entry)

pub returns-clause-body : goal.returns-clause-body
returns-clause-body c =
    let program = c.args.program.now in
    let facts = c.args.facts.now in
    let number = c.args.number in
    let count = body_count program facts c.requires.analysable c.requires.facts in
    let in_graphs : number < length program.graphs.graphs.items = omega (arith, c.requires.number, count) in
    let in_configured : number < length program.configured.items =
    omega (arith, in_graphs, c.requires.analysable.count) in
    let in_facts : number < length facts.bodies = omega (arith, in_graphs, c.requires.facts.count) in
    ap body_of (c.new.ensures ∙ ap (λ ps. system_with program.laid number ps program.marks c.index.result.now
    c.index-2.result.now c.index-bodies-number.result (option_map (λ s. s.now) c.args.entry) c.args.store.now)
    c.priorities.ensures)
    ∙ same_body program facts c.requires.analysable c.requires.facts number (option_map (λ s. s.now) c.args.entry)
    c.args.store.now c.index.result.now c.index-2.result.now c.index-bodies-number.result c.requires.number
    (λ d. sym (c.index.ensures ∙ get_or_default program.graphs.graphs.items number c.index.result.now d in_graphs))
    (λ d. sym (c.index-2.ensures ∙ get_or_default program.configured.items number c.index-2.result.now d in_configured))
    (λ d. sym (c.index-bodies-number.is ∙ ap (λ fs. get_or fs number c.index-bodies-number.result) c.bodies.ensures
    ∙ get_or_default facts.bodies number c.index-bodies-number.result d in_facts))
