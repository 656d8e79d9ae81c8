use Rattle.std.proofs.Common.{◌<◌, subst, sym, ap, map, ◌∙◌, arith}
use Rattle.flow_graph.specs.declared.graphs.Graph.{Graph}
use Rattle.mutex_configs.specs.declared.nodes.ConfiguredGraph.{ConfiguredGraph}
use Rattle.program_equality.specs.program_equations.Programs.{body_at}
use Rattle.program_systems.specs.ReadPrograms.{program_of}
use Rattle.program_systems.specs.ProgramFacts.{program_with}
use Rattle.program_systems.proofs.Bodies.{body_count, is_program, is_program_of}
use Rattle.thread_pass.specs.StoreUses.{reads_along, adds_along, AreUses}
use Rattle.thread_pass.proofs.TaskTables.{in_bodies}
use Rattle.thread_pass.proofs.store_uses.store_uses.Goals as goal

pub index-requires : goal.index-requires
index-requires c =
    let program = c.analysis.inside.program in
    let facts = c.analysis.inside.facts in
    let p = program_with program facts in
    let analysable = c.analysis.invariant.analysable in
    let are = c.analysis.invariant.facts in
    let task : c.args.task < p.tasks = subst (λ v. c.args.task < v.tasks) (sym c.analysis.view_is) c.requires in
    let within = in_bodies p (is_program program facts analysable are) c.args.task task in
    let count = body_count program facts analysable are in
    omega (arith, within, count, program.graphs.graphs.ok.0)

pub index-requires-2 : goal.index-requires-2
index-requires-2 c =
    let program = c.analysis.inside.program in
    let facts = c.analysis.inside.facts in
    let p = program_with program facts in
    let analysable = c.analysis.invariant.analysable in
    let are = c.analysis.invariant.facts in
    let task : c.args.task < p.tasks = subst (λ v. c.args.task < v.tasks) (sym c.analysis.view_is) c.requires in
    let within = in_bodies p (is_program program facts analysable are) c.args.task task in
    let count = body_count program facts analysable are in
    omega (arith, within, count, analysable.count, program.configured.ok.0)

pub returns : goal.returns
returns c =
    let program = c.analysis.inside.program in
    let facts = c.analysis.inside.facts in
    let p = program_with program facts in
    let analysable = c.analysis.invariant.analysable in
    let are = c.analysis.invariant.facts in
    let task : c.args.task < p.tasks = subst (λ v. c.args.task < v.tasks) (sym c.analysis.view_is) c.requires in
    let within = in_bodies p (is_program program facts analysable are) c.args.task task in
    let b = body_at p c.args.task in
    let of = is_program_of program facts analysable are in
    let part = of.bodies c.args.task c.index.result.now c.index-2.result.now within in
    let edges = ap (λ (g : Graph). g.edges.items) c.index.ensures ∙ sym part.edges in
    let copies = ap (λ (g : ConfiguredGraph). g.copies.items) c.index-2.ensures ∙ sym part.copies in
    subst (λ v. AreUses (body_at (program_of v) c.args.task) c.in_ok-readers.field-0.items c.in_ok-adders.field-0.items)
    c.analysis.view_is
    (record {
      readers = c.in_ok-readers.ensures
          ∙ ap (λ es. map (reads_along es) c.deref-2.result.now) (c.deref.ensures.value ∙ edges)
          ∙ ap (λ cs. map (reads_along b.edges) cs) (c.deref-2.ensures.value ∙ copies);
      adders = c.in_ok-adders.ensures
          ∙ ap (λ es. map (adds_along es) c.deref-4.result.now) (c.deref-3.ensures.value ∙ edges)
          ∙ ap (λ cs. map (adds_along b.edges) cs) (c.deref-4.ensures.value ∙ copies);
    })
