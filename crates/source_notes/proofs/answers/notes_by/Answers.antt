use Rattle.std.proofs.Common.{◌∙◌, sym, subst}
use Rattle.std.specs.Prelude.{List, []}
use Rattle.flow_graph.specs.declared.graphs.Graph.{Graph}
use Rattle.source_assumptions.specs.reading.Told.{IsOpened}
use Rattle.worker_solutions.specs.program_systems.ReadPrograms.{program_of}
use Rattle.worker_solutions.specs.program_solutions.LeastReports.{IsLeastPair}
use Rattle.worker_solutions.specs.tm_laid.Layouts.{laid_tree}
use Rattle.layout_laws.proofs.Kept.{limits_kept}
use Rattle.source_findings.proofs.Solved.{if_ok_by}
use Rattle.source_programs.proofs.Stations.{short_enough}
use Rattle.certificate_check.proofs.Sourced.{few_objects}
use Rattle.source_assumptions.proofs.Listed.{have_edges}
use Rattle.source_notes.specs.reading.PartsTold.{TellsOf}
use Rattle.source_notes.proofs.NotesTold.{told}
use Rattle.source_notes.proofs.answers.notes_by.Goals as goal

-- The source is as short as sources are, and its layout keeps the limits.
pub opened_for-requires-clause-short : goal.opened_for-requires-clause-short
opened_for-requires-clause-short g c =
    (let source = c.in-Ok.ensures.source in short_enough c.args.scale _ source.short)

pub opened_for-requires-clause-layable : goal.opened_for-requires-clause-layable
opened_for-requires-clause-layable g c = (let analysable = c.in-Ok.ensures.analysable in analysable.layable)

pub opened_for-requires-clause-few : goal.opened_for-requires-clause-few
opened_for-requires-clause-few g c =
    let source = c.in-Ok.ensures.source in
    let limited = limits_kept c.args.scale source.file (laid_tree c.in-Ok.program.laid) source.answered in
    limited.cells

-- What is shared is the analysis that was handed over.
pub reply_of-requires : goal.reply_of-requires
reply_of-requires g c =
    let found = c.in_ok-found-in-Ok.found in
    let is = c.in_ok-found-in-Ok.ensures in
    subst (λ r. IsLeastPair (program_of r) found.solution) (sym (c.deref-in-Ok.ensures ∙ is.same)) is.least

pub returns-in_ok-found-in-Ok : goal.returns-in_ok-found-in-Ok
returns-in_ok-found-in-Ok g c =
    let of = c.in_ok-analysis-in-Ok.ensures in
    let bytes = c.args.bytes.now in
    let program = c.in-Ok.program in
    let laid = laid_tree program.laid in
    let analysable = c.in-Ok.ensures.analysable in
    let a = c.in-Ok.ensures.accepted _ of in
    let scale = c.args.scale in
    let few = few_objects scale [] bytes _ a laid of.laid c.in-Ok.ensures.numbered in
    let names = c.in_ok-names-in-Ok.names in
    let named = c.in_ok-names-in-Ok.ensures in
    let declared = c.in_ok-declared-in-Ok.declared in
    let are = c.in_ok-declared-in-Ok.ensures in
    let opened = c.in_ok-opened-in-Ok.opened in
    let found = c.in_ok-found-in-Ok.found in
    let is = c.in_ok-found-in-Ok.ensures in
    if_ok_by c.reply_of.result c.reply_of.ensures
    (λ reply t. told scale bytes _ a few _ is.least laid c.in-Ok.ensures.source names named.tasks named.priorities
    named.mutexes named.objects declared
    (record { runners = are.runners; mutexes = are.mutexes; objects = are.objects })
    program.graphs.graphs.items
    (have_edges laid program.graphs.graphs.items program.configured.items program.marks _ of analysable.count) opened
    c.args.note
    (λ yes. subst (λ (gs : List Graph). IsOpened bytes laid gs opened) c.deref.ensures.value
    (c.in_ok-opened-in-Ok.ensures yes)) reply.status reply.text.items
    (subst (λ r. TellsOf c.args.note (program_of r) bytes names declared opened found.solution reply.status
    reply.text.items) (c.deref-in-Ok.ensures ∙ is.same) t))
