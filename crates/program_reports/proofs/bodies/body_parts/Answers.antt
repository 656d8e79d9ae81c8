use Rattle.std.proofs.Common.{◌≡◌, length, get_or, nat_lt, refl, ap, arith}
use Rattle.post_recheck.specs.body_systems.Systems.{body_of}
use Rattle.post_recheck.proofs.low.program_systems.Bodies.{body_count}
use Rattle.program_reports.proofs.Numbered.{in_priorities, parts_are}
use Rattle.program_reports.proofs.bodies.body_parts.Goals as goal

pub index-configured-requires : goal.index-configured-requires
index-configured-requires c =
    let count = body_count c.args.program.now c.args.facts.now c.requires.analysable c.requires.facts in
    omega (arith, c.requires.number, count, c.requires.analysable.count, c.args.program.now.configured.ok.0)

pub index-requires : goal.index-requires
index-requires c =
    let count = body_count c.args.program.now c.args.facts.now c.requires.analysable c.requires.facts in
    omega (arith, c.requires.number, count, c.args.program.now.graphs.graphs.ok.0)

pub bounds-priorities-number : goal.bounds-priorities-number
bounds-priorities-number c =
    let within = in_priorities c.args.program.now c.args.facts.now c.requires.analysable c.requires.facts c.args.number
    c.requires.number in
    let same = ap length c.priorities.ensures in
    omega (arith, within, same)

pub returns-clause-parts : goal.returns-clause-parts
returns-clause-parts c =
    parts_are c.args.program.now c.args.facts.now c.requires.analysable c.requires.facts c.args.number c.requires.number
    (body_of c.args.body.now) c.requires.body _ c.index.result.now c.index-configured.result.now c.index.ensures
    c.index-configured.ensures c.deref.ensures.value c.as_slice.ensures.keys c.deref-2.ensures.value refl
    (ap (λ ps. get_or ps c.args.number 0) c.priorities.ensures)

pub returns-clause-is_task : goal.returns-clause-is_task
returns-clause-is_task c =
    let tasks = c.args.program.now.laid.file.tasks in
    let counted : c.len.result ≡ length tasks.items = omega (arith, c.len.ensures, tasks.ok.0) in
    ap (nat_lt c.args.number) counted
