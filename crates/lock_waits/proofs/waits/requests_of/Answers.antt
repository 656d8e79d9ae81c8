use Rattle.std.proofs.Common.{◌≡◌, refl, arith}
use Rattle.program_reports.specs.post_recheck.program_systems.ProgramFacts.{program_with}
use Rattle.program_reports.proofs.low.program_systems.Bodies.{is_program}
use Rattle.program_reports.specs.post_recheck.Pairs.{lists_of}
use Rattle.lock_waits.proofs.Asking.{grown, tasks_more}
use Rattle.lock_waits.proofs.Programs.{requested}
use Rattle.lock_waits.proofs.waits.requests_of.Goals as goal

pub loop-number-preserved : goal.loop-number-preserved
loop-number-preserved c = λ facts are r.
    grown (c.in_ok-add_task.ensures facts are r) (c.loop-number.invariant facts are r)
    (tasks_more (program_with c.args.program.now facts) (lists_of c.args.tables.now) r c.loop-number.number)

pub returns : goal.returns
returns c = λ facts are r.
    let p = program_with c.args.program.now facts in
    let is = is_program c.args.program.now facts c.requires.analysable are in
    let end : c.loop-number.number ≡ p.tasks =
    omega (arith, c.len-number-end.ensures, c.args.program.now.laid.file.tasks.ok.0) in
    requested p is (lists_of c.args.tables.now) r c.loop-number.requests.items c.loop-number.requests.items refl
    c.loop-number.number end (c.loop-number.invariant facts are r)
