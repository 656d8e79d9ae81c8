use Rattle.std.proofs.Common.{length, subst, sym, ap, refl, arith}
use Rattle.std.specs.Arc.{arc_value}
use Rattle.shared_programs.specs.program_systems.ProgramFacts.{program_with}
use Rattle.shared_programs.proofs.low.program_systems.Bodies.{is_program}
use Rattle.post_recheck.specs.Pairs.{pair_of}
use Rattle.post_recheck.specs.Bodies.{AreChecked}
use Rattle.post_recheck.proofs.Given.{bodies_small}
use Rattle.post_recheck.proofs.checking.recheck.Goals as goal

pub answered-requires : goal.answered-requires
answered-requires g c =
    let small = bodies_small c.args.program.now c.args.facts.now c.requires.analysable c.requires.facts in
    let same = ap length c.deref-6.ensures.value in
    omega (arith, small, c.in_ok-checks.ensures.count, same)

pub returns : goal.returns
returns g c =
    let program = c.args.program.now in
    let facts = c.args.facts.now in
    let p = program_with program facts in
    let tables = c.args.tables.items in
    let store = arc_value c.args.store in
    let checks = c.in_ok-checks.checks.items in
    c.answered.ensures p (is_program program facts c.requires.analysable c.requires.facts) refl c.requires.fits
    (subst (AreChecked p (pair_of tables store)) (sym c.deref-6.ensures.value)
    (subst (λ ts. AreChecked p (pair_of ts store) checks) c.deref-3.ensures.value
    (subst (λ s. AreChecked p (pair_of c.deref-3.result.now s) checks) c.deref-4.ensures c.in_ok-checks.ensures)))
