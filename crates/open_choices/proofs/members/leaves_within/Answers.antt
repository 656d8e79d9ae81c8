use Rattle.std.proofs.Common.{◌<◌, pos, sym, subst, arith}
use Rattle.strided_dom.specs.Progression.{Has}
use Rattle.operand_orders.specs.reading.Views.{solved}
use Rattle.open_choices.proofs.Searching.{is_found, not_found, not_so}
use Rattle.open_choices.proofs.Numbers.{NoneLeaves, none_before, none_more, none_behind}
use Rattle.open_choices.proofs.members.leaves_within.Goals as goal

pub loop-offset-init : goal.loop-offset-init
loop-offset-init c =
    let o = c.args.offsets.now in
    let b = solved c.args.view in
    let Steps = Has c.args.steps.now in
    subst (NoneLeaves o b c.args.object c.args.target Steps) (sym c.from-offset.ensures)
    (none_before o b c.args.object c.args.target Steps c.args.first c.args.last c.requires.ends)

pub returns-then-leaves : goal.returns-then-leaves
returns-then-leaves c =
    let n = c.loop-offset.offset in
    let here = c.in_ok-leaves.ensures.0 c.if-leaves.true in
    is_found (record {
      offset = n;
      has = subst (λ s. Has s (pos n)) c.set-set.ensures.value here.0;
      leaves = here.1;
    })

pub loop-offset-preserved : goal.loop-offset-preserved
loop-offset-preserved c =
    let o = c.args.offsets.now in
    let b = solved c.args.view in
    let Steps = Has c.args.steps.now in
    let n = c.loop-offset.offset in
    none_more o b c.args.object c.args.target Steps n c.loop-offset.invariant (λ h.
    not_so _ c.in_ok-leaves.ensures c.if-leaves.false
    (subst (λ s. Has s (pos n)) (sym c.set-set.ensures.value) h.0, h.1))

pub returns : goal.returns
returns c =
    let n = c.loop-offset.offset in
    let past : c.args.last < n = omega (arith, c.loop-offset-test.false, c.from-offset-end.ensures) in
    not_found (none_behind c.args.offsets.now (solved c.args.view) c.args.object c.args.target (Has c.args.steps.now)
    c.args.first c.args.last c.requires.ends n past c.loop-offset.invariant)
