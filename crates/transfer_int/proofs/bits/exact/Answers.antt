use Rattle.std.proofs.Common.{sym, ◌∙◌}
use Rattle.strided_dom.proofs.Reach.{kept, reach_kept}
use Rattle.transfer_int.proofs.BitSets.{result_reaches, single_of_result, none_of_error}
use Rattle.transfer_int.proofs.bits.exact.Goals as goal

pub one-requires : goal.one-requires
one-requires c =
    reach_kept (result_reaches _ _ _ _ _ (c.requires.left.all _ c.lo.ensures.least.member) (c.requires.right.all _ c.lo-2.ensures.least.member)
    (rw (kept c.lo.ensures.in_reach, kept c.lo-2.ensures.in_reach) at (sym c.arith.ensures ∙ c.in-Ok.is)))

pub returns-in-Ok : goal.returns-in-Ok
returns-in-Ok c =
    let e = rw (kept c.lo.ensures.in_reach, kept c.lo-2.ensures.in_reach) at (sym c.arith.ensures ∙ c.in-Ok.is) in
    let r = result_reaches _ _ _ _ _ (c.requires.left.all _ c.lo.ensures.least.member) (c.requires.right.all _ c.lo-2.ensures.least.member) e in
    single_of_result _ _ _ (rw (c.lo.ensures.value, c.lo-2.ensures.value) at e) (rw (kept r) at c.one.ensures)

pub returns-in-Err : goal.returns-in-Err
returns-in-Err c =
    none_of_error _ _ _ (rw (kept c.lo.ensures.in_reach, kept c.lo-2.ensures.in_reach, c.lo.ensures.value, c.lo-2.ensures.value) at (sym c.arith.ensures ∙ c.in-Err.is))
