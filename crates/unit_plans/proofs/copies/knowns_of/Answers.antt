use Rattle.std.proofs.Common.{◌≡◌, ◌∙◌, sym, ap, arith, []}
use Rattle.unit_plans.specs.Copies.{Copies, copies_behind, knowns_of}
use Rattle.unit_plans.specs.reading.Founds.{copies_of}
use Rattle.unit_plans.proofs.Ends.{no_more}
use Rattle.unit_plans.proofs.copies.knowns_of.Goals as goal

pub returns : goal.returns
unfolding knowns_of
returns c =
    let none : c.loop-left.left.now ≡ [] = no_more c.loop-left.left.now (omega (arith, c.in_default.len_below)) in
    sym (ap (λ (k : Copies). k.knowns) (c.loop-left.invariant.same
    ∙ ap (copies_behind c.args.sights.now (copies_of c.loop-left.found) c.loop-left.own.items) none))
