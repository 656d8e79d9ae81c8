use Rattle.std.proofs.Common.{◌+◌, ◌≤◌, sym, subst, take, get_or, length, arith}
use Rattle.std.proofs.lemmas.List.{take_all}
use Rattle.access_races.proofs.Joins.{front_more}
use Rattle.access_races.specs.Rising.{AreRising}
use Rattle.access_groups.specs.reading.Merging.{Precedes, AreMerged}
use Rattle.access_groups.proofs.Merged.{merged_more, after_front, merged_same, no_access}
use Rattle.access_groups.proofs.merging.merged.Goals as goal

pub loop-access-preserved : goal.loop-access-preserved
loop-access-preserved c =
    let xs = c.deref-access-items.result.now in
    let i = c.loop-access.access-index in
    let rising = subst (AreRising Precedes) (sym c.deref-access-items.ensures.value) c.in_ok-ranked.ensures.rising in
    merged_more (take i xs) (take (i + 1) xs) (get_or xs i no_access)
    (front_more xs i no_access c.loop-access-test.true) c.loop-access.merged.items c.loop-access.invariant
    (after_front xs i no_access c.loop-access-test.true rising) c.add.new.merged.items c.in_ok-add.ensures

pub returns : goal.returns
returns c =
    let xs = c.deref-access-items.result.now in
    let end : length xs ≤ c.loop-access.access-index = omega arith in
    let all = subst (λ l. AreMerged l c.loop-access.merged.items) (take_all c.loop-access.access-index xs end)
    c.loop-access.invariant in
    merged_same c.args.noted.now c.in_ok-ranked.ranked.items c.loop-access.merged.items c.in_ok-ranked.ensures.same
    (subst (λ l. AreMerged l c.loop-access.merged.items) c.deref-access-items.ensures.value all)
