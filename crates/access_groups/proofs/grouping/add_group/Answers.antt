use Rattle.std.proofs.Common.{refl, sym, subst, ◌∙◌}
use Rattle.std.proofs.lemmas.Bool.{true≢false}
use Rattle.access_groups.specs.reading.Merging.{HasRacing}
use Rattle.access_groups.specs.reading.Grouping.IsGrouped.{none_races, one_races}
use Rattle.access_groups.proofs.Merged.{racing_merged}
use Rattle.access_groups.proofs.grouping.add_group.Goals as goal

pub returns-in_ok-push : goal.returns-in_ok-push
returns-in_ok-push c =
    one_races (record { object = c.args.object; accesses = c.in_ok-accesses.accesses }) refl c.in_ok-accesses.ensures
    (subst HasRacing c.deref.ensures.value (c.has_racing.ensures.0 c.if-has_racing.true)) c.in_ok-push.ensures.items

pub returns-else-has_racing : goal.returns-else-has_racing
returns-else-has_racing c =
    none_races (λ r. true≢false (sym (c.has_racing.ensures.1 (subst HasRacing (sym c.deref.ensures.value)
    (racing_merged c.args.noted.now c.in_ok-accesses.accesses.items c.in_ok-accesses.ensures r)))
    ∙ c.if-has_racing.false)) refl
