use Rattle.std.proofs.Common.{ap, sym, ◌∙◌}
use Rattle.concrete_worlds.specs.Views.{laid_of, world_of}
use Rattle.concrete_worlds.specs.reading.Access.{races_from}
use Rattle.concrete_worlds.proofs.Racing.{are_races}
use Rattle.concrete_worlds.proofs.worlds.World.races.Goals as goal

pub returns : goal.returns
returns c =
    are_races (laid_of c.args.self.now) (world_of c.args.self.now) c.in_ok-accesses.accesses.items c.in_ok-places.places.items c.sort.new.self.items c.dedup.new.self.items
    c.if-self.false (sym c.tasks_may_run.ensures ∙ c.if-not-tasks_may_run.false)
    c.in_ok-accesses.ensures
    (c.in_ok-places.ensures ∙ ap (λ z. races_from z 0 z) c.deref.ensures.value)
    c.in_ok-sort.ensures.permutation c.in_ok-sort.ensures.sorted c.dedup.ensures.filtered
