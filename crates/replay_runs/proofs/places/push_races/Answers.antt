use Rattle.std.proofs.Common.{◌++◌, ◌∙◌, ap}
use Rattle.concrete_worlds.specs.Views.{laid_of, world_of}
use Rattle.replay_runs.proofs.Sets.{adds_races}
use Rattle.replay_runs.proofs.places.push_races.Goals as goal

pub returns-in-Ok : goal.returns-in-Ok
returns-in-Ok c =
    adds_races (laid_of c.args.world.now) (world_of c.args.world.now) c.args.places.now.items c.in_ok-found.found.items c.in_ok-found.ensures
    c.extend_from_slice.new.self.items (c.in-Ok.ensures.items ∙ ap (λ z. c.args.places.now.items ++ z) c.deref.ensures.value)
