use Rattle.std.proofs.Common.{refl}
use Rattle.memory_effects.proofs.low.edge_effects.Effects.{constant_given}
use Rattle.transfer_mem.proofs.giving.constant.Goals as goal

pub returns : goal.returns
returns c = λ s. constant_given s c.args.value _ refl c.no_classes.ensures
