use Rattle.std.specs.Prelude.{refl}
use Rattle.store_limits.proofs.Climbing.{then_published, history_fits}
use Rattle.store_limits.proofs.laws.histories_go_on.Goals as goal

pub returns : goal.returns
returns c = record { begins = λ p. refl; more = then_published; fits = history_fits }
