use Rattle.value_origins.specs.Nulls.{GivesNull}
use Rattle.value_origins.proofs.stores.widest_store.Given as goal

abbrev pub invariant-loop-cell : goal.invariant-loop-cell
invariant-loop-cell l = GivesNull l.values.null l.best
