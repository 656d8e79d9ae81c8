-- The mutexes that graphs name.
use Rattle.std.specs.Prelude.{ℕ, ◌<◌}
use Rattle.lowering.specs.flow_graph.declared.operations.Operation.{Operation}
use Rattle.lowering.specs.flow_graph.declared.operations.Operation.TheVariants as Op

-- a mutex that an operation names is one of so many
abbrev pub HasMutex : ℕ → Operation → Type 0
HasMutex count (Op.Lock mutex place) = mutex < count
HasMutex count (Op.Unlock mutex place) = mutex < count
HasMutex count (Op.Probe to mutex place) = mutex < count
HasMutex count _ = Unit {0}
