use Rattle.std.proofs.Common.{◌≡◌, drop}
use Rattle.mutex_configs.specs.reading.Searches.{added_all}
use Rattle.mutex_configs.proofs.reached.add_all.Given as goal

abbrev pub invariant-loop-number : goal.invariant-loop-number
invariant-loop-number l =
    added_all l.edges l.nodes.keys (drop l.number-index l.numbers) l.q ≡ added_all l.edges l.initial.nodes.keys l.numbers l.q
