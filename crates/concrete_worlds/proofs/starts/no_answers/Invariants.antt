use Rattle.std.proofs.Common.{◌≡◌, ◌++◌, [], map, drop, vec_items}
use Rattle.concrete_worlds.proofs.starts.no_answers.Given as goal

abbrev pub invariant-loop-standing : goal.invariant-loop-standing
invariant-loop-standing l = map vec_items l.answers.items ++ map (λ s. []) (drop l._standing-index l.standings) ≡ map (λ s. []) l.standings
