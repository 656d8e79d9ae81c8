use Rattle.std.proofs.Common.{◌↔◌, ℕ, take}
use Rattle.std.specs.Prelude.{Contains}
use Rattle.access_partners.specs.reading.Accesses.{IsEdgeOf}
use Rattle.access_partners.proofs.numbers.all_edges.Given as goal

abbrev pub invariant-loop-site : goal.invariant-loop-site
invariant-loop-site l = (n : ℕ) → Contains l.edges.items n ↔ IsEdgeOf (take l.site-index l.sites) n
