use Rattle.std.proofs.Common.{◌≡◌, ℕ, true, false, get_or}
use Rattle.least_tables.proofs.Marking.{IsFollowed, past_number}
use Rattle.least_tables.proofs.leaving_edges.Leaving.mark.Given as goal

-- the edges of the node from the one at hand on are marked, and no mark is taken away
abbrev pub invariant-loop-at : goal.invariant-loop-at
invariant-loop-at l = IsFollowed l.self.links.now l.node l.pending l.at × ((k : ℕ) → get_or l.pending k true ≡ false → get_or l.fn.pending k true ≡ false)

abbrev pub decreases-loop-at : goal.decreases-loop-at
decreases-loop-at l = past_number l.at
