-- The cells that a body sees are few.
use Rattle.std.proofs.Common.{◌≡◌, ℕ, ◌<◌, true}
use Rattle.std.specs.Prelude.{ltb}
use Rattle.std.proofs.lemmas.Bool.{ltb-true, and_parts}
use Rattle.tm_laid.specs.Layouts.{LaidTree, abstract_at}
use Rattle.edge_actions.specs.Layouts.{is_reachable}
use Rattle.body_slots.specs.reading.Bodies.{is_seen_below}

pub seen_small : (laid : LaidTree) (task count x : ℕ) → is_seen_below laid task count x ≡ true → x < count
seen_small laid task count x h = (let a = abstract_at laid x in
    ltb-true x count (and_parts (ltb x count) (is_reachable laid task a.object) h).0)
