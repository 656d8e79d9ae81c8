use Rattle.std.proofs.Common.{rules, ◌≡◌, ◌++◌, [], ◌∷◌}
use Rattle.indexmap.specs.IndexMap.{get}
use Rattle.note_details.specs.Races.{is_same_place}
use Rattle.note_details.proofs.Placing.{placed}
use Rattle.note_details.proofs.races.place_racer.Goals as goal

pub returns : goal.returns
returns c q =
    let pushed : c.push.new.self.items ≡ c.take_row-row.result.items ++ c.args.racer ∷ [] = search rules in
    placed (λ p. get is_same_place c.args.rows.now p) q c.args.racer c.take_row-row.result c.push.new.self (get is_same_place c.take_row-row.new.rows q) (get is_same_place c.insert.new.self q)
    c.take_row-row.ensures.row pushed (c.take_row-row.ensures.others q) (c.in_ok-insert.ensures.updates.0 q)
