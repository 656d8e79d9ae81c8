use Rattle.std.proofs.Common.{◌≡◌, ◌≤◌, length, map, take}
use Rattle.place_details.specs.Details.{front_at, function_of}
use Rattle.place_details.specs.Functions.{scanned}
use Rattle.place_details.specs.reading.Seen.{bytes_seen, front_seen, sight_seen}
use Rattle.place_details.proofs.details.named_in.Given as goal

abbrev pub invariant-loop-sight : goal.invariant-loop-sight
invariant-loop-sight l =
    (map bytes_seen l.functions.items ≡ map (function_of l.known.text.now) (map sight_seen (take l.sight-index l.sights)))
    × (map front_seen l.fronts.items
    ≡ map (front_at l.folder l.known.text.now l.known.lines.now) (map sight_seen (take l.sight-index l.sights)))
    × (l.scan ≡ scanned l.code l.at) × (l.at ≤ length l.code)
