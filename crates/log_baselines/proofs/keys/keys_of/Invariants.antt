use Rattle.std.proofs.Common.{◌≡◌, ◌++◌, ℕ, List, take, drop, map, count_by, unwrap_or, bytes_eq}
use Rattle.std.specs.HashMap.{get_by}
use Rattle.std.specs.Prelude.{string_bytes}
use Rattle.log_baselines.specs.Keys.{keys_behind, keys_of}
use Rattle.log_baselines.specs.reading.Seen.{text_seen}
use Rattle.log_baselines.proofs.keys.keys_of.Given as goal

abbrev pub invariant-loop-i : goal.invariant-loop-i
invariant-loop-i l =
    (keys_of (map text_seen l.prints)
    ≡ map string_bytes l.keys.items
    ++ keys_behind (take l.i (map text_seen l.prints)) (drop l.i (map text_seen l.prints)))
    × ((q : List ℕ) → unwrap_or (get_by (λ k. bytes_eq q k.now) l.counts) 0
    ≡ count_by (bytes_eq q) (take l.i (map text_seen l.prints)))
