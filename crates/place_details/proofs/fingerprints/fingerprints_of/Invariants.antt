use Rattle.std.proofs.Common.{◌≡◌, ◌++◌, ℕ, List, take, drop, map, count_by, unwrap_or, bytes_eq}
use Rattle.std.specs.HashMap.{get_by}
use Rattle.std.specs.Prelude.{string_bytes}
use Rattle.place_details.specs.Fingerprints.{fingerprints_behind, fingerprints_of}
use Rattle.place_details.specs.reading.Seen.{front_seen}
use Rattle.place_details.proofs.fingerprints.fingerprints_of.Given as goal

abbrev pub invariant-loop-front : goal.invariant-loop-front
invariant-loop-front l =
    (fingerprints_of (map front_seen l.fronts)
    ≡ map string_bytes l.texts.items
    ++ fingerprints_behind (take l.front-index (map front_seen l.fronts)) (drop l.front-index (map front_seen l.fronts)))
    × ((q : List ℕ) → unwrap_or (get_by (λ k. bytes_eq q k.now) l.counts) 0
    ≡ count_by (bytes_eq q) (take l.front-index (map front_seen l.fronts)))
