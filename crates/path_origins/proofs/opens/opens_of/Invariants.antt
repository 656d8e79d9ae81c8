use Rattle.std.proofs.Common.{◌≡◌, ◌||◌, drop}
use Rattle.tm_terms.specs.declared.places.Place.{Place}
use Rattle.path_origins.specs.Opens.{is_among}
use Rattle.path_origins.proofs.opens.opens_of.Given as goal

-- a place is among those so far, or among those that are left
abbrev pub invariant-loop-place : goal.invariant-loop-place
invariant-loop-place l = (p : Place)
    → (is_among l.found.keys p || is_among (drop l.place-index l.places) p) ≡ is_among l.places p
