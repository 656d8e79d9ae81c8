-- What two lists of rows tell, one behind the other.
use Rattle.std.proofs.Common.{◌≡◌, Bool, true, false, cond, List, [], ◌∷◌, ◌++◌, refl, Some, None}
use Rattle.std.specs.Prelude.{find, option_map}
use Rattle.refusal_hints.specs.declared.constructs.Construct.{Construct}
use Rattle.refusal_hints.specs.Hints.{Surroundings, construct_among, stands}
use Rattle.refusal_hints.specs.Rows.{Row}

-- the first list tells it
pub told_first : (words : Surroundings) (rows more : List Row) (construct : Construct)
    → Some construct ≡ construct_among words rows → Some construct ≡ construct_among words (rows ++ more)
told_first words [] more construct e = cc
told_first words (row ∷ rows) more construct e = step (stands words row) e (told_first words rows more construct)
  where
    step : (b : Bool) → Some construct ≡ option_map (λ r. r.construct) (cond b (Some row) (find (stands words) rows))
        → (Some construct ≡ construct_among words rows → Some construct ≡ construct_among words (rows ++ more))
        → Some construct ≡ option_map (λ r. r.construct) (cond b (Some row) (find (stands words) (rows ++ more)))
    step true e rest = e
    step false e rest = rest e

-- the first list tells nothing
pub told_behind : (words : Surroundings) (rows more : List Row)
    → None ≡ construct_among words rows → construct_among words more ≡ construct_among words (rows ++ more)
told_behind words [] more e = refl
told_behind words (row ∷ rows) more e = step (stands words row) e (told_behind words rows more)
  where
    step : (b : Bool) → None ≡ option_map (λ r. r.construct) (cond b (Some row) (find (stands words) rows))
        → (None ≡ construct_among words rows → construct_among words more ≡ construct_among words (rows ++ more))
        → construct_among words more
        ≡ option_map (λ r. r.construct) (cond b (Some row) (find (stands words) (rows ++ more)))
    step true e rest = cc
    step false e rest = rest e
