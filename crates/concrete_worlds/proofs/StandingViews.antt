-- Standings as plain data.
use Rattle.std.proofs.Common.{◌≡◌, ℕ, refl, ap, ◌∙◌, Bool, true, false, not, ◌&&◌, List, [], ◌∷◌, map, slice_get, slice_set, nat_lt}
use Rattle.std.specs.Prelude.{option_map}
use Rattle.std.proofs.lemmas.List.{map-set}
use Rattle.std.proofs.lemmas.Option.{slice_get-map}
use Rattle.concrete_steps.specs.Worlds.{is_ready, is_blocked_on, none_above, woken}
use Rattle.concrete_worlds.specs.declared.standings.TaskStanding.{TaskStanding}
use Rattle.concrete_worlds.specs.Views.{standing_of}
use Rattle.concrete_worlds.specs.reading.Standings.{none_ready_above, awake}

pub found_there : (n : ℕ) (ss : List TaskStanding) (i : ℕ) → slice_get (map (standing_of n) ss) i ≡ option_map (standing_of n) (slice_get ss i)
found_there n ss i = slice_get-map (standing_of n) ss i

pub stands_there : (n : ℕ) (ss : List TaskStanding) (i : ℕ) (s : TaskStanding)
    → map (standing_of n) (slice_set ss i s) ≡ slice_set (map (standing_of n) ss) i (standing_of n s)
stands_there n ss i s = map-set (standing_of n) ss i s

pub none_more_urgent : (n p : ℕ) (ss : List TaskStanding) → none_above p (map (standing_of n) ss) ≡ none_ready_above p ss
none_more_urgent n p [] = refl
none_more_urgent n p (s ∷ ss) = ap (λ z. not (is_ready s.status && nat_lt p s.priority) && z) (none_more_urgent n p ss)

awake_one : (n m : ℕ) (s : TaskStanding) → standing_of n (awake m s) ≡ woken m (standing_of n s)
awake_one n m s = by_test (is_blocked_on m s.status) refl
  where
    by_test : (b : Bool) → is_blocked_on m s.status ≡ b → standing_of n (awake m s) ≡ woken m (standing_of n s)
    by_test true e = rw e refl
    by_test false e = rw e refl

pub all_awake : (n m : ℕ) (ss : List TaskStanding) → map (standing_of n) (map (awake m) ss) ≡ map (woken m) (map (standing_of n) ss)
all_awake n m [] = refl
all_awake n m (s ∷ ss) = ap (λ z. z ∷ map (standing_of n) (map (awake m) ss)) (awake_one n m s) ∙ ap (λ z. woken m (standing_of n s) ∷ z) (all_awake n m ss)
