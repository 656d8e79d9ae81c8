-- Accesses of next actions, and which of them race.
use Rattle.std.specs.Prelude.{ℕ, ◌+◌, ◌==◌, ◌&&◌, ◌||◌, not, Bool, true, false, List, [], ◌∷◌, ◌++◌, map}
use Rattle.std.specs.Prelude.{get_or, Option, Some, None}
use Rattle.std.specs.List.{range_with_len}
use Rattle.tm_laid.specs.Layouts.{LaidTree}
use Rattle.concrete_values.specs.declared.values.Answer.{Answer}
use Rattle.concrete_steps.specs.NextAction.{next}
use Rattle.tm_terms.specs.declared.places.Place.{Place}
use Rattle.concrete_values.specs.declared.actions.Next.{Next}
use Rattle.concrete_values.specs.declared.actions.Next.TheVariants as Acts
use Rattle.concrete_worlds.specs.declared.accesses.Access.{Access}

-- the access that an action is
abbrev pub access_of : Next → Option Access
access_of (Acts.Load o k s volatile p) = Some (record { object = o; offset = k; stores = false; place = p })
access_of (Acts.Store o k s v p) = Some (record { object = o; offset = k; stores = true; place = p })
access_of _ = None

-- the access that is the next action of a task, where these are the answers of each
unfoldable pub access_after : LaidTree → List (List Answer) → ℕ → Option Access
access_after laid answers i = access_of (next laid i (get_or answers i []))

-- those of the first n tasks
abbrev pub accesses_after : LaidTree → List (List Answer) → ℕ → List (Option Access)
accesses_after laid answers n = map (access_after laid answers) (range_with_len 0 n)

-- two accesses of different tasks race: they are to one cell, and one of them stores
abbrev pub do_race : Access → Access → Bool
do_race a b = (a.object == b.object) && (a.offset == b.offset) && (a.stores || b.stores)

abbrev pub races_with : Access → Option Access → Bool
races_with a None = false
races_with a (Some b) = do_race a b

-- it races with that of a task other than this one, where these accesses are those of the tasks from a number on
abbrev pub races_with_some : ℕ → Access → ℕ → List (Option Access) → Bool
races_with_some i a j [] = false
races_with_some i a j (b ∷ bs) = (not (j == i) && races_with a b) || races_with_some i a (j + 1) bs

abbrev pub place_if : Bool → Place → List Place
place_if true p = p ∷ []
place_if false p = []

-- the place of the access of this task, where it races with another's
abbrev pub race_of : List (Option Access) → ℕ → Option Access → List Place
race_of all i None = []
race_of all i (Some a) = place_if (races_with_some i a 0 all) a.place

-- the places of those of the tasks from a number on
abbrev pub races_from : List (Option Access) → ℕ → List (Option Access) → List Place
races_from all i [] = []
races_from all i (a ∷ rest) = race_of all i a ++ races_from all (i + 1) rest
