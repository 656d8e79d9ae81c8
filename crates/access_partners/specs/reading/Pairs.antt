-- What is found of the partners of accesses.
use Rattle.std.specs.Prelude.{◌≡◌, ◌↔◌, ℕ, ◌<◌, ◌≤◌, Bool, true, false, List, [], ◌∷◌, length, take, get_or}
use Rattle.std.specs.declared.vec.Vec.{Vec}
use Rattle.access_groups.specs.declared.object_access.ObjectAccess.{ObjectAccess}
use Rattle.access_races.specs.reading.Ways.{list_at}
use Rattle.access_partners.specs.declared.partners.Partners.{Partners}
use Rattle.access_partners.specs.declared.points.Point.{Point}
use Rattle.access_partners.specs.reading.Accesses.{access_at}
use Rattle.access_partners.specs.reading.Points.{AreByCells, DoMeet}

-- two are of one task and one kind, under the same mutexes
pub record IsLike (e f : ObjectAccess) : Type 0 where
  pub task : e.task ≡ f.task
  pub stores : e.stores ≡ f.stores
  pub held : e.held ≡ f.held

-- all that decides with which accesses one races is the same
pub record IsSame (e : ObjectAccess) (these : List Point) (f : ObjectAccess) (those : List Point) : Type 0 where
  pub like : IsLike e f
  pub points : these ≡ those

-- those that are told to be
abbrev pub kept_by : {X : Type 0} → List Bool → List X → List X
kept_by (true ∷ bs) (x ∷ xs) = x ∷ kept_by bs xs
kept_by (false ∷ bs) (x ∷ xs) = kept_by bs xs
kept_by bs xs = []

-- their number, and the first eight of them
pub record AreChosen (pairs : List Bool) (accesses : List ObjectAccess) (s : Partners) : Type 0 where
  pub counted : s.count ≡ length (kept_by pairs accesses)
  pub first_eight : s.shown.items ≡ take 8 (kept_by pairs accesses)

-- the same ones
pub record AreCopied (s r : Partners) : Type 0 where
  pub count : r.count ≡ s.count
  pub shown : r.shown.items ≡ s.shown.items

module _ {A : Type 0} (accesses : List ObjectAccess) (points : List (Vec Point A)) where
  -- two of them are the same in what decides
  abbrev pub AreSame : ℕ → ℕ → Type 0
  AreSame i j = IsSame (access_at accesses i) (list_at points i) (access_at accesses j) (list_at points j)

  -- two of them race
  abbrev pub ArePair : ℕ → ℕ → Type 0
  ArePair i j = DoMeet (access_at accesses i) (list_at points i) (access_at accesses j) (list_at points j)

  -- it is one of the first that are the same
  pub record IsFirstSame (at first : ℕ) : Type 0 where
    pub no_later : first ≤ at
    pub same : AreSame first at

  pub record AreFirsts (firsts : List ℕ) : Type 0 where
    pub count : length firsts ≡ length accesses
    pub each : (i : ℕ) → i < length accesses → IsFirstSame i (get_or firsts i 0)

  -- for each of the first it is told whether the one with a number races with it
  pub record ArePairs (at n : ℕ) (pairs : List Bool) : Type 0 where
    pub count : length pairs ≡ n
    pub each : (j : ℕ) → j < n → (get_or pairs j false ≡ true) ↔ ArePair at j

  -- the number of partners of the one with a number, and the first eight
  pub record HasPartners (at : ℕ) (count : ℕ) (shown : List ObjectAccess) : Type 0 where
    pub pairs : List Bool
    pub are : ArePairs at (length accesses) pairs
    pub counted : count ≡ length (kept_by pairs accesses)
    pub first_eight : shown ≡ take 8 (kept_by pairs accesses)

  pub record ArePartnersBy (n : ℕ) (partners : List Partners) : Type 0 where
    pub count : length partners ≡ n
    pub each : (i : ℕ) (d : Partners) → i < n → (let s = get_or partners i d in HasPartners i s.count s.shown.items)

-- the points of each are by their cells
pub record AreAllByCells {A : Type 0} (points : List (Vec Point A)) : Type 0 where
  pub each : (i : ℕ) → i < length points → AreByCells (list_at points i)
