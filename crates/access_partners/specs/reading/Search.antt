-- What is found by halving, and by going through lists.
use Rattle.std.specs.Prelude.{◌≡◌, ◌⊎◌, ◌↔◌, ℕ, ◌<◌, ◌≤◌, ◌==◌, nat_lt, Bool, not, ◌&&◌, ◌||◌, List, [], length, Contains}
use Rattle.std.specs.declared.vec.Vec.{Vec}
use Rattle.access_groups.specs.declared.object_access.ObjectAccess.{ObjectAccess}
use Rattle.access_groups.specs.Order.{sort_key, IsBefore}
use Rattle.access_races.specs.reading.Ways.{list_at}
use Rattle.access_groups.specs.declared.site.Site.{Site}
use Rattle.access_groups.specs.reading.Sites.{access_of}
use Rattle.access_partners.specs.reading.Accesses.{access_at}

-- one comes before the other: by their kinds and the mutexes, where all else is the same
abbrev pub before_by_kind : ObjectAccess → ObjectAccess → Bool
before_by_kind e f =
    (not e.stores && f.stores) || (((e.stores && f.stores) || (not e.stores && not f.stores)) && nat_lt e.held f.held)

-- one comes before the other
abbrev pub is_before : ObjectAccess → ObjectAccess → Bool
is_before e f =
    nat_lt e.place.line f.place.line || (e.place.line == f.place.line
    && (nat_lt e.place.col f.place.col || (e.place.col == f.place.col
    && (nat_lt e.task f.task || (e.task == f.task && before_by_kind e f)))))

module _ (accesses : List ObjectAccess) (e : ObjectAccess) where
  -- this many come before it
  pub record IsFirstNotBefore (n : ℕ) : Type 0 where
    pub within : n ≤ length accesses
    pub before : (k : ℕ) → k < n → IsBefore (access_at accesses k) e
    pub after : (k : ℕ) → n ≤ k → k < length accesses → IsBefore (access_at accesses k) e → ⊥

  -- the one with this number is alike
  pub record IsIndex (n : ℕ) : Type 0 where
    pub within : n < length accesses
    pub alike : sort_key (access_at accesses n) ≡ sort_key e

  -- no one is
  abbrev pub HasNoIndex : Type 0
  HasNoIndex = (k : ℕ) → k < length accesses → sort_key (access_at accesses k) ≡ sort_key e → ⊥

-- this many lists with nothing
pub record AreEmpty {X A : Type 0} (lists : List (Vec X A)) (n : ℕ) : Type 0 where
  pub count : length lists ≡ n
  pub none : (i : ℕ) → list_at lists i ≡ []

-- it stands behind those of its access, if that is one of them
pub record IsSiteAdded {A : Type 0} (accesses : List ObjectAccess) (x : Site) (old new : List (Vec Site A)) : Type 0 where
  pub count : length new ≡ length accesses
  pub added : (i : ℕ) → i < length accesses → (y : Site) → Contains (list_at new i) y
      ↔ (Contains (list_at old i) y ⊎ ((y ≡ x) × (sort_key (access_of x) ≡ sort_key (access_at accesses i))))
