-- How accesses are merged that stand at one place and are of one task, of one kind and under the same mutexes.
use Rattle.std.specs.Prelude.{◌≡◌, ◌↔◌, ◌⊎◌, ℕ, true, ◌||◌, bit_and, List, [], ◌∷◌, ◌++◌, Contains}
use Rattle.mutex_configs.specs.Sets.{has}
use Rattle.access_groups.specs.declared.object_access.ObjectAccess.{ObjectAccess}
use Rattle.access_races.specs.Rising.{AreRising}
use Rattle.access_groups.specs.Order.{sort_key, IsBefore}

-- both as one
abbrev pub joined : ObjectAccess → ObjectAccess → ObjectAccess
joined e f = record {
  place = e.place;
  task = e.task;
  stores = e.stores;
  held = e.held;
  free = bit_and e.free f.free;
  racing = e.racing || f.racing;
}

-- one more is joined with the last, where they are alike, or stands behind it
pub data IsAdded (old : List ObjectAccess) (e : ObjectAccess) (new : List ObjectAccess) : Type 0 where
  begins : old ≡ [] → new ≡ e ∷ [] → IsAdded old e new
  joins : (front : List ObjectAccess) (last : ObjectAccess) → old ≡ front ++ last ∷ [] → sort_key last ≡ sort_key e
      → new ≡ front ++ joined last e ∷ [] → IsAdded old e new
  follows : (front : List ObjectAccess) (last : ObjectAccess) → old ≡ front ++ last ∷ []
      → (sort_key last ≡ sort_key e → ⊥) → new ≡ (front ++ last ∷ []) ++ e ∷ [] → IsAdded old e new

-- it comes before the other, or both are alike
abbrev pub Precedes : ObjectAccess → ObjectAccess → Type 0
Precedes e f = IsBefore e f ⊎ (sort_key e ≡ sort_key f)

-- the same ones in order
pub record IsSorting (noted list : List ObjectAccess) : Type 0 where
  pub same : (e : ObjectAccess) → Contains list e ↔ Contains noted e
  pub rising : AreRising Precedes list

module _ (noted : List ObjectAccess) where
  -- one of those that are noted is alike
  pub record IsAlike (e : ObjectAccess) : Type 0 where
    pub one : ObjectAccess
    pub has_one : Contains noted one
    pub alike : sort_key one ≡ sort_key e

  pub record HasAlikeRacing (e : ObjectAccess) : Type 0 where
    pub one : ObjectAccess
    pub has_one : Contains noted one
    pub alike : sort_key one ≡ sort_key e
    pub racing : one.racing ≡ true

  abbrev pub AreAlikeFree : ObjectAccess → ℕ → Type 0
  AreAlikeFree e m = (f : ObjectAccess) → Contains noted f → sort_key f ≡ sort_key e → has f.free m ≡ true

  -- all that are alike as one
  pub record IsMerged (e : ObjectAccess) : Type 0 where
    pub alike : IsAlike e
    pub free : (m : ℕ) → (has e.free m ≡ true) ↔ AreAlikeFree e m
    pub racing : (e.racing ≡ true) ↔ HasAlikeRacing e

  -- all of them, merged and in order
  pub record AreMerged (list : List ObjectAccess) : Type 0 where
    pub rising : AreRising IsBefore list
    pub each : (e : ObjectAccess) → Contains list e → IsMerged e
    pub all : (e : ObjectAccess) → Contains noted e
        → (f : ObjectAccess) × Contains list f × (sort_key f ≡ sort_key e)

-- one of them races
pub record HasRacing (accesses : List ObjectAccess) : Type 0 where
  pub one : ObjectAccess
  pub has_one : Contains accesses one
  pub racing : one.racing ≡ true
