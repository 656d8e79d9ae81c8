-- The heads of places, by their indices.
use Rattle.std.specs.Prelude.{◌≡◌, ℕ, suc, ◌==◌, cond, List, [], ◌∷◌, length, get_or, Option, Some, None}
use Rattle.graph_facts.specs.declared.regions.Head.{Head}

-- the index of the head at a place, where the first has this index
abbrev pub index_from : ℕ → List Head → ℕ → Option ℕ
index_from k [] place = None
index_from k (h ∷ hs) place = cond (h.node == place) (Some k) (index_from (suc k) hs place)

-- what a list of indices has for a place
abbrev pub index_at : List (Option ℕ) → ℕ → Option ℕ
index_at indices place = get_or indices place None

-- for each place the index of its head, which has a list of cells
pub record AreIndices (heads : List Head) (written : List (List ℕ)) (indices : List (Option ℕ)) : Type 0 where
  pub count : length written ≡ length heads
  pub each : (place : ℕ) → index_at indices place ≡ index_from 0 heads place
