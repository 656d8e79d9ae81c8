-- The list of entries that a keyed table keeps, for its invariant and for the private searches in it. No public
-- contract cites this.
use Rattle.std.specs.Prelude.{◌≡◌, ℕ, ◌<◌, ◌≤◌, List, [], ◌∷◌, ◌++◌, length, slice_index_or, Option, Some, None, Result, Ok, T}
use Rattle.std.specs.Ordering.{nat_cmp}
use Rattle.std.specs.declared.cmp.Ordering.{Ordering}
use Rattle.std.specs.declared.cmp.Ordering.TheVariants.{Less, Greater}
use Rattle.std.specs.FinMap.{find, is_sorted}
use Rattle.tm_lattice.specs.Tables.{IsEntry}

module _ {V : Type 0} where
  -- the key of the entry at a place
  abbrev pub key_at : List (ℕ × V) → ℕ → ℕ × V → ℕ
  key_at es i d = let e = slice_index_or es i d in e.0

  -- the entries of a table, in the order of their keys
  pub record IsListed (is_value nothing : V → Type 0) (es : List (ℕ × V)) : Type 0 where
    pub sorted : T (is_sorted nat_cmp es)
    pub values : (key : ℕ) → IsEntry is_value nothing (find nat_cmp key es)

  -- the entry at this place has the key
  pub record IsAt (es : List (ℕ × V)) (key at : ℕ) : Type 0 where
    pub in_range : at < length es
    pub has_key : (d : ℕ × V) → key_at es at d ≡ key

  -- the key would go at this place: smaller keys before it, and greater keys from it on
  pub record IsGapFor (es : List (ℕ × V)) (key at : ℕ) : Type 0 where
    pub in_range : at ≤ length es
    pub smaller_before : (i : ℕ) (d : ℕ × V) → i < at → key_at es i d < key
    pub greater_after : (i : ℕ) (d : ℕ × V) → at ≤ i → i < length es → key < key_at es i d

  -- the place of the first entry whose key is at least this one: smaller keys before it, and no smaller ones from it on
  pub record IsFirstFrom (es : List (ℕ × V)) (key at : ℕ) : Type 0 where
    pub smaller_before : (i : ℕ) (d : ℕ × V) → i < at → key_at es i d < key
    pub at_least_after : (i : ℕ) (d : ℕ × V) → at ≤ i → i < length es → key ≤ key_at es i d

  -- how the first keys of two lists stand to each other, an absent one being the greatest
  abbrev pub order_of_first : List (ℕ × V) → List (ℕ × V) → Option Ordering
  order_of_first [] [] = None
  order_of_first (a ∷ one) [] = Some Less
  order_of_first [] (b ∷ other) = Some Greater
  order_of_first (a ∷ one) (b ∷ other) = Some (nat_cmp a.0 b.0)

  -- an entry with this key is added, whose value has come
  pub record IsPushed {E : Type 0} (es : List (ℕ × V)) (key : ℕ) (value : Result V E) (es' : List (ℕ × V)) : Type 0 where
    pub entry : V
    pub came : value ≡ Ok entry
    pub added : es' ≡ es ++ (key, entry) ∷ []
