-- Upper bounds of lists.
use Rattle.std.specs.Prelude.{◌≡◌, List, [], ◌∷◌}

module _ {V : Type 0} (is_value : V → Type 0) (leq : V → V → Type 0) where
  -- each is a value of the type
  abbrev pub AreValues : List V → Type 0
  AreValues [] = Unit {0}
  AreValues (x ∷ xs) = is_value x × AreValues xs

  -- each is at most this value
  abbrev pub AreBelow : List V → V → Type 0
  AreBelow [] z = Unit {0}
  AreBelow (x ∷ xs) z = leq x z × AreBelow xs z

  -- the least value that each is at most
  pub record IsLeastAbove (xs : List V) (top : V) : Type 0 where
    pub value : is_value top
    pub above : AreBelow xs top
    pub least : (z : V) → is_value z → AreBelow xs z → leq top z

  -- the one list has the upper bounds that the other has
  pub record HaveSameBounds (xs ys : List V) : Type 0 where
    pub values : AreValues ys
    pub forth : (z : V) → is_value z → AreBelow xs z → AreBelow ys z
    pub back : (z : V) → is_value z → AreBelow ys z → AreBelow xs z

  -- with nothing, the list adds up to the value: they have the same upper bounds
  pub record AddTo (nothing total : V) (xs : List V) : Type 0 where
    pub is : is_value total
    pub values : AreValues xs
    pub above : AreBelow (nothing ∷ xs) total
    pub least : (z : V) → is_value z → AreBelow (nothing ∷ xs) z → leq total z
