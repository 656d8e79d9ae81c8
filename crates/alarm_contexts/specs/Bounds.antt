-- Least upper bounds of sets of values.
use Rattle.interfere_set.specs.pointer_dom.Values.{Values, IsValues, IsValuesBelow}

-- Each of the values with the property P lies in the set, which lies in every other set in which they do: of numbers
-- the least hull in steps, of pointers that of the offsets in each object. So 2 and 6 have {2, 6}; with 12 the set is
-- {2, 4, 6, 8, 10, 12}.
pub record IsLeastAbove (P : Values → Type 0) (v : Values) : Type 0 where
  pub form : IsValues v
  pub above : (w : Values) → P w → IsValuesBelow w v
  pub least : (u : Values) → IsValues u → ((w : Values) → P w → IsValuesBelow w u) → IsValuesBelow v u
