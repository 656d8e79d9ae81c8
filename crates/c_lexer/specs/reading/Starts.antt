-- What a map from texts to bytes says: the table of where each text stood first as a name.
use Rattle.std.specs.Prelude.{◌≡◌, ℕ, List}
use Rattle.std.specs.Borrow.{Bor}
use Rattle.std.specs.BTreeMap.{BTreeMap, get_by}
use Rattle.std.specs.Cmp.Lexicographic.{slice_cmp}
use Rattle.std.specs.Ordering.{nat_cmp}
use Rattle.tm_terms.specs.Spelling.{start_of}

-- the map has for each text what the table has
pub record HasStarts (map : BTreeMap (Bor (List ℕ)) ℕ) (table : List (List ℕ × ℕ)) : Type 0 where
  pub same : (text : List ℕ) → get_by (λ k. slice_cmp nat_cmp text k.now) map ≡ start_of table text
