-- Lists as the items of vectors.
use Rattle.std.specs.Prelude.{◌≡◌, ◌<◌, ◌≤◌, ◌^◌, List, length, Vec}
use Rattle.std.proofs.Common.{refl, arith, Global}
use denote.RawPtr.{null_ptr}

some_heap : Global
some_heap = record { memory = record { seal = tt } }

pub vector : {X : Type 0} (xs : List X) → length xs < 2 ^ 63 → Vec X Global
vector xs few = record {
  ptr = null_ptr;
  len = length xs;
  cap = length xs;
  alloc = some_heap;
  items = xs;
  ok = (refl, (let z : length xs ≤ length xs = omega arith in z));
  small = few;
}

pub has_items : {X : Type 0} (xs : List X) (few : length xs < 2 ^ 63) → (let v = vector xs few in v.items) ≡ xs
unfolding vector
has_items xs few = refl
