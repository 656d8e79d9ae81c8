-- The cells that a body sees, as lists by rising numbers.
use Rattle.std.specs.Prelude.{◌≡◌, ◌↔◌, ℕ, ◌+◌, ◌<◌, ◌≤◌, true, false, List, [], ◌∷◌, length, get_or}
use Rattle.tm_laid.specs.Layouts.{LaidTree, abstract_at}
use Rattle.interfere_set.specs.laws.Joins.{IsOf}
use Rattle.edge_actions.specs.Layouts.{is_shared_cell}
use Rattle.temporary_extents.specs.Extents.{extent_at, scalar_extent}
use Rattle.post_recheck.specs.state_fits.Fits.{IsSeenCell, file_set}
use Rattle.certificate_reading.specs.declared.shapes.Shape.{Shape}

-- the numbers rise, from the bound on
abbrev pub RiseFrom : ℕ → List ℕ → Type 0
RiseFrom bound [] = Unit {0}
RiseFrom bound (k ∷ ks) = (bound ≤ k) × RiseFrom (k + 1) ks

-- the list has exactly the numbers of this property, by rising numbers
pub record AreNumbersOf (P : ℕ → Type 0) (ks : List ℕ) : Type 0 where
  pub rising : RiseFrom 0 ks
  pub are : (k : ℕ) → IsOf ks k → P k
  pub all : (k : ℕ) → P k → IsOf ks k

-- the cell is seen and shared; or seen and local
abbrev pub IsSeenShared : LaidTree → ℕ → ℕ → Type 0
IsSeenShared laid task x = IsSeenCell laid task x × (is_shared_cell laid x ≡ true)

abbrev pub IsSeenLocal : LaidTree → ℕ → ℕ → Type 0
IsSeenLocal laid task x = IsSeenCell laid task x × (is_shared_cell laid x ≡ false)

-- What a reader of states asks of a body again and again: the cells that it sees, those of them that are shared, and the
-- others; what each abstract cell may hold, by its number; which cells it sees, as marks; and the set of all mutexes.
pub record IsShape (laid : LaidTree) (task : ℕ) (shape : Shape) : Type 0 where
  pub seen : AreNumbersOf (IsSeenCell laid task) shape.seen.items
  pub shared : AreNumbersOf (IsSeenShared laid task) shape.shared.items
  pub local : AreNumbersOf (IsSeenLocal laid task) shape.local.items
  pub kinds : (x : ℕ) → IsSeenCell laid task x
      → (let a = abstract_at laid x in extent_at shape.kinds.items x ≡ scalar_extent a.scalar)
  pub marked : (x : ℕ) → get_or shape.marks.items x false ≡ true → IsSeenCell laid task x
  pub marks : (x : ℕ) → IsSeenCell laid task x → get_or shape.marks.items x false ≡ true
  pub mask : shape.mask ≡ file_set laid

-- ## Of the cells before one

-- the list has exactly the numbers of this property that are below a bound, by rising numbers
pub record AreNumbersBelow (P : ℕ → Type 0) (n : ℕ) (ks : List ℕ) : Type 0 where
  pub rising : RiseFrom 0 ks
  pub below : (k : ℕ) → IsOf ks k → k < n
  pub are : (k : ℕ) → IsOf ks k → P k
  pub all : (k : ℕ) → k < n → P k → IsOf ks k

-- the shape is made of the cells before one
pub record IsShapeBefore (laid : LaidTree) (task n : ℕ) (shape : Shape) : Type 0 where
  pub seen : AreNumbersBelow (IsSeenCell laid task) n shape.seen.items
  pub shared : AreNumbersBelow (IsSeenShared laid task) n shape.shared.items
  pub local : AreNumbersBelow (IsSeenLocal laid task) n shape.local.items
  pub extents : length shape.kinds.items ≡ n
  pub kinds : (x : ℕ) → x < n → (let a = abstract_at laid x in extent_at shape.kinds.items x ≡ scalar_extent a.scalar)
  pub all : length shape.marks.items ≡ n
  pub marks : (x : ℕ) → x < n → (get_or shape.marks.items x false ≡ true) ↔ IsSeenCell laid task x
  pub mask : shape.mask ≡ file_set laid
