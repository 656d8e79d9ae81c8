use Rattle.std.proofs.Common.{◌≡◌, ℕ, ◌<◌, ◌≤◌, true, ℤ, pos, negsuc, ◌+ℤ◌, ◌-ℤ◌, ◌*ℤ◌, to_z, of_z, sym, ap, ◌∙◌}
use Rattle.std.proofs.Common.{arith}
use Rattle.std.proofs.lemmas.Int.{ints, to_z-of_z, fits_signed_from_abs, unsigned_abs-mul}
use Rattle.std.proofs.Math.Nat.{mul-le-mul}
use Rattle.std.specs.Int.{w128}
use Rattle.std.specs.Int.RustNames.{FitsSigned, unsigned_abs}
use Rattle.tm_typed.specs.StaticValues.{is_near, offset}
use Rattle.c_initialisers.proofs.addresses.offset.Goals as goal

near : (z : ℤ) → is_near z ≡ true → unsigned_abs z ≤ 65537
near (pos n) h = grind (arith, ints)
near (negsuc n) h = grind (arith, ints)

abbrev coded : ℤ → ℤ
coded z = to_z w128 (of_z w128 z)

module _ (z : ℤ) (fits : FitsSigned w128 z) (is : is_near z ≡ true) (n : ℕ) (few : n < 4294967296) where
  low : unsigned_abs (pos n *ℤ z) ≤ 281487861612544
  low =
      let most : n ≤ 4294967296 = omega arith in
      omega (arith, unsigned_abs-mul (pos n) z, mul-le-mul most (near z is))

  coded_by : (x : ℤ) → x ≡ pos n → coded (coded x *ℤ coded z) ≡ pos n *ℤ z
  coded_by x e =
      ap (λ (y : ℤ). coded (coded y *ℤ coded z)) e
      ∙ ap (λ (y : ℤ). coded (y *ℤ coded z)) (to_z-of_z w128 (pos n) (fits_signed_from_abs w128 (pos n) (omega arith)))
      ∙ ap (λ (y : ℤ). coded (pos n *ℤ y)) (to_z-of_z w128 z fits)
      ∙ to_z-of_z w128 (pos n *ℤ z) (fits_signed_from_abs w128 (pos n *ℤ z) (omega (arith, low)))

coded_cell : (x : ℤ) (c : ℕ) → x ≡ pos c → c < 4294967296 → coded x ≡ pos c
coded_cell x c e h = ap coded e ∙ to_z-of_z w128 (pos c) (fits_signed_from_abs w128 (pos c) (omega arith))

less_fits : (c : ℕ) (y : ℤ) → c < 4294967296 → unsigned_abs y ≤ 281487861612544 → FitsSigned w128 (pos c -ℤ y)
less_fits c y h k = omega (arith, ints)

more_fits : (c : ℕ) (y : ℤ) → c < 4294967296 → unsigned_abs y ≤ 281487861612544 → FitsSigned w128 (pos c +ℤ y)
more_fits c y h k = omega (arith, ints)

pub returns-then-minus : goal.returns-then-minus
returns-then-minus c =
    let a = c.args in
    let cells = c.ranges.cells.fits in
    let cell = c.ranges.cell.fits in
    let by = coded_by a.index c.ranges.index c.requires a.cells cells c.from.result c.from.ensures in
    let fits = less_fits a.cell (pos a.cells *ℤ a.index) cell (low a.index c.ranges.index c.requires a.cells cells) in
    ap (λ (y : ℤ). coded (coded c.from-then-minus.result -ℤ y)) by
    ∙ ap (λ (y : ℤ). coded (y -ℤ (pos a.cells *ℤ a.index))) (coded_cell _ a.cell c.from-then-minus.ensures cell)
    ∙ to_z-of_z w128 (pos a.cell -ℤ (pos a.cells *ℤ a.index)) fits
    ∙ sym (ap (λ m. offset m a.cell a.cells a.index) c.if-minus.true)

pub returns-else-minus : goal.returns-else-minus
returns-else-minus c =
    let a = c.args in
    let cells = c.ranges.cells.fits in
    let cell = c.ranges.cell.fits in
    let by = coded_by a.index c.ranges.index c.requires a.cells cells c.from.result c.from.ensures in
    let fits = more_fits a.cell (pos a.cells *ℤ a.index) cell (low a.index c.ranges.index c.requires a.cells cells) in
    ap (λ (y : ℤ). coded (coded c.from-else-minus.result +ℤ y)) by
    ∙ ap (λ (y : ℤ). coded (y +ℤ (pos a.cells *ℤ a.index))) (coded_cell _ a.cell c.from-else-minus.ensures cell)
    ∙ to_z-of_z w128 (pos a.cell +ℤ (pos a.cells *ℤ a.index)) fits
    ∙ sym (ap (λ m. offset m a.cell a.cells a.index) c.if-minus.false)
