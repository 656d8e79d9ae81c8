-- The rows hold every result, and grow with their operands.
use Rattle.std.proofs.Common.{◌≡◌, ℤ, pos, ◌+ℤ◌, ◌-ℤ◌, ◌*ℤ◌, arith, sym}
use Rattle.std.specs.Prelude.{int_div, int_rem}
use Rattle.std.proofs.lemmas.Int.{ints, quot-rem}
use Rattle.std.proofs.Math.IntN.{*ℤ_comm}
use Rattle.congruence_dom.specs.declared.classes.Cong.{Cong}
use Rattle.congruence_dom.specs.Class.{InClass, IsSubclass}
use Rattle.tm_numbers.specs.Divisors.{Divides, int_gcd}
use Rattle.congruence_dom.specs.Laws.{Grows, Holds, IsSubclassByDivision}
use Rattle.tm_numbers.specs.Operands.{AnyNumbers, NotByZero}
use Rattle.congruence_dom.specs.Rows.{add_row, sub_row, mul_row, rem_row}
use Rattle.tm_numbers.proofs.Divisibility.{divides_same, divides_zero, divides_self, divides_add, divides_sub, divides_times, divides_trans, divides_product, divides_scaled}
use Rattle.tm_numbers.proofs.Gcds.{is_greatest}
use Rattle.tm_numbers.proofs.Integers.{product_difference, mul_sub}

-- ---- inclusion by division

from_residue : (a : Cong) → InClass a a.residue
from_residue a = divides_same a.modulus (same a.residue) (divides_zero a.modulus)
  where
    same : (r : ℤ) → pos 0 ≡ r -ℤ r
    same r = omega (arith, ints)

from_next : (a : Cong) → InClass a (a.residue +ℤ a.modulus)
from_next a = divides_same a.modulus (next a.residue a.modulus) (divides_self a.modulus)
  where
    next : (r m : ℤ) → m ≡ (r +ℤ m) -ℤ r
    next r m = omega (arith, ints)

-- two numbers of one class differ by a multiple of its modulus
pub same_class : (c : Cong) (x y : ℤ) → InClass c x → InClass c y → Divides c.modulus (x -ℤ y)
same_class c x y h k = divides_same c.modulus (apart x y c.residue) (divides_sub c.modulus _ _ h k)
  where
    apart : (x y r : ℤ) → (x -ℤ r) -ℤ (y -ℤ r) ≡ x -ℤ y
    apart x y r = omega (arith, ints)

pub within_modulus : (a b : Cong) → IsSubclass a b → Divides b.modulus a.modulus
within_modulus a b w = divides_same b.modulus (next a.residue a.modulus) (same_class b _ _ (w _ (from_next a)) (w _ (from_residue a)))
  where
    next : (r m : ℤ) → (r +ℤ m) -ℤ r ≡ m
    next r m = omega (arith, ints)

pub within_residue : (a b : Cong) → IsSubclass a b → InClass b a.residue
within_residue a b w = w _ (from_residue a)

pub within : (a b : Cong) → Divides b.modulus a.modulus → InClass b a.residue → IsSubclass a b
within a b h k x i = divides_same b.modulus (joined x a.residue b.residue) (divides_add b.modulus _ _ (divides_trans b.modulus a.modulus _ h i) k)
  where
    joined : (x r s : ℤ) → (x -ℤ r) +ℤ (r -ℤ s) ≡ x -ℤ s
    joined x r s = omega (arith, ints)

pub is_by_division : IsSubclassByDivision
is_by_division a b = (λ w. (within_modulus a b w, within_residue a b w), λ h. within a b h.0 h.1)

-- ---- sums and differences

left : (a b : ℤ) → Divides (int_gcd a b) a
left a b = is_greatest.left a b

right : (a b : ℤ) → Divides (int_gcd a b) b
right a b = is_greatest.right a b

gcd_grows : (a b c d : ℤ) → Divides c a → Divides d b → Divides (int_gcd c d) (int_gcd a b)
gcd_grows a b c d h k = is_greatest.greatest _ a b (divides_trans _ c a (left c d) h) (divides_trans _ d b (right c d) k)

pub add_holds : Holds AnyNumbers add_row ◌+ℤ◌
add_holds a b x y takes h k = divides_same _ (paired x y a.residue b.residue)
    (divides_add _ _ _ (divides_trans _ a.modulus _ (left a.modulus b.modulus) h) (divides_trans _ b.modulus _ (right a.modulus b.modulus) k))
  where
    paired : (x y r s : ℤ) → (x -ℤ r) +ℤ (y -ℤ s) ≡ (x +ℤ y) -ℤ (r +ℤ s)
    paired x y r s = omega (arith, ints)

pub add_grows : Grows add_row
add_grows a b c d h k = within _ _
    (gcd_grows _ _ _ _ (within_modulus a c h) (within_modulus b d k))
    (add_holds c d _ _ tt (within_residue a c h) (within_residue b d k))

pub sub_holds : Holds AnyNumbers sub_row ◌-ℤ◌
sub_holds a b x y takes h k = divides_same _ (paired x y a.residue b.residue)
    (divides_sub _ _ _ (divides_trans _ a.modulus _ (left a.modulus b.modulus) h) (divides_trans _ b.modulus _ (right a.modulus b.modulus) k))
  where
    paired : (x y r s : ℤ) → (x -ℤ r) -ℤ (y -ℤ s) ≡ (x -ℤ y) -ℤ (r -ℤ s)
    paired x y r s = omega (arith, ints)

pub sub_grows : Grows sub_row
sub_grows a b c d h k = within _ _
    (gcd_grows _ _ _ _ (within_modulus a c h) (within_modulus b d k))
    (sub_holds c d _ _ tt (within_residue a c h) (within_residue b d k))

-- ---- products

first : (p q r : ℤ) → Divides (int_gcd (int_gcd p q) r) p
first p q r = divides_trans _ (int_gcd p q) p (left (int_gcd p q) r) (left p q)

second : (p q r : ℤ) → Divides (int_gcd (int_gcd p q) r) q
second p q r = divides_trans _ (int_gcd p q) q (left (int_gcd p q) r) (right p q)

third : (p q r : ℤ) → Divides (int_gcd (int_gcd p q) r) r
third p q r = right (int_gcd p q) r

all_three : (g p q r : ℤ) → Divides g p → Divides g q → Divides g r → Divides g (int_gcd (int_gcd p q) r)
all_three g p q r h k j = is_greatest.greatest g _ r (is_greatest.greatest g p q h k) j

pub mul_holds : Holds AnyNumbers mul_row ◌*ℤ◌
mul_holds a b x y takes h k =
    let g = (mul_row a b).modulus in
    let m = a.modulus in
    let n = b.modulus in
    let r = a.residue in
    let s = b.residue in
    divides_same _ (sym (product_difference x y r s))
    (divides_add g _ _
    (divides_add g _ _
    (divides_trans g (m *ℤ n) _ (first (m *ℤ n) (m *ℤ s) (n *ℤ r)) (divides_product m n _ _ h k))
    (divides_trans g (m *ℤ s) _ (second (m *ℤ n) (m *ℤ s) (n *ℤ r)) (divides_scaled m _ s h)))
    (divides_trans g (n *ℤ r) _ (third (m *ℤ n) (m *ℤ s) (n *ℤ r)) (divides_scaled n _ r k)))

-- a multiple of c's modulus times a number of d: by the row's modulus, for c's modulus times both of d's
mixed : (g m n s z y : ℤ) → Divides g (m *ℤ n) → Divides g (m *ℤ s) → Divides m z → Divides n (y -ℤ s) → Divides g (z *ℤ y)
mixed g m n s z y p q h k = divides_same g (split z y s)
    (divides_add g _ _ (divides_trans g (m *ℤ n) _ p (divides_product m n z (y -ℤ s) h k)) (divides_trans g (m *ℤ s) _ q (divides_scaled m z s h)))
  where
    linear : (zy zs t : ℤ) → t ≡ zy -ℤ zs → t +ℤ zs ≡ zy
    linear zy zs t e = omega (arith, ints)

    split : (z y s : ℤ) → z *ℤ (y -ℤ s) +ℤ z *ℤ s ≡ z *ℤ y
    split z y s = linear (z *ℤ y) (z *ℤ s) (z *ℤ (y -ℤ s)) (mul_sub z y s)

pub mul_grows : Grows mul_row
mul_grows a b c d h k =
    let g = (mul_row c d).modulus in
    let m = c.modulus in
    let n = d.modulus in
    let r = c.residue in
    let s = d.residue in
    let one = first (m *ℤ n) (m *ℤ s) (n *ℤ r) in
    let two = second (m *ℤ n) (m *ℤ s) (n *ℤ r) in
    let three = third (m *ℤ n) (m *ℤ s) (n *ℤ r) in
    within _ _
    (all_three g _ _ _
    (divides_trans g (m *ℤ n) _ one (divides_product m n _ _ (within_modulus a c h) (within_modulus b d k)))
    (mixed g m n s _ _ one two (within_modulus a c h) (within_residue b d k))
    (mixed g n m r _ _ (divides_same g (*ℤ_comm m n) one) three (within_modulus b d k) (within_residue a c h)))
    (mul_holds c d _ _ tt (within_residue a c h) (within_residue b d k))

-- ---- remainders

pub rem_holds : Holds NotByZero rem_row int_rem
rem_holds a b x y takes h k =
    let g = (rem_row a b).modulus in
    let divisor : Divides g y = divides_same g (whole y b.residue)
    (divides_add g _ _ (divides_trans g b.modulus _ (second a.modulus b.modulus b.residue) k) (third a.modulus b.modulus b.residue)) in
    divides_same g (remainder x (int_rem x y) (int_div x y *ℤ y) a.residue (quot-rem x y))
    (divides_sub g _ _ (divides_trans g a.modulus _ (first a.modulus b.modulus b.residue) h)
    (divides_same g (*ℤ_comm y (int_div x y)) (divides_times g y (int_div x y) divisor)))
  where
    whole : (y s : ℤ) → (y -ℤ s) +ℤ s ≡ y
    whole y s = omega (arith, ints)

    remainder : (x t p r : ℤ) → p +ℤ t ≡ x → (x -ℤ r) -ℤ p ≡ t -ℤ r
    remainder x t p r e = omega (arith, ints)

pub rem_grows : Grows rem_row
rem_grows a b c d h k =
    let g = (rem_row c d).modulus in
    let one = first c.modulus d.modulus d.residue in
    let two = second c.modulus d.modulus d.residue in
    let three = third c.modulus d.modulus d.residue in
    within _ _
    (all_three g _ _ _
    (divides_trans g c.modulus _ one (within_modulus a c h))
    (divides_trans g d.modulus _ two (within_modulus b d k))
    (divides_same g (whole b.residue d.residue) (divides_add g _ _ (divides_trans g d.modulus _ two (within_residue b d k)) three)))
    (divides_trans g c.modulus _ one (within_residue a c h))
  where
    whole : (y s : ℤ) → (y -ℤ s) +ℤ s ≡ y
    whole y s = omega (arith, ints)
