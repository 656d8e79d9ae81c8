-- Sets of numbers as bits, ordered by inclusion, and marks that fall.
use Rattle.std.specs.Prelude.{◌≡◌, ℕ, ◌≤◌, Bool, true, false, ◌&&◌, IsTrue, bit_or, refl}
use Rattle.std.proofs.Common.{sym, ap, subst, ◌∙◌, arith}
use Rattle.std.proofs.lemmas.Nat.Bits.{bit_at_or, same_from_bits}
use Rattle.std.proofs.lemmas.Nat.{le_or_l, or_comm}
use Rattle.std.specs.Int.Bits.{or_self}
use Rattle.cell_env.specs.Cells.{IsWithin, gone}

pub or_assoc : (a b c : ℕ) → bit_or (bit_or a b) c ≡ bit_or a (bit_or b c)
or_assoc a b c = same_from_bits _ _ (λ i. omega (
  arith,
  bit_at_or (bit_or a b) c i,
  bit_at_or a b i,
  bit_at_or a (bit_or b c) i,
  bit_at_or b c i,
))

pub within_left : (a b : ℕ) → IsWithin a (bit_or a b)
within_left a b = sym (or_assoc a a b) ∙ ap (λ x. bit_or x b) (or_self a)

pub within_right : (a b : ℕ) → IsWithin b (bit_or a b)
within_right a b = subst (λ x. IsWithin b x) (or_comm b a) (within_left b a)

pub within_trans : (a b c : ℕ) → IsWithin a b → IsWithin b c → IsWithin a c
within_trans a b c p q = ap (bit_or a) (sym q) ∙ sym (or_assoc a b c) ∙ ap (λ x. bit_or x c) p ∙ q

pub within_least : (a b c : ℕ) → IsWithin a c → IsWithin b c → IsWithin (bit_or a b) c
within_least a b c p q = or_assoc a b c ∙ ap (bit_or a) q ∙ p

pub within_le : (a b : ℕ) → IsWithin a b → a ≤ b
within_le a b p = subst (λ x. a ≤ x) p (le_or_l a b)

pub both_left : (a b : Bool) → IsTrue (a && b) → IsTrue a
both_left true b p = refl
both_left false b p = p

pub both_right : (a b : Bool) → IsTrue (a && b) → IsTrue b
both_right true b p = p
both_right false b p = cc

pub both : (a b : Bool) → IsTrue a → IsTrue b → IsTrue (a && b)
both true b p q = q
both false b p q = p

pub same : (a b : Bool) → (IsTrue a → IsTrue b) → (IsTrue b → IsTrue a) → a ≡ b
same true b p q = sym (p refl)
same false true p q = q refl
same false false p q = refl

pub gone_falls : (a b : Bool) → (IsTrue b → IsTrue a) → gone a ≤ gone b
gone_falls true b p = omega arith
gone_falls false true p = absurd (let h : IsTrue false = p refl in cc)
gone_falls false false p = omega arith

pub gone_same : (a b : Bool) → (IsTrue b → IsTrue a) → gone b ≤ gone a → a ≡ b
gone_same true true p le = refl
gone_same true false p le = absurd (omega arith)
gone_same false true p le = absurd (let h : IsTrue false = p refl in cc)
gone_same false false p le = refl
