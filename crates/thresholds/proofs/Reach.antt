-- Every threshold is in reach of strided sets.
use Rattle.std.proofs.Common.{◌≡◌, ◌-◌, ◌^◌, ◌∙◌, ap, sym, List, [], ◌∷◌, ◌++◌, ℤ, pos, neg_ℤ, ◌≤ℤ◌, ◌<ℤ◌, All, ◌⊎◌, inl, inr, refl, ◌||◌, Bool, true, false, cond, arith}
use Rattle.std.proofs.lemmas.Int.{ints}
use Rattle.std.proofs.lemmas.List.Elements.{All-push}
use Rattle.tm_cint.specs.declared.int_types.IntType.{IntType}
use Rattle.tm_cint.specs.declared.int_types.IntType.TheVariants as Ints
use Rattle.tm_cint.specs.IntTypes.{lo_of, hi_of, is_in}
use Rattle.tm_cint.proofs.Ranges.{IsIn-from_test}
use Rattle.strided_dom.specs.Progression.{IsInReach}
use Rattle.thresholds.specs.Thresholds.{near, of_constant}

-- the ends of a type
pub lo_reach : (t : IntType) → IsInReach (lo_of t)
lo_reach Ints.Bool = record { low = omega arith; high = omega arith }
lo_reach Ints.Char = record { low = omega arith; high = omega arith }
lo_reach Ints.UChar = record { low = omega arith; high = omega arith }
lo_reach Ints.Short = record { low = omega arith; high = omega arith }
lo_reach Ints.UShort = record { low = omega arith; high = omega arith }
lo_reach Ints.Int = record { low = omega arith; high = omega arith }
lo_reach Ints.UInt = record { low = omega arith; high = omega arith }
lo_reach Ints.Long = record { low = omega arith; high = omega arith }
lo_reach Ints.ULong = record { low = omega arith; high = omega arith }
lo_reach Ints.LLong = record { low = omega arith; high = omega arith }
lo_reach Ints.ULLong = record { low = omega arith; high = omega arith }

pub hi_reach : (t : IntType) → IsInReach (hi_of t)
hi_reach Ints.Bool = record { low = omega arith; high = omega arith }
hi_reach Ints.Char = record { low = omega arith; high = omega arith }
hi_reach Ints.UChar = record { low = omega arith; high = omega arith }
hi_reach Ints.Short = record { low = omega arith; high = omega arith }
hi_reach Ints.UShort = record { low = omega arith; high = omega arith }
hi_reach Ints.Int = record { low = omega arith; high = omega arith }
hi_reach Ints.UInt = record { low = omega arith; high = omega arith }
hi_reach Ints.Long = record { low = omega arith; high = omega arith }
hi_reach Ints.ULong = record { low = omega arith; high = omega arith }
hi_reach Ints.LLong = record { low = omega arith; high = omega arith }
hi_reach Ints.ULLong = record { low = omega arith; high = omega arith }

-- what a constant gives
pub constant_gives : (c : ℤ) (b : Bool) → b ≡ (is_in Ints.LLong c || is_in Ints.ULLong c) → b ≡ true → of_constant c ≡ near c
constant_gives c b e h = ap (λ t. cond t (near c) []) (sym e ∙ h)

-- what is no constant gives nothing
pub nothing_given : (c : ℤ) (b : Bool) → b ≡ (is_in Ints.LLong c || is_in Ints.ULLong c) → b ≡ false → of_constant c ≡ []
nothing_given c b e h = ap (λ t. cond t (near c) []) (sym e ∙ h)

-- a number that the type has, by one of two types
of_two : (a b : Bool) → (a || b) ≡ true → (a ≡ true) ⊎ (b ≡ true)
of_two true b h = inl refl
of_two false b h = inr h

either : (c : ℤ) → (is_in Ints.LLong c ≡ true) ⊎ (is_in Ints.ULLong c ≡ true) → (neg_ℤ (pos (2 ^ 63)) ≤ℤ c) × (c <ℤ pos (2 ^ 64))
either c (inl h) = let r = IsIn-from_test Ints.LLong c h in
    let a : neg_ℤ (pos (2 ^ 63)) ≤ℤ c = r.at_least in
    let b : c ≤ℤ pos (2 ^ 63 - 1) = r.at_most in (a, omega (arith, ints, b))
either c (inr h) = let r = IsIn-from_test Ints.ULLong c h in
    let a : pos 0 ≤ℤ c = r.at_least in
    let b : c ≤ℤ pos (2 ^ 64 - 1) = r.at_most in (omega (arith, ints, a), omega (arith, ints, b))

pub not_less : (c : ℤ) (b : Bool) → b ≡ (is_in Ints.LLong c || is_in Ints.ULLong c) → b ≡ true → neg_ℤ (pos (2 ^ 63)) ≤ℤ c
not_less c b e h = (either c (of_two (is_in Ints.LLong c) (is_in Ints.ULLong c) (sym e ∙ h))).0

pub not_more : (c : ℤ) (b : Bool) → b ≡ (is_in Ints.LLong c || is_in Ints.ULLong c) → b ≡ true → c <ℤ pos (2 ^ 64)
not_more c b e h = (either c (of_two (is_in Ints.LLong c) (is_in Ints.ULLong c) (sym e ∙ h))).1

-- one more number in reach
pub one_more : (xs : List ℤ) (x : ℤ) → All IsInReach xs → IsInReach x → All IsInReach (xs ++ x ∷ [])
one_more xs x h r = All-push IsInReach xs x h r
