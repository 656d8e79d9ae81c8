-- `&`, `|` and `^` of integers of any size, in two's complement: -(n + 1) has the bits of n turned over, without end.
use Rattle.std.specs.Prelude.{ℕ, zero, suc, ◌-◌, ◌/◌, ◌==◌, if◌then◌else◌, ℤ, pos, negsuc, bit_and, bit_or, bit_xor}
use Rattle.std.specs.Int.{bit_at}

-- the bit of place i, 0 or 1
abbrev pub bit_of : ℤ → ℕ → ℕ
bit_of (pos n) i = bit_at n i
bit_of (negsuc n) i = 1 - bit_at n i

-- the bits of m that n has not
abbrev pub bits_without : ℕ → ℕ → ℕ
bits_without m n = m - bit_and m n

-- C99 6.5.10
abbrev pub int_and : ℤ → ℤ → ℤ
int_and (pos m) (pos n) = pos (bit_and m n)
int_and (pos m) (negsuc n) = pos (bits_without m n)
int_and (negsuc m) (pos n) = pos (bits_without n m)
int_and (negsuc m) (negsuc n) = negsuc (bit_or m n)

-- C99 6.5.12
abbrev pub int_or : ℤ → ℤ → ℤ
int_or (pos m) (pos n) = pos (bit_or m n)
int_or (pos m) (negsuc n) = negsuc (bits_without n m)
int_or (negsuc m) (pos n) = negsuc (bits_without m n)
int_or (negsuc m) (negsuc n) = negsuc (bit_and m n)

-- C99 6.5.11
abbrev pub int_xor : ℤ → ℤ → ℤ
int_xor (pos m) (pos n) = pos (bit_xor m n)
int_xor (pos m) (negsuc n) = negsuc (bit_xor m n)
int_xor (negsuc m) (pos n) = negsuc (bit_xor m n)
int_xor (negsuc m) (negsuc n) = pos (bit_xor m n)

-- how many binary digits n has, at most as many as the first number says
abbrev pub digits_within : ℕ → ℕ → ℕ
digits_within zero n = 0
digits_within (suc most) n = if n == 0 then 0 else suc (digits_within most (n / 2))

-- how many binary digits n has: the least k with n below 2^k
unfoldable pub bit_length : ℕ → ℕ
bit_length n = digits_within n n
