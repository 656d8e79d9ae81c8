-- Powers of two.
use Rattle.std.specs.Prelude.{ℕ, ◌^◌, ℤ, pos}

-- 2^n
abbrev pub power : ℕ → ℤ
power n = pos (2 ^ n)
