-- How long the text of a certificate may be.
use Rattle.std.specs.Prelude.{ℕ}

-- 64 MiB
abbrev pub certificate_limit : ℕ
certificate_limit = 67108864
