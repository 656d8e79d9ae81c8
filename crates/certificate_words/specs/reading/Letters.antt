-- Bytes of words.
use Rattle.std.specs.Prelude.{ℕ, ◌<◌, ◌&&◌, nat_le, Bool, false, List, [], ◌∷◌}
use Rattle.std.specs.List.{list_all}

abbrev pub is_letter : ℕ → Bool
is_letter b = nat_le 97 b && nat_le b 122

abbrev pub is_tag : List ℕ → Bool
is_tag [] = false
is_tag (b ∷ bs) = list_all is_letter (b ∷ bs)

-- all bytes lie above the space
abbrev pub AreAbove : List ℕ → Type 0
AreAbove [] = Unit {0}
AreAbove (b ∷ bs) = (32 < b) × AreAbove bs
