-- Escaped texts are plain.
use Rattle.std.proofs.Common.{◌≡◌, ◌∙◌, ℕ, ◌==◌, Bool, true, false, cond, List, [], ◌∷◌, ◌++◌, refl}
use Rattle.std.specs.Prelude.{codes}
use Rattle.page_pieces.specs.Laws.{is_plain}
use Rattle.page_pieces.specs.Pieces.{escaped}

one : (b : ℕ) (rest : List ℕ) (amp lt gt quot apos : Bool) → (b == 38) ≡ amp → (b == 60) ≡ lt → (b == 62) ≡ gt
    → (b == 34) ≡ quot → (b == 39) ≡ apos
    → is_plain (cond amp (codes "&amp;") (cond lt (codes "&lt;") (cond gt (codes "&gt;") (cond quot (codes "&quot;")
    (cond apos (codes "&#39;") (b ∷ []))))) ++ rest) ≡ is_plain rest
one b rest true lt gt quot apos is_amp is_lt is_gt is_quot is_apos = refl
one b rest false true gt quot apos is_amp is_lt is_gt is_quot is_apos = refl
one b rest false false true quot apos is_amp is_lt is_gt is_quot is_apos = refl
one b rest false false false true apos is_amp is_lt is_gt is_quot is_apos = refl
one b rest false false false false true is_amp is_lt is_gt is_quot is_apos = refl
one b rest false false false false false is_amp is_lt is_gt is_quot is_apos =
    rw (is_amp, is_lt, is_gt, is_quot, is_apos) refl

pub is_escaped_plain : (text : List ℕ) → is_plain (escaped text) ≡ true
is_escaped_plain [] = refl
is_escaped_plain (b ∷ text) =
    one b (escaped text) (b == 38) (b == 60) (b == 62) (b == 34) (b == 39) refl refl refl refl refl
    ∙ is_escaped_plain text
