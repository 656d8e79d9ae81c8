-- Bytes that are cut, one byte after the other.
use Rattle.std.proofs.Common.{◌≡◌, ℕ, ◌+◌, ◌&&◌, refl, ap, sym, subst, ◌∙◌, Bool, true, false, List, [], ◌∷◌, ◌++◌, take, drop, Some, None, Option}
use Rattle.std.proofs.lemmas.List.{append_assoc}
use Rattle.std.specs.Prelude.{option_map, if◌then◌else◌}
use Rattle.std.specs.List.{after_first}
use Rattle.replay_lines.specs.Cuts.{is_newline, begins_mark, Cut, onto, cut_from}
use Rattle.replay_lines.specs.reading.Cuts.{in_front}

joined : (front : List ℕ) (b : ℕ) (c : Option Cut) → option_map (in_front (front ++ b ∷ [])) c ≡ option_map (in_front front) (option_map (onto b) c)
joined front b None = refl
joined front b (Some c) = ap (λ (s : List ℕ). Some (record { source = s; choices = c.choices })) (append_assoc front (b ∷ []) c.source)

passed : (fresh : Bool) (b : ℕ) (bs : List ℕ) (t : Bool) → (fresh && begins_mark (b ∷ bs)) ≡ t → t ≡ false → cut_from fresh (b ∷ bs) ≡ option_map (onto b) (cut_from (is_newline b) bs)
passed fresh b bs true e f = absurd cc
passed fresh b bs false e f = rw e refl

-- no line that is the mark begins at this byte
pub cut_more : (front more rest rest' : List ℕ) (b : ℕ) (fresh : Bool) → rest ≡ b ∷ rest' → more ≡ front ++ b ∷ [] → (fresh && begins_mark rest) ≡ false
    → option_map (in_front more) (cut_from (is_newline b) rest') ≡ option_map (in_front front) (cut_from fresh rest)
cut_more front more rest rest' b fresh e k h =
    ap (λ (z : List ℕ). option_map (in_front z) (cut_from (is_newline b) rest')) k
    ∙ joined front b (cut_from (is_newline b) rest')
    ∙ ap (option_map (in_front front)) (sym (passed fresh b rest' (fresh && begins_mark (b ∷ rest')) refl (ap (λ (z : List ℕ). fresh && begins_mark z) (sym e) ∙ h)))
    ∙ ap (λ (z : List ℕ). option_map (in_front front) (cut_from fresh z)) (sym e)
