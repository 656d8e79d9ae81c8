-- The words of values, part by part.
use Rattle.std.proofs.Common.{◌≡◌, refl, ap, subst, ◌∙◌, ℕ, ◌<◌, Bool, true, false, cond, List, [], ◌∷◌}
use Rattle.std.proofs.Common.{length, get_or, Option}
use Rattle.std.proofs.lemmas.Bool.{eq-eqb, ne_eqb}
use Rattle.std.specs.Prelude.{codes}
use Rattle.std.specs.FinMap.{entries}
use Rattle.strided_dom.specs.Progression.{Progression, empty, single, row}
use Rattle.tm_lattice.specs.Tables.{IsEntry}
use Rattle.pointer_dom.specs.OffsetSets.{OffsetSet, IsOffsetSet, HasNoOffset}
use Rattle.pointer_dom.specs.PointerSets.{Pointers, IsPointers, no_pointer}
use Rattle.pointer_dom.specs.Values.{Values, no_value}
use Rattle.interfere_set.specs.laws.Joins.{IsOf, of_entry}
use Rattle.interfere_set.proofs.Reading.{at_place}
use Rattle.transfer_rows.specs.StateForms.{is_no_value, only_numbers, only_pointers}
use Rattle.transfer_rows.proofs.Steps.{no_value_is, none_is_none}
use Rattle.certificate_words.specs.Words.{tag}
use Rattle.certificate_words.specs.Numbers.{progression_words}
use Rattle.certificate_texts.specs.StateLines.{paired, pending_line_of}
use Rattle.certificate_texts.specs.ValueWords.{pointers_words, some_words, value_words}

-- no number
pub none_words : (s : Progression) → s ≡ empty → value_words (only_numbers s) ≡ tag (codes "e") ∷ []
none_words s none =
    ap (λ t. value_words (only_numbers t)) none
    ∙ ap (λ b. cond b (tag (codes "e") ∷ []) (some_words no_value)) none_is_none

-- numbers, whatever pointers there are besides
pub numbers_words : (s : Progression) (p : Pointers) → (s ≡ empty → ⊥)
    → value_words record { numbers = s; pointers = p } ≡ tag (codes "i") ∷ progression_words s
numbers_words empty p some = absurd (some refl)
numbers_words (single v) p some = refl
numbers_words (row first gap more) p some = refl

-- pointers alone
pub only_pointers_words : (p : Pointers) → (p ≡ no_pointer → ⊥) → value_words (only_pointers p) ≡ pointers_words p
only_pointers_words p some = by_test (is_no_value (only_pointers p)) refl
  where
    by_test : (b : Bool) → is_no_value (only_pointers p) ≡ b
        → cond b (tag (codes "e") ∷ []) (some_words (only_pointers p)) ≡ pointers_words p
    by_test true none = absurd (some (ap (λ (v : Values). v.pointers) (no_value_is (only_pointers p) none)))
    by_test false is = refl

-- ## Marks

-- no pending mutex
pub pending_none : (x p : ℕ) → p ≡ 0 → pending_line_of x p ≡ []
pending_none x p none = ap (λ b. cond b [] (paired (codes "p") x p ∷ [])) (eq-eqb p 0 none)

pub pending_some : (x p : ℕ) → (p ≡ 0 → ⊥) → pending_line_of x p ≡ paired (codes "p") x p ∷ []
pending_some x p some = ap (λ b. cond b [] (paired (codes "p") x p ∷ [])) (ne_eqb p 0 some)

-- ## Objects

-- each object has an offset
pub has_offset : (p : Pointers) (es : List (ℕ × OffsetSet)) (i : ℕ) (e : ℕ × OffsetSet) → IsPointers p
    → es ≡ entries p.objects → i < length es → e ≡ get_or es i e → e.1.offsets ≡ empty → ⊥
has_offset p es i e is same less at none =
    let stands = of_entry p.objects e (subst (λ l. IsOf l e) same (at_place es i e less at)) in
    (subst (λ (o : Option OffsetSet). IsEntry IsOffsetSet HasNoOffset o) stands (is e.0)).1 none
