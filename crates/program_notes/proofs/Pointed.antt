-- Objects to which pointers lead: where there are no pointers there are none.
use Rattle.std.proofs.Common.{◌≡◌, refl, sym, ap, ◌∙◌, ℕ, ◌+◌, ◌<◌, List, [], ◌∷◌, ◌++◌, length, take, arith}
use Rattle.std.proofs.lemmas.Option.{slice_get-get_or}
use Rattle.std.specs.Prelude.{Option, slice_get}
use Rattle.std.specs.Ordering.{nat_cmp}
use Rattle.std.specs.FinMap.{entries, len-entries, len-empty}
use Rattle.pointer_dom.specs.OffsetSets.{OffsetSet}
use Rattle.pointer_dom.specs.PointerSets.{no_pointer}
use Rattle.alarm_contexts.specs.declared.flaws.ObjectFlaw.{ObjectFlaw}
use Rattle.notes_json.specs.Pieces.{comma_before, listed, or_nothing}
use Rattle.notes_json.proofs.Listed.{next_listed}
use Rattle.program_notes.specs.OperandTexts.{pointed_text}

-- one text of a list more, which is found by its place
pub next_found : {A : Type 0} (f : A → List ℕ) (xs : List A) (n : ℕ) (o : List ℕ) {p q r : List ℕ} → n < length xs
    → p ≡ o ++ listed f (take n xs) → q ≡ p ++ comma_before n → r ≡ q ++ or_nothing f (slice_get xs n)
    → r ≡ o ++ listed f (take (n + 1) xs)
next_found f [] n o lt i j k = absurd (omega (arith, lt))
next_found f (x ∷ xs) n o {q = q} lt i j k =
    next_listed f (x ∷ xs) n x o lt i j
    (k ∙ ap (λ z. q ++ or_nothing f z) (slice_get-get_or (x ∷ xs) n x lt))

nothing_in : (es : List (ℕ × OffsetSet)) → length es ≡ 0 → es ≡ []
nothing_in [] e = refl
nothing_in (x ∷ es) e = absurd (omega (arith, e))

pub none_pointed : (numbers : List (Option ℕ)) (flaws : List ObjectFlaw)
    → listed (pointed_text numbers flaws) (entries no_pointer.objects) ≡ []
none_pointed numbers flaws =
    ap (listed (pointed_text numbers flaws)) (nothing_in (entries no_pointer.objects)
    (sym (len-entries no_pointer.objects) ∙ len-empty nat_cmp OffsetSet))
