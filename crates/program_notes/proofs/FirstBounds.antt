-- Bounds noted at their objects: each object has the first of its bounds.
use Rattle.std.proofs.Common.{◌≡◌, refl, sym, ap, ◌∙◌, inl, inr, ℕ, ◌+◌, ◌<◌, Bool, true, false, cond, List, [], ◌∷◌}
use Rattle.std.proofs.Common.{length, set, get_or, take, nat_lt, arith}
use Rattle.std.proofs.lemmas.List.{length-set, get_or-set_same, get_or-set_other, take_more}
use Rattle.std.proofs.lemmas.List.Folds.{find-append}
use Rattle.std.proofs.lemmas.Bool.{ltb-true, ltb-false}
use Rattle.std.proofs.lemmas.Bool.Decides.{eqb_tells}
use Rattle.std.specs.Prelude.{Option, Some, None}
use Rattle.std.specs.Option.{option_or}
use Rattle.std.specs.List.{find}
use Rattle.value_ranges.specs.declared.object_bounds.ObjectBounds.{ObjectBounds}
use Rattle.program_notes.specs.ObjectTexts.{is_of, bounds_of}
use Rattle.program_notes.specs.reading.Choices.{first_of, noted}

long_if : (found : List (Option ObjectBounds)) (at : ℕ) (v : Option ObjectBounds) (is : Bool)
    → length (cond is (set found at v) found) ≡ length found
long_if found at v true = length-set found at v
long_if found at v false = refl

pub noted_long : (found : List (Option ObjectBounds)) (b : ObjectBounds) → length (noted found b) ≡ length found
noted_long found b =
    long_if found b.object (Some (first_of (get_or found b.object None) b)) (nat_lt b.object (length found))

-- bounds of the object, and of another one, behind what is known
own : (b : ObjectBounds) (x : Option ObjectBounds) (is : Bool) → is ≡ true
    → Some (first_of x b) ≡ option_or x (cond is (Some b) None)
own b None true e = refl
own b (Some a) true e = refl
own b x false e = absurd (cc)

other : (b : ObjectBounds) (x : Option ObjectBounds) (is : Bool) → is ≡ false
    → x ≡ option_or x (cond is (Some b) None)
other b None false e = refl
other b (Some a) false e = refl
other b x true e = absurd (cc)

at_if : (found : List (Option ObjectBounds)) (b : ObjectBounds) (n : ℕ) (is : Bool)
    → nat_lt b.object (length found) ≡ is → n < length found
    → get_or (cond is (set found b.object (Some (first_of (get_or found b.object None) b))) found) n None
    ≡ option_or (get_or found n None) (find (is_of n) (b ∷ []))
at_if found b n true e lt =
    let v = Some (first_of (get_or found b.object None) b) in
    elim (eqb_tells b.object n) [
      | inl same ↦
          ap (λ k. get_or (set found b.object v) k None) (sym same.1)
          ∙ get_or-set_same found b.object v None (ltb-true b.object (length found) e)
          ∙ ap (λ k. Some (first_of (get_or found k None) b)) same.1 ∙ own b (get_or found n None) (is_of n b) same.0
      | inr ne ↦
          get_or-set_other found b.object n v None (λ s. ne.1 (sym s))
          ∙ other b (get_or found n None) (is_of n b) ne.0
    ]
at_if found b n false e lt =
    let le = ltb-false b.object (length found) e in
    elim (eqb_tells b.object n) [
      | inl same ↦ absurd (let s = same.1 in omega (arith, s, le, lt))
      | inr ne ↦ other b (get_or found n None) (is_of n b) ne.0
    ]

-- the bounds of the next object of the list
pub next_noted : (bounds : List ObjectBounds) (i : ℕ) (d : ObjectBounds) (found after : List (Option ObjectBounds))
    (n : ℕ) → i < length bounds → n < length found → get_or found n None ≡ bounds_of (take i bounds) n
    → after ≡ noted found (get_or bounds i d) → get_or after n None ≡ bounds_of (take (i + 1) bounds) n
next_noted bounds i d found after n lt within e j =
    let b = get_or bounds i d in
    ap (λ list. get_or list n None) j ∙ at_if found b n (nat_lt b.object (length found)) refl within
    ∙ ap (λ x. option_or x (find (is_of n) (b ∷ []))) e ∙ sym (find-append (is_of n) (take i bounds) (b ∷ []))
    ∙ ap (find (is_of n)) (sym (take_more bounds i d lt))
