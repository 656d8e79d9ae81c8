-- A racing access among those that are kept for places.
use Rattle.std.proofs.Common.{◌≡◌, ℕ, Bool, true, false, cond, [], ◌∷◌, ◌++◌, Option, Some, None, filter, refl, ap, sym, ◌∙◌, arith}
use Rattle.std.specs.Prelude.{◌&&◌, ◌==◌, Vec}
use Rattle.std.specs.declared.alloc.Global.{Global}
use Rattle.std.proofs.lemmas.List.{append-nil}
use Rattle.std.proofs.lemmas.Bool.Decides.{nat_tests}
use Rattle.tm_terms.specs.declared.places.Place.{Place}
use Rattle.note_details.specs.declared.races.Racer.{Racer}
use Rattle.note_details.specs.Races.{is_same_place, is_at}
use Rattle.note_details.specs.reading.Races.{row_of}

both_true : (a b : Bool) → (a && b) ≡ true → (a ≡ true) × (b ≡ true)
both_true true b e = (refl, e)
both_true false b e = absurd cc

same_number : (m n : ℕ) → (m == n) ≡ true → m ≡ n
same_number m n e = grind (arith, nat_tests)

same_place : (p q : Place) → is_same_place p q ≡ true → p ≡ q
same_place p q e =
    let b : ((p.line == q.line) ≡ true) × ((p.col == q.col) ≡ true) = both_true (p.line == q.line) (p.col == q.col) e in
    let l : p.line ≡ q.line = same_number p.line q.line b.0 in
    let c : p.col ≡ q.col = same_number p.col q.col b.1 in
    let F : ℕ → ℕ → Place = λ x y. record { line = x; col = y } in
    ap (λ x. F x p.col) l ∙ ap (λ y. F q.line y) c

by_case : (at : Place → Option (Vec Racer Global)) (p q : Place) (racer : Racer) (before after : Vec Racer Global)
    (mid new : Option (Vec Racer Global)) (b : Bool) → is_same_place p q ≡ b
    → before.items ≡ row_of (at p) → after.items ≡ before.items ++ racer ∷ []
    → mid ≡ cond b None (at q) → new ≡ cond b (Some after) mid
    → row_of new ≡ row_of (at q) ++ cond b (racer ∷ []) []
by_case at p q racer before after mid new true same taken pushed gone put =
    ap row_of put ∙ pushed ∙ ap (λ xs. xs ++ racer ∷ []) (taken ∙ ap (λ x. row_of (at x)) (same_place p q same))
by_case at p q racer before after mid new false other taken pushed gone put =
    ap row_of (put ∙ gone) ∙ sym (append-nil (row_of (at q)))

-- one more is kept for its own place, and what is kept for each other one stays
pub placed : (at : Place → Option (Vec Racer Global)) (q : Place) (racer : Racer) (before after : Vec Racer Global)
    (mid new : Option (Vec Racer Global)) → before.items ≡ row_of (at racer.access.place)
    → after.items ≡ before.items ++ racer ∷ []
    → mid ≡ cond (is_same_place racer.access.place q) None (at q)
    → new ≡ cond (is_same_place racer.access.place q) (Some after) mid
    → row_of new ≡ row_of (at q) ++ filter (is_at q) (racer ∷ [])
placed at q racer before after mid new taken pushed gone put =
    by_case at racer.access.place q racer before after mid new (is_same_place racer.access.place q) refl taken pushed gone put
