use Rattle.std.proofs.Common.{◌≡◌, ◌∙◌, ℕ, ◌+◌, ◌<◌, Bool, true, false, List, [], ◌∷◌, ◌++◌, Vec, Global, ap, append-nil, cond, get_or, length, sym, take}
use Rattle.std.specs.Prelude.{filter}
use Rattle.std.proofs.lemmas.List.{take_all}
use Rattle.std.proofs.lemmas.List.Elements.{filter_more}
use Rattle.unit_tokens.specs.Fates.{is_kept}
use Rattle.unit_tokens.specs.declared.fates.Fated.{Fated}
use Rattle.unit_tokens.proofs.fates.kept.Goals as goal
use Rattle.unit_tokens.proofs.fates.kept.Goals.{then-is_kept+in_ok-push, else-is_kept}

kept_more : {X : Type 0} (p : X → Bool) (xs : List X) (i : ℕ) (x : X) (old new : List X) → i < length xs
    → old ≡ filter p (take i xs) → p (get_or xs i x) ≡ true → new ≡ old ++ get_or xs i x ∷ []
    → new ≡ filter p (take (i + 1) xs)
kept_more p xs i x old new h before is pushed =
    pushed ∙ ap (λ l. l ++ get_or xs i x ∷ []) before
    ∙ ap (λ b. filter p (take i xs) ++ cond b (get_or xs i x ∷ []) []) (sym is) ∙ sym (filter_more p xs i x h)

left_more : {X : Type 0} (p : X → Bool) (xs : List X) (i : ℕ) (x : X) (old new : List X) → i < length xs
    → old ≡ filter p (take i xs) → p (get_or xs i x) ≡ false → new ≡ old → new ≡ filter p (take (i + 1) xs)
left_more p xs i x old new h before is same =
    same ∙ before ∙ sym (append-nil (filter p (take i xs)))
    ∙ ap (λ b. filter p (take i xs) ++ cond b (get_or xs i x ∷ []) []) (sym is) ∙ sym (filter_more p xs i x h)

pub loop-one-preserved : goal.loop-one-preserved
loop-one-preserved c =
    let fated = c.args.fated.now in
    let old = c.loop-one.made.items in
    let new = c.if-is_kept.made.items in
    elim c.if-is_kept.branch [
      | then-is_kept+in_ok-push w ↦
          kept_more is_kept fated c.loop-one.one-index _ old new c.loop-one-test.true c.loop-one.invariant
          (sym c.is_kept.ensures ∙ w.if-is_kept.true)
          (ap (λ (made : Vec Fated Global). made.items) w.made-is ∙ w.in_ok-push.ensures.items)
      | else-is_kept w ↦
          left_more is_kept fated c.loop-one.one-index _ old new c.loop-one-test.true c.loop-one.invariant
          (sym c.is_kept.ensures ∙ w.if-is_kept.false) (ap (λ (made : Vec Fated Global). made.items) w.made-is)
    ]

pub returns : goal.returns
returns c =
    c.loop-one.invariant
    ∙ ap (filter is_kept) (take_all c.loop-one.one-index c.args.fated.now c.loop-one-test.false)
