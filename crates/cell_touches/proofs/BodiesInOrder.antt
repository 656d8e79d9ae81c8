-- What is found of bodies, one after the other.
use Rattle.std.specs.Prelude.{◌≡◌, ℕ, ◌+◌, ◌<◌, List, [], ◌∷◌, ◌++◌, length, get_or}
use Rattle.std.proofs.Common.{sym, subst, inl, inr, arith}
use Rattle.std.proofs.lemmas.Bool.{cases_lt}
use Rattle.std.proofs.lemmas.List.{length_push, get_or_push, get_or_append_left}
use Rattle.tm_laid.specs.Layouts.{LaidTree}
use Rattle.mutex_configs.specs.declared.nodes.ConfiguredGraph.{ConfiguredGraph}
use Rattle.cell_touches.specs.declared.touching.BodyTouches.{BodyTouches}
use Rattle.cell_touches.specs.Bodies.{AreTouches}

module _ (laid : LaidTree) (configured : List ConfiguredGraph) where
  -- these are what is found of the first bodies
  abbrev pub AreFirst : ℕ → List BodyTouches → Type 0
  AreFirst n ts = (length ts ≡ n) × ((b : ℕ) (c : ConfiguredGraph) (t : BodyTouches) → b < n
      → AreTouches laid b (get_or configured b c) (get_or ts b t))

  pub one_more : (n : ℕ) (ts : List BodyTouches) (x : BodyTouches) → AreFirst n ts
      → ((c : ConfiguredGraph) → AreTouches laid n (get_or configured n c) x) → AreFirst (n + 1) (ts ++ (x ∷ []))
  one_more n ts x first is = (
    (let l = length_push ts x in let m = first.0 in omega (arith, l, m)),
    λ b c t lt. elim (cases_lt b n) [
      | inl before ↦ subst (λ y. AreTouches laid b (get_or configured b c) y)
          (sym (get_or_append_left ts (x ∷ []) t b (let m = first.0 in omega (arith, m, before))))
          (first.1 b c t before)
      | inr end ↦
          let here : b ≡ n = omega (arith, lt, end) in
          subst (λ k. AreTouches laid k (get_or configured k c) (get_or (ts ++ (x ∷ [])) k t)) (sym here)
          (subst (λ y. AreTouches laid n (get_or configured n c) y) (sym (get_or_push ts x t n first.0)) (is c))
    ],
  )
