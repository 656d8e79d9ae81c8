-- The facts of bodies, one after the other.
use Rattle.std.specs.Prelude.{◌≡◌, ℕ, ◌+◌, ◌<◌, List, [], ◌∷◌, ◌++◌, length, get_or}
use Rattle.std.proofs.Common.{sym, subst, inl, inr, arith}
use Rattle.std.proofs.lemmas.Bool.{cases_lt}
use Rattle.std.proofs.lemmas.List.{length_push, get_or_push, get_or_append_left}
use Rattle.mutex_configs.specs.tm_laid.Layouts.{LaidTree}
use Rattle.mutex_configs.specs.flow_graph.declared.graphs.Graph.{Graph}
use Rattle.mutex_configs.specs.declared.nodes.ConfiguredGraph.{ConfiguredGraph}
use Rattle.entry_states.specs.body_systems.Facts.{Facts, AreFactsOf}

module _ (laid : LaidTree) (graphs : List Graph) (configured : List ConfiguredGraph) where
  -- these are the facts of the first bodies
  abbrev pub AreFirst : ℕ → List Facts → Type 0
  AreFirst n fs = (length fs ≡ n) × ((t : ℕ) (g : Graph) (c : ConfiguredGraph) (f : Facts) → t < n
      → AreFactsOf laid (get_or graphs t g) (get_or configured t c) (get_or fs t f))

  pub one_more : (n : ℕ) (fs : List Facts) (x : Facts) → AreFirst n fs
      → ((g : Graph) (c : ConfiguredGraph) → AreFactsOf laid (get_or graphs n g) (get_or configured n c) x)
      → AreFirst (n + 1) (fs ++ (x ∷ []))
  one_more n fs x first is = (
    (let l = length_push fs x in let m = first.0 in omega (arith, l, m)),
    λ t g c f lt. elim (cases_lt t n) [
      | inl before ↦ subst (λ y. AreFactsOf laid (get_or graphs t g) (get_or configured t c) y)
          (sym (get_or_append_left fs (x ∷ []) f t (let m = first.0 in omega (arith, m, before))))
          (first.1 t g c f before)
      | inr end ↦
          let here : t ≡ n = omega (arith, lt, end) in
          subst (λ k. AreFactsOf laid (get_or graphs k g) (get_or configured k c) (get_or (fs ++ (x ∷ [])) k f)) (sym here)
          (subst (λ y. AreFactsOf laid (get_or graphs n g) (get_or configured n c) y)
          (sym (get_or_push fs x f n first.0)) (is g c))
    ],
  )
