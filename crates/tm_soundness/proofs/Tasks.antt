-- Every task stands in the list of all tasks.
use Rattle.std.specs.Prelude.{◌≡◌, ℕ, List, [], ◌∷◌}
use Rattle.std.proofs.Common.{suc, zero, ◌⊎◌, inl, inr, refl}
use Rattle.tm_soundness.specs.Shape.{Shape}
use Rattle.tm_soundness.specs.Worlds.{Source, IsIn}
use Rattle.tm_soundness.specs.Numbered.{TaskOf, Program, shape_of}

abbrev shift : (n : ℕ) → List (TaskOf (suc n)) → List (TaskOf (suc (suc n)))
shift n [] = []
shift n (i ∷ l) = inr i ∷ shift n l

abbrev pub all_tasks : (n : ℕ) → List (TaskOf n)
all_tasks zero = []
all_tasks (suc zero) = tt ∷ []
all_tasks (suc (suc n)) = inl tt ∷ shift n (all_tasks (suc n))

abbrev pub Among : {A : Type 0} → A → List A → Type 0
Among a [] = ⊥
Among a (b ∷ l) = (a ≡ b) ⊎ Among a l

shifted : (n : ℕ) (i : TaskOf (suc n)) (l : List (TaskOf (suc n))) → Among i l → Among {A = TaskOf (suc (suc n))} (inr i) (shift n l)
shifted n i [] h = h
shifted n i (k ∷ l) (inl e) = inl (λ j. inr (e j))
shifted n i (k ∷ l) (inr h) = inr (shifted n i l h)

every : (n : ℕ) (i : TaskOf n) → Among i (all_tasks n)
every zero i = absurd i
every (suc zero) i = inl refl
every (suc (suc n)) (inl u) = inl refl
every (suc (suc n)) (inr i) = inr (shifted n i (all_tasks (suc n)) (every (suc n) i))

module _ (p : Program) (N : Source (shape_of p)) where
  among_in : (i : TaskOf p.tasks) (l : List (TaskOf p.tasks)) → Among i l → IsIn (shape_of p) N i l
  among_in i [] h = h
  among_in i (k ∷ l) (inl e) = inl e
  among_in i (k ∷ l) (inr h) = inr (among_in i l h)

  pub each_task : (i : TaskOf p.tasks) → IsIn (shape_of p) N i (all_tasks p.tasks)
  each_task i = among_in i (all_tasks p.tasks) (every p.tasks i)
