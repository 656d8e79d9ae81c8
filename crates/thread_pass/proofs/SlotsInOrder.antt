-- The slots of bodies, one body after the other.
use Rattle.std.specs.Prelude.{◌≡◌, ℕ, ◌+◌, ◌<◌, List, [], ◌∷◌, ◌++◌, length, get_or, Option, None, IfSome}
use Rattle.std.proofs.Common.{sym, subst, inl, inr, arith, ◌∙◌}
use Rattle.std.proofs.lemmas.Bool.{cases_lt}
use Rattle.std.proofs.lemmas.List.{length_push, get_or_push, get_or_append_left, get_or_default}
use Rattle.body_slots.specs.Slots.{Slots, AreSlotsOf}
use Rattle.program_equality.specs.task_equations.Bodies.{Body}
use Rattle.program_equality.specs.program_equations.Programs.{ProgramBodies, body_at}
use Rattle.thread_pass.specs.Analyses.{AreProgramSlots}

module _ (p : ProgramBodies) where
  -- these are the slots of the first bodies
  abbrev pub AreFirst : ℕ → List (Option Slots) → Type 0
  AreFirst n xs = (length xs ≡ n)
      × ((k : ℕ) → k < length xs → IfSome (get_or xs k None) (AreSlotsOf (body_at p k)))

  pub one_more : (n : ℕ) (xs : List (Option Slots)) (x : Option Slots) → AreFirst n xs
      → IfSome x (AreSlotsOf (body_at p n)) → AreFirst (n + 1) (xs ++ (x ∷ []))
  one_more n xs x first is = (
    (let l = length_push xs x in let m = first.0 in omega (arith, l, m)),
    λ k lt. elim (cases_lt k n) [
      | inl before ↦
          let within : k < length xs = (let m = first.0 in omega (arith, m, before)) in
          subst (λ o. IfSome o (AreSlotsOf (body_at p k))) (sym (get_or_append_left xs (x ∷ []) None k within))
          (first.1 k within)
      | inr end ↦
          let here : k ≡ n = (let l = length_push xs x in let m = first.0 in omega (arith, lt, l, m, end)) in
          subst (λ j. IfSome (get_or (xs ++ (x ∷ [])) j None) (AreSlotsOf (body_at p j))) (sym here)
          (subst (λ o. IfSome o (AreSlotsOf (body_at p n))) (sym (get_or_push xs x None n first.0)) is)
    ],
  )

  pub all_slots : (xs : List (Option Slots)) → AreFirst (length p.bodies) xs → AreProgramSlots p xs
  all_slots xs first = record { count = first.0; each = first.1 }

  -- what is read of them for a body
  module _ (xs : List (Option Slots)) (are : AreProgramSlots p xs) (n : ℕ) (lt : n < length p.bodies) where
    pub in_slots : n < length xs
    in_slots = (let count = are.count in omega (arith, lt, count))

    pub slots_at : (read given : Option Slots) (b : Body) → read ≡ get_or xs n read → given ≡ read → b ≡ body_at p n
        → IfSome given (AreSlotsOf b)
    slots_at read given b read-is given-is b-is =
        subst (λ x. IfSome given (AreSlotsOf x)) (sym b-is)
        (subst (λ o. IfSome o (AreSlotsOf (body_at p n)))
        (sym (given-is ∙ read-is ∙ get_or_default xs n read None in_slots)) (are.each n in_slots))
