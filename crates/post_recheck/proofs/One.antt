-- For one pair there is one answer.
use Rattle.std.proofs.Common.{◌≡◌, ℕ, ◌<◌, length, refl, inl, inr}
use Rattle.std.proofs.Common.{sym, ap, subst, ◌∙◌, arith}
use Rattle.std.proofs.lemmas.Bool.{cases_lt}
use Rattle.table_covers.specs.Solutions.{IsSolution, IsFirstUncovered}
use Rattle.table_covers.specs.declared.covers.Uncovered.{Uncovered}
use Rattle.table_covers.specs.declared.covers.Uncovered.TheVariants.{Entry as the_entry}
use Rattle.table_covers.specs.declared.covers.Uncovered.TheVariants.{Edge as the_edge}
use Rattle.shared_programs.specs.program_equations.Programs.{ProgramBodies, body_at, IsProgram}
use Rattle.shared_programs.specs.program_equations.Systems.{states, FitsBody, section_system}
use Rattle.shared_programs.specs.program_equations.Solutions.{IsPair, IsSolvedAt, IsUncoveredAt, IsUncoveredStore}
use Rattle.shared_programs.specs.program_equations.Solutions.{system_at, tables_of}
use Rattle.shared_programs.specs.program_equations.Solutions.{edge_number}
use Rattle.post_recheck.specs.Pairs.{Pair, FitsPair}
use Rattle.post_recheck.specs.Checks.{IsAnswer}
use Rattle.post_recheck.specs.declared.solutions.Checked.{Checked}
use Rattle.post_recheck.specs.declared.solutions.Checked.TheVariants as Answers
use Rattle.post_recheck.proofs.Fits.{task_is, section_is, is_section, not_solved}

module _ (p : ProgramBodies) (is : IsProgram p) (pair : Pair) (fits : FitsPair p pair) where
  abbrev IsFirst : ℕ → Uncovered → Type 0
  IsFirst t first = IsFirstUncovered states (FitsBody (body_at p t)) (system_at p pair.tables pair.store t)
      (tables_of pair.tables t) first

  abbrev IsPairOf : Type 0
  IsPairOf = IsPair p pair.tables pair.store

  abbrev IsAt : ℕ → ℕ → Type 0
  IsAt t edge = IsUncoveredAt p pair.tables pair.store t edge

  abbrev IsStoreOnly : Type 0
  IsStoreOnly = IsUncoveredStore p pair.tables pair.store

  -- each body of a solution is solved
  solved : IsPairOf → (t : ℕ) → t < length p.bodies → IsSolvedAt p pair.tables pair.store t
  solved h t lt = elim (cases_lt t p.tasks) [
    | inl below ↦
        subst (λ sys. IsSolution states (FitsBody (body_at p t)) sys (tables_of pair.tables t))
        (sym (task_is p is pair fits t below)) (h.solves.locals t below)
    | inr past ↦
        let same = is_section p is pair fits t lt (omega (arith, past)) in
        subst (λ sys. IsSolution states (FitsBody (body_at p t)) sys (tables_of pair.tables t))
        (sym (section_is p is pair fits t (omega (arith, past))))
        (subst (λ k. IsSolution states (FitsBody (body_at p k)) (section_system p) (tables_of pair.tables k)) (sym same)
        (h.solves.begins (subst (λ k. k < length p.bodies) same lt)))
  ]

  -- the first edge that is not covered is one
  one_first : (t : ℕ) (one other : Uncovered) → IsFirst t one → IsFirst t other → one ≡ other
  one_first t the_entry the_entry h k = refl
  one_first t the_entry (the_edge e) h k = absurd (h k.0)
  one_first t (the_edge e) the_entry h k = absurd (k h.0)
  one_first t (the_edge e) (the_edge i) h k = elim (cases_lt e i) [
    | inl below ↦ absurd (h.3 (k.2 e below))
    | inr past ↦ elim (cases_lt i e) [
      | inl above ↦ absurd (k.3 (h.2 i above))
      | inr least ↦ ap the_edge (omega (arith, past, least))
    ]
  ]

  one_body : (t u edge other : ℕ) → IsAt t edge → IsAt u other → t ≡ u
  one_body t u edge other h k = elim (cases_lt t u) [
    | inl below ↦ absurd (not_solved p is pair fits t h.within h.first (k.earlier t below) h.is)
    | inr past ↦ elim (cases_lt u t) [
      | inl above ↦ absurd (not_solved p is pair fits u k.within k.first (h.earlier u above) k.is)
      | inr least ↦ omega (arith, past, least)
    ]
  ]

  one_edge : (t edge other : ℕ) → IsAt t edge → IsAt t other → edge ≡ other
  one_edge t edge other h k =
      h.number ∙ ap (edge_number p pair.tables pair.store (body_at p t)) (one_first t h.first k.first h.is k.is)
      ∙ sym k.number

  one_place : (t u edge other : ℕ) → IsAt t edge → IsAt u other → Answers.Uncovered t edge ≡ Answers.Uncovered u other
  one_place t u edge other h k =
      let same = one_body t u edge other h k in
      let number = one_edge t edge other h (subst (λ b. IsAt b other) (sym same) k) in
      λ i. Answers.Uncovered (same i) (number i)

  pub answer_is_one : (one other : Checked) → IsAnswer p pair one → IsAnswer p pair other → one ≡ other
  answer_is_one (Answers.Solution s) (Answers.Solution s') h k = ap Answers.Solution (h.1 ∙ sym k.1)
  answer_is_one (Answers.Solution s) (Answers.Uncovered t edge) h k =
      absurd (not_solved p is pair fits t k.within k.first (solved h.0 t k.within) k.is)
  answer_is_one (Answers.Solution s) Answers.UncoveredStore h k = absurd (k.uncovered h.0.solves.covers)
  answer_is_one (Answers.Uncovered t edge) (Answers.Solution s) h k =
      absurd (not_solved p is pair fits t h.within h.first (solved k.0 t h.within) h.is)
  answer_is_one (Answers.Uncovered t edge) (Answers.Uncovered u other) h k = one_place t u edge other h k
  answer_is_one (Answers.Uncovered t edge) Answers.UncoveredStore h k =
      absurd (not_solved p is pair fits t h.within h.first (k.bodies t h.within) h.is)
  answer_is_one Answers.UncoveredStore (Answers.Solution s) h k = absurd (h.uncovered k.0.solves.covers)
  answer_is_one Answers.UncoveredStore (Answers.Uncovered t edge) h k =
      absurd (not_solved p is pair fits t k.within k.first (h.bodies t k.within) k.is)
  answer_is_one Answers.UncoveredStore Answers.UncoveredStore h k = refl
