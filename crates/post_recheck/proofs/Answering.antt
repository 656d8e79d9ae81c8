-- The answer for the checks of all bodies.
use Rattle.std.proofs.Common.{◌≡◌, ℕ, zero, suc, ◌<◌, List, length, slice_get, Some, IfOk, Ok}
use Rattle.std.proofs.Common.{refl}
use Rattle.std.proofs.Common.{sym, ap, subst, ◌∙◌, ◌≤◌, inl, inr, arith}
use Rattle.std.proofs.lemmas.Bool.{cases_eq}
use Rattle.std.specs.declared.result.Result.{Result}
use Rattle.std.proofs.lemmas.Option.{get_or_from_slice_get}
use Rattle.tm_lattice.specs.declared.memory.NoMemory.{NoMemory}
use Rattle.interfere_set.specs.Stores.{Interferences, IsStoreBelow, joined_store, rounded_store}
use Rattle.table_covers.specs.Solutions.{IsSolution}
use Rattle.shared_programs.specs.program_equations.Programs.{ProgramBodies, body_at, IsProgram}
use Rattle.shared_programs.specs.program_equations.Systems.{states, FitsBody, IsSection}
use Rattle.shared_programs.specs.program_equations.Solutions.{table_at, tables_of}
use Rattle.post_recheck.specs.Pairs.{Pair, FitsPair}
use Rattle.post_recheck.specs.Bodies.{IsBodyCheck, IsCoveredIn, AreChecked, contributed_at}
use Rattle.post_recheck.specs.Checks.{IsAnswer}
use Rattle.post_recheck.specs.reading.Joins.{added_by, joined_below, joined_by, AreCoveredBelow}
use Rattle.post_recheck.specs.declared.bodies.BodyCheck.{BodyCheck}
use Rattle.post_recheck.specs.declared.bodies.BodyCheck.TheVariants as Bodies
use Rattle.post_recheck.specs.declared.solutions.Checked.TheVariants as Answers
use Rattle.post_recheck.proofs.Fits.{task_is, section_is}
use Rattle.post_recheck.proofs.Covers.{store_covered, covered_store, in_bodies}

-- one more body is covered
pub one_more : (checks : List (Result BodyCheck NoMemory)) (t : ℕ) (more : Interferences) → AreCoveredBelow checks t
    → slice_get checks t ≡ Some (Ok (Bodies.Covered more)) → AreCoveredBelow checks (suc t)
one_more checks t more before here u lt = elim (cases_eq u t) [
  | inl last ↦ subst (λ k. slice_get checks k ≡ Some (Ok (Bodies.Covered (added_by (slice_get checks k))))) (sym last)
      (here ∙ ap (λ a. Some (Ok (Bodies.Covered (added_by a)))) (sym here))
  | inr other ↦ before u (omega (arith, lt, other))
]

module _ (p : ProgramBodies) (is : IsProgram p) (pair : Pair) (fits : FitsPair p pair)
    (checks : List (Result BodyCheck NoMemory)) (checked : AreChecked p pair checks) where
  at : (t : ℕ) (r : Result BodyCheck NoMemory) → t < length checks → slice_get checks t ≡ Some r
      → IfOk r (IsBodyCheck p pair t)
  at t r lt e =
      subst (λ x. IfOk x (IsBodyCheck p pair t)) (get_or_from_slice_get checks t r r e) (checked.each t r lt)

  covered_at : (n : ℕ) → AreCoveredBelow checks n → (t : ℕ) → t < n → t < length checks
      → IsCoveredIn p pair t (added_by (slice_get checks t))
  covered_at n covered t below lt = at t (Ok (Bodies.Covered (added_by (slice_get checks t)))) lt (covered t below)

  -- the first body that is not covered
  pub first_body : (t edge : ℕ) → t < length checks → AreCoveredBelow checks t
      → slice_get checks t ≡ Some (Ok (Bodies.Uncovered edge)) → IsAnswer p pair (Answers.Uncovered t edge)
  first_body t edge lt before here =
      let found = at t (Ok (Bodies.Uncovered edge)) lt here in record {
        within = subst (λ n. t < n) checked.count lt;
        earlier = λ u below. (covered_at t before u below (omega (arith, below, lt))).solved;
        first = found.first;
        is = found.is;
        number = found.number;
      }

  module _ (covered : AreCoveredBelow checks (length checks)) where
    each : (t : ℕ) → t < length p.bodies → IsCoveredIn p pair t (added_by (slice_get checks t))
    each t lt =
        let within = subst (λ n. t < n) (sym checked.count) lt in
        covered_at (length checks) covered t within within

    same_below : (n : ℕ) → n ≤ length p.bodies → joined_by checks n ≡ joined_below (contributed_at p pair) n
    same_below zero le = refl
    same_below (suc n) le =
        ap (λ s. joined_store s (added_by (slice_get checks n))) (same_below n (omega (arith, le)))
        ∙ ap (joined_store (joined_below (contributed_at p pair) n)) (each n (omega (arith, le))).contributed

    same : (added : Interferences) → added ≡ joined_by checks (length checks)
        → added ≡ joined_below (contributed_at p pair) (length p.bodies)
    same added e = e ∙ ap (joined_by checks) checked.count ∙ same_below (length p.bodies) (omega arith)

    section_solved : IsSection p (table_at pair.tables p.tasks)
    section_solved has =
        subst (λ sys. IsSolution states (FitsBody (body_at p p.tasks)) sys (tables_of pair.tables p.tasks))
        (section_is p is pair fits p.tasks (omega arith)) (each p.tasks has).solved

    -- a pair whose bodies and store are covered
    pub all_covered : (added : Interferences) → added ≡ joined_by checks (length checks)
        → IsStoreBelow (rounded_store p.marks added) pair.store → (given : Pair) → given ≡ pair
        → IsAnswer p pair (Answers.Solution given)
    all_covered added e below given given-is = (
      record {
        count = fits.count;
        solves = record {
          begins = section_solved;
          fits = fits.fits;
          locals = λ t lt.
              subst (λ sys. IsSolution states (FitsBody (body_at p t)) sys (tables_of pair.tables t))
              (task_is p is pair fits t lt) (each t (in_bodies p is pair fits t lt)).solved;
          covers = store_covered p is pair fits
              (subst (λ s. IsStoreBelow (rounded_store p.marks s) pair.store) (same added e) below);
        };
      },
      given-is,
    )

    -- a pair whose bodies are covered, and the store is not
    pub store_uncovered : (added : Interferences) → added ≡ joined_by checks (length checks)
        → (IsStoreBelow (rounded_store p.marks added) pair.store → ⊥) → IsAnswer p pair Answers.UncoveredStore
    store_uncovered added e above = record {
      bodies = λ t lt. (each t lt).solved;
      uncovered = λ c. above (subst (λ s. IsStoreBelow (rounded_store p.marks s) pair.store) (sym (same added e))
          (covered_store p is pair fits c));
    }
