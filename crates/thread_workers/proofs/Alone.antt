-- A worker by itself on a core: nothing is lent but to worker 0.
use Rattle.std.proofs.Common.{◌≡◌, ℕ, ◌==◌, Option, Some, None, inl, inr, sym, ap, ◌∙◌}
use Rattle.std.specs.Prelude.{Bool, unwrap_or}
use Rattle.std.proofs.lemmas.Bool.{cond-true, cond-false, cases_Bool, eq-eqb}
use Rattle.tm_lattice.specs.declared.lattices.Lattice as lattice
use Rattle.tm_lattice.specs.declared.passers.Passer as passer
use Rattle.store_core.specs.Histories.{version_of, lent_to, is_settled, store_of, store_at}
use Rattle.store_core.specs.Cores.{Lent, Brought, Core}
use Rattle.store_core.specs.Answers.{LendsFreeTask, IsHolding, IsOthers, IsGrown, IsNotLent, IsStranger}

none_some : (o : Option (ℕ × ℕ)) (x : ℕ × ℕ) → o ≡ None → o ≡ Some x → ⊥
none_some o x p q = let e : None ≡ Some x = sym p ∙ q in cc

-- a core of this program and number of workers, with nothing lent
pub record IsIdle {P S K : Type 0} (program : P) (workers : ℕ) (core : Core P S K) : Type 0 where
  pub program_is : core.program ≡ program
  pub workers_is : core.workers ≡ workers
  pub none_lent : (who : ℕ) → lent_to core.past who ≡ None

module _ {P S M K : Type 0} (store : lattice.Ghosts S M) (passer : passer.Ghosts P S M) (program : P) (workers : ℕ) where
  pub not_holding : (before after : Core P S K) (task : ℕ) → IsIdle program workers before → IsHolding store passer before after 0 task → ⊥
  not_holding before after task idle holding = none_some _ _ (idle.none_lent 0) holding.lent

  -- what is not lent is settled, so all is quiet
  pub not_others : (before after : Core P S K) → IsIdle program workers before → IsOthers store passer before after 0 → ⊥
  not_others before after idle others = others.loud (record {
    settled = λ task lt. elim (cases_Bool (is_settled before.past task)) [
      | inl settled ↦ settled
      | inr unsettled ↦ let lent = others.lent task lt unsettled in absurd (none_some _ _ (idle.none_lent lent.worker) lent.by)
    ];
    none_lent = λ task lt lent. none_some _ _ (idle.none_lent lent.worker) lent.by;
  })

  module _ (before between after : Core P S K) (lent : Lent P S K) (next : LendsFreeTask store passer before between 0 lent) where
    is_lent : lent_to between.past 0 ≡ Some (lent.task, lent.version)
    is_lent = ap (λ c. lent_to c.past 0) next.new

    -- the publication ends the loan
    pub idle_again : (brought : Brought P S K) (version : ℕ) (raised : Bool) → IsIdle program workers before → IsGrown store passer between after 0 brought version raised → IsIdle program workers after
    idle_again brought version raised idle grown = record {
      program_is = ap (λ c. c.program) grown.new ∙ ap (λ c. c.program) next.new ∙ idle.program_is;
      workers_is = ap (λ c. c.workers) grown.new ∙ ap (λ c. c.workers) next.new ∙ idle.workers_is;
      none_lent = λ who. elim (cases_Bool (0 == who)) [
        | inl here ↦ ap (λ c. lent_to c.past who) grown.new ∙ cond-true (0 == who) _ _ here
        | inr there ↦
            ap (λ c. lent_to c.past who) grown.new ∙ cond-false (0 == who) _ _ there
            ∙ ap (λ c. lent_to c.past who) next.new ∙ cond-false (0 == who) _ _ there ∙ idle.none_lent who
      ];
    }

    pub not_refused : IsNotLent store passer between after 0 → ⊥
    not_refused refused = none_some _ _ refused.idle is_lent

    -- what is brought back is what was lent
    pub not_stranger : (brought : Brought P S K) (other : Lent P S K) → brought.program ≡ lent.program → brought.task ≡ lent.task → brought.store ≡ lent.store
        → IsStranger store passer between after 0 other brought → ⊥
    not_stranger brought other program_is task_is store_is stranger =
        let same : Some (lent.task, lent.version) ≡ Some (other.task, other.version) = sym is_lent ∙ stranger.is_lent in
        let task : lent.task ≡ other.task = ap (λ (o : Option (ℕ × ℕ)). (unwrap_or o (lent.task, lent.version)).0) same in
        let version : lent.version ≡ other.version = ap (λ (o : Option (ℕ × ℕ)). (unwrap_or o (lent.task, lent.version)).1) same in
        let store_now : store_at store passer between.program between.past lent.version ≡ store_of store passer before.program before.past =
        ap (λ c. store_at store passer c.program c.past lent.version) next.new ∙ cond-true (version_of before.past == lent.version) _ _ (eq-eqb _ _ (sym next.may.present)) in
        stranger.differ (
          stranger.program ∙ ap (λ c. c.program) next.new ∙ sym next.program ∙ sym program_is,
          sym task ∙ sym task_is,
          stranger.over ∙ ap (store_at store passer between.program between.past) (sym version) ∙ store_now ∙ sym next.present ∙ sym store_is,
        )
