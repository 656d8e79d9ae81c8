-- Passes that go on from what an earlier one has kept.
use Rattle.std.specs.Prelude.{◌≡◌, ℕ, Option, Some, None, IfSome}
use Rattle.std.proofs.Common.{sym, ap, subst, ◌∙◌}
use Rattle.interfere_set.specs.Stores.{Interferences, IsStoreBelow}
use Rattle.interfere_set.specs.laws.StoreLaws.{store_order}
use Rattle.table_covers.specs.Solutions.{at}
use Rattle.least_tables.proofs.Visits.{none_visited}
use Rattle.program_equality.specs.program_equations.Programs.{ProgramBodies, body_at}
use Rattle.program_equality.specs.program_equations.Systems.{states, FitsBody, FitsProgram, task_system, least_section}
use Rattle.program_equality.specs.program_equations.Systems.{pass_of}
use Rattle.thread_pass.specs.Analyses.{IsStartTable}
use Rattle.thread_pass.specs.Kept.{KeptTable, IsKeptOf, AreVisitsOf, AreToldUnless, unvisited}
use Rattle.thread_pass.specs.Starts.{StartOf, AreTaskValues, IsTaskStart}

-- what is told holds, whether the pass could go on by slots or not
told_either : (start : Option StartOf) (visits : ℕ) (P : ℕ → Type 0) → P visits → AreToldUnless start (Some visits) P
told_either None visits P h = h
told_either (Some s) visits P h = h

module _ (p : ProgramBodies) (t : ℕ) (store : Interferences) where
  module _ (kept : KeptTable) (store-fits : FitsProgram p store) (kept-fits : FitsProgram p kept.store)
      (made : IsKeptOf p t kept) (below : IsStoreBelow kept.store store) where
    -- the next pass may begin with it
    pub starts : IsStartTable p t store kept.table
    starts = record {
      before = kept.store;
      before_fits = kept-fits;
      before_below = below;
      before_least = made.table;
    }

    -- and with what stood at the variables of the task
    from_values : (start : Option StartOf) → IfSome start (AreTaskValues p t kept.store)
        → IfSome start (IsTaskStart p t store)
    from_values None h = tt
    from_values (Some s) h = record {
      before = kept.store;
      before_fits = kept-fits;
      before_below = below;
      values = h;
    }

    pub begins : IfSome kept.start (IsTaskStart p t store)
    begins = from_values kept.start made.start

    -- the same store lies below the kept one
    pub same_below : store ≡ kept.store → IsStoreBelow store kept.store
    same_below same = subst (IsStoreBelow store) same (store_order.reflexive store store-fits.form)

    -- where the store lies below the kept one, both are one, and what was kept still holds
    module _ (under : IsStoreBelow store kept.store) where
      one_store : kept.store ≡ store
      one_store = store_order.antisymmetric kept.store store kept-fits.form store-fits.form below under

      pub repeated_added : (added : Interferences) → added ≡ kept.added → added ≡ pass_of p t store
      repeated_added added same = same ∙ made.added ∙ ap (pass_of p t) one_store

      module _ (r : KeptTable) (is : r ≡ unvisited kept) where
        pub repeated_over : r.store ≡ store
        repeated_over = ap (λ (k : KeptTable). k.store) is ∙ one_store

        pub repeated_visits : AreToldUnless kept.start r.visits (λ v. AreVisitsOf p t store v (at kept.table) r.table)
        repeated_visits =
            subst (λ (k : KeptTable). AreToldUnless kept.start k.visits
            (λ v. AreVisitsOf p t store v (at kept.table) k.table)) (sym is)
            (told_either kept.start 0 (λ v. AreVisitsOf p t store v (at kept.table) kept.table) (none_visited states (FitsBody (body_at p t)) (task_system p (least_section p) store t) (at kept.table)))
