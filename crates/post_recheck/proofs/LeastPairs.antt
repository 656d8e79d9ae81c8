-- Least tables over a closed store are a solution.
use Rattle.std.proofs.Common.{ℕ, ◌<◌}
use Rattle.std.proofs.Common.{sym, subst}
use Rattle.tm_lattice.specs.Rounds.{IsClosed}
use Rattle.interfere_set.specs.laws.StoreLaws.{store_order}
use Rattle.table_covers.specs.Solutions.{IsLeastSolution}
use Rattle.shared_programs.specs.program_equations.Programs.{ProgramBodies, body_at, IsProgram}
use Rattle.shared_programs.specs.program_equations.Systems.{states, stores, FitsBody, task_system, added_at}
use Rattle.shared_programs.specs.program_equations.Systems.{IsLeastSection}
use Rattle.shared_programs.specs.program_equations.Solutions.{passing, table_at, tables_of, IsPair, IsStoreCovered}
use Rattle.shared_programs.specs.program_equations.laws.Tables.{pass_is_one}
use Rattle.post_recheck.specs.Pairs.{Pair, FitsPair}
use Rattle.post_recheck.proofs.Covers.{added, adds, task_fits, task_holds}

module _ (p : ProgramBodies) (is : IsProgram p) (pair : Pair) (fits : FitsPair p pair)
    (closed : IsClosed stores passing p pair.store) (first : IsLeastSection p (table_at pair.tables p.tasks))
    (least : (t : ℕ) → t < p.tasks → IsLeastSolution states (FitsBody (body_at p t))
    (task_system p (table_at pair.tables p.tasks) pair.store t) (tables_of pair.tables t)) where
  covered : IsStoreCovered p (tables_of pair.tables) pair.store
  covered = record {
    bound = pair.store;
    fits = fits.fits;
    holds = λ t lt e s within stands.
        let all = added_at p t (tables_of pair.tables t) in
        let one = pass_is_one p is (table_at pair.tables p.tasks) first t lt pair.store fits.fits
        (tables_of pair.tables t)
        (least t lt) in
        store_order.transitive (added p is pair fits t e s) all pair.store
        (adds p is pair fits t lt e s within stands).form
        (task_fits p is pair fits t lt).form fits.fits.form (task_holds p is pair fits t lt e s within stands)
        (subst (λ x. stores.leq x pair.store) (sym one) (closed.passes t lt));
    rounding = subst (λ x. stores.leq x pair.store) (sym closed.rounding)
        (store_order.reflexive pair.store fits.fits.form);
  }

  pub least_pair : IsPair p pair.tables pair.store
  least_pair = record {
    count = fits.count;
    solves = record {
      begins = λ has. (first has).solves;
      fits = fits.fits;
      locals = λ t lt. (least t lt).solves;
      covers = covered;
    };
  }
