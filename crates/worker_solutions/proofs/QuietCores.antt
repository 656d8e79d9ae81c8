-- A quiet history ends in a store over which the tables of the last passes are least.
use Rattle.std.specs.Prelude.{◌≡◌, ℕ, ◌<◌, List, length, Option}
use Rattle.std.proofs.Common.{sym, ap, subst, ◌∙◌}
use Rattle.tm_lattice.specs.Rounds.{IsClosed}
use Rattle.store_core.specs.Histories.{Past, IsLegal, IsQuiet}
use Rattle.store_core.proofs.Pasts.{IsLawful, earlier, history_of, quiet_closed}
use Rattle.interfere_set.specs.Stores.{Interferences, IsStoreBelow, joined_store}
use Rattle.interfere_set.specs.laws.StoreLaws.{store_order, store_join, store_closure}
use Rattle.program_solutions.specs.transfer_rows.StateForms.{State}
use Rattle.program_solutions.specs.program_equations.Programs.{ProgramBodies, IsProgram}
use Rattle.program_solutions.specs.program_equations.Systems.{stores, pass_of}
use Rattle.program_solutions.specs.program_equations.Solutions.{passing, table_at}
use Rattle.program_solutions.specs.program_equations.laws.StoresFit.{bottom}
use Rattle.program_solutions.specs.program_equations.laws.Passing.{fitting}
use Rattle.program_solutions.specs.store_limits.Limits.{published}
use Rattle.program_solutions.specs.thread_pass.Analyses.{IsLeastTable}
use Rattle.program_solutions.specs.thread_pass.Kept.{KeptTable, IsKeptOf}
use Rattle.program_solutions.specs.Tables.{AreCompleted, AreLeastTables}
use Rattle.program_solutions.specs.reading.Turns.{HasEnded}
use Rattle.program_solutions.proofs.Completing.{least_tables}
use Rattle.worker_solutions.specs.QuietHistories.{present_store}

-- what was kept is the least table over the store that it was made over
pub kept_least : (p : ProgramBodies) (t : ℕ) (store : Interferences) (kept what : KeptTable) → kept ≡ what
    → IsKeptOf p t what → what.store ≡ store → (table : List (Option State)) → table ≡ kept.table
    → IsLeastTable p t store table
kept_least p t store kept what same made over table is =
    subst (IsLeastTable p t store) (ap (λ (k : KeptTable). k.table) (sym same) ∙ sym is)
    (subst (λ s. IsLeastTable p t s what.table) over made.table)

module _ (p : ProgramBodies) (is : IsProgram p) (workers : ℕ) (past : Past Interferences)
    (legal : IsLegal stores passing p workers past) (quiet : IsQuiet p.tasks past) where
  laws : IsLawful stores passing p
  laws = record { order = store_order; join = store_join; closure = store_closure; fitting = fitting p is }

  closed : IsClosed stores passing p (present_store p past)
  closed =
      let least = bottom p.marks in
      quiet_closed stores passing p laws workers past least.rounding legal quiet

  -- the publication of a task changes nothing
  unchanged : (t : ℕ) → t < p.tasks → IsStoreBelow (published p t (present_store p past)) (present_store p past)
  unchanged t lt =
      let s = present_store p past in
      let fits = laws.fitting in
      let added = pass_of p t s in
      let added-fits = fits.passed_fits t s lt closed.fits in
      let both-fits = fits.joined_fits s added closed.fits added-fits in
      let s-is = fits.value s closed.fits in
      let order = laws.order in
      let join = laws.join in
      let closure = laws.closure in
      let joined : IsStoreBelow (joined_store s added) s =
      join.least s added s s-is (fits.value added added-fits) s-is (order.reflexive s s-is) (closed.passes t lt) in
      subst (IsStoreBelow (published p t s)) closed.rounding
      (closure.monotone p.marks (joined_store s added) s fits.marks_are (fits.value (joined_store s added) both-fits) s-is
      joined)

  ended : (tables : List (List (Option State))) → length tables ≡ p.tasks
      → ((t : ℕ) → t < p.tasks → IsLeastTable p t (present_store p past) (table_at tables t))
      → HasEnded p (present_store p past) tables
  ended tables count least = record {
    program = is;
    earlier = earlier stores passing p laws past;
    history = history_of stores passing p laws workers past legal;
    fits = closed.fits;
    count = count;
    each = λ t lt. record { least = least t lt; below = unchanged t lt };
  }

  -- with the table of the initial section they are the least tables over the store
  pub least_over : (tables all : List (List (Option State))) → length tables ≡ p.tasks
      → ((t : ℕ) → t < p.tasks → IsLeastTable p t (present_store p past) (table_at tables t))
      → AreCompleted p tables all → (store : Interferences) → store ≡ present_store p past
      → AreLeastTables p (record { tables = all; store = store })
  least_over tables all count least completed store same =
      subst (λ s. AreLeastTables p (record { tables = all; store = s })) (sym same)
      (least_tables p is (present_store p past) tables all (ended tables count least) completed)
