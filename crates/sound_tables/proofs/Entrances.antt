-- Where tasks begin: with what memory holds at first, or with what the initial section leaves.
use Rattle.std.specs.Prelude.{◌≡◌, ◌⊎◌, ℕ, ◌<◌, ◌≤◌, cond, List, length, get_or, Option}
use Rattle.std.specs.Prelude.{Some}
use Rattle.std.specs.Prelude.{None}
use Rattle.std.proofs.Common.{refl, ap, inl, inr}
use Rattle.std.proofs.lemmas.Bool.{cases_lt}
use Rattle.program_shape.specs.flow_graph.Operations.{Temps}
use Rattle.program_reports.specs.interfere_set.Stores.{no_interference}
use Rattle.program_reports.specs.transfer_rows.StateForms.{State}
use Rattle.program_reports.specs.table_covers.Solutions.{at}
use Rattle.program_reports.specs.program_equations.Programs.{ProgramBodies, body_at, HasSection}
use Rattle.program_reports.specs.program_equations.Entries.{first_state, later_state, ended}
use Rattle.program_reports.specs.program_equations.Systems.{task_entry}
use Rattle.program_reports.specs.program_equations.Solutions.{tables_of as lists_of, table_at}
use Rattle.program_reports.specs.program_equations.laws.TaskEntries.{first_fits}
use Rattle.program_reports.specs.program_equations.laws.StoresFit.{nothing_fits}
use Rattle.program_shape.specs.tm_soundness.Numbered.{TaskOf}
use Rattle.program_shape.specs.Shape.{number_of, section_of}
use Rattle.sound_tables.specs.Programs.{parts_of}
use Rattle.sound_tables.specs.Memberships.{section_tables}
use Rattle.sound_tables.specs.Laws.{TasksEnter, IsHandedOver, by_end, by_nothing, HoldsNothing}
use Rattle.sound_tables.specs.Laws.{SectionsHandOver}
use Rattle.sound_tables.specs.Laws.{OperationsMean}
use Rattle.sound_tables.proofs.Covering.{not_below}
use Rattle.sound_tables.proofs.Pairs.{within, entry, entry-fits, solves, weak, sync}
use Rattle.sound_tables.proofs.Entered.{first_entered}
use Rattle.sound_tables.proofs.Handing.{never_ends, handed_over}
use Rattle.sound_tables.proofs.Nothing.{found_none, nothing_solves, nothing_handed}
use Rattle.sound_tables.proofs.Lawful.{in_bodies}
use Rattle.sound_tables.proofs.Meaningful.{have_meanings}

abbrev rank_of : ProgramBodies → ℕ → ℕ
rank_of p t = get_or p.priorities t 0

begins_first : (p : ProgramBodies) (section : List (Option State)) → (HasSection p → ⊥) → (t : ℕ)
    → task_entry p section t ≡ Some (first_state p.laid t)
begins_first p section none t = by_case (cases_lt p.tasks (length p.bodies))
  where
    by_case : (p.tasks < length p.bodies) ⊎ (length p.bodies ≤ p.tasks)
        → task_entry p section t ≡ Some (first_state p.laid t)
    by_case (inl has) = absurd (none has)
    by_case (inr most) =
        ap (λ b. cond b (later_state p.laid t (ended (body_at p p.tasks) (at section))) (Some (first_state p.laid t)))
        (not_below p.tasks (length p.bodies) most)

pub tasks_enter : TasksEnter
tasks_enter p is f tables store pair none memory start =
    let section = table_at tables p.tasks in
    let graphs = λ (i : TaskOf p.tasks). f.graphs (number_of p.tasks i) (in_bodies p is i) in
    let whole = pair.solves in
    first_entered p is p.tasks (number_of p.tasks) (rank_of p)
    (within p is section (lists_of tables) store whole graphs) graphs (lists_of tables) store whole.fits
    (entry p is section (lists_of tables) store whole graphs)
    (entry-fits p is section (lists_of tables) store whole graphs)
    (solves p is section (lists_of tables) store whole graphs) f.cells
    (weak p is section (lists_of tables) store whole graphs) (sync p is section (lists_of tables) store whole graphs)
    memory (λ i. begins_first p section none (number_of p.tasks i)) start

pub sections_hand_over : SectionsHandOver
sections_hand_over p is f tables store pair has memory start = (
  let whole = pair.solves in
      first_entered p is 1 (λ i. p.tasks) (λ t. 0) (λ i. has) (λ i. f.graphs p.tasks has) (lists_of tables)
      no_interference (nothing_fits p.laid p.tasks) (λ i. Some (first_state p.laid p.tasks))
      (λ i. first_fits p is p.tasks has) (λ i. whole.begins has) f.cells (λ j l x v. Unit {0}) (λ j m x v. Unit {0})
      memory (λ i. refl) start,
  λ main_temps temps. by_option main_temps temps (ended (body_at p p.tasks) (at (table_at tables p.tasks))) refl,
)
  where
    by_option : (main_temps : Temps) (temps : TaskOf p.tasks → Temps) (a : Option State)
        → ended (body_at p p.tasks) (at (table_at tables p.tasks)) ≡ a
        → IsHandedOver p (lists_of tables) store memory main_temps temps
    by_option main_temps temps (Some z) e =
        by_end (handed_over p is has (table_at tables p.tasks) (lists_of tables) refl store pair.solves
        (λ i. f.graphs (number_of p.tasks i) (in_bodies p is i)) z e f.cells memory start.locals main_temps temps)
    by_option main_temps temps None e =
        by_nothing (nothing_handed p p.tasks (number_of p.tasks) (rank_of p) (λ j l x v. Unit {0})
        (λ j m x v. Unit {0}) (section_of (parts_of p) p.tasks) (section_tables p (lists_of tables)) memory main_temps
        temps (λ q t ends h. never_ends p is has (table_at tables p.tasks) (lists_of tables) refl store pair.solves
        (λ i. f.graphs (number_of p.tasks i) (in_bodies p is i)) e q h.state ends h.is))

pub holds_nothing : (p : ProgramBodies) → HoldsNothing p
holds_nothing p = record {
  solution = nothing_solves p p.tasks (number_of p.tasks) (rank_of p) (λ j l x v. Unit {0}) (λ j m x v. Unit {0});
  classes = λ e class h. found_none _ _ h;
  races = λ e g r. found_none _ _ r.one_reached.1;
}

pub operations_mean : OperationsMean
operations_mean p is t lt graph regular = have_meanings p is t lt graph regular
