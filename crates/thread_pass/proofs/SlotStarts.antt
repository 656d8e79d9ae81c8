-- What stood at the variables of a task, by the equations of its body.
use Rattle.std.specs.Prelude.{◌≡◌, ℕ, ◌<◌, List, length, get_or, Option, Some, None, IfSome}
use Rattle.std.proofs.Common.{sym, ap, subst, ◌∙◌, arith}
use Rattle.std.specs.Prelude.{option_map}
use Rattle.interfere_set.specs.Stores.{Interferences, IsStoreBelow}
use Rattle.program_equality.specs.transfer_rows.StateForms.{State}
use Rattle.program_equality.specs.state_fits.Fits.{FitsStore}
use Rattle.table_covers.specs.Solutions.{NodeTable, at}
use Rattle.least_tables.specs.Settling.{IsVisited}
use Rattle.body_slots.specs.Slots.{Slots, AreSlotsOf}
use Rattle.body_slots.specs.Rows.{Stand}
use Rattle.body_slots.specs.Starts.{AreLeastValues}
use Rattle.program_equality.specs.task_equations.Bodies.{Body}
use Rattle.program_equality.specs.task_equations.Equations.{equations_of}
use Rattle.program_equality.specs.program_equations.Programs.{ProgramBodies, body_at, IsProgram, IsNumbered}
use Rattle.program_equality.specs.program_equations.Systems.{states, FitsBody, FitsProgram, task_entry, least_section}
use Rattle.thread_pass.specs.Kept.{AreVisitsOf, AreToldUnless}
use Rattle.thread_pass.specs.Starts.{StartOf, AreBodyValues, IsBodyStart, AreTaskValues, IsTaskStart}
use Rattle.thread_pass.proofs.TaskTables.{in_bodies, visits_are}

module _ (p : ProgramBodies) (is : IsProgram p) (t : ℕ) (lt : t < p.tasks) (b : Body) (entry : Option State)
    (store given : Interferences) (b-is : b ≡ body_at p t) (entry-is : entry ≡ task_entry p (least_section p) t)
    (store-is : given ≡ store) (fits : FitsProgram p store) where
  abbrev first : Option State
  first = task_entry p (least_section p) t

  numbered : IsNumbered p t (body_at p t)
  numbered = (let each = is.each t (in_bodies p is t lt) in each.numbered)

  -- ## Over this store

  -- what stands at the variables of the body does so at those of the task
  of_body : (own : Option Slots) (values : List (Option Stand)) → AreBodyValues b entry given own values
      → AreBodyValues (body_at p t) first store own values
  of_body own values h = subst (λ s. AreBodyValues (body_at p t) first s own values) store-is
      (subst (λ o. AreBodyValues (body_at p t) o given own values) entry-is
      (subst (λ x. AreBodyValues x entry given own values) b-is h))

  pub first_start : (each : List (Option Slots)) (own : Option Slots) → own ≡ get_or each t None
      → (values : Option (List (Option Stand))) → IfSome values (AreBodyValues b entry given own)
      → (start : Option StartOf) → start ≡ option_map (λ v. record { slots = each; values = v }) values
      → IfSome start (AreTaskValues p t store)
  first_start each own own-is None h start is-start =
      subst (λ s. IfSome s (AreTaskValues p t store)) (sym is-start) tt
  first_start each own own-is (Some values) h start is-start =
      subst (λ s. IfSome s (AreTaskValues p t store)) (sym is-start)
      (subst (λ o. AreBodyValues (body_at p t) first store o values) own-is (of_body own values h))

  pub next_start : (start : Option StartOf)
      → IfSome start (λ s. AreBodyValues b entry given (get_or s.slots t None) s.values)
      → IfSome start (AreTaskValues p t store)
  next_start None h = tt
  next_start (Some s) h = of_body (get_or s.slots t None) s.values h

  -- ## Over a store below it

  start_by : (before : Interferences) → FitsProgram p before → IsStoreBelow before store → (own : Option Slots)
      → (values : List (Option Stand)) → AreBodyValues (body_at p t) first before own values
      → IsBodyStart b entry given own values
  start_by before before-fits below None values h = h
  start_by before before-fits below (Some k) values h =
      let laid = ap (λ (x : Body). x.laid) b-is ∙ numbered.laid in
      let priorities = ap (λ (x : Body). length x.priorities) b-is ∙ ap length numbered.priorities in
      let count = is.priorities in (
        subst (λ x. AreSlotsOf x k) (sym b-is) h.0,
        record {
          before = before;
          tasks = p.tasks;
          fits = subst (λ l. FitsStore l p.tasks before) (sym laid) before-fits;
          writers = omega (arith, priorities, count);
          below = subst (IsStoreBelow before) (sym store-is) below;
          values = subst (λ x. AreLeastValues x entry before k values) (sym b-is)
              (subst (λ o. AreLeastValues (body_at p t) o before k values) (sym entry-is) h.1);
        },
      )

  -- what stood at the variables of the task did so at those of the body
  pub body_starts : (start : Option StartOf) → IfSome start (IsTaskStart p t store)
      → IfSome start (λ s. IsBodyStart b entry given (get_or s.slots t None) s.values)
  body_starts None h = tt
  body_starts (Some s) h =
      start_by h.before h.before_fits h.before_below (get_or s.slots t None) s.values h.values

  -- and how many edges were applied
  pub next_visits_are : (start : Option StartOf) (visits : Option ℕ) (before : NodeTable State)
      (table : List (Option State))
      → AreToldUnless start visits (λ v. IsVisited states (FitsBody b) (equations_of b entry given) v before (at table))
      → AreToldUnless start visits (λ v. AreVisitsOf p t store v before table)
  next_visits_are None None before table h = h
  next_visits_are None (Some v) before table h =
      visits_are p is t lt b entry store given b-is entry-is store-is fits v before table h
  next_visits_are (Some s) None before table h = h
  next_visits_are (Some s) (Some v) before table h =
      visits_are p is t lt b entry store given b-is entry-is store-is fits v before table h
