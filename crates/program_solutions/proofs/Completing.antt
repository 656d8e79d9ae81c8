-- The tables of the tasks, and that of the initial section, with the store as a pair.
use Rattle.std.specs.Prelude.{◌≡◌, ℕ, ◌<◌, ◌≤◌, List, [], ◌∷◌, ◌++◌, length, get_or, Option, None, IfSome, refl}
use Rattle.std.proofs.Common.{sym, ap, subst, ◌∙◌, inl, inr, arith}
use Rattle.std.proofs.lemmas.Bool.{cases_lt}
use Rattle.std.proofs.lemmas.List.{length_push, get_or_append_left, get_or_push}
use Rattle.tm_lattice.specs.Rounds.{IsHistory, IsClosed}
use Rattle.interfere_set.specs.Stores.{Interferences}
use Rattle.interfere_set.specs.laws.StoreLaws.{store_order, store_join, store_closure}
use Rattle.store_limits.specs.transfer_rows.StateForms.{State}
use Rattle.store_limits.specs.state_fits.laws.PlacesFit.{states_order, states_join}
use Rattle.table_covers.specs.Solutions.{at, IsLeastSolution}
use Rattle.table_covers.specs.laws.WholeLeast as least
use Rattle.store_limits.specs.program_equations.Programs.{ProgramBodies, body_at, HasSection, IsProgram}
use Rattle.store_limits.specs.program_equations.Systems.{states, stores, FitsBody, task_system, section_system}
use Rattle.store_limits.specs.program_equations.Systems.{least_section}
use Rattle.store_limits.specs.program_equations.Systems.{least_local, IsSection, IsSectionBelow, IsLeastSection}
use Rattle.store_limits.specs.program_equations.Solutions.{node_count, links_in, after_in, entry_in, outward_in}
use Rattle.store_limits.specs.program_equations.Solutions.{heads_in, suits_in}
use Rattle.store_limits.specs.program_equations.Solutions.{height_of, limit_in, added_in, passing, IsWholeLeast}
use Rattle.store_limits.specs.program_equations.Solutions.{table_at, tables_of}
use Rattle.store_limits.specs.program_equations.laws.StoresFit.{bottom}
use Rattle.store_limits.specs.program_equations.laws.Lawful.{program_is_lawful}
use Rattle.store_limits.specs.program_equations.laws.Passing.{fitting}
use Rattle.store_limits.specs.program_equations.laws.Tables.{system_is_one}
use Rattle.store_limits.specs.program_equations.laws.WholeTables.{whole_is_one}
use Rattle.store_limits.proofs.Climbing.{quiet_is_closed}
use Rattle.thread_pass.specs.Analyses.{IsSectionTable}
use Rattle.program_reports.specs.post_recheck.Pairs.{Pair, FitsPair}
use Rattle.program_reports.proofs.low.post_recheck.LeastPairs.{least_pair}
use Rattle.program_solutions.specs.LeastReports.{IsLeastPair}
use Rattle.program_solutions.specs.Tables.{AreCompleted, AreLeastTables}
use Rattle.program_solutions.specs.reading.Turns.{HasEnded}

-- where there is no initial section, nothing stands in place of its table
pub no_section : (p : ProgramBodies) → (HasSection p → ⊥) → IsSectionTable p []
no_section p none = record {
  none = λ nothing. refl;
  count = λ has. absurd (none has);
  least = λ has. absurd (none has);
}

module _ (p : ProgramBodies) (is : IsProgram p) where
  module _ (store : Interferences) (tables all : List (List (Option State))) (over : HasEnded p store tables)
      (completed : AreCompleted p tables all) where
    -- with the initial section, or without it
    by_section : (Q : Type 0) → (HasSection p → all ≡ tables ++ (completed.section ∷ []) → Q)
        → ((HasSection p → ⊥) → all ≡ tables → Q) → Q
    by_section Q some none = elim (cases_lt p.tasks (length p.bodies)) [
      | inl has ↦ some has (completed.some has)
      | inr past ↦ none (λ has. omega (arith, past, has)) (completed.none (λ has. omega (arith, past, has)))
    ]

    count : length all ≡ length p.bodies
    count = by_section (length all ≡ length p.bodies)
        (λ has same. (let most = is.section in let tasks = over.count in
        ap length same ∙ length_push tables completed.section ∙ omega (arith, most, tasks, has)))
        (λ none same. ap length same ∙ over.count ∙ all_tasks p.tasks (length p.bodies) is.tasks none)
      where
        all_tasks : (a b : ℕ) → a ≤ b → (a < b → ⊥) → a ≡ b
        all_tasks a b le none = elim (cases_lt a b) [
          | inl less ↦ absurd (none less)
          | inr most ↦ omega (arith, le, most)
        ]

    at_task : (t : ℕ) → t < p.tasks → table_at all t ≡ table_at tables t
    at_task t lt = by_section (table_at all t ≡ table_at tables t)
        (λ has same. ap (λ ts. table_at ts t) same
        ∙ get_or_append_left tables (completed.section ∷ []) [] t (subst (λ n. t < n) (sym over.count) lt))
        (λ none same. ap (λ ts. table_at ts t) same)

    at_section : HasSection p → table_at all p.tasks ≡ completed.section
    at_section has = ap (λ ts. table_at ts p.tasks) (completed.some has)
        ∙ get_or_push tables completed.section [] p.tasks over.count

    -- a body is a task or the initial section
    by_body : (Q : ℕ → Type 0) → ((t : ℕ) → t < p.tasks → Q t) → (HasSection p → Q p.tasks) → (t : ℕ)
        → t < length p.bodies → Q t
    by_body Q task section t lt = elim (cases_lt t p.tasks) [
      | inl below ↦ task t below
      | inr past ↦
          let most = is.section in
          let same : p.tasks ≡ t = omega (arith, past, most, lt) in
          subst Q same (section (subst (λ n. n < length p.bodies) (sym same) lt))
    ]

    nodes : (t : ℕ) → t < length p.bodies → (let b = body_at p t in length (table_at all t) ≡ length b.nodes)
    nodes = by_body (λ t. (let b = body_at p t in length (table_at all t) ≡ length b.nodes))
        (λ t lt. ap length (at_task t lt) ∙ (over.each t lt).least.count)
        (λ has. ap length (at_section has) ∙ completed.is_least.count has)

    abbrev AreFit : ℕ → List (Option State) → Type 0
    AreFit t table = (n : ℕ) → n < (let b = body_at p t in length b.nodes)
        → IfSome (get_or table n None) (FitsBody (body_at p t) n)

    states_fit : (t : ℕ) → t < length p.bodies → AreFit t (table_at all t)
    states_fit = by_body (λ t. AreFit t (table_at all t))
        (λ t lt. subst (AreFit t) (sym (at_task t lt)) (over.each t lt).least.least.solves.fits)
        (λ has. subst (AreFit p.tasks) (sym (at_section has)) (completed.is_least.least has).solves.fits)

    abbrev pair : Pair
    pair = record { tables = all; store = store }

    pub fits : FitsPair p (record { tables = all; store = store })
    fits = record {
      count = count;
      nodes = nodes;
      states = λ t n lt within. states_fit t lt n (subst (λ k. n < k) (nodes t lt) within);
      fits = over.fits;
    }

    section : IsLeastSection p (table_at all p.tasks)
    section has =
        subst (λ table. IsLeastSolution states (FitsBody (body_at p p.tasks)) (section_system p) (at table))
        (sym (at_section has)) (completed.is_least.least has)

    locals : (t : ℕ) → t < p.tasks → IsLeastSolution states (FitsBody (body_at p t))
        (task_system p (table_at all p.tasks) store t) (tables_of all t)
    locals t lt =
        subst (λ sys. IsLeastSolution states (FitsBody (body_at p t)) sys (tables_of all t))
        (sym (system_is_one p is (table_at all p.tasks) section t lt store over.fits))
        (subst (λ table. IsLeastSolution states (FitsBody (body_at p t)) (task_system p (least_section p) store t)
        (at table)) (sym (at_task t lt)) (over.each t lt).least.least)

    pub least_tables : AreLeastTables p (record { tables = all; store = store })
    least_tables = record {
      earlier = over.earlier;
      history = over.history;
      closed = quiet_is_closed p is store over.earlier over.history (λ t lt. (over.each t lt).below);
      fits = fits;
      section = section;
      least = locals;
    }

  -- a closed store that ends a history, with the least tables over it, is the least solution
  closed_is_least : (store : Interferences) (earlier : List Interferences)
      → IsHistory stores passing p (store ∷ earlier) → IsClosed stores passing p store
      → IsWholeLeast p (least_section p) (λ t. least_local p t store) store
  closed_is_least store earlier history closed =
      least.history_is_least states (node_count p) (links_in p) (after_in p) (entry_in p) (outward_in p) (heads_in p)
      (suits_in p) (height_of p) (limit_in p) (added_in p) stores passing p (IsSectionBelow p) (IsSection p)
      (least_section p) (least_local p) states_order states_join store_order store_join store_closure (fitting p is)
      (bottom p.marks) (program_is_lawful p is) store earlier history closed

  module _ (pair : Pair) (are : AreLeastTables p pair) where
    pub least_pair_is : IsLeastPair p pair
    least_pair_is = record {
      fits = are.fits;
      solution = least_pair p is pair are.fits are.closed are.section are.least;
      least = whole_is_one p is (table_at pair.tables p.tasks) are.section pair.store (tables_of pair.tables) are.least
          (closed_is_least pair.store are.earlier are.history are.closed);
    }
