-- What a pair that fits gives: its tables fit, the entries of the tasks do, and the equations of each body are a system
-- of equations.
use Rattle.std.proofs.Common.{◌≡◌, ℕ, ◌<◌, ◌≤◌, nat_lt, Bool, true, false, cond, List, length, Option}
use Rattle.std.proofs.Common.{IfSome, refl, inl, inr}
use Rattle.std.proofs.Common.{sym, ap, subst, ◌∙◌, arith}
use Rattle.std.proofs.lemmas.Bool.{cases_lt, false≢true}
use Rattle.shared_programs.proofs.low.edge_actions.Lists.{lt_from, lt_test}
use Rattle.shared_programs.specs.transfer_rows.StateForms.{State}
use Rattle.table_covers.specs.Systems.{System, IsLawfulSystem}
use Rattle.table_covers.specs.Solutions.{at, AreFitting, IsFirstUncovered}
use Rattle.table_covers.specs.declared.covers.Uncovered.{Uncovered}
use Rattle.table_covers.specs.declared.covers.Uncovered.TheVariants.{Entry as the_entry}
use Rattle.table_covers.specs.declared.covers.Uncovered.TheVariants.{Edge as the_edge}
use Rattle.table_covers.proofs.Rechecks.{entry_covered, edge_covered}
use Rattle.shared_programs.specs.state_fits.laws.PlacesFit.{states_order, states_join}
use Rattle.shared_programs.specs.program_equations.Programs.{ProgramBodies, body_at, IsProgram}
use Rattle.shared_programs.specs.program_equations.Entries.{first_state, ended}
use Rattle.shared_programs.specs.program_equations.Systems.{states, FitsBody, section_system, entry_after, task_entry}
use Rattle.shared_programs.specs.program_equations.Systems.{task_system}
use Rattle.shared_programs.specs.program_equations.Solutions.{table_at, tables_of, system_at, IsSolvedAt}
use Rattle.shared_programs.specs.program_equations.laws.Fitting.{body_is_lawful}
use Rattle.shared_programs.specs.program_equations.laws.Sections.{section_is_lawful}
use Rattle.shared_programs.specs.program_equations.laws.TaskEntries.{first_fits, ended_ends, begins_later}
use Rattle.post_recheck.specs.Pairs.{Pair, FitsPair}

module _ (p : ProgramBodies) (is : IsProgram p) (pair : Pair) (fits : FitsPair p pair) where
  abbrev table : ℕ → List (Option State)
  table t = table_at pair.tables t

  pub table_fits : (t : ℕ) → t < length p.bodies → (n : ℕ) → n < (let b = body_at p t in length b.nodes)
      → IfSome (at (table t) n) (FitsBody (body_at p t) n)
  table_fits t lt n within = fits.states t n lt (subst (λ k. n < k) (sym (fits.nodes t lt)) within)

  -- ## Entries

  entry_by : (t : ℕ) → t < length p.bodies → (has : Bool) → nat_lt p.tasks (length p.bodies) ≡ has
      → IfSome (entry_after has p (table p.tasks) t) (FitsBody (body_at p t) 0)
  entry_by t lt true e =
      let has = lt_from p.tasks (length p.bodies) e in
      let end = ended (body_at p p.tasks) (at (table p.tasks)) in
      begins_later p is t lt end (ended_ends p is p.tasks has (at (table p.tasks)) (table_fits p.tasks has))
  entry_by t lt false e = first_fits p is t lt

  -- after a table of the initial section that fits, a task begins in a state that fits
  pub entry_fits : (t : ℕ) → t < length p.bodies → IfSome (task_entry p (table p.tasks) t) (FitsBody (body_at p t) 0)
  entry_fits t lt = entry_by t lt (nat_lt p.tasks (length p.bodies)) refl

  -- ## Systems

  -- a body that is no task's is the initial section
  pub is_section : (t : ℕ) → t < length p.bodies → p.tasks ≤ t → t ≡ p.tasks
  is_section t lt past = let most = is.section in omega arith

  -- it begins in a state that fits
  pub begins_fit : (t : ℕ) → t < length p.bodies → p.tasks ≤ t → (s : State) → s ≡ first_state p.laid p.tasks
      → FitsBody (body_at p t) 0 s
  begins_fit t lt past s e =
      let same = is_section t lt past in
      subst (FitsBody (body_at p t) 0) (sym (e ∙ ap (first_state p.laid) (sym same))) (first_fits p is t lt)

  past_tasks : (t : ℕ) → nat_lt t p.tasks ≡ false → p.tasks ≤ t
  past_tasks t e = elim (cases_lt t p.tasks) [
    | inl lt ↦ absurd (false≢true (sym e ∙ lt_test t p.tasks lt))
    | inr past ↦ omega (arith, past)
  ]

  abbrev chosen : Bool → ℕ → System State
  chosen b t = cond b (task_system p (table p.tasks) pair.store t) (section_system p)

  pub task_is : (t : ℕ) → t < p.tasks
      → system_at p pair.tables pair.store t ≡ task_system p (table p.tasks) pair.store t
  task_is t lt = ap (λ b. chosen b t) (lt_test t p.tasks lt)

  pub not_below : (t : ℕ) → (b : Bool) → nat_lt t p.tasks ≡ b → p.tasks ≤ t → b ≡ false
  not_below t true e past = let lt = lt_from t p.tasks e in absurd (omega (arith, lt, past))
  not_below t false e past = refl

  pub section_is : (t : ℕ) → p.tasks ≤ t → system_at p pair.tables pair.store t ≡ section_system p
  section_is t past = ap (λ b. chosen b t) (not_below t (nat_lt t p.tasks) refl past)

  lawful_by : (t : ℕ) → t < length p.bodies → (b : Bool) → nat_lt t p.tasks ≡ b
      → IsLawfulSystem states.is_value states.leq states.joined (FitsBody (body_at p t)) (chosen b t)
  lawful_by t lt true e =
      body_is_lawful p is t lt (task_entry p (table p.tasks) t) pair.store fits.fits (entry_fits t lt)
  lawful_by t lt false e =
      let same = is_section t lt (past_tasks t e) in
      subst (λ k. IsLawfulSystem states.is_value states.leq states.joined (FitsBody (body_at p k)) (section_system p))
      (sym same) (section_is_lawful p is (subst (λ k. k < length p.bodies) same lt))

  pub system_is_lawful : (t : ℕ) → t < length p.bodies
      → IsLawfulSystem states.is_value states.leq states.joined (FitsBody (body_at p t))
      (system_at p pair.tables pair.store t)
  system_is_lawful t lt = lawful_by t lt (nat_lt t p.tasks) refl

  nodes_by : (t : ℕ) → t < length p.bodies → (b : Bool) → nat_lt t p.tasks ≡ b
      → (let sys = chosen b t in let body = body_at p t in sys.node_count ≡ length body.nodes)
  nodes_by t lt true e = refl
  nodes_by t lt false e = ap (λ k. let b = body_at p k in length b.nodes) (sym (is_section t lt (past_tasks t e)))

  pub are_fitting : (t : ℕ) → t < length p.bodies
      → AreFitting states (FitsBody (body_at p t)) (system_at p pair.tables pair.store t) (tables_of pair.tables t)
  are_fitting t lt n within =
      table_fits t lt n (subst (λ k. n < k) (nodes_by t lt (nat_lt t p.tasks) refl) within)

  -- ## What is not covered is no solution

  -- a body that has a first edge that is not covered is not solved
  pub not_solved : (t : ℕ) → t < length p.bodies → (first : Uncovered) → IsSolvedAt p pair.tables pair.store t
      → IsFirstUncovered states (FitsBody (body_at p t)) (system_at p pair.tables pair.store t)
      (tables_of pair.tables t) first → ⊥
  not_solved t lt the_entry solved uncovered =
      uncovered (entry_covered states (FitsBody (body_at p t)) (system_at p pair.tables pair.store t) states_order
      states_join (system_is_lawful t lt) (tables_of pair.tables t) (are_fitting t lt) solved)
  not_solved t lt (the_edge e) solved uncovered =
      uncovered.3 (edge_covered states (FitsBody (body_at p t)) (system_at p pair.tables pair.store t) states_order
      states_join (system_is_lawful t lt) (tables_of pair.tables t) (are_fitting t lt) solved e uncovered.1)
