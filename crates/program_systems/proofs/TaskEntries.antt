-- Where tasks begin, with and without an initial section.
use Rattle.std.specs.Prelude.{◌≡◌, ℕ, ◌<◌, nat_lt, Bool, true, false, List, [], length, get_or, Option, Some, ◌≤◌, refl, Result, Ok, Err, IfOk}
use Rattle.std.proofs.Common.{sym, ap, subst, ◌∙◌, arith}
use Rattle.std.proofs.lemmas.List.{get_or_default}
use Rattle.mutex_configs.specs.tm_laid.Layouts.{laid_tree}
use Rattle.entry_states.proofs.low.edge_actions.Lists.{lt_from, lt_test}
use Rattle.mutex_configs.specs.flow_graph.declared.graphs.Graph.{Graph}
use Rattle.mutex_configs.specs.declared.nodes.ConfiguredGraph.{ConfiguredGraph}
use Rattle.mutex_configs.specs.declared.programs.Program.{Program}
use Rattle.entry_states.specs.transfer_rows.StateForms.{State}
use Rattle.entry_states.specs.table_covers.Solutions.{at}
use Rattle.entry_states.specs.task_equations.Bodies.{Body}
use Rattle.entry_states.specs.program_equations.Readings.{read_layout}
use Rattle.entry_states.specs.program_equations.Programs.{ProgramBodies, body_at}
use Rattle.entry_states.specs.program_equations.Entries.{first_state, later_state, ended_in}
use Rattle.entry_states.specs.program_equations.Systems.{entry_after, task_entry}
use Rattle.entry_states.specs.body_systems.Facts.{Facts}
use Rattle.program_systems.specs.Analysable.{IsAnalysable}
use Rattle.program_systems.specs.ProgramFacts.{AllFacts, program_with, AreProgramFacts}
use Rattle.program_systems.proofs.Bodies.{body_count, body_is}

-- what holds of each answer holds of this one
pub if_ok : {A E : Type 0} {P Q : A → Type 0} (r : Result A E) → ((v : A) → P v → Q v) → IfOk r P → IfOk r Q
if_ok (Ok v) f h = f v h
if_ok (Err e) f h = tt

-- what is read at a number is what a list has there
pub read_at : {A : Type 0} (xs : List A) (k n : ℕ) (x : A) → k ≡ n → k < length xs → x ≡ get_or xs k x → (d : A)
    → get_or xs n d ≡ x
read_at xs k n x same within read d =
    ap (λ j. get_or xs j d) (sym same) ∙ sym (read ∙ get_or_default xs k x d within)

module _ (program : Program) (facts : AllFacts) (analysable : IsAnalysable program)
    (are : AreProgramFacts program facts) where
  abbrev p : ProgramBodies
  p = program_with program facts

  -- how many bodies there are, as the facts count them
  pub counted : length facts.bodies ≡ length p.bodies
  counted = are.count ∙ sym (body_count program facts analysable are)

  has_no : (section : List (Option State)) (t : ℕ) → (length facts.bodies ≤ p.tasks) → (has : Bool)
      → nat_lt p.tasks (length p.bodies) ≡ has
      → Some (first_state (read_layout (laid_tree program.laid)) t) ≡ entry_after has p section t
  has_no section t none true e = absurd (let there = lt_from p.tasks (length p.bodies) e in omega (arith, none, counted, there))
  has_no section t none false e = refl

  -- without an initial section
  pub begins_first : (section : List (Option State)) (t : ℕ) → length facts.bodies ≤ p.tasks
      → Some (first_state (read_layout (laid_tree program.laid)) t) ≡ task_entry p section t
  begins_first section t none = has_no section t none (nat_lt p.tasks (length p.bodies)) refl

  -- the nodes of the initial section
  pub section_is : (g : Graph) (c : ConfiguredGraph) → p.tasks < length facts.bodies
      → ((d : Graph) → get_or program.graphs.graphs.items p.tasks d ≡ g)
      → ((d : ConfiguredGraph) → get_or program.configured.items p.tasks d ≡ c)
      → (let b = body_at p p.tasks in (b.edges ≡ g.edges.items) × (b.nodes ≡ c.nodes.keys))
  section_is g c has g-is c-is =
      let f : Facts = record { links = []; live = []; pointer_marks = []; heads = []; written = [] } in
      let is = body_is program facts analysable are p.tasks g c f (subst (λ n. p.tasks < n) counted has) in (
        ap (λ (b : Body). b.edges) is ∙ ap (λ (x : Graph). x.edges.items) (g-is g),
        ap (λ (b : Body). b.nodes) is ∙ ap (λ (x : ConfiguredGraph). x.nodes.keys) (c-is c),
      )

  -- after an initial section, of which this is a table
  pub begins_later : (section : List (Option State)) (t : ℕ) (g : Graph) (c : ConfiguredGraph)
      → p.tasks < length facts.bodies
      → ((d : Graph) → get_or program.graphs.graphs.items p.tasks d ≡ g)
      → ((d : ConfiguredGraph) → get_or program.configured.items p.tasks d ≡ c)
      → later_state (read_layout (laid_tree program.laid)) t (ended_in g.edges.items c.nodes.keys (at section))
      ≡ task_entry p section t
  begins_later section t g c has g-is c-is =
      let same = section_is g c has g-is c-is in
      let later = later_state (read_layout (laid_tree program.laid)) t in
      ap (λ es. later (ended_in es c.nodes.keys (at section))) (sym same.0)
      ∙ ap (λ ns. later (ended_in (body_at p p.tasks).edges ns (at section))) (sym same.1)
      ∙ ap (λ b. entry_after b p section t) (sym (lt_test p.tasks (length p.bodies) (subst (λ n. p.tasks < n) counted has)))
