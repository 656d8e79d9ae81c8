-- What is read of the body with a number.
use Rattle.std.proofs.Common.{◌≡◌, ◌↔◌, ◌⊎◌, inl, inr, ℕ, ◌<◌, ap, sym, subst, ◌∙◌, Bool, true, List, length, get_or}
use Rattle.std.proofs.Common.{Option, arith}
use Rattle.std.specs.Prelude.{nat_lt}
use Rattle.std.specs.declared.vec.Vec.{Vec}
use Rattle.std.proofs.lemmas.Bool.{ltb-true, lt-ltb}
use Rattle.tm_terms.specs.declared.alarms.Alarm.{Alarm}
use Rattle.flow_graph.specs.declared.graphs.Graph.{Graph}
use Rattle.mutex_configs.specs.declared.nodes.ConfiguredGraph.{ConfiguredGraph}
use Rattle.mutex_configs.specs.declared.programs.Program.{Program}
use Rattle.interfere_set.specs.Stores.{Interferences}
use Rattle.post_recheck.specs.transfer_rows.StateForms.{State}
use Rattle.post_recheck.specs.table_covers.Solutions.{at}
use Rattle.post_recheck.specs.task_equations.Bodies.{Body}
use Rattle.post_recheck.specs.program_equations.Programs.{ProgramBodies, body_at, IsProgram}
use Rattle.post_recheck.specs.program_equations.Solutions.{table_at, tables_of}
use Rattle.post_recheck.specs.program_systems.Analysable.{IsAnalysable}
use Rattle.post_recheck.specs.program_systems.ProgramFacts.{AllFacts, AreProgramFacts, program_with}
use Rattle.post_recheck.proofs.low.program_systems.Bodies.{is_program, is_program_of, body_count}
use Rattle.post_recheck.specs.Pairs.{FitsPair, lists_of, pair_of}
use Rattle.post_recheck.proofs.Found.{table_read, tables_counted}
use Rattle.access_races.specs.declared.accesses.Access.{Access}
use Rattle.access_races.proofs.Joins.{either}
use Rattle.program_reports.specs.declared.copies.BodyParts.{BodyParts}
use Rattle.program_reports.specs.reading.Found.{IsAlarmBelow, IsAccessBelow}
use Rattle.program_reports.specs.reading.Parts.{ArePartsOf, FitsTable}
use Rattle.program_reports.specs.reading.Bodies.{IsAlarmOf, IsAccessOf}

module _ (program : Program) (facts : AllFacts) (analysable : IsAnalysable program)
    (computed : AreProgramFacts program facts) (t : ℕ)
    (lt : t < (let p = program_with program facts in length p.bodies)) where
  abbrev p : ProgramBodies
  p = program_with program facts

  is : IsProgram p
  is = is_program program facts analysable computed

  count : length p.bodies ≡ length program.graphs.graphs.items
  count = body_count program facts analysable computed

  pub in_graphs : t < length program.graphs.graphs.items
  in_graphs = subst (λ n. t < n) count lt

  pub in_configured : t < length program.configured.items
  in_configured = subst (λ n. t < n) (count ∙ sym analysable.count) lt

  pub in_priorities : t < length facts.priorities
  in_priorities = let same = is.priorities in let most = is.section in omega (arith, lt, same, most)

  module _ (b : Body) (b-is : b ≡ body_at p t) (parts : BodyParts) (g : Graph) (c : ConfiguredGraph)
      (g-is : g ≡ get_or program.graphs.graphs.items t g) (c-is : c ≡ get_or program.configured.items t c)
      (edges : parts.edges.now ≡ g.edges.items) (nodes : parts.nodes.now ≡ c.nodes.keys)
      (copies : parts.copies.now ≡ c.copies.items) (number : parts.number ≡ t)
      (priority : parts.priority ≡ get_or facts.priorities t 0) where
    here : ArePartsOf (body_at p t) parts
    here =
        let all = is_program_of program facts analysable computed in
        let numbered = all.numbered t lt in
        let read = all.bodies t g c lt in record {
          edges = edges ∙ ap (λ (x : Graph). x.edges.items) g-is ∙ sym read.edges;
          nodes = nodes ∙ ap (λ (x : ConfiguredGraph). x.nodes.keys) c-is ∙ sym read.nodes;
          copies = copies ∙ ap (λ (x : ConfiguredGraph). x.copies.items) c-is ∙ sym read.copies;
          number = number ∙ sym numbered.number;
          priority = priority
              ∙ ap (λ n. get_or facts.priorities n 0) (sym numbered.number)
              ∙ ap (λ ps. get_or ps (body_at p t).task 0) (sym numbered.priorities);
          each = λ k within. (is.each t lt).body.copies k within;
        }

    pub parts_are : ArePartsOf b parts
    parts_are = subst (λ x. ArePartsOf x parts) (sym b-is) here

  module _ {A : Type 0} (tables : List (Vec (Option State) A)) (store : Interferences)
      (fits : FitsPair p (pair_of tables store)) where
    pub in_tables : t < length tables
    in_tables = tables_counted tables t (subst (λ n. t < n) (sym fits.count) lt)

    -- the table that stands there
    pub table_is : (v : Vec (Option State) A) → v ≡ get_or tables t v → (table : List (Option State))
        → table ≡ v.items → table ≡ table_at (lists_of tables) t
    table_is v is table same = same ∙ ap (λ u. u.items) is ∙ sym (table_read tables t v in_tables)

    module _ (b : Body) (b-is : b ≡ body_at p t) (table : List (Option State))
        (table-is : table ≡ table_at (lists_of tables) t) where
      pub table_fits : FitsTable b table
      table_fits =
          subst (λ x. FitsTable x table) (sym b-is)
          (subst (λ ts. FitsTable (body_at p t) ts) (sym table-is)
          (record { count = fits.nodes t lt; fits = λ n within. fits.states t n lt within }))

      module _ (n : ℕ) (n-is : n ≡ length b.copies) where
        pub of_same : (F : Body → List (Option State) → ℕ → Type 0) → F b table n
            → F (body_at p t) (table_at (lists_of tables) t) (let x = body_at p t in length x.copies)
        of_same F h =
            subst (λ x. F x (table_at (lists_of tables) t) (length x.copies)) b-is
            (subst (λ ts. F b ts (length b.copies)) table-is (subst (λ m. F b table m) n-is h))

        pub alarm_of : {N O : Type 0} (a : Alarm) → (N ↔ (O ⊎ IsAlarmBelow b (at table) n a))
            → (N ↔ (O ⊎ IsAlarmOf p (tables_of (lists_of tables)) t a))
        alarm_of {N} {O} a h = of_same (λ x ts m. N ↔ (O ⊎ IsAlarmBelow x (at ts) m a)) h

        pub access_of : {N O : Type 0} (is_task : Bool) → is_task ≡ nat_lt t p.tasks → (x : Access)
            → (N ↔ (O ⊎ ((is_task ≡ true) × IsAccessBelow b (at table) n x)))
            → (N ↔ (O ⊎ IsAccessOf p (tables_of (lists_of tables)) t x))
        access_of {N} {O} is_task task-is x h =
            let same : N ↔ (O ⊎ ((is_task ≡ true)
            × IsAccessBelow (body_at p t) (tables_of (lists_of tables) t) (let y = body_at p t in length y.copies) x)) =
            of_same (λ y ts m. N ↔ (O ⊎ ((is_task ≡ true) × IsAccessBelow y (at ts) m x))) h in (
              λ new. either (λ o. inl o) (λ g. inr (ltb-true t p.tasks (sym task-is ∙ g.0), g.1)) (same.0 new),
              λ s. same.1 (either (λ o. inl o) (λ g. inr (task-is ∙ lt-ltb t p.tasks g.0, g.1)) s),
            )
