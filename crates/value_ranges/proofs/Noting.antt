-- What is noted of the states of tables, and of everything.
use Rattle.std.proofs.Common.{◌≡◌, ◌⊎◌, ℕ, ◌<◌, sym, ap, subst, ◌∙◌, inl, inr, Bool, true, false, List, length}
use Rattle.std.proofs.Common.{get_or, Option, Some, None}
use Rattle.std.proofs.lemmas.Bool.{true≢false}
use Rattle.std.specs.Prelude.{ℤ}
use Rattle.std.specs.FinMap.{entries}
use Rattle.tm_laid.specs.Layouts.{LaidTree}
use Rattle.flow_graph.specs.declared.graphs.Graph.{Graph}
use Rattle.flow_graph.specs.Graphs.{Edges}
use Rattle.mutex_configs.specs.declared.nodes.ConfiguredGraph.{ConfiguredGraph}
use Rattle.mutex_configs.specs.declared.nodes.EdgeCopy.{EdgeCopy}
use Rattle.mutex_configs.specs.declared.programs.Program.{Program}
use Rattle.interfere_set.specs.Stores.{Nested}
use Rattle.program_reports.specs.post_recheck.transfer_rows.StateForms.{State, own_of}
use Rattle.program_reports.specs.post_recheck.table_covers.Solutions.{at}
use Rattle.program_reports.specs.post_recheck.task_equations.Bodies.{Body, no_copy}
use Rattle.program_reports.specs.post_recheck.program_equations.Programs.{ProgramBodies, body_at}
use Rattle.program_reports.specs.post_recheck.body_systems.Facts.{Facts}
use Rattle.program_reports.specs.post_recheck.program_systems.Analysable.{IsAnalysable}
use Rattle.program_reports.specs.post_recheck.program_systems.ProgramFacts.{AllFacts, AreProgramFacts, read_body}
use Rattle.program_reports.specs.post_recheck.program_systems.ProgramFacts.{read_with, program_with}
use Rattle.program_reports.specs.post_recheck.program_systems.ReadPrograms.{body_from}
use Rattle.program_reports.proofs.low.program_systems.Bodies.{body_count, body_is}
use Rattle.value_ranges.specs.declared.cells.IntegerCell.{IntegerCell}
use Rattle.value_ranges.specs.declared.object_bounds.Grouping.{Grouping}
use Rattle.value_ranges.specs.Ranges.{key_count}
use Rattle.value_ranges.specs.reading.Notes.{Noted, noted_at, IsWidened, AreWidened, AreIntegerCells, IsFirstBelow}
use Rattle.value_ranges.specs.reading.Notes.{IsInValues, IsInNode, IsInNoted, IsInRaised, IsInTables, IsInWeak}
use Rattle.value_ranges.specs.reading.Notes.{AreNotedIn, IsInParts, IsInTable, raised_to}
use Rattle.value_ranges.proofs.Widening.{all_as, noted_both}
use Rattle.value_ranges.proofs.Listing.{Some_number}

Some_state : (s t : State) → Some s ≡ Some t → s ≡ t
Some_state s t e = cc

module _ (cells : List IntegerCell) (table : List (Option State)) (node : ℕ) where
  pub node_noted : (s : State) → at table node ≡ Some s → (a b : List Noted)
      → AreWidened (λ o n. IsInValues cells (own_of s) o n) a b → AreWidened (λ o n. IsInNode cells table o n node) a b
  node_noted s e a b p =
      all_as (λ o n. IsInValues cells (own_of s) o n) (λ o n. IsInNode cells table o n node) a b
      (λ o n h. record { state = s; is = e; has = h })
      (λ o n h. subst (λ t. IsInValues cells (own_of t) o n) (Some_state h.state s (sym h.is ∙ e)) h.has) p

  pub node_silent : at table node ≡ None → (o : ℕ) (n : ℤ) → IsInNode cells table o n node → ⊥
  node_silent e o n h = let clash : None ≡ Some h.state = sym e ∙ h.is in absurd cc

module _ (cells : List IntegerCell) (looks : ℕ → Bool) (table : List (Option State)) (node : ℕ) where
  -- a node that is looked at, and one that is not
  pub looked_noted : looks node ≡ true → (a b : List Noted) → AreWidened (λ o n. IsInNode cells table o n node) a b
      → AreWidened (λ o n. IsInNoted cells looks table o n node) a b
  looked_noted is a b p =
      all_as (λ o n. IsInNode cells table o n node) (λ o n. IsInNoted cells looks table o n node) a b
      (λ o n h. (is, h)) (λ o n h. h.1) p

  pub not_looked : looks node ≡ false → (o : ℕ) (n : ℤ) → IsInNoted cells looks table o n node → ⊥
  not_looked is o n h = true≢false (sym h.0 ∙ is)

module _ (cells : List IntegerCell) (edges : Edges) (copies : List EdgeCopy) (table : List (Option State)) (k : ℕ)
    (to : Option ℕ) (to-is : raised_to edges (get_or copies k no_copy) ≡ to) where
  -- the node to which a copy leads that may raise what cells hold, if there is one
  pub raised_noted : (node : ℕ) → to ≡ Some node → (a b : List Noted)
      → AreWidened (λ o n. IsInNode cells table o n node) a b
      → AreWidened (λ o n. IsInRaised cells edges copies table o n k) a b
  raised_noted node is a b p =
      all_as (λ o n. IsInNode cells table o n node) (λ o n. IsInRaised cells edges copies table o n k) a b
      (λ o n h. record { node = node; leads = to-is ∙ is; has = h })
      (λ o n h. subst (λ m. IsInNode cells table o n m) (Some_number h.node node (sym h.leads ∙ to-is ∙ is)) h.has) p

  pub not_raised : to ≡ None → (o : ℕ) (n : ℤ) → IsInRaised cells edges copies table o n k → ⊥
  not_raised is o n h = let clash : None ≡ Some h.node = sym (to-is ∙ is) ∙ h.leads in absurd cc

-- what is noted of the parts of a body of a program is noted of that body
module _ (program : Program) (facts : AllFacts) (analysable : IsAnalysable program)
    (are : AreProgramFacts program facts) (t : ℕ) (lt : t < length program.graphs.graphs.items) (g : Graph)
    (c : ConfiguredGraph) (f : Facts) (g-is : g ≡ get_or program.graphs.graphs.items t g)
    (c-is : c ≡ get_or program.configured.items t c) (f-is : f ≡ get_or facts.bodies t f) where
  abbrev p : ProgramBodies
  p = program_with program facts

  body_from_parts : body_at p t ≡ body_from (read_with program facts) t (read_body g c f)
  body_from_parts =
      body_is program facts analysable are t g c f
      (subst (λ n. t < n) (sym (body_count program facts analysable are)) lt)
      ∙ sym (ap (λ x. body_from (read_with program facts) t (read_body x (get_or program.configured.items t c)
      (get_or facts.bodies t f))) g-is)
      ∙ sym (ap (λ x. body_from (read_with program facts) t (read_body g x (get_or facts.bodies t f))) c-is)
      ∙ sym (ap (λ x. body_from (read_with program facts) t (read_body g c x)) f-is)

  pub body_noted : (cells : List IntegerCell) (all all' : Bool) → all ≡ all' → (table table' : List (Option State))
      → table ≡ table' → (a b : List Noted)
      → AreWidened (λ o n. IsInParts cells all g.edges.items c.nodes.keys c.copies.items f.heads f.written table o n)
      a b
      → AreWidened (λ o n. IsInTable cells all' (body_at p t) table' o n) a b
  body_noted cells all all' all-is table table' table-is a b h =
      subst (λ x. AreWidened (λ o n. IsInTable cells x (body_at p t) table' o n) a b) all-is
      (subst (λ (x : List (Option State)). AreWidened (λ o n. IsInTable cells all (body_at p t) x o n) a b) table-is
      (subst (λ (x : Body). AreWidened (λ o n. IsInTable cells all x table o n) a b) (sym body_from_parts) h))

module _ (by : Grouping) (laid : LaidTree) (p : ProgramBodies) (tables : List (List (Option State))) (weak : Nested)
    (cells : List IntegerCell) (are : AreIntegerCells by laid cells) where
  pub all_noted : (one other : List IntegerCell) → one ≡ cells → other ≡ cells → (n : ℕ) → n ≡ length tables
      → (a b c d : List Noted) → length a ≡ key_count by laid → ((o : ℕ) → noted_at a o ≡ None)
      → AreWidened (λ o m. IsFirstBelow by laid (length laid.initial) o m) a b
      → AreWidened (λ o m. IsInTables one p tables n o m) b c
      → AreWidened (λ o m. IsInWeak other weak (length (entries weak)) o m) c d → AreNotedIn by laid p tables weak d
  all_noted one other one-is other-is n n-is a b c d count none first second third = record {
    cells = cells;
    are = are;
    count = third.count ∙ second.count ∙ first.count ∙ count;
    each = λ o.
        let First = λ (m : ℤ). IsFirstBelow by laid (length laid.initial) o m in
        let Second = λ (m : ℤ). IsInTables cells p tables (length tables) o m in
        let Third = λ (m : ℤ). IsInWeak cells weak (length (entries weak)) o m in
        let f = subst (λ x. IsWidened First o x (noted_at b o)) (none o) (first.each o) in
        let q = subst (λ k. IsWidened (λ m. IsInTables cells p tables k o m) o (noted_at b o) (noted_at c o)) n-is
        (subst (λ cs. IsWidened (λ m. IsInTables cs p tables n o m) o (noted_at b o) (noted_at c o)) one-is
        (second.each o)) in
        let r = subst (λ cs. IsWidened (λ m. IsInWeak cs weak (length (entries weak)) o m) o (noted_at c o)
        (noted_at d o)) other-is (third.each o) in
        let later = noted_both Second Third (λ m. Second m ⊎ Third m) o (noted_at b o) (noted_at c o) (noted_at d o)
        (λ m h. inl h) (λ m h. inr h) (λ m h. h) q r in
        noted_both First (λ m. Second m ⊎ Third m) (λ m. First m ⊎ (Second m ⊎ Third m)) o None (noted_at b o)
        (noted_at d o) (λ m h. inl h) (λ m h. inr h) (λ m h. h) f later;
  }
