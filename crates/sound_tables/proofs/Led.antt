-- A solution of the equations of a body is at least what each copy of an edge brings.
use Rattle.std.specs.Prelude.{◌≡◌, ◌⊎◌, ℕ, ◌<◌, ◌≤◌, ◌==◌, ◌&&◌, Bool, true, false, cond, List, length, get_or}
use Rattle.std.specs.Prelude.{unwrap_or, position, Option, Some}
use Rattle.std.proofs.Common.{inl, inr}
use Rattle.std.specs.Prelude.{None, IfSome, Contains}
use Rattle.std.proofs.Common.{refl, sym, ap, subst, ◌∙◌, arith}
use Rattle.std.proofs.lemmas.Bool.{cases_lt, eq-eqb, and_from}
use Rattle.std.proofs.lemmas.List.{get_or-map, length-map, get_or_default}
use Rattle.std.proofs.lemmas.List.Sums.{fails_before_first}
use Rattle.std.specs.List.{position_or_len}
use Rattle.program_reports.proofs.low.edge_actions.Lists.{lt_test}
use Rattle.program_reports.specs.edge_actions.Layouts.{is_shared_cell, is_smashed_cell}
use Rattle.program_reports.specs.edge_actions.Edges.{action_of}
use Rattle.program_reports.specs.interfere_set.Stores.{reader_of}
use Rattle.program_reports.specs.transfer_rows.Accesses.{is_among}
use Rattle.program_shape.specs.tm_laid.Layouts.{LaidTree}
use Rattle.program_reports.specs.task_equations.Bodies.{live_at}
use Rattle.program_reports.specs.task_equations.Equations.{tests_pointer}
use Rattle.program_shape.specs.mutex_configs.Nodes.{entry_node}
use Rattle.program_shape.specs.tm_lattice.Tables.{IsBelow}
use Rattle.program_shape.specs.flow_graph.declared.graphs.Edge.{Edge}
use Rattle.program_shape.specs.flow_graph.Graphs.{Among}
use Rattle.program_shape.specs.mutex_configs.declared.nodes.ConfiguredNode.{ConfiguredNode}
use Rattle.program_shape.specs.mutex_configs.declared.nodes.EdgeCopy.{EdgeCopy}
use Rattle.program_shape.specs.mutex_configs.Sets.{answers_of, leads_nowhere, node_after}
use Rattle.program_shape.specs.mutex_configs.Nodes.{IsReached, along, is_same_node}
use Rattle.program_reports.specs.interfere_set.Stores.{Interferences}
use Rattle.program_reports.specs.transfer_rows.StateForms.{State, IsStateUnder}
use Rattle.program_reports.specs.transfer_rows.Actions.{Around}
use Rattle.program_reports.specs.transfer_rows.Rows.{after}
use Rattle.program_reports.specs.table_covers.declared.links.Link.{Link}
use Rattle.program_reports.specs.table_covers.Systems.{System, IsLawfulSystem, no_link, from_of, to_of}
use Rattle.program_reports.specs.table_covers.Solutions.{NodeTable, brought, IsSolution}
use Rattle.program_reports.specs.table_covers.Solutions as solutions
use Rattle.program_reports.specs.table_covers.laws.Closing as closing
use Rattle.program_reports.specs.state_fits.laws.PlacesFit.{states_order, states_join}
use Rattle.program_reports.specs.task_equations.Bodies.{Body, no_copy, edge_of, node_at, copy_at}
use Rattle.program_reports.specs.task_equations.Equations.{equations_of, link_of, action_along, around_along, led}
use Rattle.program_reports.specs.program_equations.Programs.{ProgramBodies, body_at, IsProgram}
use Rattle.program_reports.specs.program_equations.Systems.{states, FitsBody, FitsProgram}
use Rattle.program_reports.specs.program_equations.laws.Fitting.{body_is_lawful}
use Rattle.sound_tables.specs.Premises.{IsGraphOf}
use Rattle.sound_tables.specs.Memberships.{found_at, number_at, around_at, action_at}
use Rattle.sound_tables.proofs.Copies.{IsCopyNumber, copy_number, numbered}

pub if_some : {A : Type 0} (P : A → Type 0) (o : Option A) (a : A) → o ≡ Some a → IfSome o P → P a
if_some P o a is h = subst (λ x. IfSome x P) is h

below_some : (a b : Option State) (s : State) → a ≡ Some s → IsBelow IsStateUnder a b
    → (r : State) × (b ≡ Some r) × IsStateUnder s r
below_some a None s is le = absurd (subst (λ x. IsBelow IsStateUnder x None) is le)
below_some a (Some r) s is le = (r, refl, subst (λ x. IsBelow IsStateUnder x (Some r)) is le)

-- ## What surrounds a copy

module _ (p : ProgramBodies) (is : IsProgram p) (t : ℕ) (lt : t < length p.bodies) where
  abbrev pub surroundings : LaidTree → ℕ → List ℕ → ConfiguredNode → Edge → Around
  surroundings laid task priorities q e = record {
    reader = reader_of task q.held q.found priorities;
    is_shared = is_shared_cell laid;
    is_smashed = is_smashed_cell laid;
    is_live = is_among (live_at (body_at p t) e.to);
  }

  module _ (q : ConfiguredNode) (n : ℕ) (e : Edge) (answer : Bool) (k : ℕ)
      (num : IsCopyNumber (body_at p t) q n e answer k) where
    pub around_is : around_along (body_at p t) (copy_at (body_at p t) k) ≡ around_at p t q e
    around_is =
        let b = body_at p t in
        let c = copy_at b k in
        let own = (is.each t lt).numbered in
        let node : node_at b c.from ≡ q = ap (node_at b) num.from ∙ num.node in
        ap (λ r. surroundings b.laid b.task b.priorities r (edge_of b c)) node
        ∙ ap (λ d. surroundings b.laid b.task b.priorities q d) num.edge
        ∙ ap (λ l. surroundings l b.task b.priorities q e) own.laid
        ∙ ap (λ j. surroundings p.laid j b.priorities q e) own.number
        ∙ ap (λ z. surroundings p.laid t z q e) own.priorities

    pub action_is : action_along (body_at p t) (copy_at (body_at p t) k) ≡ action_at p t answer e.op
    action_is =
        let b = body_at p t in
        let c = copy_at b k in
        let own = (is.each t lt).numbered in
        ap (λ (d : Edge). action_of b.laid b.task (tests_pointer b.pointers d.op) c.answer d.op) num.edge
        ∙ ap (λ l. action_of l b.task (tests_pointer b.pointers e.op) c.answer e.op) own.laid
        ∙ ap (λ j. action_of p.laid j (tests_pointer b.pointers e.op) c.answer e.op) own.number
        ∙ ap (λ z. action_of p.laid t (tests_pointer b.pointers e.op) z e.op) num.answers

-- ## What a solution is above

module _ (p : ProgramBodies) (is : IsProgram p) (t : ℕ) (lt : t < length p.bodies) (store : Interferences)
    (store-fits : FitsProgram p store) (entry : Option State) (entry-fits : IfSome entry (FitsBody (body_at p t) 0))
    (table : NodeTable State)
    (solves : IsSolution states (FitsBody (body_at p t)) (equations_of (body_at p t) entry store) table) where
  abbrev b : Body
  b = body_at p t

  abbrev sys : System State
  sys = equations_of b entry store

  law : IsLawfulSystem states.is_value states.leq states.joined (FitsBody b) sys
  law = body_is_lawful p is t lt entry store store-fits entry-fits

  fit : (n : ℕ) → n < sys.node_count → IfSome (table n) (FitsBody b n)
  fit n within = solves.fits n within

  -- what lies below the bound at a node lies below the table there
  pub above_bound : (n : ℕ) (within : n < sys.node_count) (x : Option State) → IfSome x (FitsBody b n)
      → IsBelow states.leq x (solves.covers n within).bound → IsBelow states.leq x (table n)
  above_bound n within x fits le =
      let c = solves.covers n within in
      let out = closing.outward states (FitsBody b) sys states_order states_join law n c.bound in
      closing.transitive states (FitsBody b) sys states_order states_join law n x out (table n) fits
      (closing.outward_fits states (FitsBody b) sys states_order states_join law n c.bound c.is_bound.fits)
      (fit n within)
      (closing.transitive states (FitsBody b) sys states_order states_join law n x c.bound out fits c.is_bound.fits
      (closing.outward_fits states (FitsBody b) sys states_order states_join law n c.bound c.is_bound.fits) le
      (closing.extensive states (FitsBody b) sys states_order states_join law n c.bound c.is_bound.fits))
      c.rounding

  -- a state that comes to a node lies below a state of the table
  pub record Arrives (n : ℕ) (s : State) : Type 0 where
    pub state : State
    pub stands : table n ≡ Some state
    pub under : IsStateUnder s state
    pub fits : FitsBody b n s
    pub state_fits : FitsBody b n state

  arrives_by : (n : ℕ) → n < sys.node_count → (x : Option State) (s : State) → x ≡ Some s → IfSome x (FitsBody b n)
      → IsBelow states.leq x (table n) → Arrives n s
  arrives_by n within x s same fits le = let k = below_some x (table n) s same le in record {
    state = k.0;
    stands = k.1;
    under = k.2;
    fits = if_some (FitsBody b n) x s same fits;
    state_fits = if_some (FitsBody b n) (table n) k.0 k.1 (fit n within);
  }

  -- the entry
  pub entry_arrives : (s : State) → entry ≡ Some s → Arrives 0 s
  entry_arrives s same =
      let within = law.some_node in
      let c = solves.covers 0 within in
      arrives_by 0 within entry s same entry-fits (above_bound 0 within entry entry-fits c.is_bound.entry)

  module _ (k : ℕ) (k-lt : k < length b.copies) where
    abbrev c : EdgeCopy
    c = copy_at b k

    link-lt : k < length sys.links
    link-lt = subst (λ m. k < m) (sym (length-map b.copies link_of)) k-lt

    from_is : from_of sys.links k ≡ c.from
    from_is = ap (λ (l : Link). l.from) (get_or-map link_of b.copies k no_copy no_link k-lt)

    to_is : to_of sys.links k ≡ unwrap_or c.to c.from
    to_is = ap (λ (l : Link). l.to) (get_or-map link_of b.copies k no_copy no_link k-lt)

    -- what the copy brings
    pub copy_arrives : (s : State) → table c.from ≡ Some s → (n : ℕ) → c.to ≡ Some n → (s' : State)
        → after (around_along b c) (action_along b c) s store ≡ Some s' → Arrives n s'
    copy_arrives s at n to s' gives =
        let there = to_of sys.links k in
        let within = law.to_node k link-lt in
        let x = solutions.along states (FitsBody b) sys k table in
        let from-at : table (from_of sys.links k) ≡ Some s = ap table from_is ∙ at in
        let brings : x ≡ Some s' =
        ap (λ y. brought (sys.after k) y) from-at
        ∙ ap (λ o. led o (after (around_along b c) (action_along b c) s store)) to ∙ gives in
        let x-fits : IfSome x (FitsBody b there) =
        closing.brought_fits states (FitsBody b) sys states_order states_join law k
        (table (from_of sys.links k)) link-lt (fit (from_of sys.links k) (law.from_node k link-lt)) in
        let le = above_bound there within x x-fits ((solves.covers there within).is_bound.edges k link-lt refl) in
        let same : there ≡ n = to_is ∙ ap (λ o. unwrap_or o c.from) to in
        subst (λ m. Arrives m s') same (arrives_by there within x s' brings x-fits le)

  pub found_some : (o : Option ℕ) (s : State) → found_at table o ≡ Some s
      → (n : ℕ) × (o ≡ Some n) × (table n ≡ Some s)
  found_some None s h = absurd (cc)
  found_some (Some n) s h = (n, refl, h)

  same_self : (q : ConfiguredNode) → is_same_node q q ≡ true
  same_self q =
      and_from (q.place == q.place) ((q.held == q.held) && (q.found == q.found)) (eq-eqb q.place q.place refl)
      (and_from (q.held == q.held) (q.found == q.found) (eq-eqb q.held q.held refl) (eq-eqb q.found q.found refl))

  true_false : (x : Bool) → x ≡ true → x ≡ false → ⊥
  true_false x h k = cc

  -- a node that is listed has a number
  position_of : (q : ConfiguredNode) → Contains b.nodes q → (n : ℕ) × (position (is_same_node q) b.nodes ≡ Some n)
  position_of q h = by_case (cases_lt (position_or_len (is_same_node q) b.nodes) (length b.nodes))
    where
      first : ℕ
      first = position_or_len (is_same_node q) b.nodes

      by_case : (first < length b.nodes) ⊎ (length b.nodes ≤ first)
          → (n : ℕ) × (position (is_same_node q) b.nodes ≡ Some n)
      by_case (inl less) =
          (first, ap (λ x. cond x (Some first) None) (lt_test first (length b.nodes) less))
      by_case (inr most) =
          let before : h.0 < first = let l = h.1 in omega (arith, l, most) in
          absurd (true_false (is_same_node q (get_or b.nodes h.0 q))
          (ap (is_same_node q) h.2 ∙ same_self q)
          (fails_before_first (is_same_node q) b.nodes h.0 q before))

  module _ (graph : IsGraphOf p t) where
    pub record IsLed (q : ConfiguredNode) (s : State) : Type 0 where
      pub number : ℕ
      pub at : number_at p t q ≡ Some number
      pub arrival : Arrives number s

    -- along an edge from a node with a state, an operation that leads somewhere leads to a state
    pub edge_leads : (q : ConfiguredNode) (e : Edge) (answer : Bool) → Among e b.edges → e.from ≡ q.place
        → Contains (answers_of e.op) answer → (s : State) → found_at table (number_at p t q) ≡ Some s
        → leads_nowhere e.op answer q.held ≡ false → (s' : State)
        → after (around_at p t q e) (action_at p t answer e.op) s store ≡ Some s'
        → IsLed (node_after e.op answer q e.to) s'
    edge_leads q e answer among from has s at leads s' gives =
        let here = found_some (number_at p t q) s at in
        let node = numbered b.nodes q here.0 here.1 in
        let listed : Contains b.nodes q =
        (here.0, node.0, get_or_default b.nodes here.0 q entry_node node.0 ∙ node.1) in
        let reached : IsReached b.edges (node_after e.op answer q e.to) =
        along q e answer ((graph.nodes.reached q).0 listed) (record { among = among; from = from }) has leads in
        let there = position_of (node_after e.op answer q e.to)
        ((graph.nodes.reached (node_after e.op answer q e.to)).1 reached) in
        let copy = copy_number b graph.copies q here.0 here.1 e among from answer has in
        let k = copy.0 in
        let num : IsCopyNumber b q here.0 e answer k = copy.1 in
        let c = copy_at b k in
        let to : c.to ≡ Some there.0 =
        num.to ∙ ap (λ x. cond x None (position (is_same_node (node_after e.op answer q e.to)) b.nodes)) leads
        ∙ there.1 in
        let brings : after (around_along b c) (action_along b c) s store ≡ Some s' =
        ap (λ a. after a (action_along b c) s store) (around_is p is t lt q here.0 e answer k num)
        ∙ ap (λ a. after (around_at p t q e) a s store) (action_is p is t lt q here.0 e answer k num) ∙ gives in
        record {
          number = there.0;
          at = there.1;
          arrival = copy_arrives k num.within s (ap table num.from ∙ here.2) there.0 to s' brings;
        }
