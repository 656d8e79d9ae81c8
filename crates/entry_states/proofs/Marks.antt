-- Marks at the places that edges leave, and the nodes at which a body ends.
use Rattle.std.proofs.Common.{◌≡◌, ◌∙◌, ℕ, suc, ◌+◌, ◌<◌, ◌≤◌, ◌==◌, Bool, true, false, not, cond, List, [], ◌∷◌, ◌++◌}
use Rattle.std.proofs.Common.{length, get_or, set, take, replicate, refl, ap, sym, subst, arith, Option}
use Rattle.std.proofs.lemmas.List.{get_or-set_same, get_or-set_other, get_or-replicate, length-set, length-replicate}
use Rattle.std.proofs.lemmas.List.{get_or_default, take_more, take_all}
use Rattle.std.proofs.lemmas.Bool.{eqb-true, eqb-false, cond-true, cond-false}
use Rattle.flow_graph.specs.declared.graphs.Edge.{Edge}
use Rattle.flow_graph.specs.Graphs.{Edges}
use Rattle.tm_lattice.specs.Tables.{joined_at}
use Rattle.pointer_dom.specs.Values.{joined_values}
use Rattle.cell_env.specs.States.{joined_state}
use Rattle.body_systems.specs.edge_actions.transfer_rows.StateForms.{State}
use Rattle.body_systems.specs.table_covers.Solutions.{NodeTable}
use Rattle.mutex_configs.specs.declared.nodes.ConfiguredNode.{ConfiguredNode}
use Rattle.mutex_configs.specs.Nodes.{entry_node}
use Rattle.body_systems.specs.program_equations.Entries.{is_left, is_end, ended_below, ended_in}
use Rattle.entry_states.specs.reading.Leaving.{AreLeft}

pub none_marked : (count : ℕ) (marks : List Bool) → marks ≡ replicate count false → AreLeft [] count marks
none_marked count marks e = record {
  count = ap length e ∙ length-replicate count false;
  each = λ place within. ap (λ ms. get_or ms place false) e
      ∙ get_or-replicate count place false false
      (subst (λ n. place < n) (ap length e ∙ length-replicate count false) within);
}

-- one more edge leaves a place
left_by : (one other rest : Bool) → cond one true (cond other true rest) ≡ cond other true (cond one true rest)
left_by true true rest = refl
left_by true false rest = refl
left_by false true rest = refl
left_by false false rest = refl

left_more : (graph : Edges) (e : Edge) (place : ℕ)
    → is_left (graph ++ e ∷ []) place ≡ cond (e.from == place) true (is_left graph place)
left_more [] e place = refl
left_more (d ∷ graph) e place =
    ap (λ rest. cond (d.from == place) true rest) (left_more graph e place)
    ∙ left_by (d.from == place) (e.from == place) (is_left graph place)

pub one_marked : (graph : Edges) (e : Edge) (count : ℕ) (before : List Bool) → AreLeft graph count before
    → AreLeft (graph ++ e ∷ []) count (set before e.from true)
one_marked graph e count before h = record {
  count = length-set before e.from true ∙ h.count;
  each = λ place within. at place (subst (λ n. place < n) (length-set before e.from true) within) (e.from == place) refl
      ∙ sym (left_more graph e place);
} where
  at : (place : ℕ) → place < length before → (same : Bool) → (e.from == place) ≡ same
      → get_or (set before e.from true) place false ≡ cond same true (is_left graph place)
  at place within true s =
      let is : place ≡ e.from = sym (eqb-true e.from place s) in
      subst (λ n. get_or (set before e.from true) n false ≡ true) (sym is)
      (get_or-set_same before e.from true false (subst (λ n. n < length before) is within))
  at place within false s =
      get_or-set_other before e.from place true false (λ q. eqb-false e.from place s (sym q)) ∙ h.each place within

pub next_marked : (edges read : Edges) (i : ℕ) (d : Edge) (places : ℕ) (before after : List Bool) → read ≡ edges
    → i < length read → after ≡ set before (get_or read i d).from true → AreLeft (take i edges) places before
    → AreLeft (take (i + 1) edges) places after
next_marked edges read i d places before after same within is h =
    let stands : i < length edges = subst (λ (g : Edges). i < length g) same within in
    subst (λ (g : Edges). AreLeft g places after) (sym (take_more edges i d stands))
    (subst (λ (ms : List Bool). AreLeft (take i edges ++ get_or edges i d ∷ []) places ms)
    (sym (is ∙ ap (λ (g : Edges). set before (get_or g i d).from true) same))
    (one_marked (take i edges) (get_or edges i d) places before h))

pub all_marked : (edges read : Edges) (i places : ℕ) (marks : List Bool) → read ≡ edges → length read ≤ i
    → AreLeft (take i edges) places marks → AreLeft edges places marks
all_marked edges read i places marks same least h =
    subst (λ (g : Edges). AreLeft g places marks) (take_all i edges (subst (λ (g : Edges). length g ≤ i) same least)) h

-- one more node, at which the body ends or does not
module _ (graph : Edges) (nodes : List ConfiguredNode) (table : NodeTable State) (count : ℕ) (marks : List Bool) (n : ℕ)
    (mark : Bool) (h : AreLeft graph count marks) (place : (get_or nodes n entry_node).place < count)
    (is : mark ≡ not (get_or marks (get_or nodes n entry_node).place true)) where
  ends : is_end graph nodes n ≡ mark
  ends = let p : ℕ = (get_or nodes n entry_node).place in
      let lt : p < length marks = subst (λ k. p < k) (sym h.count) place in
      sym (is ∙ ap not (get_or_default marks p true false lt ∙ h.each p lt))

  next : ended_below graph nodes table (suc n) ≡ ended_below graph nodes table (n + 1)
  next = ap (λ k. ended_below graph nodes table k) (let one : suc n ≡ n + 1 = omega arith in one)

  pub end_joined : (before both : Option State) → mark ≡ true → before ≡ ended_below graph nodes table n
      → both ≡ joined_at (joined_state joined_values) before (table n) → both ≡ ended_below graph nodes table (n + 1)
  end_joined before both e so join =
      join ∙ ap (λ b. joined_at (joined_state joined_values) b (table n)) so
      ∙ sym (cond-true (is_end graph nodes n)
      (joined_at (joined_state joined_values) (ended_below graph nodes table n) (table n)) (ended_below graph nodes table n)
      (ends ∙ e)) ∙ next

  pub end_passed : (before : Option State) → mark ≡ false → before ≡ ended_below graph nodes table n
      → before ≡ ended_below graph nodes table (n + 1)
  end_passed before e so =
      so ∙ sym (cond-false (is_end graph nodes n)
      (joined_at (joined_state joined_values) (ended_below graph nodes table n) (table n)) (ended_below graph nodes table n)
      (ends ∙ e)) ∙ next

pub all_ended : (graph : Edges) (nodes : List ConfiguredNode) (table : NodeTable State) (n : ℕ) (ended : Option State)
    → length nodes ≤ n → n ≤ length nodes → ended ≡ ended_below graph nodes table n → ended ≡ ended_in graph nodes table
all_ended graph nodes table n ended least most so =
    so ∙ ap (λ k. ended_below graph nodes table k) (let is : n ≡ length nodes = omega (arith, least, most) in is)
