-- The numbers of a graph serve each system over it.
use Rattle.std.proofs.Common.{◌≡◌, ℕ, ◌+◌, ◌<◌, ◌==◌, Bool, true, false, not, ◌||◌, List, [], ◌∷◌, map, length, get_or, refl, sym, ap, ◌∙◌, subst, arith, ◌⊎◌, inl, inr}
use Rattle.std.proofs.lemmas.Bool.{eqb-true, eq-eqb, and_parts, and_from, not-true, or_cases}
use Rattle.std.specs.Prelude.{slice_index_or}
use Rattle.table_covers.specs.declared.links.Link.{Link}
use Rattle.table_covers.specs.Systems.{from_of, to_of}
use Rattle.front_constraints.specs.Systems as systems
use Rattle.front_constraints.specs.Systems.{SparseSystem, Variable, front_at, open_at, slot_at, Rule, entered, row}
use Rattle.front_constraints.specs.Systems.{flow, Numbers, IsVariable, IsRule, AreNumbered, AreCellsListed, AreListed}
use Rattle.front_constraints.specs.Rules.{targets_of, is_read}
use Rattle.cell_placings.specs.declared.cell_graphs.CellGraph.{CellGraph}
use Rattle.cell_placings.specs.CellLists.{is_in, cells_at}
use Rattle.cell_placings.specs.OwnerTrees.{OwnerTree, owns_in, kept_in}
use Rattle.cell_placings.proofs.Members.{place_of, in_at, or_right}
use Rattle.slot_numbers.specs.declared.names.OwnedCell.{OwnedCell}
use Rattle.slot_numbers.specs.declared.names.FlowingCell.{FlowingCell}
use Rattle.slot_numbers.specs.Numberings.{Numbering, numbers_of, variable_of, number_of, count_of, slot_in}
use Rattle.slot_numbers.specs.Numberings.{flow_in, slot_place, no_slot, no_flow}
use Rattle.slot_numbers.specs.Numbered.{IsNumbering, targets_on, sources_on, is_own, is_flow}
use Rattle.slot_numbers.specs.laws.Kinds.{variable_front, variable_open, variable_slot, by_kind, number_back}
use Rattle.slot_numbers.specs.laws.Kinds.{rule_row, rule_flow, by_rule}

-- ## Lists

or_left : (a b : Bool) → a ≡ true → (a || b) ≡ true
or_left a b e = ap (λ c. c || b) e

not_from : (b : Bool) → b ≡ false → not b ≡ true
not_from b e = ap not e

at_head : (a b c : Bool) (P : Bool) → (a ≡ true) ⊎ (b ≡ true) → (a ≡ true → c ≡ true) → (b ≡ true → P ≡ true)
    → (c || P) ≡ true
at_head a b c P (inl h) first rest = or_left c P (first h)
at_head a b c P (inr t) first rest = or_right c P (rest t)

-- what is made of a member is a member of what is made of the list
pub in_map : {A : Type 0} (f : ℕ → A) (g : A → ℕ) (xs : List ℕ) (x : ℕ) → is_in xs x ≡ true
    → is_in (map g (map f xs)) (g (f x)) ≡ true
in_map f g [] x e = absurd cc
in_map f g (y ∷ ys) x e =
    at_head (y == x) (is_in ys x) (g (f y) == g (f x)) (is_in (map g (map f ys)) (g (f x)))
    (or_cases (y == x) (is_in ys x) e)
    (λ h. eq-eqb (g (f y)) (g (f x)) (ap (λ z. g (f z)) (eqb-true y x h))) (λ t. in_map f g ys x t)

-- ## A system over a graph

module _ {V F D : Type 0} (sys : SparseSystem V F D) (graph : CellGraph) (tree : OwnerTree) (cells : List ℕ)
    (n : Numbering) where
  -- The nodes and edges are those of the graph; its cells count, and are placed by the tree; lists and numbers are those
  -- given.
  pub record IsSystemOver : Type 0 where
    pub nodes : sys.equations.node_count ≡ graph.nodes
    pub links : sys.equations.links ≡ graph.links.items
    pub counted : (x : ℕ) → sys.is_cell x ≡ is_in cells x
    pub touches : (e x : ℕ) → sys.place.touches e x ≡ is_in (cells_at graph.touched.items e) x
    pub looks : (e x : ℕ) → sys.place.looks e x ≡ is_in (cells_at graph.looked.items e) x
    pub owns : (m x : ℕ) → sys.is_cell x ≡ true → sys.place.owns m x ≡ owns_in tree m x
    pub kept_at : (m x : ℕ) → sys.is_cell x ≡ true → sys.place.kept_at m x ≡ kept_in tree m x
    pub cells_are : sys.cells ≡ cells
    pub looked : (e : ℕ) → sys.looked e ≡ cells_at graph.looked.items e
    pub touched : (e : ℕ) → sys.touched e ≡ cells_at graph.touched.items e
    pub numbers : sys.numbers ≡ numbers_of n

  module _ (o : IsSystemOver) (c : IsNumbering graph tree cells n) where
    edge_of_graph : (e : ℕ) → e < systems.edges sys → e < length graph.links.items
    edge_of_graph e lt = subst (λ (l : List Link). e < length l) o.links lt

    edge_of_system : (e : ℕ) → e < length graph.links.items → e < systems.edges sys
    edge_of_system e lt = subst (λ (l : List Link). e < length l) (sym o.links) lt

    same_end : (e : ℕ) → to_of graph.links.items e ≡ systems.to sys e
    same_end e = ap (λ l. to_of l e) (sym o.links)

    same_start : (e : ℕ) → from_of graph.links.items e ≡ systems.from sys e
    same_start e = ap (λ l. from_of l e) (sym o.links)

    same_nodes : n.variables.nodes ≡ sys.equations.node_count
    same_nodes = c.variables.nodes ∙ sym o.nodes

    cell_is : (x : ℕ) → sys.is_cell x ≡ true → is_in cells x ≡ true
    cell_is x e = sym (o.counted x) ∙ e

    is_cell : (x : ℕ) → is_in cells x ≡ true → sys.is_cell x ≡ true
    is_cell x e = o.counted x ∙ e

    -- ## Variables

    own_of : (m x : ℕ) → sys.is_cell x ≡ true → sys.place.owns m x ≡ true → is_own graph tree cells m x ≡ true
    own_of m x is owns = and_from (is_in cells x) (owns_in tree m x) (cell_is x is) (sym (o.owns m x is) ∙ owns)

    variable_is : (i : ℕ) → i < count_of n.variables → IsVariable sys (variable_of n.variables i)
    variable_is =
        by_kind n.variables (λ i w. IsVariable sys w) (λ m lt. subst (λ z. m < z) same_nodes lt)
        (λ e lt. edge_of_system e (subst (λ z. e < z) c.variables.edges_each lt)) slots
      where
        slots : (j : ℕ) → j < length n.variables.slots → IsVariable sys (slot_in n.variables.slots j)
        slots j lt =
            let s = slice_index_or n.variables.slots j no_slot in
            let within : s.node < graph.nodes = subst (λ z. s.node < z) c.variables.owned_each (c.variables.laid.node j lt) in
            let own = and_parts (is_in cells s.cell) (owns_in tree s.node s.cell)
            (sym (c.variables.owned s.node s.cell within) ∙ c.variables.laid.cell j lt) in
            let is = is_cell s.cell own.0 in
            (subst (λ z. s.node < z) (sym o.nodes) within, is, o.owns s.node s.cell is ∙ own.1)

    variable_has : (w : Variable) → IsVariable sys w
        → (number_of n.variables w < count_of n.variables) × (variable_of n.variables (number_of n.variables w) ≡ w)
    variable_has (front_at m) lt =
        let l : m < n.variables.nodes = subst (λ z. m < z) (sym same_nodes) lt in
        (omega (arith, l), variable_front n.variables m l)
    variable_has (open_at e) lt =
        let l : e < n.variables.edges = subst (λ z. e < z) (sym c.variables.edges_each) (edge_of_graph e lt) in
        (omega (arith, l), variable_open n.variables e l)
    variable_has (slot_at m x) is =
        let within : m < graph.nodes = subst (λ z. m < z) o.nodes is.0 in
        let has = c.variables.owned m x within ∙ own_of m x is.1 is.2 in
        let at = c.variables.laid.placed m x (subst (λ z. m < z) (sym c.variables.owned_each) within) has in
        let l = at.0 in (
          omega (arith, l),
          variable_slot n.variables (slot_place n.variables.owned n.variables.starts m x)
              ∙ ap (λ (s : OwnedCell). slot_at s.node s.cell) at.1,
        )

    -- ## Constraints

    flow_of : (e x : ℕ) → IsRule sys (flow e x) → is_flow graph tree cells e x ≡ true
    flow_of e x is =
        and_from (is_own graph tree cells (to_of graph.links.items e) x) (not (is_in (cells_at graph.touched.items e) x))
        (subst (λ m. is_own graph tree cells m x ≡ true) (sym (same_end e)) (own_of (systems.to sys e) x is.1 is.2))
        (not_from (is_in (cells_at graph.touched.items e) x) (sym (o.touches e x) ∙ is.3))

    rule_flows : (j : ℕ) → j < length n.flows → IsRule sys (flow_in n.flows j)
    rule_flows j lt =
        let f = slice_index_or n.flows j no_flow in
        let parts = and_parts (is_own graph tree cells (to_of graph.links.items f.edge) f.cell)
        (not (is_in (cells_at graph.touched.items f.edge) f.cell)) (c.flows.flow j lt) in
        let own = and_parts (is_in cells f.cell) (owns_in tree (to_of graph.links.items f.edge) f.cell) parts.0 in
        let is = is_cell f.cell own.0 in (
          edge_of_system f.edge (c.flows.edge j lt),
          is,
          o.owns (systems.to sys f.edge) f.cell is
              ∙ subst (λ m. owns_in tree m f.cell ≡ true) (same_end f.edge) own.1,
          o.touches f.edge f.cell ∙ not-true (is_in (cells_at graph.touched.items f.edge) f.cell) parts.1,
        )

    rule_is : (k : ℕ) → k < (numbers_of n).constraint_count → IsRule sys ((numbers_of n).rule k)
    rule_is =
        by_rule n.variables.edges n.flows (λ k r. IsRule sys r) tt
        (λ e lt. edge_of_system e (subst (λ z. e < z) c.variables.edges_each lt)) rule_flows

    rule_has : (r : Rule) → IsRule sys r
        → (k : ℕ) × ((k < (numbers_of n).constraint_count) × ((numbers_of n).rule k ≡ r))
    rule_has entered is = (0, (omega arith, refl))
    rule_has (row e) is =
        let l : e < n.variables.edges = subst (λ z. e < z) (sym c.variables.edges_each) (edge_of_graph e is) in
        (e + 1, (omega (arith, l), rule_row n.variables.edges n.flows e l))
    rule_has (flow e x) is =
        let at = c.flows.all e x (edge_of_graph e is.0) (flow_of e x is) in
        let l = at.1.0 in (
          n.variables.edges + 1 + at.0,
          (
            omega (arith, l),
            rule_flow n.variables.edges n.flows at.0 ∙ ap (λ (f : FlowingCell). flow f.edge f.cell) at.1.1,
          ),
        )

    -- Each variable has a number and each constraint too, and no number has anything else.
    pub are_numbered : AreNumbered sys
    are_numbered = record {
      number =
          subst (λ (m : Numbers). (w : Variable) → IsVariable sys w
          → (m.number w < m.variable_count) × (m.variable (m.number w) ≡ w)) (sym o.numbers) variable_has;
      variable =
          subst (λ (m : Numbers). (i : ℕ) → i < m.variable_count → IsVariable sys (m.variable i)) (sym o.numbers)
          variable_is;
      rules =
          subst (λ (m : Numbers). (r : Rule) → IsRule sys r → (k : ℕ) × ((k < m.constraint_count) × (m.rule k ≡ r)))
          (sym o.numbers) rule_has;
      rule =
          subst (λ (m : Numbers). (k : ℕ) → k < m.constraint_count → IsRule sys (m.rule k)) (sym o.numbers) rule_is;
    }

    -- ## Lists of cells

    listed : (test : ℕ → Bool) (xs ys : List ℕ) → ys ≡ xs → ((x : ℕ) → is_in xs x ≡ true → test x ≡ true)
        → ((x : ℕ) → test x ≡ true → is_in xs x ≡ true) → AreListed test ys
    listed test xs ys same one other =
        subst (AreListed test) (sym same)
        record {
          within = λ j lt. one (get_or xs j 0) (in_at xs j lt);
          all = λ x e. let p = place_of xs x (other x e) in (p.0, (p.1, p.2));
        }

    -- The lists have the cells that they should.
    pub are_cells_listed : AreCellsListed sys
    are_cells_listed = record {
      cells = listed sys.is_cell cells sys.cells o.cells_are is_cell cell_is;
      looked = λ e lt.
          listed (systems.is_looked sys e) (cells_at graph.looked.items e) (sys.looked e) (o.looked e)
          (λ x m. and_from (sys.is_cell x) (sys.place.looks e x)
          (is_cell x (c.numberable.looked e x (edge_of_graph e lt) m)) (o.looks e x ∙ m))
          (λ x is. sym (o.looks e x) ∙ (and_parts (sys.is_cell x) (sys.place.looks e x) is).1);
      touched = λ e lt.
          listed (systems.is_touched sys e) (cells_at graph.touched.items e) (sys.touched e) (o.touched e)
          (λ x m. and_from (sys.is_cell x) (sys.place.touches e x)
          (is_cell x (c.numberable.touched e x (edge_of_graph e lt) m)) (o.touches e x ∙ m))
          (λ x is. sym (o.touches e x) ∙ (and_parts (sys.is_cell x) (sys.place.touches e x) is).1);
    }

    -- ## Targets

    same_targets : (r : Rule) → targets_on graph cells r ≡ targets_of sys r
    same_targets entered = ap (λ xs. front_at 0 ∷ map (slot_at 0) xs) (sym o.cells_are)
    same_targets (row e) =
        ap (λ z. front_at z ∷ open_at e ∷ map (slot_at z) (cells_at graph.touched.items e)) (same_end e)
        ∙ ap (λ xs. front_at (systems.to sys e) ∷ open_at e ∷ map (slot_at (systems.to sys e)) xs) (sym (o.touched e))
    same_targets (flow e x) = ap (λ z. slot_at z x ∷ []) (same_end e)

    -- The targets are those of the constraint.
    pub targets_are : (k : ℕ) → k < sys.numbers.constraint_count
        → cells_at n.targets k ≡ map sys.numbers.number (targets_of sys (sys.numbers.rule k))
    targets_are =
        subst (λ (m : Numbers). (k : ℕ) → k < m.constraint_count
        → cells_at n.targets k ≡ map m.number (targets_of sys (m.rule k))) (sym o.numbers)
        (λ k lt. c.targets k lt ∙ ap (map (number_of n.variables)) (same_targets ((numbers_of n).rule k)))

    -- ## Readers

    -- what a row or a flow reads of a cell is where the cell is kept
    kept_there : (e m x : ℕ) → sys.is_cell x ≡ true → (m == systems.kept_at sys (systems.from sys e) x) ≡ true
        → slot_at (kept_in tree (from_of graph.links.items e) x) x ≡ slot_at m x
    kept_there e m x is at =
        ap (λ z. slot_at z x)
        (ap (λ z. kept_in tree z x) (same_start e) ∙ sym (o.kept_at (systems.from sys e) x is)
        ∙ sym (eqb-true m (systems.kept_at sys (systems.from sys e) x) at))

    abbrev numbered : List Variable → List ℕ
    numbered ws = map (number_of n.variables) ws

    among : (r : Rule) (w : Variable) → IsRule sys r → is_read sys r w ≡ true
        → is_in (numbered (sources_on graph tree r)) (number_of n.variables w) ≡ true
    among entered w is e = absurd cc
    among (row e) (front_at m) is at =
        or_left (from_of graph.links.items e == m) _
        (eq-eqb (from_of graph.links.items e) m (same_start e ∙ sym (eqb-true m (systems.from sys e) at)))
    among (row e) (open_at d) is at = absurd cc
    among (row e) (slot_at m x) is at =
        let parts = and_parts (systems.is_looked sys e x) (m == systems.kept_at sys (systems.from sys e) x) at in
        let looked = and_parts (sys.is_cell x) (sys.place.looks e x) parts.0 in
        or_right (from_of graph.links.items e == number_of n.variables (slot_at m x)) _
        (subst (λ w. is_in (numbered (map (λ y. slot_at (kept_in tree (from_of graph.links.items e) y) y)
        (cells_at graph.looked.items e))) (number_of n.variables w) ≡ true) (kept_there e m x looked.0 parts.1)
        (in_map (λ y. slot_at (kept_in tree (from_of graph.links.items e) y) y) (number_of n.variables)
        (cells_at graph.looked.items e) x (sym (o.looks e x) ∙ looked.1)))
    among (flow e x) (front_at m) is at = absurd cc
    among (flow e x) (open_at d) is at =
        or_left (n.variables.nodes + e == n.variables.nodes + d) _
        (eq-eqb (n.variables.nodes + e) (n.variables.nodes + d)
        (ap (λ z. n.variables.nodes + z) (sym (eqb-true d e at))))
    among (flow e x) (slot_at m y) is at =
        let parts = and_parts (y == x) (m == systems.kept_at sys (systems.from sys e) x) at in
        let there = kept_there e m x is.1 parts.1 ∙ ap (slot_at m) (sym (eqb-true y x parts.0)) in
        let kept = number_of n.variables (slot_at (kept_in tree (from_of graph.links.items e) x) x) in
        or_right (n.variables.nodes + e == number_of n.variables (slot_at m y)) _
        (or_left (kept == number_of n.variables (slot_at m y)) false
        (eq-eqb kept (number_of n.variables (slot_at m y)) (ap (number_of n.variables) there)))

    -- Readers are constraints.
    pub readers_within : (i j : ℕ) → j < length (cells_at n.readers i)
        → slice_index_or (cells_at n.readers i) j 0 < sys.numbers.constraint_count
    readers_within =
        subst (λ (m : Numbers). (i j : ℕ) → j < length (cells_at n.readers i)
        → get_or (cells_at n.readers i) j 0 < m.constraint_count) (sym o.numbers)
        (λ i j lt. c.within i (get_or (cells_at n.readers i) j 0) (in_at (cells_at n.readers i) j lt))

    -- Each constraint that reads a variable is one of its readers.
    pub readers_all : (k i : ℕ) → i < sys.numbers.variable_count → k < sys.numbers.constraint_count
        → is_read sys (sys.numbers.rule k) (sys.numbers.variable i) ≡ true
        → (j : ℕ) × ((j < length (cells_at n.readers i)) × (slice_index_or (cells_at n.readers i) j 0 ≡ k))
    readers_all =
        subst (λ (m : Numbers). (k i : ℕ) → i < m.variable_count → k < m.constraint_count
        → is_read sys (m.rule k) (m.variable i) ≡ true
        → (j : ℕ) × ((j < length (cells_at n.readers i)) × (get_or (cells_at n.readers i) j 0 ≡ k))) (sym o.numbers)
        (λ k i within lt reads.
        let there = among ((numbers_of n).rule k) (variable_of n.variables i) (rule_is k lt) reads in
        let p = place_of (cells_at n.readers i) k (c.readers k i lt
        (subst (λ z. is_in (numbered (sources_on graph tree ((numbers_of n).rule k))) z ≡ true)
        (number_back n.variables c.variables.laid i within) there)) in
        (p.0, (p.1, p.2)))
