-- The state in which a body ends holds what the states of its ends hold.
use Rattle.std.specs.Prelude.{◌≡◌, ◌⊎◌, ℕ, zero, suc, ◌<◌, ◌≤◌, ◌==◌, Bool, true, false, cond, List, [], ◌∷◌}
use Rattle.std.specs.Prelude.{length}
use Rattle.std.specs.Prelude.{Option, Some, None, IfSome}
use Rattle.std.proofs.Common.{refl, sym, ap, subst, ◌∙◌, inl, inr, arith}
use Rattle.std.specs.FinMap.{get}
use Rattle.std.proofs.lemmas.Bool.{cases_eq, eqb-true}
use Rattle.program_shape.specs.flow_graph.declared.graphs.Edge.{Edge}
use Rattle.program_shape.specs.flow_graph.Graphs.{Edges, Leaves}
use Rattle.program_shape.specs.mutex_configs.declared.nodes.ConfiguredNode.{ConfiguredNode}
use Rattle.program_reports.specs.pointer_dom.Pointer.{ScalarValue}
use Rattle.program_reports.specs.pointer_dom.Values.{IsValueIn, joined_values}
use Rattle.program_reports.proofs.low.pointer_dom.Meaning.{value_included}
use Rattle.program_reports.specs.cell_env.States.{joined_state}
use Rattle.program_shape.specs.tm_lattice.Tables.{IsBelow, joined_at}
use Rattle.program_reports.specs.transfer_rows.StateForms.{Cell, State, IsStateForm, IsStateUnder, IsCellUnder}
use Rattle.program_reports.specs.transfer_rows.StateForms.{own_value, own_of}
use Rattle.program_reports.proofs.low.transfer_rows.CoverSteps.{none_has}
use Rattle.program_reports.specs.table_covers.Solutions.{NodeTable}
use Rattle.program_reports.specs.state_fits.laws.PlacesFit.{states_join}
use Rattle.program_reports.specs.program_equations.Entries.{is_left, is_end, ended_below}

own_by : (a b : Option Cell) (v : ScalarValue) → IsBelow IsCellUnder a b → IsValueIn (own_value a) v
    → IsValueIn (own_value b) v
own_by None b v le h = absurd (none_has v h)
own_by (Some c) None v le h = absurd le
own_by (Some c) (Some d) v le h = value_included c.value d.value v le.value h

own_up : (s r : State) → IsStateUnder s r → (x : ℕ) (v : ScalarValue) → IsValueIn (own_of s x) v
    → IsValueIn (own_of r x) v
own_up s r le x v h = own_by (get s.cells x) (get r.cells x) v (le.cells x) h

-- where nothing leaves, nothing leaves by the test
left_by : (e : Edge) (g : Edges) (place : ℕ) → (Leaves (e ∷ g) place e → ⊥) → (is_left g place ≡ false) → (b : Bool)
    → (e.from == place) ≡ b → cond b true (is_left g place) ≡ false
left_by e g place none rest true at =
    absurd (none (record { among = inl refl; from = eqb-true e.from place at }))
left_by e g place none rest false at = rest

pub not_left : (g : Edges) (place : ℕ) → ((e : Edge) → Leaves g place e → ⊥) → is_left g place ≡ false
not_left [] place none = refl
not_left (e ∷ g) place none =
    left_by e g place (none e) (not_left g place (λ d l. none d (record { among = inr l.among; from = l.from })))
    (e.from == place) refl

module _ (graph : Edges) (nodes : List ConfiguredNode) (table : NodeTable State)
    (forms : (n : ℕ) → n < length nodes → IfSome (table n) IsStateForm) where
  abbrev below : ℕ → Option State
  below k = ended_below graph nodes table k

  joined_form : (a c : Option State) → IfSome a IsStateForm → IfSome c IsStateForm
      → IfSome (joined_at (joined_state joined_values) a c) IsStateForm
  joined_form None c h k = k
  joined_form (Some s) None h k = h
  joined_form (Some s) (Some r) h k = states_join.value s r h k

  form_by : (b : Bool) (n : ℕ) → IfSome (below n) IsStateForm → IfSome (table n) IsStateForm
      → IfSome (cond b (joined_at (joined_state joined_values) (below n) (table n)) (below n)) IsStateForm
  form_by true n h k = joined_form (below n) (table n) h k
  form_by false n h k = h

  below_form : (k : ℕ) → k ≤ length nodes → IfSome (below k) IsStateForm
  below_form zero le = tt
  below_form (suc k) le =
      form_by (is_end graph nodes k) k (below_form k (omega (arith, le))) (forms k (omega (arith, le)))

  -- the option has a state that lies above this one
  pub record IsAbove (a : Option State) (s : State) : Type 0 where
    pub state : State
    pub is : a ≡ Some state
    pub own : (x : ℕ) (v : ScalarValue) → IsValueIn (own_of s x) v → IsValueIn (own_of state x) v

  from_right : (a c : Option State) (s : State) → IfSome a IsStateForm → IfSome c IsStateForm → c ≡ Some s
      → IsAbove (joined_at (joined_state joined_values) a c) s
  from_right a None s h k e = absurd (cc)
  from_right None (Some r) s h k e =
      record { state = r; is = refl; own = λ x v z. subst (λ q. IsValueIn (own_of q x) v) (let f : s ≡ r = cc in f) z }
  from_right (Some q) (Some r) s h k e = record {
    state = joined_state joined_values q r;
    is = refl;
    own = λ x v z. own_up r (joined_state joined_values q r) (states_join.right q r h k) x v
        (subst (λ y. IsValueIn (own_of y x) v) (let f : s ≡ r = cc in f) z);
  }

  from_left : (a c : Option State) (s : State) → IfSome a IsStateForm → IfSome c IsStateForm → IsAbove a s
      → IsAbove (joined_at (joined_state joined_values) a c) s
  from_left None c s h k up = absurd (let e = up.is in cc)
  from_left (Some q) None s h k up = up
  from_left (Some q) (Some r) s h k up = record {
    state = joined_state joined_values q r;
    is = refl;
    own = λ x v z. own_up q (joined_state joined_values q r) (states_join.left q r h k) x v
        (let e = up.is in let f : up.state ≡ q = cc in subst (λ y. IsValueIn (own_of y x) v) f (up.own x v z));
  }

  here_by : (b : Bool) (m : ℕ) (s : State) → b ≡ true → m ≤ length nodes → m < length nodes → table m ≡ Some s
      → IsAbove (cond b (joined_at (joined_state joined_values) (below m) (table m)) (below m)) s
  here_by true m s e le lt at = from_right (below m) (table m) s (below_form m le) (forms m lt) at
  here_by false m s e le lt at = absurd (cc)

  there_by : (b : Bool) (k : ℕ) (s : State) → k < length nodes → IsAbove (below k) s
      → IsAbove (cond b (joined_at (joined_state joined_values) (below k) (table k)) (below k)) s
  there_by true k s lt up = from_left (below k) (table k) s (below_form k (omega (arith, lt))) (forms k lt) up
  there_by false k s lt up = up

  pub ended_above : (k m : ℕ) (s : State) → k ≤ length nodes → m < k → is_end graph nodes m ≡ true
      → table m ≡ Some s → IsAbove (below k) s
  ended_above zero m s le lt ends at = absurd (omega (arith, lt))
  ended_above (suc k) m s le lt ends at = by_case (ended_above k m s) (cases_eq m k)
    where
      by_case : (k ≤ length nodes → m < k → is_end graph nodes m ≡ true → table m ≡ Some s → IsAbove (below k) s)
          → (m ≡ k) ⊎ (m ≡ k → ⊥) → IsAbove (below (suc k)) s
      by_case rest (inl e) =
          here_by (is_end graph nodes k) k s (ap (is_end graph nodes) (sym e) ∙ ends) (omega (arith, le))
          (omega (arith, le)) (ap table (sym e) ∙ at)
      by_case rest (inr ne) =
          there_by (is_end graph nodes k) k s (omega (arith, le))
          (rest (omega (arith, le)) (omega (arith, lt, ne)) ends at)
