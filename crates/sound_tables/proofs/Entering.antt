-- What the tables hold at the entry of a task.
use Rattle.std.specs.Prelude.{◌≡◌, ℕ, zero, suc, ◌<◌, nat_lt, Bool, true, false, cond, [], length}
use Rattle.std.specs.Prelude.{get_or}
use Rattle.std.specs.Prelude.{position, Option, Some, None, IfSome, Contains}
use Rattle.std.specs.List.{position_or_len}
use Rattle.std.specs.FinMap.{get}
use Rattle.std.proofs.Common.{refl, ap, subst, ◌∙◌, inl, inr, arith}
use Rattle.std.proofs.lemmas.List.Sums.{position_or_len_is}
use Rattle.program_reports.proofs.low.edge_actions.Lists.{lt_test}
use Rattle.program_shape.specs.mutex_configs.declared.nodes.ConfiguredNode.{ConfiguredNode}
use Rattle.program_shape.specs.mutex_configs.Nodes.{AreNodes, IsBefore, entry_node, is_same_node, at_entry}
use Rattle.program_reports.specs.pointer_dom.Pointer.{ScalarValue}
use Rattle.program_reports.specs.pointer_dom.Values.{IsValueIn}
use Rattle.program_reports.specs.interfere_set.Stores.{Interferences}
use Rattle.program_reports.specs.transfer_rows.StateForms.{Temp, State, own_of}
use Rattle.program_reports.specs.transfer_rows.Accesses.{is_among}
use Rattle.program_reports.specs.transfer_rows.Meanings.{Valuation}
use Rattle.program_reports.specs.transfer_rows.Covering.{AreIn, IsFresh, IsStored}
use Rattle.program_reports.specs.table_covers.Solutions.{NodeTable, IsSolution}
use Rattle.program_reports.specs.temporary_types.Sorts.{types_of}
use Rattle.program_reports.specs.state_fits.Kinds.{OfTypes}
use Rattle.program_reports.specs.state_fits.Fits.{FitsTemp}
use Rattle.program_reports.specs.task_equations.Bodies.{Body, node_at, live_at}
use Rattle.program_reports.specs.task_equations.Equations.{equations_of}
use Rattle.program_reports.specs.program_equations.Programs.{ProgramBodies, body_at, IsProgram}
use Rattle.program_reports.specs.program_equations.Systems.{states, FitsBody, FitsProgram}
use Rattle.program_shape.specs.tm_soundness.Numbered.{TaskOf}
use Rattle.sound_tables.specs.Premises.{IsGraphOf}
use Rattle.sound_tables.specs.Memberships.{found_at, number_at, CopiesStand}
use Rattle.sound_tables.proofs.Led.{Arrives, entry_arrives}
use Rattle.sound_tables.proofs.Raised.{up_own, down_fresh, down_stored}
use Rattle.sound_tables.proofs.Arriving.{fits_place}

-- ## The first node

before_none : (q : ConfiguredNode) → IsBefore q entry_node → ⊥
before_none q (inl p) = omega (arith, p)
before_none q (inr (e, inl h)) = omega (arith, h)
before_none q (inr (e, inr (f, g))) = omega (arith, g)

module _ (b : Body) (nodes : AreNodes b.edges b.nodes) where
  listed : Contains b.nodes entry_node
  listed = (nodes.reached entry_node).1 at_entry

  first_by : (j : ℕ) → j < length b.nodes → get_or b.nodes j entry_node ≡ entry_node → node_at b 0 ≡ entry_node
  first_by zero lt e = e
  first_by (suc j) lt e =
      absurd (before_none (get_or b.nodes 0 entry_node)
      (subst (λ q. IsBefore (get_or b.nodes 0 entry_node) q) e
      (nodes.in_order 0 (suc j) entry_node (omega arith) lt)))

  pub first_is : node_at b 0 ≡ entry_node
  first_is = first_by listed.0 listed.1 listed.2

  some_node : 0 < length b.nodes
  some_node = let lt = listed.1 in omega (arith, lt)

  same_entry : is_same_node entry_node entry_node ≡ true
  same_entry = refl

  pub first_numbered : position (is_same_node entry_node) b.nodes ≡ Some 0
  first_numbered =
      let at : position_or_len (is_same_node entry_node) b.nodes ≡ 0 =
      position_or_len_is (is_same_node entry_node) b.nodes 0 entry_node (omega arith)
      (λ k lt. absurd (omega (arith, lt)))
      (λ lt. ap (is_same_node entry_node) first_is ∙ same_entry) in
      ap (λ k. cond (nat_lt k (length b.nodes)) (Some k) None) at
      ∙ ap (λ z. cond z (Some 0) None) (lt_test 0 (length b.nodes) some_node)

true_false : (x : Bool) → x ≡ true → x ≡ false → ⊥
true_false x t f = cc

module _ (p : ProgramBodies) (is : IsProgram p) (n : ℕ) (number : TaskOf n → ℕ) (rank : ℕ → ℕ)
    (within : (i : TaskOf n) → number i < length p.bodies) (graphs : (i : TaskOf n) → IsGraphOf p (number i))
    (tables : ℕ → NodeTable State) (store : Interferences) (store-fits : FitsProgram p store)
    (entry : TaskOf n → Option State)
    (entry-fits : (i : TaskOf n) → IfSome (entry i) (FitsBody (body_at p (number i)) 0))
    (solves : (i : TaskOf n) → IsSolution states (FitsBody (body_at p (number i)))
    (equations_of (body_at p (number i)) (entry i) store) (tables (number i)))
    (i : TaskOf n) (s : State) (begins : entry i ≡ Some s) where
  abbrev b : Body
  b = body_at p (number i)

  -- the entry node has a state above the one in which the body begins, without temporaries
  pub record IsEntered : Type 0 where
    pub state : State
    pub stands : found_at (tables (number i)) (number_at p (number i) entry_node) ≡ Some state
    pub own_raised : (x : ℕ) (w : ScalarValue) → IsValueIn (own_of s x) w → IsValueIn (own_of state x) w
    pub fresh_lowered : (x : ℕ) → IsFresh state x → IsFresh s x
    pub stored_lowered : (x : ℕ) → IsStored state x → IsStored s x
    pub no_temps : (t : ℕ) (e : Temp) → get state.temps t ≡ Some e → ⊥

  pub entered : IsEntered
  entered =
      let t = number i in
      let arrival : Arrives p is t (within i) store store-fits (entry i) (entry-fits i) (tables t) (solves i) 0 s =
      entry_arrives p is t (within i) store store-fits (entry i) (entry-fits i) (tables t) (solves i) s begins in
      let graph = graphs i in
      let first = first_is b graph.nodes in
      let low = fits_place p is n number rank within graphs tables store store-fits entry entry-fits solves i 0
      entry_node s first arrival.fits in
      let high = fits_place p is n number rank within graphs tables store store-fits entry entry-fits solves i 0
      entry_node arrival.state first arrival.state_fits in
      let types = types_of (is.sorts t) in
      let live = live_at b 0 in
      let begins-with : live ≡ [] = (is.each t (within i)).begins in
      record {
        state = arrival.state;
        stands = ap (found_at (tables t)) (first_numbered b graph.nodes) ∙ arrival.stands;
        own_raised = up_own p.laid t types live s arrival.state low high arrival.under;
        fresh_lowered = down_fresh p.laid t types live s arrival.state low high arrival.under;
        stored_lowered = down_stored p.laid t types live s arrival.state low high arrival.under;
        no_temps = λ u e at.
            let k = subst (FitsTemp (OfTypes p.laid types) live u) at (high.temps u) in
            true_false (is_among [] u) (subst (λ l. is_among l u ≡ true) begins-with k.0) refl;
      }

  -- whatever the temporaries are, they lie in it
  pub all_in : (k : IsEntered) (temps : Valuation) → AreIn k.state temps × CopiesStand k.state
  all_in k temps = (
    record { in_value = λ t e at. absurd (k.no_temps t e at) },
    λ u x c. absurd (k.no_temps u c.entry c.stands),
  )
