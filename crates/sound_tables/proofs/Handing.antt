-- The tasks enter with what the initial section leaves.
use Rattle.std.specs.Prelude.{◌≡◌, ℕ, ◌<◌, not, true, cond, List, length, get_or}
use Rattle.std.specs.Prelude.{Option, Some, None, IfSome}
use Rattle.std.proofs.Common.{refl, sym, ap, subst, ◌∙◌, arith}
use Rattle.program_reports.proofs.low.edge_actions.Lists.{lt_test}
use Rattle.program_shape.specs.concrete_values.declared.values.Value.{Value}
use Rattle.program_shape.specs.flow_graph.Operations.{Temps}
use Rattle.program_shape.specs.mutex_configs.declared.nodes.ConfiguredNode.{ConfiguredNode}
use Rattle.program_reports.specs.pointer_dom.Values.{IsValueIn}
use Rattle.program_reports.specs.interfere_set.Stores.{Interferences}
use Rattle.program_reports.specs.transfer_rows.StateForms.{State, IsStateForm, own_of}
use Rattle.program_reports.specs.table_covers.Solutions.{NodeTable, at}
use Rattle.program_reports.specs.task_equations.Bodies.{Body}
use Rattle.program_reports.specs.program_equations.Programs.{ProgramBodies, body_at, HasSection, IsProgram}
use Rattle.program_reports.specs.program_equations.Entries.{entry_state, later_state, first_state, ended, is_left}
use Rattle.program_reports.specs.program_equations.Entries.{is_end}
use Rattle.program_reports.specs.program_equations.Systems.{FitsBody, task_entry}
use Rattle.program_reports.specs.program_equations.Solutions.{IsWholeSolution}
use Rattle.program_shape.specs.tm_soundness.Numbered.{TaskOf}
use Rattle.program_shape.specs.tm_soundness.Shape.{Shape, Content}
use Rattle.program_shape.specs.tm_soundness.Section.{Section, IsHandover}
use Rattle.program_shape.specs.Shape.{Node, number_of, shape_of, section_of, IsEnd}
use Rattle.sound_tables.specs.Programs.{parts_of, section_alone}
use Rattle.sound_tables.specs.Premises.{LaysCells, IsGraphOf}
use Rattle.sound_tables.specs.Memberships.{scalar_as, found_at, number_at, there, state_at, tables_of, section_tables}
use Rattle.sound_tables.specs.Starting.{AreCleared}
use Rattle.sound_tables.proofs.Copies.{numbered}
use Rattle.sound_tables.proofs.Ended.{IsAbove, not_left, ended_above}
use Rattle.sound_tables.proofs.Entered.{entry_inside, entry_static, entry_local, entry_fresh, entry_stored}
use Rattle.sound_tables.proofs.Entered.{entry_copies}
use Rattle.sound_tables.proofs.Pairs.{within, entry, entry-fits, solves, weak, sync}

same_some : (a c : State) → Some a ≡ Some c → a ≡ c
same_some a c e = cc

module _ (p : ProgramBodies) (is : IsProgram p) (has : HasSection p) (section : List (Option State))
    (tables : ℕ → NodeTable State) (same : tables p.tasks ≡ at section) (store : Interferences)
    (whole : IsWholeSolution p section tables store)
    (graphs : (i : TaskOf p.tasks) → IsGraphOf p (number_of p.tasks i)) where
  abbrev b : Body
  b = body_at p p.tasks

  abbrev Ends : Type 0
  Ends = Node (section_alone p)

  abbrev reached : Ends → Option State
  reached q = state_at p 1 (λ i. p.tasks) (λ t. 0) tables q

  if_form : (n : ℕ) (a : Option State) → IfSome a (FitsBody b n) → IfSome a IsStateForm
  if_form n None h = tt
  if_form n (Some s) h = h.form

  pub forms : (n : ℕ) → n < length b.nodes → IfSome (at section n) IsStateForm
  forms n lt = let solved = whole.begins has in if_form n (at section n) (solved.fits n lt)

  found_some : (o : Option ℕ) (s : State) → found_at (tables p.tasks) o ≡ Some s
      → (m : ℕ) × (o ≡ Some m) × (tables p.tasks m ≡ Some s)
  found_some None s h = absurd (cc)
  found_some (Some m) s h = (m, refl, h)

  -- the state in which the section ends lies above that of each of its ends
  pub end_above : (q : Ends) (s : State) → IsEnd (section_alone p) q → reached q ≡ Some s
      → IsAbove b.edges b.nodes (at section) forms (ended b (at section)) s
  end_above q s ends found =
      let r = there p 1 (λ i. p.tasks) (λ t. 0) tables q in
      let here = found_some (number_at p p.tasks r) s found in
      let node = numbered b.nodes r here.0 here.1 in
      let free = not_left b.edges q.place ends in
      let is-end : is_end b.edges b.nodes here.0 ≡ true =
      ap (λ (z : ConfiguredNode). not (is_left b.edges z.place)) node.1 ∙ ap not free in
      ended_above b.edges b.nodes (at section) forms (length b.nodes) here.0 s (omega arith) node.0 is-end
      (ap (λ f. f here.0) (sym same) ∙ here.2)

  -- where it does not end, no end is reached
  pub never_ends : ended b (at section) ≡ None → (q : Ends) (s : State) → IsEnd (section_alone p) q
      → reached q ≡ Some s → ⊥
  never_ends none q s ends found =
      let up = end_above q s ends found in let e : None ≡ Some up.state = sym none ∙ up.is in cc

  module _ (z : State) (ends-in : ended b (at section) ≡ Some z) (cells : LaysCells p.laid)
      (memory : ℕ → Content Value) (cleared : AreCleared p.laid memory) where
    begins : (i : TaskOf p.tasks) → task_entry p section (number_of p.tasks i)
        ≡ Some (entry_state p.laid (number_of p.tasks i) (own_of z))
    begins i =
        let t = number_of p.tasks i in
        ap (λ x. cond x (later_state p.laid t (ended b (at section))) (Some (first_state p.laid t)))
        (lt_test p.tasks (length p.bodies) has)
        ∙ ap (λ a. later_state p.laid t a) ends-in

    abbrev P : Shape
    P = shape_of (parts_of p)

    abbrev X : Section P
    X = section_of (parts_of p) p.tasks

    abbrev rank : ℕ → ℕ
    rank t = get_or p.priorities t 0

    abbrev number : TaskOf p.tasks → ℕ
    number i = number_of p.tasks i

    -- what the section leaves is what the tasks enter with
    pub handed_over : (main_temps : Temps) (temps : TaskOf p.tasks → Temps)
        → IsHandover P X (tables_of p tables store) (section_tables p tables) memory main_temps temps
    handed_over main_temps temps = record {
      inside = λ i q f ends h.
          entry_inside p is p.tasks number rank (within p is section tables store whole graphs) graphs tables store
          whole.fits (entry p is section tables store whole graphs) (entry-fits p is section tables store whole graphs)
          (solves p is section tables store whole graphs) cells (weak p is section tables store whole graphs)
          (sync p is section tables store whole graphs) memory i (own_of z) (begins i) (temps i);
      shared = λ i q f x v ends h shared own.
          entry_static p is p.tasks number rank (within p is section tables store whole graphs) graphs tables store
          whole.fits (entry p is section tables store whole graphs) (entry-fits p is section tables store whole graphs)
          (solves p is section tables store whole graphs) cells (weak p is section tables store whole graphs)
          (sync p is section tables store whole graphs) memory i (own_of z) (begins i) x v shared
          (left_behind q x v ends own);
      local = λ i q f c v ends h own reads.
          entry_local p is p.tasks number rank (within p is section tables store whole graphs) graphs tables store
          whole.fits (entry p is section tables store whole graphs) (entry-fits p is section tables store whole graphs)
          (solves p is section tables store whole graphs) cells (weak p is section tables store whole graphs)
          (sync p is section tables store whole graphs) memory i (own_of z) (begins i) cleared c v own reads;
      fresh = λ i x h.
          entry_fresh p is p.tasks number rank (within p is section tables store whole graphs) graphs tables store
          whole.fits (entry p is section tables store whole graphs) (entry-fits p is section tables store whole graphs)
          (solves p is section tables store whole graphs) cells (weak p is section tables store whole graphs)
          (sync p is section tables store whole graphs) memory i (own_of z) (begins i) x h;
      stored = λ i x h.
          entry_stored p is p.tasks number rank (within p is section tables store whole graphs) graphs tables store
          whole.fits (entry p is section tables store whole graphs) (entry-fits p is section tables store whole graphs)
          (solves p is section tables store whole graphs) cells (weak p is section tables store whole graphs)
          (sync p is section tables store whole graphs) memory i (own_of z) (begins i) x h;
      copies = λ i t x h.
          entry_copies p is p.tasks number rank (within p is section tables store whole graphs) graphs tables store
          whole.fits (entry p is section tables store whole graphs) (entry-fits p is section tables store whole graphs)
          (solves p is section tables store whole graphs) cells (weak p is section tables store whole graphs)
          (sync p is section tables store whole graphs) memory i (own_of z) (begins i) t x h;
    }
      where
        left_behind : (q : Ends) (x : ℕ) (v : Value) → IsEnd (section_alone p) q
            → (let u = section_tables p tables in u.own q x v) → IsValueIn (own_of z x) (scalar_as v)
        left_behind q x v ends own =
            let up = end_above q own.state ends own.is in
            subst (λ a. IsValueIn (own_of a x) (scalar_as v)) (same_some up.state z (sym up.is ∙ ends-in))
            (up.own x (scalar_as v) own.holds)
