-- A cell that a body sees and that is open is local, and where the body waits for an answer, the state of a solution does
-- not say that it is stored.
use Rattle.std.proofs.Common.{◌≡◌, refl, ℕ, ◌<◌, ◌≤◌, ◌^◌, Bool, true, false, List, length}
use Rattle.std.proofs.Common.{Option, Some, None}
use Rattle.std.specs.Prelude.{IsTrue}
use Rattle.std.specs.FinMap.{get}
use Rattle.sound_tables.specs.tm_laid.Layouts.{LaidTree}
use Rattle.sound_tables.specs.concrete_values.declared.values.Value.{Value}
use Rattle.sound_tables.specs.concrete_values.declared.actions.Next.{Next}
use Rattle.sound_tables.specs.concrete_steps.declared.worlds.Content.{Content}
use Rattle.sound_tables.specs.concrete_steps.declared.worlds.Content.TheVariants.{Open, Is}
use Rattle.sound_tables.specs.concrete_steps.Worlds.{World, answers_of}
use Rattle.sound_tables.specs.concrete_steps.Moves.{content_of}
use Rattle.sound_tables.specs.concrete_steps.Occurring.{IsReached}
use Rattle.sound_tables.specs.flow_graph.declared.graphs.Edge.{Edge}
use Rattle.sound_tables.specs.flow_graph.Graphs.{Leaves}
use Rattle.sound_tables.specs.flow_graph.Operations.{Temps, Asks, effect}
use Rattle.sound_tables.specs.flow_graph.Runs.{Memory, at_entry}
use Rattle.sound_tables.specs.flow_graph.Positions.{Reaches}
use Rattle.sound_tables.specs.interfere_set.Stores.{Interferences}
use Rattle.sound_tables.specs.transfer_rows.StateForms.{Cell, State}
use Rattle.sound_tables.specs.transfer_rows.Rows.{is_stored}
use Rattle.sound_tables.specs.program_reports.edge_actions.Layouts.{is_shared_cell}
use Rattle.sound_tables.specs.program_reports.state_fits.Fits.{IsSeenCell, FitsCell}
use Rattle.sound_tables.specs.program_equations.Programs.{ProgramBodies, body_at, IsProgram}
use Rattle.sound_tables.specs.program_equations.Solutions.{tables_of as lists_of, IsPair}
use Rattle.sound_tables.specs.program_shape.Shape.{abstract_of_cell}
use Rattle.sound_tables.proofs.Covering.{owned_from, shared_from}
use Rattle.sound_core.specs.Sound.{IsProgramFrom}
use Rattle.sound_core.specs.Places.{MayAct}
use Rattle.sound_core.specs.Known.{HoldsTold}
use Rattle.sound_core.proofs.Contents.{all_told}
use Rattle.sound_notes.proofs.MetStates.{IsMetAt}
use Rattle.sound_notes.proofs.Awaiting.{unstored_now}

open_holds_none : (k : Content) (v : Value) → k ≡ Open → k ≡ Is v → ⊥
open_holds_none k v e f = cc

not_true : (b : Bool) → (IsTrue b → ⊥) → b ≡ false
not_true true h = absurd (h refl)
not_true false h = refl

-- a cell that a body sees has an entry, which is not stored
not_stored : (laid : LaidTree) (body x : ℕ) (entry : Option Cell) → FitsCell laid body x entry
    → IsSeenCell laid body x → ((c : Cell) → entry ≡ Some c → IsTrue c.stored → ⊥) → is_stored entry ≡ false
not_stored laid body x None fits seen none = absurd (fits seen)
not_stored laid body x (Some c) fits seen none = not_true c.stored (none c refl)

module _ (laid : LaidTree) (p : ProgramBodies) (from : IsProgramFrom laid p) (is : IsProgram p)
    (few : length laid.objects ≤ 2 ^ 32) (tables : List (List (Option State))) (store : Interferences)
    (pair : IsPair p tables store) (w : World) (reached : IsReached laid w) (t cell : ℕ)
    (seen : IsSeenCell p.laid t (abstract_of_cell p.laid cell)) (is_open : content_of w cell ≡ Open) where
  abbrev x : ℕ
  x = abstract_of_cell p.laid cell

  -- cells of static storage are never open
  pub is_local : is_shared_cell p.laid x ≡ false
  is_local = by_case (is_shared_cell p.laid x) refl
    where
      by_case : (b : Bool) → is_shared_cell p.laid x ≡ b → is_shared_cell p.laid x ≡ false
      by_case false shared = shared
      by_case true shared =
          let told : HoldsTold p tables store w cell =
          all_told laid p from is few tables store pair w reached cell (shared_from p.laid x seen.cell shared) in
          absurd (open_holds_none (content_of w cell) told.value is_open told.holds)

  -- the state of the node where the body waits does not say that it is stored
  module _ (may : MayAct laid w t) (within : t < length p.bodies) (place : ℕ) (m : Memory)
      (come : (let b = body_at p t in Reaches p.laid b.edges 0 at_entry (answers_of w t) place m)) (e : Edge)
      (leaves : (let b = body_at p t in Leaves b.edges place e)) (n : Next) (f : Value → Temps)
      (asks : effect p.laid e.op m.temps ≡ Asks n f) (h : IsMetAt laid p is (lists_of tables) w t place m.temps) where
    pub is_unset : (let s = h.state in is_stored (get s.cells x) ≡ false)
    is_unset =
        let s : State = h.state in
        not_stored p.laid t x (get s.cells x) (let fits = h.fits in fits.cells x) seen
        (λ c stands stored.
        unstored_now laid p from is few tables store pair w reached t may within place m come e leaves n f asks cell
        (owned_from p.laid t x seen is_local) is_open s h.at
        (record { entry = c; stands = stands; stored = stored }))
