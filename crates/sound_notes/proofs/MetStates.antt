-- Where a run comes, the state of the node holds what it comes with.
use Rattle.std.proofs.Common.{◌≡◌, refl, ap, ◌∙◌, ℕ, true, Some}
use Rattle.sound_tables.specs.tm_laid.Layouts.{LaidTree}
use Rattle.sound_tables.specs.concrete_values.declared.values.Value.{Value}
use Rattle.sound_tables.specs.concrete_steps.NextAction.{next}
use Rattle.sound_tables.specs.concrete_steps.Worlds.{World, answers_of}
use Rattle.sound_tables.specs.flow_graph.declared.graphs.Edge.{Edge}
use Rattle.sound_tables.specs.flow_graph.Graphs.{Among}
use Rattle.sound_tables.specs.flow_graph.Operations.{Temps}
use Rattle.sound_tables.specs.transfer_rows.StateForms.{State}
use Rattle.sound_tables.specs.transfer_rows.Covering.{AreIn, IsCopyOf, AreLocalsIn}
use Rattle.sound_tables.specs.program_reports.edge_actions.Layouts.{is_shared_cell}
use Rattle.sound_tables.specs.temporary_types.Sorts.{types_of}
use Rattle.sound_tables.specs.program_reports.state_fits.Kinds.{OfTypes}
use Rattle.sound_tables.specs.program_reports.state_fits.Fits.{FitsPlace, IsSeenCell}
use Rattle.sound_tables.specs.program_reports.table_covers.Solutions.{NodeTable}
use Rattle.sound_tables.specs.task_equations.Bodies.{live_at}
use Rattle.sound_tables.specs.program_equations.Programs.{ProgramBodies, body_at, IsProgram}
use Rattle.sound_tables.specs.tm_soundness.Shape.{Shape}
use Rattle.sound_tables.specs.tm_soundness.Tables.{Tables}
use Rattle.sound_tables.specs.tm_soundness.Covers.{HasLocals}
use Rattle.sound_tables.specs.tm_soundness.Numbered.{TaskOf}
use Rattle.sound_tables.specs.program_shape.Shape.{Parts, Node, Copy, shape_of, from_of}
use Rattle.sound_tables.specs.Programs.{part_of}
use Rattle.sound_tables.specs.Memberships.{found_at, number_at, scalar_as, scalars_as, state_at, tables_with}
use Rattle.sound_tables.proofs.Arriving.{has_seen}
use Rattle.sound_tables.proofs.Covering.{got, have, owned_from}
use Rattle.sound_runs.specs.Sources.{Sets, sets_after, Comes, node_of}
use Rattle.sound_runs.proofs.Lowered.{is_true_answered}
use Rattle.sound_notes.specs.Passes.{node_now}

module _ (laid : LaidTree) (p : ProgramBodies) (is : IsProgram p) (tables : ℕ → NodeTable State) (w : World) where
  -- a state stands at the node to which the body comes at this place, and what it comes with lies in it
  pub record IsMetAt (t place : ℕ) (f : Temps) : Type 0 where
    pub state : State
    pub at : found_at (tables t) (number_at p t (node_now laid w t place)) ≡ Some state
    pub ins : AreIn state (scalars_as f)
    pub locals : (e : Edge) → (let b = body_at p t in Among e b.edges) → e.from ≡ place
        → AreLocalsIn (is_shared_cell p.laid) state (scalars_as f)
    pub comes : (let b = body_at p t in Comes p.laid b.edges place f)
    pub fits : FitsPlace p.laid t (OfTypes p.laid (types_of (is.sorts t))) (live_at (body_at p t) place) state

module _ (laid : LaidTree) (p : ProgramBodies) (is : IsProgram p) (n : ℕ) (number : TaskOf n → ℕ) (rank : ℕ → ℕ)
    (tables : ℕ → NodeTable State) (weak sync : TaskOf n → ℕ → ℕ → Value → Type 0)
    (fits : (q : Node (part_of p n number rank)) (s : State) → state_at p n number rank tables q ≡ Some s
    → FitsPlace p.laid (number q.task) (OfTypes p.laid (types_of (is.sorts (number q.task))))
    (live_at (body_at p (number q.task)) q.place) s) (w : World) where
  abbrev y : Parts
  y = part_of p n number rank

  abbrev S : Shape
  S = shape_of y

  abbrev T : Tables S
  T = tables_with p n number rank tables weak sync

  abbrev sets : TaskOf n → Sets
  sets i = sets_after (next laid (number i)) (answers_of w (number i))

  abbrev q : TaskOf n → ℕ → Node y
  q i place = node_of y (next laid) i place (sets i)

  -- what the tables of the theorem hold, as states hold it
  pub met_at : (i : TaskOf n) (place : ℕ) (f : Temps) → T.inside (q i place) f
      → ((e : Copy y) → e.actor ≡ i → from_of y e ≡ q i place → HasLocals S T e f)
      → Comes y.laid (y.graph (y.number i)) place f → IsMetAt laid p is tables w (number i) place f
  met_at i place f inside has comes = record {
    state = s;
    at = inside.is;
    ins = inside.holds.0;
    locals = locals;
    comes = comes;
    fits = place_fits;
  }
    where
      s : State
      s = inside.state

      place_fits : FitsPlace p.laid (number i) (OfTypes p.laid (types_of (is.sorts (number i))))
          (live_at (body_at p (number i)) place) s
      place_fits = fits (q i place) s inside.is

      -- the copies of own local cells
      locals : (e : Edge) → Among e (y.graph (number i)) → e.from ≡ place
          → AreLocalsIn (is_shared_cell p.laid) s (scalars_as f)
      locals e among from = record {
        in_own = λ t x copy local.
            got (state_at p n number rank tables (from_of y c)) s here
            (k.own t x (have (state_at p n number rank tables (from_of y c)) s here copy)
            (owned_from p.laid (number i) x (copy_seen t x copy) local));
        agree = λ t u x copy other local.
            ap scalar_as
            (k.agree t u x (have (state_at p n number rank tables (from_of y c)) s here copy)
            (have (state_at p n number rank tables (from_of y c)) s here other)
            (owned_from p.laid (number i) x (copy_seen t x copy) local));
      }
        where
          c : Copy y
          c = record {
            actor = i;
            edge = e;
            among = among;
            held = (let z = sets i in z.held);
            found = (let z = sets i in z.found);
            answer = true;
            answered = is_true_answered e.op;
          }

          left : from_of y c ≡ q i place
          left = λ k. node_of y (next laid) i (from k) (sets i)

          k : HasLocals S T c f
          k = has c refl left

          here : state_at p n number rank tables (from_of y c) ≡ Some s
          here = ap (state_at p n number rank tables) left ∙ inside.is

          copy_seen : (u x : ℕ) → IsCopyOf s u x → IsSeenCell p.laid (number i) x
          copy_seen u x copy =
              has_seen p.laid (number i) (types_of (is.sorts (number i))) (live_at (body_at p (number i)) place) s
              place_fits x (inside.holds.1 u x copy)
