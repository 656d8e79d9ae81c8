-- Wherever a run comes, a world of the graphs has the task there; so the states of a solution hold what it comes with.
use Rattle.std.proofs.Common.{◌≡◌, refl, sym, subst, ℕ, List}
use Rattle.sound_tables.specs.concrete_values.declared.values.Value.{Value}
use Rattle.sound_tables.specs.concrete_values.declared.values.Answer.{Answer}
use Rattle.sound_tables.specs.concrete_steps.NextAction.{After}
use Rattle.sound_tables.specs.flow_graph.Graphs.{IsPlain}
use Rattle.sound_tables.specs.flow_graph.Operations.{Temps}
use Rattle.sound_tables.specs.flow_graph.Runs.{Memory, at_entry}
use Rattle.sound_tables.specs.flow_graph.Positions.{Reaches}
use Rattle.sound_tables.specs.tm_soundness.Shape.{Shape, Content as AContent}
use Rattle.sound_tables.specs.tm_soundness.Tables.{Tables}
use Rattle.sound_tables.specs.tm_soundness.GraphWorlds.{waiting, at, awake_waiting, start}
use Rattle.sound_tables.specs.tm_soundness.Shaped.{IsShaped}
use Rattle.sound_tables.specs.tm_soundness.Covers.{HasLocals, IsSolution, IsEntered}
use Rattle.sound_tables.specs.tm_soundness.Invariant.{Writers, IsGood, IsInvariant}
use Rattle.sound_tables.specs.tm_soundness.Worlds.{Source, World as AWorld, IsReached, starts, goes_on, IsLowered, IsIn}
use Rattle.tm_soundness.proofs.Judged.{IsJudged, judged}
use Rattle.tm_soundness.proofs.Movers.{has_locals}
use Rattle.tm_soundness.proofs.Soundness.{reached_holds}
use Rattle.sound_tables.specs.program_shape.Shape.{Parts, Task, Node, Copy, shape_of, from_of}
use Rattle.sound_runs.specs.Sources.{sets_after, Comes, comes_first, node_of, source_of, KeepsAddresses}
use Rattle.sound_notes.proofs.Behind.{IsThere, IsPassed, PassedWith, AllPassed, goes_far, step_passes}

module _ (y : Parts) (next_of : ℕ → After) (plain : (i : Task y) → IsPlain (y.graph (y.number i)))
    (keeps : (i : Task y) → KeepsAddresses y.laid (y.graph (y.number i))) (shape : IsShaped (shape_of y))
    (memory : ℕ → AContent Value) (lowered : IsLowered (shape_of y) (source_of y next_of) (λ i. at_entry.temps))
    (T : Tables (shape_of y)) (sol : IsSolution (shape_of y) T)
    (entered : IsEntered (shape_of y) T memory (λ i. at_entry.temps)) (all : List (Task y))
    (each : (i : Task y) → IsIn (shape_of y) (source_of y next_of) i all) where
  abbrev S : Shape
  S = shape_of y

  abbrev N : Source S
  N = source_of y next_of

  abbrev first : Task y → Temps
  first i = at_entry.temps

  abbrev Passed : AWorld S N → Type 0
  Passed C = AllPassed y next_of plain keeps shape memory first lowered C

  abbrev With : Task y → List Answer → Type 0
  With i answers = PassedWith y next_of plain keeps shape memory first lowered i answers

  -- at the start each task waits at its entry
  all_passed : (C : AWorld S N) → IsReached S N memory C → Passed C
  all_passed C (starts begun) i =
      subst (With i) (sym (begun.answers i))
      (λ node m come.
      goes_far y next_of plain keeps shape memory first lowered i (N.none) 0 at_entry node m refl come
      (record {
        there = record {
          world = record { content = memory; situation = λ j. at S (S.entry j) (first j) waiting };
          reached = start (record { content = λ c. refl; situation = λ j. refl });
          status = waiting;
          awake = awake_waiting;
          here = refl;
        };
        comes = comes_first;
      }))
  all_passed C (goes_on {C = D} reached step) i =
      let j : IsJudged S T N shape sol memory first entered lowered D =
      judged S T N shape sol memory first entered lowered all each D reached in
      step_passes y next_of plain keeps shape memory first lowered D j.world j.reached j.image j.stands C step
      (all_passed D reached) i

  -- ## What the tables hold there

  pub record IsMet (i : Task y) (q : Node y) (place : ℕ) (f : Temps) : Type 0 where
    pub inside : T.inside q f
    pub locals : (e : Copy y) → e.actor ≡ i → from_of y e ≡ q → HasLocals S T e f
    pub comes : Comes y.laid (y.graph (y.number i)) place f

  met_by : (i : Task y) (q : Node y) (place : ℕ) (f : Temps)
      → IsThere y next_of plain keeps shape memory first lowered i q f
      → Comes y.laid (y.graph (y.number i)) place f → IsMet i q place f
  met_by i q place f o comes =
      let inv : (last : Writers S) × IsInvariant S T o.world last =
      reached_holds S T shape sol memory first entered o.world o.reached in
      let κ : ℕ → AContent Value = (let w = o.world in w.content) in
      let good : IsGood S T κ inv.0 i (at S q f o.status) =
      subst (λ z. IsGood S T κ inv.0 i z) o.here (inv.1.good i) in
      record {
        inside = good.inside;
        locals = λ e actor from.
            has_locals S T shape κ inv.0 e f o.status
            (subst (λ j. IsGood S T κ inv.0 j (at S (S.from e) f o.status)) (sym actor)
            (subst (λ r. IsGood S T κ inv.0 i (at S r f o.status)) (sym from) good));
        comes = comes;
      }

  pub met : (C : AWorld S N) → IsReached S N memory C → (i : Task y) (place : ℕ) (m : Memory)
      → Reaches y.laid (y.graph (y.number i)) 0 at_entry (C.answers i) place m
      → IsMet i (node_of y next_of i place (sets_after (next_of (y.number i)) (C.answers i))) place m.temps
  met C reached i place m come =
      let b : IsPassed y next_of plain keeps shape memory first lowered i (C.answers i) place m.temps =
      all_passed C reached i place m come in
      met_by i (node_of y next_of i place (sets_after (next_of (y.number i)) (C.answers i))) place m.temps b.there
      b.comes
