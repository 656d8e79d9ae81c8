-- Moves along edges.
use Rattle.std.proofs.Common.{◌≡◌, refl, sym, ap, subst, ◌∙◌, ℕ, Bool, true, false, ◌∷◌, Some, None}
use Rattle.std.specs.Prelude.{if◌then◌else◌}
use Rattle.tm_laid.specs.Layouts.{LaidTree}
use Rattle.concrete_values.specs.declared.values.Value.{Value}
use Rattle.concrete_values.specs.declared.actions.Next.TheVariants as Acts
use Rattle.flow_graph.specs.declared.graphs.Edge.{Edge}
use Rattle.flow_graph.specs.Operations.{given, doing, effect_by}
use Rattle.flow_graph.specs.Graphs.{Edges}
use Rattle.flow_graph.specs.Runs.{Memory, is_round, Move, Goes, GoesRound, move_by, move_along, move}
use Rattle.graph_positions.specs.declared.outcomes.Outcome.{Outcome}
use Rattle.graph_positions.specs.declared.outcomes.Outcome.TheVariants as Outcomes
use Rattle.graph_positions.specs.declared.steps.Step.{Step}
use Rattle.graph_positions.specs.declared.steps.Step.TheVariants as Steps
use Rattle.graph_positions.specs.Outcomes.{doing_of}
use Rattle.graph_positions.specs.reading.Steps.{edge_at, behind, step_along, LeavesBy, IsStepAt}

opened : (laid : LaidTree) (e : Edge) (es : Edges) (m : Memory) (o : Outcome) → doing_of o ≡ doing laid e.op m.temps
    → move_along laid (e ∷ es) m ≡ move_by (effect_by (given e.op) m.temps (doing_of o)) e m (move_along laid es m)
opened laid e es m o h = ap (λ d. move_by (effect_by (given e.op) m.temps d) e m (move_along laid es m)) (sym h)

same_step : (s t : Step) → Some s ≡ Some t → s ≡ t
same_step s t e = cc

no_step : (s : Step) → Some s ≡ None → ⊥
no_step s e = absurd cc

module _ (laid : LaidTree) (g : Edges) (node : ℕ) (m : Memory) (k : ℕ) (leaves : LeavesBy g node k) where
  by_itself : (v : Value) (b : Bool) → is_round (edge_at g k) m ≡ b
      → move laid g node m ≡ (if b then GoesRound (edge_at g k).to (behind (edge_at g k) m.used v m) else Goes (edge_at g k).to (behind (edge_at g k) m.used v m))
      → IsStepAt laid g node m (if b then Steps.Round k v else Steps.Goes k v)
  by_itself v true r is = record { is = is; along = tt }
  by_itself v false r is = record { is = is; along = (leaves, r) }

  stepped : (o : Outcome) (s : Step) (es : Edges) → doing_of o ≡ doing laid (edge_at g k).op m.temps → step_along k (edge_at g k) m o ≡ Some s
      → move_along laid (edge_at g k ∷ es) m ≡ move laid g node m → IsStepAt laid g node m s
  stepped (Outcomes.Gives v) s es h f along =
      subst (λ (x : Step). IsStepAt laid g node m x) (same_step (if is_round (edge_at g k) m then Steps.Round k v else Steps.Goes k v) s f)
      (by_itself v (is_round (edge_at g k) m) refl (sym along ∙ opened laid (edge_at g k) es m (Outcomes.Gives v) h))
  stepped Outcomes.Shut s es h f along = absurd (no_step s (sym f))
  stepped (Outcomes.Asks action) s es h f along =
      subst (λ (x : Step). IsStepAt laid g node m x) (same_step (Steps.Awaits k action) s f)
      (record { is = sym along ∙ opened laid (edge_at g k) es m (Outcomes.Asks action) h; along = leaves })
  stepped (Outcomes.Fails class place) s es h f along =
      subst (λ (x : Step). IsStepAt laid g node m x) (same_step (Steps.Halts (Acts.Fault class place)) s f)
      (record { is = sym along ∙ opened laid (edge_at g k) es m (Outcomes.Fails class place) h; along = tt })

-- the step along this edge is the move
pub step_here : (laid : LaidTree) (g : Edges) (node : ℕ) (m : Memory) (k : ℕ) (e : Edge) (o : Outcome) (s : Step) (es : Edges) → e ≡ edge_at g k → LeavesBy g node k
    → doing_of o ≡ doing laid e.op m.temps → step_along k e m o ≡ Some s → move_along laid (edge_at g k ∷ es) m ≡ move laid g node m → IsStepAt laid g node m s
step_here laid g node m k e o s es is leaves h f along =
    stepped laid g node m k leaves o s es (subst (λ (x : Edge). doing_of o ≡ doing laid x.op m.temps) is h) (subst (λ (x : Edge). step_along k x m o ≡ Some s) is f) along

passed : (laid : LaidTree) (e : Edge) (es : Edges) (m : Memory) (k : ℕ) (o : Outcome) (mv : Move) → doing_of o ≡ doing laid e.op m.temps → step_along k e m o ≡ None
    → move_along laid (e ∷ es) m ≡ mv → move_along laid es m ≡ mv
passed laid e es m k (Outcomes.Gives v) mv h f along = absurd (no_step (if is_round e m then Steps.Round k v else Steps.Goes k v) f)
passed laid e es m k Outcomes.Shut mv h f along = sym (opened laid e es m Outcomes.Shut h) ∙ along
passed laid e es m k (Outcomes.Asks action) mv h f along = absurd (no_step (Steps.Awaits k action) f)
passed laid e es m k (Outcomes.Fails class place) mv h f along = absurd (no_step (Steps.Halts (Acts.Fault class place)) f)

-- an edge that cannot be gone is passed over
pub step_on : (laid : LaidTree) (g : Edges) (m : Memory) (k : ℕ) (e : Edge) (o : Outcome) (es : Edges) (mv : Move) → e ≡ edge_at g k
    → doing_of o ≡ doing laid e.op m.temps → step_along k e m o ≡ None → move_along laid (edge_at g k ∷ es) m ≡ mv → move_along laid es m ≡ mv
step_on laid g m k e o es mv is h f along =
    passed laid (edge_at g k) es m k o mv (subst (λ (x : Edge). doing_of o ≡ doing laid x.op m.temps) is h) (subst (λ (x : Edge). step_along k x m o ≡ None) is f) along
