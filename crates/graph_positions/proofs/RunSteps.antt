-- A run after one answer more.
use Rattle.std.proofs.Common.{◌≡◌, sym, subst, ℕ, Bool, true, false, List, [], ◌∷◌, ◌++◌, Result, Ok, Err}
use Rattle.std.specs.Prelude.{OnErr}
use Rattle.tm_laid.specs.Layouts.{LaidTree}
use Rattle.concrete_values.specs.declared.values.Answer.{Answer}
use Rattle.concrete_values.specs.declared.actions.Next.{Next}
use Rattle.concrete_values.specs.declared.actions.Next.TheVariants.{Misfit}
use Rattle.flow_graph.specs.Graphs.{Edges}
use Rattle.flow_graph.specs.Runs.{Memory, at_entry, move, Runs}
use Rattle.flow_graph.specs.Positions.{Reaches, Is}
use Rattle.flow_graph.proofs.Positions.{reaches_then}
use Rattle.flow_graph.proofs.Same.{same_next}
use Rattle.graph_positions.specs.declared.runs.Run.{Run}
use Rattle.graph_positions.specs.declared.positions.Position.{Position}
use Rattle.graph_positions.specs.Memories.{memory_of}
use Rattle.graph_positions.specs.Positions.{IsPositionOf, IsAnswered}
use Rattle.graph_positions.specs.RunsAfter.{HaveLed, IsRunAfter}
use Rattle.graph_positions.proofs.Ends.{led_on, stands_behind, none_fits, still_none_fits, nothing_follows}

pub on_err : {A E : Type 0} (r : Result A E) (P : Type 0) → P → OnErr r P
on_err (Ok a) P p = tt
on_err (Err e) P p = p

module _ (laid : LaidTree) (g : Edges) (nodes : ℕ) (answers : List Answer) (a : Answer) where
  abbrev pub run_with : Position → Next → Bool → Run
  run_with p n fits = record { position = p; next = n; fits = fits }

  fitted : (run : Run) → (fits : Bool) → fits ≡ true → HaveLed laid g answers fits run.position.node (memory_of run.position)
      → Reaches laid g 0 at_entry answers run.position.node (memory_of run.position)
  fitted run true e led = led
  fitted run false e led = absurd cc

  unfitted : (run : Run) → (fits : Bool) → fits ≡ false → HaveLed laid g answers fits run.position.node (memory_of run.position)
      → (more : List Answer) → Runs laid g 0 at_entry (answers ++ more) Misfit
  unfitted run true e led = absurd cc
  unfitted run false e led = led

  taken : (node node' : ℕ) (m m' : Memory) → (b : Bool) → b ≡ true → IsAnswered laid g node m a b node' m' → Reaches laid g node m (a ∷ []) node' m'
  taken node node' m m' true e h = h
  taken node node' m m' false e h = absurd cc

  untaken : (node node' : ℕ) (m m' : Memory) → (b : Bool) → b ≡ false → IsAnswered laid g node m a b node' m' → (rest : List Answer) → Runs laid g node m (a ∷ rest) Misfit
  untaken node node' m m' true e h = absurd cc
  untaken node node' m m' false e h = h.1

  -- the answer fits
  pub answered_run : (run : Run) (p q : Position) (n : Next) (b : Bool) → run.fits ≡ true → b ≡ true → IsRunAfter laid g nodes answers run
      → IsAnswered laid g run.position.node (memory_of run.position) a b p.node (memory_of p) → IsPositionOf g nodes q
      → Reaches laid g p.node (memory_of p) [] q.node (memory_of q) → Is (move laid g q.node (memory_of q)) n
      → IsRunAfter laid g nodes (answers ++ a ∷ []) (run_with q n run.fits)
  answered_run run p q n b f e after answered position drifts is =
      let before = fitted run run.fits f after.led in
      let there = reaches_then laid g before (taken run.position.node p.node (memory_of run.position) (memory_of p) b e answered) in
      let led = led_on laid g (answers ++ a ∷ []) p.node q.node (memory_of p) (memory_of q) there drifts in
      record {
        position = position;
        next = stands_behind laid g (answers ++ a ∷ []) q.node (memory_of q) n led is;
        led = subst (λ (fits : Bool). HaveLed laid g (answers ++ a ∷ []) fits q.node (memory_of q)) (sym f) led;
      }

  -- it does not fit
  pub misfit_run : (run : Run) (p : Position) (b : Bool) → run.fits ≡ true → b ≡ false → IsRunAfter laid g nodes answers run
      → IsAnswered laid g run.position.node (memory_of run.position) a b p.node (memory_of p) → IsPositionOf g nodes p
      → IsRunAfter laid g nodes (answers ++ a ∷ []) (run_with p Misfit false)
  misfit_run run p b f e after answered position =
      let before = fitted run run.fits f after.led in
      let none = none_fits laid g answers a run.position.node (memory_of run.position) before
      (untaken run.position.node p.node (memory_of run.position) (memory_of p) b e answered) in
      record { position = position; next = nothing_follows laid g (answers ++ a ∷ []) none; led = none }

  -- none has fitted
  pub still_misfit : (run : Run) → run.fits ≡ false → IsRunAfter laid g nodes answers run → IsRunAfter laid g nodes (answers ++ a ∷ []) run
  still_misfit run f after =
      let none = unfitted run run.fits f after.led in
      let more = still_none_fits laid g answers a none in
      let same : Misfit ≡ run.next = same_next laid g (nothing_follows laid g answers none) after.next in
      record {
        position = after.position;
        next = subst (λ (n : Next). Runs laid g 0 at_entry (answers ++ a ∷ []) n) same (nothing_follows laid g (answers ++ a ∷ []) more);
        led = subst (λ (fits : Bool). HaveLed laid g (answers ++ a ∷ []) fits run.position.node (memory_of run.position)) (sym f) more;
      }

  -- the run has gone on by itself, with no answer more
  pub same_run : (run : Run) (p : Position) → run.fits ≡ true → IsRunAfter laid g nodes answers run → IsPositionOf g nodes p
      → Reaches laid g run.position.node (memory_of run.position) [] p.node (memory_of p) → IsRunAfter laid g nodes answers (run_with p run.next run.fits)
  same_run run p f after position drifts = record {
    position = position;
    next = after.next;
    led = subst (λ (fits : Bool). HaveLed laid g answers fits p.node (memory_of p)) (sym f)
        (led_on laid g answers run.position.node p.node (memory_of run.position) (memory_of p) (fitted run run.fits f after.led) drifts);
  }
