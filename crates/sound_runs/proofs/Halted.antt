-- Why a step of a run stops with an error.
use Rattle.std.proofs.Common.{◌≡◌, refl, sym, ap, subst, ◌∙◌, ℕ, Bool, true, false}
use Rattle.std.proofs.Common.{◌&&◌}
use Rattle.std.proofs.Common.{if◌then◌else◌, slice_get, slice_set, Option, Some, None, ℤ}
use Rattle.layout_laws.specs.tm_cint.declared.Class.{Class}
use Rattle.layout_laws.specs.tm_cint.declared.Class.TheVariants as Classes
use Rattle.layout_laws.specs.tm_cint.Conversions.{is_zero}
use Rattle.layout_laws.specs.tm_terms.declared.places.Place.{Place}
use Rattle.layout_laws.specs.tm_typed.declared.types.Scalar.{Scalar}
use Rattle.layout_laws.specs.tm_laid.Layouts.{LaidTree, cell_of}
use Rattle.program_shape.specs.concrete_values.declared.values.Value.{Value}
use Rattle.program_shape.specs.concrete_values.declared.values.Value.TheVariants.{Number}
use Rattle.program_shape.specs.concrete_values.declared.values.Answer.TheVariants as Answers
use Rattle.program_shape.specs.concrete_values.declared.actions.Next.{Next}
use Rattle.program_shape.specs.concrete_values.declared.actions.Next.TheVariants as Acts
use Rattle.program_shape.specs.concrete_values.Values.{truth_value}
use Rattle.program_shape.specs.concrete_values.Actions.{is_of, is_between}
use Rattle.program_shape.specs.concrete_steps.declared.worlds.Content.{Content}
use Rattle.program_shape.specs.concrete_steps.declared.worlds.Content.TheVariants.{Open, Is}
use Rattle.program_shape.specs.concrete_steps.declared.worlds.Status.{Status}
use Rattle.program_shape.specs.concrete_steps.declared.worlds.Status.TheVariants.{Waiting, Ready, Blocked, Done}
use Rattle.program_shape.specs.concrete_steps.declared.worlds.Choice.{Choice}
use Rattle.program_shape.specs.concrete_steps.declared.worlds.Choice.TheVariants.{Wake, Run}
use Rattle.program_shape.specs.concrete_steps.declared.worlds.Stepped.TheVariants as Steps
use Rattle.program_shape.specs.concrete_steps.Worlds.{Standing, World, Outcome, next_at, holds, is_ready, is_waiting}
use Rattle.program_shape.specs.concrete_steps.Worlds.{with_status}
use Rattle.program_shape.specs.concrete_steps.Worlds.{with_mutex, refused, did, halted, stand, answered, cleared, freed}
use Rattle.program_shape.specs.concrete_steps.Worlds.{none_above}
use Rattle.program_shape.specs.concrete_steps.Worlds.{is_taken, load_step, store_step, lock_step, unlock_step, yielded}
use Rattle.program_shape.specs.concrete_steps.Worlds.{act_step}
use Rattle.program_shape.specs.concrete_steps.Worlds.{run_step}
use Rattle.program_shape.specs.concrete_steps.Worlds.{tasks_may_run, wake_step, chosen_step, step, standing}
use Rattle.program_shape.specs.concrete_steps.Moves.{status_of}
use Rattle.program_shape.proofs.low.concrete_steps.Reached.{get_some, and_left}

-- what the action of a task that stands so fails with: with its own error, at a mutex that it holds, or at one that it
-- does not hold
pub data HaltsBy (action : Next) (s : Standing) (class : Class) (p : Place) : Type 0 where
  by_fault : action ≡ Acts.Fault class p → HaltsBy action s class p
  by_lock : (m : ℕ) → action ≡ Acts.Lock m p → class ≡ Classes.Lock → holds m s ≡ true → HaltsBy action s class p
  by_unlock : (m : ℕ) → action ≡ Acts.Unlock m p → class ≡ Classes.Lock → holds m s ≡ false
      → HaltsBy action s class p

pub record IsHalted (laid : LaidTree) (w : World) (class : Class) (p : Place) : Type 0 where
  pub task : ℕ
  pub ready : status_of w task ≡ Ready
  pub halts : HaltsBy (next_at laid w task) (standing w task) class p

ready_is : (x : Status) → is_ready x ≡ true → x ≡ Ready
ready_is Ready e = refl
ready_is Waiting e = absurd (cc)
ready_is (Blocked m) e = absurd (cc)
ready_is Done e = absurd (cc)

module _ (laid : LaidTree) (w : World) (class : Class) (p : Place) where
  abbrev Stops : Outcome → Type 0
  Stops o = o.answer ≡ Steps.Stopped class p

  refused_goes : (v : World) → Stops (refused v) → ⊥
  refused_goes v e = cc

  did_goes : (v : World) → Stops (did v) → ⊥
  did_goes v e = cc

  -- one of two ways stops
  if_stops : (b : Bool) (o : Outcome) → Stops (if b then o else refused w) → Stops o
  if_stops true o e = e
  if_stops false o e = absurd (refused_goes w e)

  if_true : (b : Bool) (o : Outcome) → Stops (if b then o else refused w) → b ≡ true
  if_true true o e = refl
  if_true false o e = absurd (refused_goes w e)

  halted_is : (c : Class) (q : Place) (v : World) → Stops (halted c q v) → (c ≡ class) × (q ≡ p)
  halted_is c q v e = (cc, cc)

  module _ (i : ℕ) (s : Standing) (v : ℤ) where
    load_goes : (sc : Scalar) (volatile : Bool) (c : Option Content) → Stops (load_step laid i s v sc volatile c w) → ⊥
    load_goes sc volatile None e = refused_goes w e
    load_goes sc true (Some c) e = let f = if_stops (is_of laid sc (Number v)) (answered laid i s (Answers.Given (Number v)) w) e in cc
    load_goes sc false (Some Open) e = let f = if_stops (is_of laid sc (Number v)) (answered laid i s (Answers.Given (Number v)) w) e in cc
    load_goes sc false (Some (Is x)) e = let f = if_stops (is_zero v) (answered laid i s (Answers.Given x) w) e in cc

    store_goes : (c : ℕ) (x : Value) (old : Option Content) → Stops (store_step laid i s v c x old w) → ⊥
    store_goes c x None e = refused_goes w e
    store_goes c x (Some old) e =
        let f = if_stops (is_zero v) (answered laid i s Answers.Done (record w { contents = slice_set w.contents c (Is x) })) e in cc

    lock_halts : (m : ℕ) (q : Place) (b c : Bool) → holds m s ≡ b
        → Stops (if b then halted Classes.Lock q w
        else if c then did (stand i (with_status (Blocked m) s) w) else answered laid i (with_mutex m true s) Answers.Done w)
        → HaltsBy (Acts.Lock m q) s class p
    lock_halts m q true c h e =
        let k = halted_is Classes.Lock q w e in by_lock m (ap (λ z. Acts.Lock m z) k.1) (sym k.0) h
    lock_halts m q false true h e = absurd (cc)
    lock_halts m q false false h e = absurd (cc)

    unlock_halts : (m : ℕ) (q : Place) (b : Bool) → holds m s ≡ b
        → Stops (if b then answered laid i (with_mutex m false s) Answers.Done (freed m w) else halted Classes.Lock q w)
        → HaltsBy (Acts.Unlock m q) s class p
    unlock_halts m q true h e = absurd (cc)
    unlock_halts m q false h e =
        let k = halted_is Classes.Lock q w e in by_unlock m (ap (λ z. Acts.Unlock m z) k.1) (sym k.0) h

    act_halts : (action : Next) → Stops (act_step laid i s v action w) → HaltsBy action s class p
    unfolding act_step
    act_halts (Acts.Load o k sc volatile q) e = absurd (load_goes sc volatile (slice_get w.contents (cell_of laid o k)) e)
    act_halts (Acts.Store o k sc x q) e = absurd (store_goes (cell_of laid o k) x (slice_get w.contents (cell_of laid o k)) e)
    act_halts (Acts.Chosen low high) e =
        let f = if_stops (is_between low high (Number v)) (answered laid i s (Answers.Given (Number v)) w) e in absurd (cc)
    act_halts (Acts.Clear o) e = let f = if_stops (is_zero v) (answered laid i s Answers.Done (cleared laid o w)) e in absurd (cc)
    act_halts (Acts.Lock m q) e =
        lock_halts m q (holds m s) (is_taken m w.standings) refl (if_stops (is_zero v) (lock_step laid i s m q w) e)
    act_halts (Acts.Unlock m q) e = unlock_halts m q (holds m s) refl (if_stops (is_zero v) (unlock_step laid i s m q w) e)
    act_halts Acts.Yield e = let f = if_stops (is_zero v) (answered laid i (yielded laid i s) Answers.Done w) e in absurd (cc)
    act_halts (Acts.Probe m q) e =
        let f = if_stops (is_zero v) (answered laid i s (Answers.Given (truth_value (is_taken m w.standings))) w) e in absurd (cc)
    act_halts (Acts.Fault c q) e =
        let k = halted_is c q w (if_stops (is_zero v) (halted c q w) e) in
        by_fault (ap (λ z. Acts.Fault z q) k.0 ∙ ap (λ z. Acts.Fault class z) k.1)
    act_halts Acts.Spins e = let f = if_stops (is_zero v) (did w) e in absurd (cc)
    act_halts Acts.Ended e = absurd (refused_goes w e)
    act_halts Acts.Misfit e = absurd (refused_goes w e)

  run_halts : (i : ℕ) (v : ℤ) (o : Option Standing) → slice_get w.standings i ≡ o → Stops (run_step laid i v o w)
      → IsHalted laid w class p
  run_halts i v None h e = absurd (refused_goes w e)
  run_halts i v (Some s) h e =
      let b : Bool = is_ready s.status && none_above s.priority w.standings in
      let o : Outcome = act_step laid i s v (next_at laid w i) w in
      let there : standing w i ≡ s = get_some w.standings i s h in
      record {
        task = i;
        ready = ap (λ (z : Standing). z.status) there
            ∙ ready_is s.status (and_left (is_ready s.status) (none_above s.priority w.standings) (if_true b o e));
        halts = subst (λ z. HaltsBy (next_at laid w i) z class p) (sym there)
            (act_halts i s v (next_at laid w i) (if_stops b o e));
      }

  wake_goes : (i : ℕ) (o : Option Standing) → Stops (wake_step laid i o w) → ⊥
  wake_goes i None e = refused_goes w e
  wake_goes i (Some s) e =
      let f = if_stops (tasks_may_run laid w && is_waiting s.status) (did (stand i (with_status Ready s) w)) e in cc

  chosen_halts : (c : Choice) → Stops (chosen_step laid w c) → IsHalted laid w class p
  chosen_halts (Wake i) e = absurd (wake_goes i (slice_get w.standings i) e)
  chosen_halts (Run i v) e = run_halts i v (slice_get w.standings i) refl e

  stopped_halts : (b : Bool) (c : Choice) → Stops (if b then refused w else chosen_step laid w c)
      → IsHalted laid w class p
  stopped_halts true c e = absurd (refused_goes w e)
  stopped_halts false c e = chosen_halts c e

  -- a step that stops with an error is of a task that may run, whose action fails so
  pub step_halts : (c : Choice) → (step laid w c).answer ≡ Steps.Stopped class p → IsHalted laid w class p
  unfolding step
  step_halts c e = stopped_halts w.stopped c e
