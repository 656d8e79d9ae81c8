-- Choices that are not allowed, and what comes after an error.
use Rattle.std.proofs.Common.{◌≡◌, ℕ, refl, ap, Bool, true, false, if◌then◌else◌, ℤ, ◌&&◌, Option, Some, None, slice_get}
use Rattle.tm_cint.specs.Conversions.{is_zero}
use Rattle.tm_cint.specs.declared.Class.{Class}
use Rattle.tm_cint.specs.declared.Class.TheVariants as Classes
use Rattle.tm_terms.specs.declared.places.Place.{Place}
use Rattle.concrete_values.specs.tm_typed.declared.types.Scalar.{Scalar}
use Rattle.concrete_values.specs.tm_laid.Layouts.{LaidTree, cell_of}
use Rattle.concrete_values.specs.declared.values.Value.TheVariants.{Number}
use Rattle.concrete_values.specs.declared.actions.Next.{Next}
use Rattle.concrete_values.specs.declared.actions.Next.TheVariants as Acts
use Rattle.concrete_values.specs.Actions.{is_of, is_between}
use Rattle.concrete_steps.specs.declared.worlds.Content.{Content}
use Rattle.concrete_steps.specs.declared.worlds.Content.TheVariants.{Open, Is}
use Rattle.concrete_steps.specs.declared.worlds.Choice.{Choice}
use Rattle.concrete_steps.specs.declared.worlds.Choice.TheVariants.{Wake, Run}
use Rattle.concrete_steps.specs.declared.worlds.Stepped.TheVariants as Steps
use Rattle.concrete_steps.specs.Worlds.{Standing, World, Outcome, next_at, holds, is_ready, is_waiting, refused, did, halted, answered, none_above, is_taken, load_step, store_step, act_step, run_step, tasks_may_run, wake_step, chosen_step, step}
use Rattle.concrete_steps.specs.Laws.{RefusalsChangeNothing, ErrorsEndRuns}

-- where it is not allowed the world is as before, and where it stops the world is stopped
record Lawful (w : World) (o : Outcome) : Type 0 where
  same : o.answer ≡ Steps.NotAllowed → o.world ≡ w
  stops : (class : Class) (p : Place) → o.answer ≡ Steps.Stopped class p → o.world.stopped ≡ true

of_refused : (w : World) → Lawful w (refused w)
of_refused w = record { same = λ e. refl; stops = λ class p e. absurd cc }

of_did : (w v : World) → Lawful w (did v)
of_did w v = record { same = λ e. absurd cc; stops = λ class p e. absurd cc }

of_halted : (w v : World) (class : Class) (p : Place) → Lawful w (halted class p v)
of_halted w v class p = record { same = λ e. absurd cc; stops = λ class p e. refl }

of_if : (w : World) (b : Bool) (o o' : Outcome) → Lawful w o → Lawful w o' → Lawful w (if b then o else o')
of_if w true o o' h h' = h
of_if w false o o' h h' = h'

of_answered : (laid : LaidTree) (w : World) (i : ℕ) (s : Standing) (a : _) (v : World) → Lawful w (answered laid i s a v)
of_answered laid w i s a v = of_did w _

of_load : (laid : LaidTree) (w : World) (i : ℕ) (s : Standing) (v : ℤ) (scalar : Scalar) (volatile : Bool) (c : Option Content)
    → Lawful w (load_step laid i s v scalar volatile c w)
of_load laid w i s v scalar true None = of_refused w
of_load laid w i s v scalar false None = of_refused w
of_load laid w i s v scalar true (Some Open) = of_if w (is_of laid scalar (Number v)) _ _ (of_did w _) (of_refused w)
of_load laid w i s v scalar true (Some (Is x)) = of_if w (is_of laid scalar (Number v)) _ _ (of_did w _) (of_refused w)
of_load laid w i s v scalar false (Some Open) = of_if w (is_of laid scalar (Number v)) _ _ (of_did w _) (of_refused w)
of_load laid w i s v scalar false (Some (Is x)) = of_if w (is_zero v) _ _ (of_did w _) (of_refused w)

of_store : (laid : LaidTree) (w : World) (i : ℕ) (s : Standing) (v : ℤ) (c : ℕ) (x : _) (old : Option Content)
    → Lawful w (store_step laid i s v c x old w)
of_store laid w i s v c x None = of_refused w
of_store laid w i s v c x (Some old) = of_if w (is_zero v) _ _ (of_did w _) (of_refused w)

of_act : (laid : LaidTree) (w : World) (i : ℕ) (s : Standing) (v : ℤ) (action : Next) → Lawful w (act_step laid i s v action w)
unfolding act_step
of_act laid w i s v (Acts.Load o k scalar volatile p) = of_load laid w i s v scalar volatile (slice_get w.contents (cell_of laid o k))
of_act laid w i s v (Acts.Store o k scalar x p) =
    of_store laid w i s v (cell_of laid o k) x (slice_get w.contents (cell_of laid o k))
of_act laid w i s v (Acts.Chosen low high) = of_if w (is_between low high (Number v)) _ _ (of_did w _) (of_refused w)
of_act laid w i s v (Acts.Clear o) = of_if w (is_zero v) _ _ (of_did w _) (of_refused w)
of_act laid w i s v (Acts.Lock m p) =
    of_if w (is_zero v) _ _
    (of_if w (holds m s) _ _ (of_halted w w Classes.Lock p) (of_if w (is_taken m w.standings) _ _ (of_did w _) (of_did w _))) (of_refused w)
of_act laid w i s v (Acts.Unlock m p) =
    of_if w (is_zero v) _ _ (of_if w (holds m s) _ _ (of_did w _) (of_halted w w Classes.Lock p)) (of_refused w)
of_act laid w i s v Acts.Yield = of_if w (is_zero v) _ _ (of_did w _) (of_refused w)
of_act laid w i s v (Acts.Probe m p) = of_if w (is_zero v) _ _ (of_did w _) (of_refused w)
of_act laid w i s v (Acts.Fault class p) = of_if w (is_zero v) _ _ (of_halted w w class p) (of_refused w)
of_act laid w i s v Acts.Spins = of_if w (is_zero v) _ _ (of_did w _) (of_refused w)
of_act laid w i s v Acts.Ended = of_refused w
of_act laid w i s v Acts.Misfit = of_refused w

of_run : (laid : LaidTree) (w : World) (i : ℕ) (v : ℤ) (s : Option Standing) → Lawful w (run_step laid i v s w)
of_run laid w i v None = of_refused w
of_run laid w i v (Some s) =
    of_if w (is_ready s.status && none_above s.priority w.standings) _ _ (of_act laid w i s v (next_at laid w i)) (of_refused w)

of_wake : (laid : LaidTree) (w : World) (i : ℕ) (s : Option Standing) → Lawful w (wake_step laid i s w)
of_wake laid w i None = of_refused w
of_wake laid w i (Some s) = of_if w (tasks_may_run laid w && is_waiting s.status) _ _ (of_did w _) (of_refused w)

of_choice : (laid : LaidTree) (w : World) (c : Choice) → Lawful w (chosen_step laid w c)
of_choice laid w (Wake i) = of_wake laid w i (slice_get w.standings i)
of_choice laid w (Run i v) = of_run laid w i v (slice_get w.standings i)

of_step : (laid : LaidTree) (w : World) (c : Choice) → Lawful w (step laid w c)
unfolding step
of_step laid w c = of_if w w.stopped _ _ (of_refused w) (of_choice laid w c)

pub refusals_change_nothing : RefusalsChangeNothing
refusals_change_nothing laid w c e = (of_step laid w c).same e

after_stop : (laid : LaidTree) (w : World) (c : Choice) → w.stopped ≡ true → (step laid w c).answer ≡ Steps.NotAllowed
unfolding step
after_stop laid w c e = ap (λ b. (if b then refused w else chosen_step laid w c).answer) e

pub errors_end_runs : ErrorsEndRuns
errors_end_runs laid w c class p e d = after_stop laid (step laid w c).world d ((of_step laid w c).stops class p e)
