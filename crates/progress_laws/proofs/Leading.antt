-- Steps that lead on.
use Rattle.std.proofs.Common.{◌≡◌, refl, ap, sym, ◌∙◌, ℕ, suc, ◌<◌, inl, inr, Bool, true, false, not, List, [], ◌∷◌}
use Rattle.std.proofs.Common.{length, Option, Some, slice_get, arith, ℤ}
use Rattle.std.specs.Prelude.{◌&&◌, if◌then◌else◌, pos, int_le, nat_lt}
use Rattle.std.proofs.lemmas.Bool.{cases_lt, and_from, ltb-true}
use Rattle.std.proofs.lemmas.Option.{slice_get-get_or}
use Rattle.std.proofs.lemmas.List.{get_or_past}
use Rattle.concrete_steps.specs.tm_cint.Conversions.{is_zero}
use Rattle.concrete_steps.specs.tm_cint.declared.Class.TheVariants as Classes
use Rattle.concrete_steps.specs.tm_typed.declared.types.Scalar.{Scalar}
use Rattle.concrete_steps.specs.tm_typed.declared.types.Scalar.TheVariants as Scalars
use Rattle.concrete_steps.specs.tm_laid.Layouts.{LaidTree, cell_of}
use Rattle.concrete_steps.specs.concrete_values.declared.values.Value.{Value}
use Rattle.concrete_steps.specs.concrete_values.declared.values.Value.TheVariants.{Number}
use Rattle.concrete_steps.specs.concrete_values.declared.actions.Next.{Next}
use Rattle.concrete_steps.specs.concrete_values.declared.actions.Next.TheVariants as Acts
use Rattle.concrete_steps.specs.concrete_values.Actions.{is_of, is_between}
use Rattle.concrete_steps.specs.declared.worlds.Content.{Content}
use Rattle.concrete_steps.specs.declared.worlds.Content.TheVariants.{Open, Is}
use Rattle.concrete_steps.specs.declared.worlds.Status.{Status}
use Rattle.concrete_steps.specs.declared.worlds.Status.TheVariants.{Waiting, Ready, Blocked, Done}
use Rattle.concrete_steps.specs.declared.worlds.Choice.TheVariants.{Wake, Run}
use Rattle.concrete_steps.specs.declared.worlds.Stepped.{Stepped}
use Rattle.concrete_steps.specs.declared.worlds.Stepped.TheVariants as Steps
use Rattle.concrete_steps.specs.Places.{is_pointer_scalar}
use Rattle.concrete_steps.specs.Worlds.{World, Standing, standing, no_standing, next_at, holds, is_ready, is_waiting}
use Rattle.concrete_steps.specs.Worlds.{Outcome, refused, none_above, is_taken, load_step, store_step, lock_step}
use Rattle.concrete_steps.specs.Worlds.{act_step, run_step, wake_step, tasks_may_run, step}
use Rattle.concrete_steps.specs.Moves.{status_of, content_of}
use Rattle.concrete_steps.proofs.low.tm_cint.Values.{zero_in}
use Rattle.concrete_steps.proofs.low.tm_cint.Ranges.{is_in-true}
use Rattle.concrete_steps.proofs.Reached.{at}
use Rattle.progress_laws.specs.Progress.{is_number_of, reads_any_of, may_have, leads_to, HasTurn, IsAnswerable}

if_so : (b : Bool) (o o' : Outcome) (a : Stepped) → b ≡ true → o.answer ≡ a → (if b then o else o').answer ≡ a
if_so true o o' a e h = h
if_so false o o' a e h = absurd cc

none_above_by : (p : ℕ) (ss : List Standing)
    → ((j : ℕ) → p < (at ss j).priority → (at ss j).status ≡ Ready → ⊥) → none_above p ss ≡ true
none_above_by p [] h = refl
none_above_by p (s ∷ ss) h =
    and_from (not (is_ready s.status && nat_lt p s.priority)) (none_above p ss)
    (first s.status (nat_lt p s.priority) (λ e f. h 0 (ltb-true p s.priority f) e))
    (none_above_by p ss (λ j. h (suc j)))
  where
    first : (x : Status) (b : Bool) → (x ≡ Ready → b ≡ true → ⊥) → not (is_ready x && b) ≡ true
    first Ready true h = absurd (h refl refl)
    first Ready false h = refl
    first Waiting b h = refl
    first (Blocked m) b h = refl
    first Done b h = refl

number_is : (laid : LaidTree) (sc : Scalar) (n : ℤ) → is_number_of sc n ≡ true → is_of laid sc (Number n) ≡ true
unfolding is_of
number_is laid (Scalars.Int t) n h = h
number_is laid (Scalars.Pointer class) n h = absurd cc

module _ (laid : LaidTree) (w : World) where
  -- the cells of loads and stores are there
  abbrev pub IsThere : Next → Type 0
  IsThere (Acts.Load o k sc b p) = cell_of laid o k < length w.contents
  IsThere (Acts.Store o k sc v p) = cell_of laid o k < length w.contents
  IsThere _ = Unit {0}

module _ (laid : LaidTree) (w : World) (i : ℕ) (s : Standing) (n : ℤ) where
  lock_leads : (m : ℕ) (p : _) (b c : Bool) → holds m s ≡ b → is_taken m w.standings ≡ c
      → (lock_step laid i s m p w).answer ≡ (if b then Steps.Stopped Classes.Lock p else Steps.Done)
  lock_leads m p b c e f = chosen
    where
      inner : (b c : Bool) (x y z : Outcome) (u v : Stepped) → x.answer ≡ u → y.answer ≡ v → z.answer ≡ v
          → (if b then x else if c then y else z).answer ≡ (if b then u else v)
      inner true c x y z u v p q r = p
      inner false true x y z u v p q r = q
      inner false false x y z u v p q r = r

      chosen : (lock_step laid i s m p w).answer ≡ (if b then Steps.Stopped Classes.Lock p else Steps.Done)
      chosen = inner (holds m s) (is_taken m w.standings) _ _ _ (Steps.Stopped Classes.Lock p) Steps.Done refl refl refl
          ∙ ap (λ t. if t then Steps.Stopped Classes.Lock p else Steps.Done) e

  two : (b : Bool) (x y : Outcome) (u v : Stepped) → x.answer ≡ u → y.answer ≡ v
      → (if b then x else y).answer ≡ (if b then u else v)
  two true x y u v p q = p
  two false x y u v p q = q

  load_leads : (sc : Scalar) (x : Content) (c : Option Content) → c ≡ Some x → reads_any_of sc x n ≡ true
      → (load_step laid i s n sc false c w).answer ≡ Steps.Done
  load_leads sc Open c e h =
      ap (λ c. (load_step laid i s n sc false c w).answer) e
      ∙ if_so (is_of laid sc (Number n)) _ _ Steps.Done (number_is laid sc n h) refl
  load_leads sc (Is v) c e h =
      ap (λ c. (load_step laid i s n sc false c w).answer) e ∙ if_so (is_zero n) _ _ Steps.Done h refl

  any_leads : (sc : Scalar) (x : Content) (c : Option Content) → c ≡ Some x → is_number_of sc n ≡ true
      → (load_step laid i s n sc true c w).answer ≡ Steps.Done
  any_leads sc x c e h =
      ap (λ c. (load_step laid i s n sc true c w).answer) e
      ∙ if_so (is_of laid sc (Number n)) _ _ Steps.Done (number_is laid sc n h) refl

  store_leads : (k : ℕ) (v : Value) (x : Content) (c : Option Content) → c ≡ Some x → is_zero n ≡ true
      → (store_step laid i s n k v c w).answer ≡ Steps.Done
  store_leads k v x c e h =
      ap (λ c. (store_step laid i s n k v c w).answer) e ∙ if_so (is_zero n) _ _ Steps.Done h refl

  there : (c : ℕ) → c < length w.contents → slice_get w.contents c ≡ Some (content_of w c)
  there c lt = slice_get-get_or w.contents c Open lt

  pub act_leads : (action : Next) → IsThere laid w action → (action ≡ Acts.Ended → ⊥) → (action ≡ Acts.Misfit → ⊥)
      → may_have laid w action n ≡ true → (act_step laid i s n action w).answer ≡ leads_to s action
  unfolding act_step
  act_leads (Acts.Load o k sc true p) t u f h =
      any_leads sc (content_of w (cell_of laid o k)) (slice_get w.contents (cell_of laid o k))
      (there (cell_of laid o k) t) h
  act_leads (Acts.Load o k sc false p) t u f h =
      load_leads sc (content_of w (cell_of laid o k)) (slice_get w.contents (cell_of laid o k))
      (there (cell_of laid o k) t) h
  act_leads (Acts.Store o k sc v p) t u f h =
      store_leads (cell_of laid o k) v (content_of w (cell_of laid o k)) (slice_get w.contents (cell_of laid o k))
      (there (cell_of laid o k) t) h
  act_leads (Acts.Chosen low high) t u f h = if_so (is_between low high (Number n)) _ _ Steps.Done h refl
  act_leads (Acts.Clear o) t u f h = if_so (is_zero n) _ _ Steps.Done h refl
  act_leads (Acts.Lock m p) t u f h =
      if_so (is_zero n) _ _ _ h (lock_leads m p (holds m s) (is_taken m w.standings) refl refl)
  act_leads (Acts.Unlock m p) t u f h =
      if_so (is_zero n) _ _ _ h (two (holds m s) _ _ Steps.Done (Steps.Stopped Classes.Lock p) refl refl)
  act_leads Acts.Yield t u f h = if_so (is_zero n) _ _ Steps.Done h refl
  act_leads (Acts.Probe m p) t u f h = if_so (is_zero n) _ _ Steps.Done h refl
  act_leads (Acts.Fault class p) t u f h = if_so (is_zero n) _ _ (Steps.Stopped class p) h refl
  act_leads Acts.Spins t u f h = if_so (is_zero n) _ _ Steps.Done h refl
  act_leads Acts.Ended t u f h = absurd (u refl)
  act_leads Acts.Misfit t u f h = absurd (f refl)

-- ## Some number is open

module _ (laid : LaidTree) (w : World) where
  zero_of_int : (sc : Scalar) → is_pointer_scalar sc ≡ false → is_number_of sc (pos 0) ≡ true
  zero_of_int (Scalars.Int t) e = is_in-true t (pos 0) (zero_in t)
  zero_of_int (Scalars.Pointer class) e = absurd cc

  zero_read : (sc : Scalar) (x : Content) → (x ≡ Open → is_pointer_scalar sc ≡ false) → reads_any_of sc x (pos 0) ≡ true
  zero_read sc Open h = zero_of_int sc (h refl)
  zero_read sc (Is v) h = refl

  abbrev pub IsClosed : Next → Type 0
  IsClosed (Acts.Load o k sc b p) = content_of w (cell_of laid o k) ≡ Open → is_pointer_scalar sc ≡ false
  IsClosed _ = Unit {0}

  pub some_number : (action : Next) → IsClosed action → IsAnswerable action
      → (n : ℤ) × (may_have laid w action n ≡ true)
  some_number (Acts.Load o k sc true p) c a = (pos 0, zero_of_int sc a)
  some_number (Acts.Load o k sc false p) c a = (pos 0, zero_read sc (content_of w (cell_of laid o k)) c)
  some_number (Acts.Chosen low high) c a = (low, and_from (int_le low low) (int_le low high) (le_itself low) a)
    where
      le_itself : (z : ℤ) → int_le z z ≡ true
      le_itself z = grind (arith)
  some_number (Acts.Store o k sc v p) c a = (pos 0, refl)
  some_number (Acts.Clear o) c a = (pos 0, refl)
  some_number (Acts.Lock m p) c a = (pos 0, refl)
  some_number (Acts.Unlock m p) c a = (pos 0, refl)
  some_number Acts.Yield c a = (pos 0, refl)
  some_number (Acts.Probe m p) c a = (pos 0, refl)
  some_number (Acts.Fault class p) c a = (pos 0, refl)
  some_number Acts.Spins c a = (pos 0, refl)
  some_number Acts.Ended c a = (pos 0, refl)
  some_number Acts.Misfit c a = (pos 0, refl)

-- ## Whole steps

module _ (laid : LaidTree) (w : World) (going : w.stopped ≡ false) where
  pub run_is : (i : ℕ) (n : ℤ) → i < length w.standings → HasTurn w i
      → (step laid w (Run i n)).answer ≡ (act_step laid i (standing w i) n (next_at laid w i) w).answer
  unfolding step
  run_is i n lt t =
      ap (λ b. (if b then refused w else run_step laid i n (slice_get w.standings i) w).answer) going
      ∙ ap (λ o. (run_step laid i n o w).answer) (slice_get-get_or w.standings i no_standing lt)
      ∙ if_so (is_ready (status_of w i) && none_above (standing w i).priority w.standings) _ _ _
      (and_from (is_ready (status_of w i)) (none_above (standing w i).priority w.standings) (ap is_ready t.ready)
      (none_above_by (standing w i).priority w.standings t.first)) refl

  pub wake_is : (i : ℕ) → i < length w.standings → tasks_may_run laid w ≡ true → status_of w i ≡ Waiting
      → (step laid w (Wake i)).answer ≡ Steps.Done
  unfolding step
  wake_is i lt m e =
      ap (λ b. (if b then refused w else wake_step laid i (slice_get w.standings i) w).answer) going
      ∙ ap (λ o. (wake_step laid i o w).answer) (slice_get-get_or w.standings i no_standing lt)
      ∙ if_so (tasks_may_run laid w && is_waiting (status_of w i)) _ _ Steps.Done
      (and_from (tasks_may_run laid w) (is_waiting (status_of w i)) m (ap is_waiting e)) refl

pub ready_there : (w : World) (i : ℕ) → status_of w i ≡ Ready → i < length w.standings
ready_there w i e = elim (cases_lt i (length w.standings)) [
  | inl lt ↦ lt
  | inr ge ↦ absurd (let x : Waiting ≡ Ready = ap (λ (s : Standing). s.status)
      (sym (get_or_past w.standings i no_standing ge)) ∙ e in cc)
]
