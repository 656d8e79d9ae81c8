-- What holds in every world that is reached, besides what the crates below say.
use Rattle.std.proofs.Common.{◌≡◌, ◌≢◌, ◌⊎◌, refl, ap, sym, subst, ◌∙◌, ℕ, zero, suc, ◌+◌, ◌<◌, ◌≤◌, inl, inr, Bool}
use Rattle.std.proofs.Common.{true, false, List, [], ◌∷◌, ◌++◌, length, map, drop, get_or, Option, Some, None}
use Rattle.std.proofs.Common.{slice_get, slice_set, arith, ℤ}
use Rattle.std.specs.Prelude.{◌&&◌, ◌||◌, if◌then◌else◌}
use Rattle.std.proofs.lemmas.Bool.{cases_eq, eq-eqb}
use Rattle.std.proofs.lemmas.Option.{slice_get-get_or}
use Rattle.std.proofs.lemmas.List.{length-map, length-append, length-set, length-drop}
use Rattle.concrete_steps.specs.tm_cint.Conversions.{is_zero}
use Rattle.concrete_steps.specs.tm_typed.declared.types.Scalar.{Scalar}
use Rattle.concrete_steps.specs.tm_typed.declared.types.Scalar.TheVariants as Scalars
use Rattle.concrete_steps.specs.tm_typed.declared.files.TypedTask.{TypedTask}
use Rattle.concrete_steps.specs.tm_laid.declared.objects.Initial.{Initial}
use Rattle.concrete_steps.specs.tm_laid.declared.objects.Initial.TheVariants as Initials
use Rattle.concrete_steps.specs.tm_laid.declared.cells.LaidCell.{LaidCell}
use Rattle.concrete_steps.specs.tm_laid.Layouts.{LaidTree, cell_at, cell_of, no_cell}
use Rattle.concrete_steps.specs.concrete_values.declared.values.Value.{Value}
use Rattle.concrete_steps.specs.concrete_values.declared.values.Value.TheVariants.{Number}
use Rattle.concrete_steps.specs.concrete_values.declared.values.Answer.{Answer}
use Rattle.concrete_steps.specs.concrete_values.declared.actions.Next.{Next}
use Rattle.concrete_steps.specs.concrete_values.declared.actions.Next.TheVariants as Acts
use Rattle.concrete_steps.specs.concrete_values.Actions.{is_of, is_between}
use Rattle.concrete_steps.specs.declared.worlds.Content.{Content}
use Rattle.concrete_steps.specs.declared.worlds.Content.TheVariants.{Open, Is}
use Rattle.concrete_steps.specs.declared.worlds.Status.{Status}
use Rattle.concrete_steps.specs.declared.worlds.Status.TheVariants.{Waiting, Ready, Blocked, Done}
use Rattle.concrete_steps.specs.declared.worlds.Choice.{Choice}
use Rattle.concrete_steps.specs.declared.worlds.Choice.TheVariants.{Wake, Run}
use Rattle.concrete_steps.specs.declared.worlds.Stepped.TheVariants as Steps
use Rattle.concrete_steps.specs.Places.{is_pointer_scalar}
use Rattle.concrete_steps.specs.NextAction.{next}
use Rattle.concrete_steps.specs.Worlds.{World, Standing, standing, no_standing, answers_of, next_at, holds, is_ready}
use Rattle.concrete_steps.specs.Worlds.{is_waiting, is_done, is_section_done, is_ended, is_section, no_mutex}
use Rattle.concrete_steps.specs.Worlds.{with_mutex, with_status, settled, start, start_tasks, start_section}
use Rattle.concrete_steps.specs.Worlds.{start_standings, initial_content, Outcome, answered, refused, each_from}
use Rattle.concrete_steps.specs.Worlds.{is_part, cleared_content, none_above, is_taken, load_step, store_step, yielded}
use Rattle.concrete_steps.specs.Worlds.{act_step, run_step, wake_step, tasks_may_run, chosen_step, step, woken}
use Rattle.concrete_steps.specs.Worlds.{is_blocked_on}
use Rattle.concrete_steps.specs.Moves.{status_of, content_of, SameAnswers, SameHeld, SameContents, OthersStand}
use Rattle.concrete_steps.specs.Moves.{settled_status, Turn, IsMove, wakes, loads, stores, chooses, clears, takes}
use Rattle.concrete_steps.specs.Moves.{waits_for, gives_up, gives_way, probes, goes_round}
use Rattle.concrete_steps.specs.Occurring.{IsReached, at_start, by_step}
use Rattle.concrete_steps.proofs.Moving.{priorities_stay, steps_are_moves}
use Rattle.concrete_steps.proofs.Reached.{at, none_in}

-- ## Sizes, and that no error has stopped the run

length_each : (f : ℕ → Content → Content) (k : ℕ) (xs : List Content) → length (each_from f k xs) ≡ length xs
length_each f k [] = refl
length_each f k (x ∷ xs) = ap suc (length_each f (suc k) xs)

module _ (laid : LaidTree) (w : World) where
  record Keeps (o : Outcome) : Type 0 where
    going : o.answer ≡ Steps.Done → o.world.stopped ≡ w.stopped
    size : length o.world.contents ≡ length w.contents

  keep_if : (b : Bool) (o o' : Outcome) → Keeps o → Keeps o' → Keeps (if b then o else o')
  keep_if true o o' x y = x
  keep_if false o o' x y = y

  keep_refused : Keeps (refused w)
  keep_refused = record { going = λ e. refl; size = refl }

  keep_answer : (i : ℕ) (t : Standing) (a : Answer) (cs : List Content) (ss : List Standing)
      → length cs ≡ length w.contents
      → Keeps (answered laid i t a (record w { contents = cs; standings = ss }))
  keep_answer i t a cs ss e = record { going = λ f. refl; size = e }

  module _ (i : ℕ) (s : Standing) (v : ℤ) where
    keep_load : (scalar : Scalar) (volatile : Bool) (c : Option Content)
        → Keeps (load_step laid i s v scalar volatile c w)
    keep_load scalar true None = keep_refused
    keep_load scalar false None = keep_refused
    keep_load scalar true (Some x) =
        keep_if (is_of laid scalar (Number v)) _ _ (keep_answer i s _ w.contents w.standings refl) keep_refused
    keep_load scalar false (Some Open) =
        keep_if (is_of laid scalar (Number v)) _ _ (keep_answer i s _ w.contents w.standings refl) keep_refused
    keep_load scalar false (Some (Is x)) =
        keep_if (is_zero v) _ _ (keep_answer i s _ w.contents w.standings refl) keep_refused

    keep_store : (c : ℕ) (x : Value) (old : Option Content) → Keeps (store_step laid i s v c x old w)
    keep_store c x None = keep_refused
    keep_store c x (Some old) =
        keep_if (is_zero v) _ _
        (keep_answer i s _ (slice_set w.contents c (Is x)) w.standings (length-set w.contents c (Is x))) keep_refused

    keep_act : (n : Next) → Keeps (act_step laid i s v n w)
    unfolding act_step
    keep_act (Acts.Load o k scalar volatile p) = keep_load scalar volatile (slice_get w.contents (cell_of laid o k))
    keep_act (Acts.Store o k scalar x p) = keep_store (cell_of laid o k) x (slice_get w.contents (cell_of laid o k))
    keep_act (Acts.Chosen low high) =
        keep_if (is_between low high (Number v)) _ _ (keep_answer i s _ w.contents w.standings refl) keep_refused
    keep_act (Acts.Clear o) =
        keep_if (is_zero v) _ _ (keep_answer i s _ _ w.standings (length_each _ 0 w.contents)) keep_refused
    keep_act (Acts.Lock m p) =
        keep_if (is_zero v) _ _
        (keep_if (holds m s) _ _ (record { going = λ e. absurd cc; size = refl })
        (keep_if (is_taken m w.standings) _ _ (record { going = λ e. refl; size = refl })
        (keep_answer i (with_mutex m true s) _ w.contents w.standings refl))) keep_refused
    keep_act (Acts.Unlock m p) = keep_if (is_zero v) _ _
        (keep_if (holds m s) _ _ (keep_answer i (with_mutex m false s) _ w.contents _ refl)
        (record { going = λ e. absurd cc; size = refl })) keep_refused
    keep_act Acts.Yield =
        keep_if (is_zero v) _ _ (keep_answer i (yielded laid i s) _ w.contents w.standings refl) keep_refused
    keep_act (Acts.Probe m p) = keep_if (is_zero v) _ _ (keep_answer i s _ w.contents w.standings refl) keep_refused
    keep_act (Acts.Fault class p) =
        keep_if (is_zero v) _ _ (record { going = λ e. absurd cc; size = refl }) keep_refused
    keep_act Acts.Spins = keep_if (is_zero v) _ _ (record { going = λ e. refl; size = refl }) keep_refused
    keep_act Acts.Ended = keep_refused
    keep_act Acts.Misfit = keep_refused

  keep_run : (i : ℕ) (v : ℤ) (s : Option Standing) → Keeps (run_step laid i v s w)
  keep_run i v None = keep_refused
  keep_run i v (Some s) =
      keep_if (is_ready s.status && none_above s.priority w.standings) _ _
      (keep_act i s v (next_at laid w i)) keep_refused

  keep_wake : (i : ℕ) (s : Option Standing) → Keeps (wake_step laid i s w)
  keep_wake i None = keep_refused
  keep_wake i (Some s) =
      keep_if (tasks_may_run laid w && is_waiting s.status) _ _ (record { going = λ e. refl; size = refl }) keep_refused

  keep_choice : (c : Choice) → Keeps (chosen_step laid w c)
  keep_choice (Wake i) = keep_wake i (slice_get w.standings i)
  keep_choice (Run i v) = keep_run i v (slice_get w.standings i)

  keep_step : (c : Choice) → Keeps (step laid w c)
  unfolding step
  keep_step c = keep_if w.stopped _ _ keep_refused (keep_choice c)

module _ (laid : LaidTree) where
  pub goes : (w : World) → IsReached laid w → w.stopped ≡ false
  unfolding start
  goes w at_start = refl
  goes w (by_step {w = v} r c e) = (keep_step laid v c).going e ∙ goes v r

  start_size : length laid.cells ≤ length (start laid).contents
  unfolding start
  start_size =
      let a = length-append (map initial_content laid.initial)
      (map (λ (c : LaidCell). cleared_content c.scalar) (drop (length laid.initial) laid.cells)) in
      let b = length-map laid.initial initial_content in
      let c = length-map (drop (length laid.initial) laid.cells) (λ (c : LaidCell). cleared_content c.scalar) in
      let d = length-drop (length laid.initial) laid.cells in
      omega (arith, a, b, c, d)

  pub sized : (w : World) → IsReached laid w → length laid.cells ≤ length w.contents
  sized w at_start = start_size
  sized w (by_step {w = v} r c e) =
      let s = (keep_step laid v c).size in
      let h = sized v r in
      omega (arith, s, h)

  pub counted : (w : World) → IsReached laid w → length w.standings ≡ length (start_standings laid)
  unfolding start
  counted w r =
      let p = ap length (priorities_stay laid w r) in
      let a = length-map w.standings (λ (s : Standing). s.priority) in
      let b = length-map (start_standings laid) (λ (s : Standing). s.priority) in
      omega (arith, p, a, b)

-- ## Cells of pointers are never open

module _ (laid : LaidTree) where
  abbrev pub NoneOpen : World → Type 0
  NoneOpen w =
      (c : ℕ) → c < length laid.cells → content_of w c ≡ Open → is_pointer_scalar (cell_at laid c).scalar ≡ false

  cleared_open : (s : Scalar) → cleared_content s ≡ Open → is_pointer_scalar s ≡ false
  cleared_open (Scalars.Int t) e = refl
  cleared_open (Scalars.Pointer class) e = absurd cc

  initial_closed : (x : Initial) → initial_content x ≡ Open → ⊥
  initial_closed (Initials.Number z) e = absurd cc
  initial_closed Initials.Null e = absurd cc
  initial_closed (Initials.To o k) e = absurd cc

  abbrev clear : List LaidCell → List Content
  clear cs = map (λ (c : LaidCell). cleared_content c.scalar) cs

  clear_open : (cs : List LaidCell) (c : ℕ) → c < length cs → get_or (clear cs) c Open ≡ Open
      → is_pointer_scalar (let x : LaidCell = get_or cs c no_cell in x.scalar) ≡ false
  clear_open [] c lt e = absurd (omega (arith, lt))
  clear_open (x ∷ cs) zero lt e = cleared_open x.scalar e
  clear_open (x ∷ cs) (suc c) lt e = clear_open cs c (omega (arith, lt)) e

  given_open : (xs : List Initial) (cs : List LaidCell) (c : ℕ) → c < length cs
      → get_or (map initial_content xs ++ clear (drop (length xs) cs)) c Open ≡ Open
      → is_pointer_scalar (let x : LaidCell = get_or cs c no_cell in x.scalar) ≡ false
  given_open [] cs c lt e = clear_open cs c lt e
  given_open (x ∷ xs) [] c lt e = absurd (omega (arith, lt))
  given_open (x ∷ xs) (y ∷ cs) zero lt e = absurd (initial_closed x e)
  given_open (x ∷ xs) (y ∷ cs) (suc c) lt e = given_open xs cs c (omega (arith, lt)) e

  start_none : NoneOpen (start laid)
  unfolding start
  start_none c lt e = given_open laid.initial laid.cells c lt e

  same_none : (w w' : World) → NoneOpen w → SameContents w w' → NoneOpen w'
  same_none w w' h s c lt e = h c lt (sym (s.same c) ∙ e)

  part_none : (b : Bool) (s : Scalar) (x : Content) → (x ≡ Open → is_pointer_scalar s ≡ false)
      → (if b then cleared_content s else x) ≡ Open → is_pointer_scalar s ≡ false
  part_none true s x h e = cleared_open s e
  part_none false s x h e = h e

  move_none : (w w' : World) (c : Choice) → length laid.cells ≤ length w.contents → NoneOpen w → IsMove laid w w' c
      → NoneOpen w'
  move_none w w' _ n h (wakes a b c d e f same) = same_none w w' h same
  move_none w w' _ n h (loads a b c d e f same) = same_none w w' h same
  move_none w w' _ n h (stores {o = o} {k = k} {v = v} a b c d e is others) =
      λ q lt f. elim (cases_eq q (cell_of laid o k)) [
        | inr other ↦ h q lt (sym (others q other) ∙ f)
        | inl same ↦ absurd (let clash : Is v ≡ Open = sym is ∙ ap (content_of w') (sym same) ∙ f in cc)
      ]
  move_none w w' _ n h (chooses a b c d e same) = same_none w w' h same
  move_none w w' _ n h (clears {o = o} a b c d is) = λ q lt f.
      part_none (is_part laid o q) (cell_at laid q).scalar (content_of w q) (h q lt)
      (sym (is q (omega (arith, n, lt))) ∙ f)
  move_none w w' _ n h (takes a b c d e same) = same_none w w' h same
  move_none w w' _ n h (waits_for a b c d e f g i j same) = same_none w w' h same
  move_none w w' _ n h (gives_up a b c d e same) = same_none w w' h same
  move_none w w' _ n h (gives_way a b c d same) = same_none w w' h same
  move_none w w' _ n h (probes a b c d same) = same_none w w' h same
  move_none w w' _ n h (goes_round a b c same) = subst NoneOpen (sym same) h

  pub none_open : (w : World) → IsReached laid w → NoneOpen w
  none_open w at_start = start_none
  none_open w (by_step {w = v} r c e) =
      move_none v (step laid v c).world c (sized laid v r) (none_open v r) (steps_are_moves laid v r c e)

-- ## Kinds of moves

abbrev is_blocked : Status → Type 0
is_blocked x = (m : ℕ) × (x ≡ Blocked m)

-- a task takes an answer; others stay so, or were blocked
record Turned (laid : LaidTree) (w w' : World) (i : ℕ) (a : Answer) (base : Status) : Type 0 where
  turn : Turn laid w w' i a base
  based : is_section laid i ≡ true → base ≡ Ready
  others : (j : ℕ) → j ≢ i → (status_of w' j ≡ status_of w j) ⊎ is_blocked (status_of w j)

-- a task is blocked
record Stuck (laid : LaidTree) (w w' : World) (i m : ℕ) : Type 0 where
  unended : next_at laid w i ≡ Acts.Ended → ⊥
  free : holds m (standing w i) ≡ false
  taken : is_taken m w.standings ≡ true
  ready : status_of w i ≡ Ready
  others : OthersStand w w' i
  answers : SameAnswers w w'
  held : SameHeld w w'

data Kind (laid : LaidTree) (w w' : World) : Type 0 where
  woke : {i : ℕ} → tasks_may_run laid w ≡ true → status_of w i ≡ Waiting → OthersStand w w' i → SameAnswers w w'
      → SameHeld w w' → Kind laid w w'
  turned : {i : ℕ} {a : Answer} {base : Status} → Turned laid w w' i a base → Kind laid w w'
  stuck : {i m : ℕ} → Stuck laid w w' i m → Kind laid w w'
  unmoved : w' ≡ w → Kind laid w w'

plain_turn : (laid : LaidTree) (w w' : World) (i : ℕ) (a : Answer) → Turn laid w w' i a Ready → OthersStand w w' i
    → Kind laid w w'
plain_turn laid w w' i a t o = turned (record { turn = t; based = λ e. refl; others = λ j ne. inl (o.same j ne) })

way_based : (b : Bool) → b ≡ true → (let x : Status = if b then Ready else Waiting in x) ≡ Ready
way_based true e = refl
way_based false e = absurd cc

woken_by : (m : ℕ) (s : Standing) (x : Status) → s.status ≡ x → ((woken m s).status ≡ s.status) ⊎ is_blocked s.status
woken_by m s (Blocked n) e = inr (n, e)
woken_by m s Waiting e = inl (ap (λ y. (if is_blocked_on m y then with_status Ready s else s).status) e)
woken_by m s Ready e = inl (ap (λ y. (if is_blocked_on m y then with_status Ready s else s).status) e)
woken_by m s Done e = inl (ap (λ y. (if is_blocked_on m y then with_status Ready s else s).status) e)

up_turn : (laid : LaidTree) (w w' : World) (i m : ℕ) (a : Answer) → Turn laid w w' i a Ready
    → ((j : ℕ) → j ≢ i → status_of w' j ≡ (woken m (standing w j)).status) → Kind laid w w'
up_turn laid w w' i m a t o =
    turned (record {
      turn = t;
      based = λ e. refl;
      others = λ j ne. up j ne (woken_by m (standing w j) (status_of w j) refl);
    })
  where
    up : (j : ℕ) → j ≢ i → ((woken m (standing w j)).status ≡ status_of w j) ⊎ is_blocked (status_of w j)
        → (status_of w' j ≡ status_of w j) ⊎ is_blocked (status_of w j)
    up j ne (inl e) = inl (o j ne ∙ e)
    up j ne (inr b) = inr b

kind_of : (laid : LaidTree) (w w' : World) (c : Choice) → IsMove laid w w' c → Kind laid w w'
kind_of laid w w' _ (wakes {i = i} a b c d e f same) = woke {i = i} a b d e f
kind_of laid w w' _ (loads {i = i} a b c d e f same) = plain_turn laid w w' i _ d e
kind_of laid w w' _ (stores {i = i} a b c d e is others) = plain_turn laid w w' i _ c d
kind_of laid w w' _ (chooses {i = i} a b c d e same) = plain_turn laid w w' i _ c d
kind_of laid w w' _ (clears {i = i} a b c d is) = plain_turn laid w w' i _ b c
kind_of laid w w' _ (takes {i = i} a b c d e same) = plain_turn laid w w' i _ c d
kind_of laid w w' _ (waits_for {i = i} {m = m} a b c d e f g h k same) =
    stuck {i = i} {m = m} (record {
      unended = λ q. absurd (let clash = sym a ∙ q in cc);
      free = b;
      taken = c;
      ready = d;
      others = g;
      answers = h;
      held = k;
    })
kind_of laid w w' _ (gives_up {i = i} {m = m} a b c d e same) = up_turn laid w w' i m _ c d
kind_of laid w w' _ (gives_way {i = i} a b c d same) =
    turned (record { turn = b; based = way_based (is_section laid i); others = λ j ne. inl (c.same j ne) })
kind_of laid w w' _ (probes {i = i} a b c d same) = plain_turn laid w w' i _ b c
kind_of laid w w' _ (goes_round a b c same) = unmoved same

next_same : (laid : LaidTree) (w w' : World) (j : ℕ) → answers_of w' j ≡ answers_of w j
    → next_at laid w' j ≡ next_at laid w j
unfolding next_at
next_same laid w w' j e = ap (next laid j) e

-- ## Whoever comes to the end is done

ended_set : (x : Status) (b : Bool) → b ≡ true → settled_status b x ≡ Done
ended_set x true e = refl
ended_set x false e = absurd cc

settled_done : (laid : LaidTree) (i : ℕ) (action : Next) (s : Standing) → is_ended action ≡ true
    → (settled laid i action s).status ≡ Done
settled_done laid i action s e =
    ap (λ b. (if b
    then record s { status = Done; held = if is_section laid i then no_mutex laid else s.held }
    else s).status) e

module _ (laid : LaidTree) where
  abbrev EndsDone : World → Type 0
  EndsDone w = (i : ℕ) → i < length w.standings → next_at laid w i ≡ Acts.Ended → status_of w i ≡ Done

  abbrev S : ℕ
  S = length laid.file.tasks

  ends_tasks : (main : Option ℕ) (k : ℕ) (ts : List TypedTask) → k + length ts ≡ S → (i : ℕ)
      → i < length (start_tasks laid k ts ++ start_section laid main) → is_ended (next laid (k + i) []) ≡ true
      → (at (start_tasks laid k ts ++ start_section laid main) i).status ≡ Done
  ends_tasks None k [] z i lt e = absurd (omega (arith, lt))
  ends_tasks (Some f) k [] z zero lt e =
      let q : k + 0 ≡ S = omega (arith, z) in
      settled_done laid S (next laid S []) _ (ap (λ j. is_ended (next laid j [])) (sym q) ∙ e)
  ends_tasks (Some f) k [] z (suc i) lt e = absurd (omega (arith, lt))
  ends_tasks main k (t ∷ ts) z zero lt e =
      let q : k + 0 ≡ k = omega arith in
      settled_done laid k (next laid k []) _ (ap (λ j. is_ended (next laid j [])) (sym q) ∙ e)
  ends_tasks main k (t ∷ ts) z (suc i) lt e =
      let q : k + suc i ≡ suc k + i = omega arith in
      ends_tasks main (suc k) ts (omega (arith, z)) i (omega (arith, lt))
      (ap (λ j. is_ended (next laid j [])) (sym q) ∙ e)

  nothing_yet : (ss : List Standing) (i : ℕ) → get_or (map (λ s. (let none : List Answer = [] in none)) ss) i [] ≡ []
  nothing_yet [] zero = refl
  nothing_yet [] (suc i) = refl
  nothing_yet (s ∷ ss) zero = refl
  nothing_yet (s ∷ ss) (suc i) = nothing_yet ss i

  start_ends : EndsDone (start laid)
  unfolding start next_at
  start_ends i lt e =
      ends_tasks laid.file.main 0 laid.file.tasks (omega arith) i lt
      (let z : 0 + i ≡ i = omega arith in
      ap (λ j. is_ended (next laid j [])) z
      ∙ ap (λ l. is_ended (next laid i l)) (sym (nothing_yet (start_standings laid) i)) ∙ ap is_ended e)

  module _ (w w' : World) (many : length w'.standings ≡ length w.standings) (h : EndsDone w) where
    kept_ends : (j : ℕ) → j < length w'.standings → answers_of w' j ≡ answers_of w j → next_at laid w' j ≡ Acts.Ended
        → status_of w j ≡ Done
    kept_ends j lt e q = h j (omega (arith, lt, many)) (sym (next_same laid w w' j e) ∙ q)

    stay_done : (j : ℕ) → status_of w j ≡ Done → (status_of w' j ≡ status_of w j) ⊎ is_blocked (status_of w j)
        → status_of w' j ≡ Done
    stay_done j d (inl e) = e ∙ d
    stay_done j d (inr b) = absurd (let e = sym d ∙ b.1 in cc)

    kind_ends : Kind laid w w' → EndsDone w'
    kind_ends (woke {i = i} a b c d e) j lt q = elim (cases_eq j i) [
      | inl same ↦ absurd (let x : status_of w i ≡ Done = ap (status_of w) (sym same) ∙ kept_ends j lt (d.same j) q in
          let y : Waiting ≡ Done = sym b ∙ x in cc)
      | inr other ↦ c.same j other ∙ kept_ends j lt (d.same j) q
    ]
    kind_ends (turned {i = i} {base = base} t) j lt q = elim (cases_eq j i) [
      | inl same ↦ ap (status_of w') same ∙ t.turn.status
          ∙ ended_set base (is_ended (next_at laid w' i))
          (ap (λ k. is_ended (next_at laid w' k)) (sym same) ∙ ap is_ended q)
      | inr other ↦ stay_done j (kept_ends j lt (t.turn.other_answers j other) q) (t.others j other)
    ]
    kind_ends (stuck {i = i} t) j lt q = elim (cases_eq j i) [
      | inl same ↦ absurd (t.unended
          (ap (next_at laid w) (sym same) ∙ sym (next_same laid w w' j (t.answers.same j)) ∙ q))
      | inr other ↦ t.others.same j other ∙ kept_ends j lt (t.answers.same j) q
    ]
    kind_ends (unmoved same) j lt q =
        ap (λ x. status_of x j) same ∙ kept_ends j lt (ap (λ x. answers_of x j) same) q

  pub ends_done : (w : World) → IsReached laid w → EndsDone w
  ends_done w at_start = start_ends
  ends_done w (by_step {w = v} r c e) =
      let a = counted laid v r in
      let b = counted laid (step laid v c).world (by_step r c e) in
      kind_ends v (step laid v c).world (b ∙ sym a) (ends_done v r)
      (kind_of laid v (step laid v c).world c (steps_are_moves laid v r c e))

-- ## While the initial section is not done the tasks wait and hold nothing

abbrev pub IsIdle : Status → Type 0
IsIdle Waiting = Unit {0}
IsIdle Done = Unit {0}
IsIdle Ready = ⊥
IsIdle (Blocked m) = ⊥

pub not_ready : (x : Status) → IsIdle x → x ≡ Ready → ⊥
not_ready x i e = subst IsIdle e i

not_blocked : (x : Status) → IsIdle x → is_blocked x → ⊥
not_blocked x i b = subst IsIdle b.1 i

none_taken : (m : ℕ) (ss : List Standing) → ((j : ℕ) → holds m (at ss j) ≡ false) → is_taken m ss ≡ false
none_taken m [] h = refl
none_taken m (s ∷ ss) h = ap (λ b. b || is_taken m ss) (h 0) ∙ none_taken m ss (λ j. h (suc j))

stays_done : (x y : Status) → x ≡ Done → (y ≡ x) ⊎ is_blocked x → y ≡ Done
stays_done x y d (inl e) = e ∙ d
stays_done x y d (inr b) = absurd (let e = sym d ∙ b.1 in cc)

stays_idle : (x y : Status) → IsIdle x → (y ≡ x) ⊎ is_blocked x → IsIdle y
stays_idle x y d (inl e) = subst IsIdle (sym e) d
stays_idle x y d (inr b) = absurd (not_blocked x d b)

module _ (laid : LaidTree) where
  abbrev pub N : ℕ
  N = length laid.file.tasks

  pub record Idle (s : Standing) : Type 0 where
    pub status : IsIdle s.status
    pub held : (m : ℕ) → holds m s ≡ false

  abbrev pub Quiet : World → Type 0
  Quiet w = (j : ℕ) → j ≢ N → Idle (standing w j)

  -- the initial section is done, or ready, and then the tasks are quiet
  abbrev pub Begun : World → Type 0
  Begun w = (status_of w N ≡ Done) ⊎ ((status_of w N ≡ Ready) × Quiet w)

  none_idle : Idle no_standing
  none_idle = record { status = tt; held = none }
    where
      none : (m : ℕ) → holds m no_standing ≡ false
      none zero = refl
      none (suc m) = refl

  settled_idle : (i : ℕ) (action : Next) (p : ℕ) (b c : Bool)
      → Idle (if b then record { priority = p; status = Done; held = if c then no_mutex laid else no_mutex laid }
      else record { priority = p; status = Waiting; held = no_mutex laid })
  settled_idle i action p true true = record { status = tt; held = none_in laid.file.mutexes }
  settled_idle i action p true false = record { status = tt; held = none_in laid.file.mutexes }
  settled_idle i action p false c = record { status = tt; held = none_in laid.file.mutexes }

  tasks_idle : (main : Option ℕ) (k : ℕ) (ts : List TypedTask) (j : ℕ) → j ≢ length ts
      → Idle (at (start_tasks laid k ts ++ start_section laid main) j)
  tasks_idle None k [] zero ne = none_idle
  tasks_idle None k [] (suc j) ne = none_idle
  tasks_idle (Some f) k [] zero ne = absurd (ne refl)
  tasks_idle (Some f) k [] (suc zero) ne = none_idle
  tasks_idle (Some f) k [] (suc (suc j)) ne = none_idle
  tasks_idle main k (t ∷ ts) zero ne =
      settled_idle k (next laid k []) t.priority (is_ended (next laid k [])) (is_section laid k)
  tasks_idle main k (t ∷ ts) (suc j) ne = tasks_idle main (suc k) ts j (λ e. ne (ap suc e))

  set_begun : (b : Bool) (s : Standing) (held : List Bool)
      → (let x : Standing = if b then record s { status = Done; held = held } else s in
      s.status ≡ Ready → (x.status ≡ Done) ⊎ (x.status ≡ Ready))
  set_begun true s held e = inl refl
  set_begun false s held e = inr e

  section_begun : (main : Option ℕ) (k : ℕ) (ts : List TypedTask)
      → length ts < length (start_tasks laid k ts ++ start_section laid main)
      → ((at (start_tasks laid k ts ++ start_section laid main) (length ts)).status ≡ Done)
      ⊎ ((at (start_tasks laid k ts ++ start_section laid main) (length ts)).status ≡ Ready)
  section_begun None k [] lt = absurd (omega (arith, lt))
  section_begun (Some f) k [] lt =
      set_begun (is_ended (next laid N [])) (record { priority = 0; status = Ready; held = no_mutex laid })
      (if is_section laid N then no_mutex laid else no_mutex laid) refl
  section_begun main k (t ∷ ts) lt = section_begun main (suc k) ts (omega (arith, lt))

  start_begun : N < length (start_standings laid) → Begun (start laid)
  unfolding start
  start_begun lt = elim (section_begun laid.file.main 0 laid.file.tasks lt) [
    | inl e ↦ inl e
    | inr e ↦ inr (e, λ j ne. tasks_idle laid.file.main 0 laid.file.tasks j ne)
  ]

  is_section_itself : is_section laid N ≡ true
  is_section_itself = eq-eqb N N refl

  done_or_ready : (b : Bool) (base : Status) → base ≡ Ready
      → (settled_status b base ≡ Done) ⊎ (settled_status b base ≡ Ready)
  done_or_ready true base e = inl refl
  done_or_ready false base e = inr e

  module _ (w w' : World) (lt : N < length w.standings) where
    after_done : status_of w N ≡ Done → Kind laid w w' → status_of w' N ≡ Done
    after_done h (woke {i = i} a b c d e) = elim (cases_eq N i) [
      | inl same ↦ absurd (let x : Done ≡ Waiting = sym h ∙ ap (status_of w) same ∙ b in cc)
      | inr other ↦ c.same N other ∙ h
    ]
    after_done h (turned {i = i} t) = elim (cases_eq N i) [
      | inl same ↦ absurd (let x : Done ≡ Ready = sym h ∙ ap (status_of w) same ∙ t.turn.ready in cc)
      | inr other ↦ stays_done (status_of w N) (status_of w' N) h (t.others N other)
    ]
    after_done h (stuck {i = i} t) = elim (cases_eq N i) [
      | inl same ↦ absurd (let x : Done ≡ Ready = sym h ∙ ap (status_of w) same ∙ t.ready in cc)
      | inr other ↦ t.others.same N other ∙ h
    ]
    after_done h (unmoved same) = ap (λ x. status_of x N) same ∙ h

    module _ (ready : status_of w N ≡ Ready) (quiet : Quiet w) where
      stays_quiet : ((j : ℕ) → j ≢ N → (status_of w' j ≡ status_of w j) ⊎ is_blocked (status_of w j))
          → ((j m : ℕ) → j ≢ N → holds m (standing w' j) ≡ holds m (standing w j)) → Quiet w'
      stays_quiet o h j ne = record {
        status = stays_idle (status_of w j) (status_of w' j) (quiet j ne).status (o j ne);
        held = λ m. h j m ne ∙ (quiet j ne).held m;
      }

      mine : (i : ℕ) → status_of w i ≡ Ready → i ≡ N
      mine i e = elim (cases_eq i N) [
        | inl same ↦ same
        | inr other ↦ absurd (not_ready (status_of w i) (quiet i other).status e)
      ]

      not_begun : tasks_may_run laid w ≡ true → ⊥
      not_begun e =
          let f : is_section_done (slice_get w.standings N) ≡ is_section_done (Some (standing w N)) =
          ap is_section_done (slice_get-get_or w.standings N no_standing lt) in
          let g : is_done (status_of w N) ≡ false = ap is_done ready in
          (let clash : true ≡ false = sym e ∙ f ∙ g in cc)

      nobody : (m : ℕ) → holds m (standing w N) ≡ false → is_taken m w.standings ≡ true → ⊥
      nobody m free taken =
          let none : (j : ℕ) → holds m (at w.standings j) ≡ false =
          λ j. elim (cases_eq j N) [
            | inl same ↦ ap (λ k. holds m (standing w k)) same ∙ free
            | inr other ↦ (quiet j other).held m
          ] in
          (let clash : true ≡ false = sym taken ∙ none_taken m w.standings none in cc)

      after_ready : Kind laid w w' → Begun w'
      after_ready (woke {i = i} a b c d e) = absurd (not_begun a)
      after_ready (turned {i = i} {base = base} t) =
          let same : i ≡ N = mine i t.turn.ready in
          let s : status_of w' N ≡ settled_status (is_ended (next_at laid w' i)) base =
          ap (status_of w') (sym same) ∙ t.turn.status in
          let quiet' : Quiet w' =
          stays_quiet (λ j ne. t.others j (λ e. ne (e ∙ same)))
          (λ j m ne. t.turn.other_held j m (λ e. ne (e ∙ same))) in
          elim (done_or_ready (is_ended (next_at laid w' i)) base
          (t.based (ap (is_section laid) same ∙ is_section_itself))) [
            | inl d ↦ inl (s ∙ d)
            | inr r ↦ inr (s ∙ r, quiet')
          ]
      after_ready (stuck {i = i} {m = m} t) =
          let same : i ≡ N = mine i t.ready in
          absurd (nobody m (ap (λ k. holds m (standing w k)) (sym same) ∙ t.free) t.taken)
      after_ready (unmoved same) = subst Begun (sym same) (inr (ready, quiet))

    after : Begun w → Kind laid w w' → Begun w'
    after (inl d) k = inl (after_done d k)
    after (inr r) k = after_ready r.0 r.1 k

  pub begun : N < length (start_standings laid) → (w : World) → IsReached laid w → Begun w
  begun lt w at_start = start_begun lt
  begun lt w (by_step {w = v} r c e) =
      let n = counted laid v r in
      after v (step laid v c).world (omega (arith, n, lt)) (begun lt v r)
      (kind_of laid v (step laid v c).world c (steps_are_moves laid v r c e))
