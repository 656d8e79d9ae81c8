-- Worlds that are reached are proper.
use Rattle.std.proofs.Common.{◌≡◌, refl, ap, sym, subst, ◌∙◌, ℕ, zero, suc, ◌+◌, ◌<◌, inl, inr, Bool, true, false, List}
use Rattle.std.proofs.Common.{[], ◌∷◌, ◌++◌, length, map, get_or, Option, Some, None, slice_get, arith, ℤ}
use Rattle.std.specs.Prelude.{◌&&◌, if◌then◌else◌, is_some, slice_set}
use Rattle.std.proofs.lemmas.Bool.{cases_eq, cases_lt}
use Rattle.std.proofs.lemmas.Option.{slice_get_within, get_or_from_slice_get}
use Rattle.std.proofs.lemmas.List.{length-map, length-append, length-set, get_or-set_same, get_or-set_other}
use Rattle.std.proofs.lemmas.List.{get_or_past}
use Rattle.cell_layout.specs.tm_cint.Conversions.{is_zero}
use Rattle.cell_layout.specs.tm_typed.declared.types.Scalar.{Scalar}
use Rattle.cell_layout.specs.tm_typed.declared.types.Scalar.TheVariants as Scalars
use Rattle.cell_layout.specs.tm_typed.declared.files.TypedTask.{TypedTask}
use Rattle.cell_layout.specs.tm_typed.Files.{TypedFileTree}
use Rattle.cell_layout.specs.tm_laid.Paths.{listed, bodies_of}
use Rattle.cell_layout.specs.tm_laid.Layouts.{LaidTree, layout_of, cell_at, cell_of}
use Rattle.cell_types.specs.concrete_values.declared.values.Pointer.TheVariants as Pointers
use Rattle.cell_types.specs.concrete_values.declared.values.Value.{Value}
use Rattle.cell_types.specs.concrete_values.declared.values.Value.TheVariants.{Number, Pointer as APointer}
use Rattle.cell_types.specs.concrete_values.declared.values.Answer.{Answer}
use Rattle.cell_types.specs.concrete_values.declared.values.Answer.TheVariants as Answers
use Rattle.cell_types.specs.concrete_values.declared.actions.Next.{Next}
use Rattle.cell_types.specs.concrete_values.declared.actions.Next.TheVariants as Acts
use Rattle.cell_types.specs.concrete_values.Values.{truth_value}
use Rattle.cell_types.specs.concrete_values.Actions.{is_of, is_between, value_if, answer_of}
use Rattle.concrete_steps.specs.declared.worlds.Content.{Content}
use Rattle.concrete_steps.specs.declared.worlds.Content.TheVariants.{Open, Is}
use Rattle.concrete_steps.specs.declared.worlds.Choice.{Choice}
use Rattle.concrete_steps.specs.declared.worlds.Choice.TheVariants.{Wake, Run}
use Rattle.concrete_steps.specs.Worlds.{World, Standing, answers_of, next_at, holds, is_ready, is_waiting, with_mutex}
use Rattle.concrete_steps.specs.Worlds.{start, start_tasks, start_section, start_standings, Outcome, answered}
use Rattle.concrete_steps.specs.Worlds.{each_from, is_part, cleared_content, none_above, is_taken, load_step}
use Rattle.concrete_steps.specs.Worlds.{store_step, yielded, act_step, run_step, wake_step, tasks_may_run, step}
use Rattle.concrete_steps.specs.Occurring.{IsReached, at_start, by_step}
use Rattle.concrete_steps.specs.NextAction.{After, next}
use Rattle.concrete_steps.proofs.Moving.{priorities_stay}
use Rattle.next_action_laws.specs.Actions.{Fit, IsProper}
use Rattle.next_action_laws.specs.Worlds.{HoldsTypes, WorldsAreProper}
use Rattle.next_action_laws.proofs.Answered.{layout_is, actions_are_proper}
use Rattle.next_action_laws.proofs.StartingCells.{starts_hold}

-- ## One answer more

fit_more : (laid : LaidTree) (k : After) (l : List Answer) (a : Answer) → Fit laid k l
    → is_some (answer_of laid (k l) a) ≡ true → Fit laid k (l ++ a ∷ [])
fit_more laid k [] a f e = (e, tt)
fit_more laid k (b ∷ l) a f e = (f.0, fit_more laid (λ more. k (b ∷ more)) l a f.1 e)

module _ (laid : LaidTree) where
  -- the value may stand in the cell
  abbrev Stands : ℕ → Value → Type 0
  Stands c v = is_of laid (cell_at laid c).scalar v ≡ true

  abbrev AreTyped : List Content → Type 0
  AreTyped cs = (c : ℕ) (v : Value) → get_or cs c Open ≡ Is v → Stands c v

  -- ## Contents

  same_value : (u v : Value) → Is u ≡ Is v → u ≡ v
  same_value u v e = cc

  stored_typed : (cs : List Content) (k : ℕ) (x : Value) → AreTyped cs → Stands k x → AreTyped (slice_set cs k (Is x))
  stored_typed cs k x h s c v e = elim (cases_eq c k) [
    | inr other ↦ h c v (sym (get_or-set_other cs k c (Is x) Open other) ∙ e)
    | inl same ↦ elim (cases_lt k (length cs)) [
      | inl lt ↦
          (let is : Is x ≡ Is v = sym (get_or-set_same cs k (Is x) Open lt)
          ∙ ap (λ i. get_or (slice_set cs k (Is x)) i Open) (sym same) ∙ e in
          subst (λ i. Stands i v) (sym same) (subst (λ (y : Value). Stands k y) (same_value x v is) s))
      | inr ge ↦
          (let n = length-set cs k (Is x) in
          let past : get_or (slice_set cs k (Is x)) c Open ≡ Open =
          get_or_past (slice_set cs k (Is x)) c Open (omega (arith, n, ge, same)) in
          absurd (let clash : Open ≡ Is v = sym past ∙ e in cc))
    ]
  ]

  cleared_stands : (s : Scalar) (v : Value) → cleared_content s ≡ Is v → is_of laid s v ≡ true
  unfolding is_of
  cleared_stands (Scalars.Int t) v e = absurd cc
  cleared_stands (Scalars.Pointer class) v e =
      subst (λ (y : Value). is_of laid (Scalars.Pointer class) y ≡ true) (same_value (APointer Pointers.Invalid) v e)
      refl

  clear_cell : (c : ℕ) (b : Bool) (x : Content) (v : Value) → (x ≡ Is v → Stands c v)
      → (if b then cleared_content (cell_at laid c).scalar else x) ≡ Is v → Stands c v
  clear_cell c true x v h e = cleared_stands (cell_at laid c).scalar v e
  clear_cell c false x v h e = h e

  cleared_from : (o k : ℕ) (cs : List Content) → ((c : ℕ) (v : Value) → get_or cs c Open ≡ Is v → Stands (k + c) v)
      → (c : ℕ) (v : Value)
      → get_or (each_from (λ d x. if is_part laid o d then cleared_content (cell_at laid d).scalar else x) k cs) c
      Open ≡ Is v → Stands (k + c) v
  cleared_from o k [] h c v e = h c v e
  cleared_from o k (x ∷ cs) h zero v e =
      let z : k ≡ k + 0 = omega arith in
      subst (λ i. Stands i v) z (clear_cell k (is_part laid o k) x v (λ f. subst (λ i. Stands i v) (sym z) (h 0 v f)) e)
  cleared_from o k (x ∷ cs) h (suc c) v e =
      let z : suc k + c ≡ k + suc c = omega arith in
      subst (λ i. Stands i v) z
      (cleared_from o (suc k) cs
      (λ d u f. let y : k + suc d ≡ suc k + d = omega arith in subst (λ i. Stands i u) y (h (suc d) u f)) c v e)

  cleared_typed : (o : ℕ) (cs : List Content) → AreTyped cs
      → AreTyped (each_from (λ d x. if is_part laid o d then cleared_content (cell_at laid d).scalar else x) 0 cs)
  cleared_typed o cs h c v e =
      let z : 0 + c ≡ c = omega arith in
      subst (λ i. Stands i v) z
      (cleared_from o 0 cs (λ d u f. let y : d ≡ 0 + d = omega arith in subst (λ i. Stands i u) y (h d u f)) c v e)

  -- ## Which answers fit

  load_takes : (o k : ℕ) (s : Scalar) (b : Bool) (p : _) (v : Value) → is_of laid s v ≡ true
      → is_some (answer_of laid (Acts.Load o k s b p) (Answers.Given v)) ≡ true
  unfolding answer_of
  load_takes o k s b p v e = ap (λ t. is_some (value_if t v)) e

  choice_takes : (low high : ℤ) (v : Value) → is_between low high v ≡ true
      → is_some (answer_of laid (Acts.Chosen low high) (Answers.Given v)) ≡ true
  unfolding answer_of
  choice_takes low high v e = ap (λ t. is_some (value_if t v)) e

  probe_takes : (m : ℕ) (p : _) (b : Bool)
      → is_some (answer_of laid (Acts.Probe m p) (Answers.Given (truth_value b))) ≡ true
  unfolding answer_of
  probe_takes m p true = refl
  probe_takes m p false = refl

  store_takes : (o k : ℕ) (s : Scalar) (v : Value) (p : _)
      → is_some (answer_of laid (Acts.Store o k s v p) Answers.Done) ≡ true
  unfolding answer_of
  store_takes o k s v p = refl

  clear_takes : (o : ℕ) → is_some (answer_of laid (Acts.Clear o) Answers.Done) ≡ true
  unfolding answer_of
  clear_takes o = refl

  lock_takes : (m : ℕ) (p : _) → is_some (answer_of laid (Acts.Lock m p) Answers.Done) ≡ true
  unfolding answer_of
  lock_takes m p = refl

  unlock_takes : (m : ℕ) (p : _) → is_some (answer_of laid (Acts.Unlock m p) Answers.Done) ≡ true
  unfolding answer_of
  unlock_takes m p = refl

  yield_takes : is_some (answer_of laid Acts.Yield Answers.Done) ≡ true
  unfolding answer_of
  yield_takes = refl

  -- ## Steps

  -- cells hold values of their types, and the answers so far fit
  record IsFit (w : World) : Type 0 where
    contents : AreTyped w.contents
    answers : (i : ℕ) → Fit laid (next laid i) (answers_of w i)

  module _ (w : World) (fit : IsFit w) where
    abbrev Fits : Outcome → Type 0
    Fits o = IsFit o.world

    either : (b : Bool) (o o' : Outcome) → (b ≡ true → Fits o) → Fits o' → Fits (if b then o else o')
    either true o o' x y = x refl
    either false o o' x y = y

    -- a task takes an answer that fits
    takes : (i : ℕ) (n : Next) (t : Standing) (a : Answer) (cs : List Content) (ss : List Standing)
        → next_at laid w i ≡ n → AreTyped cs → is_some (answer_of laid n a) ≡ true
        → Fits (answered laid i t a (record w { contents = cs; standings = ss }))
    unfolding next_at
    takes i n t a cs ss e h g = record { contents = h; answers = fits }
      where
        more : List Answer
        more = answers_of w i ++ a ∷ []

        longer : Fit laid (next laid i) (answers_of w i ++ a ∷ [])
        longer = fit_more laid (next laid i) (answers_of w i) a (fit.answers i)
            (subst (λ (x : Next). is_some (answer_of laid x a) ≡ true) (sym e) g)

        fits : (j : ℕ) → Fit laid (next laid j) (get_or (slice_set w.answers i (answers_of w i ++ a ∷ [])) j [])
        fits j = elim (cases_eq j i) [
          | inr other ↦ subst (λ (l : List Answer). Fit laid (next laid j) l)
              (sym (get_or-set_other w.answers i j (answers_of w i ++ a ∷ []) [] other)) (fit.answers j)
          | inl same ↦ elim (cases_lt i (length w.answers)) [
            | inl lt ↦
                subst (λ k. Fit laid (next laid k) (get_or (slice_set w.answers i (answers_of w i ++ a ∷ [])) k []))
                (sym same)
                (subst (λ (l : List Answer). Fit laid (next laid i) l)
                (sym (get_or-set_same w.answers i (answers_of w i ++ a ∷ []) [] lt)) longer)
            | inr ge ↦
                (let n = length-set w.answers i (answers_of w i ++ a ∷ []) in
                subst (λ (l : List Answer). Fit laid (next laid j) l)
                (sym (get_or_past (slice_set w.answers i (answers_of w i ++ a ∷ [])) j []
                (omega (arith, n, ge, same)))) tt)
          ]
        ]

    -- only standings change
    stays : (ss : List Standing) → IsFit (record w { standings = ss })
    stays ss = record { contents = fit.contents; answers = fit.answers }

    module _ (i : ℕ) (s : Standing) where
      load_fits : (o k : ℕ) (scalar : Scalar) (volatile : Bool) (p : _)
          → next_at laid w i ≡ Acts.Load o k scalar volatile p → (cell_at laid (cell_of laid o k)).scalar ≡ scalar
          → (v : ℤ) (b : Bool) (c : Option Content) → slice_get w.contents (cell_of laid o k) ≡ c
          → Fits (load_step laid i s v scalar b c w)
      load_fits o k scalar volatile p e is v true None q = fit
      load_fits o k scalar volatile p e is v false None q = fit
      load_fits o k scalar volatile p e is v true (Some c) q =
          either (is_of laid scalar (Number v))
          _ _ (λ t. takes i _ s (Answers.Given (Number v)) w.contents w.standings e fit.contents
          (load_takes o k scalar volatile p (Number v) t)) fit
      load_fits o k scalar volatile p e is v false (Some Open) q =
          either (is_of laid scalar (Number v))
          _ _ (λ t. takes i _ s (Answers.Given (Number v)) w.contents w.standings e fit.contents
          (load_takes o k scalar volatile p (Number v) t)) fit
      load_fits o k scalar volatile p e is v false (Some (Is x)) q =
          let stands : Stands (cell_of laid o k) x =
          fit.contents (cell_of laid o k) x (get_or_from_slice_get w.contents (cell_of laid o k) (Is x) Open q) in
          either (is_zero v) _ _ (λ t. takes i _ s (Answers.Given x) w.contents w.standings e fit.contents
          (load_takes o k scalar volatile p x (subst (λ (y : Scalar). is_of laid y x ≡ true) is stands))) fit

      store_fits : (o k : ℕ) (scalar : Scalar) (x : Value) (p : _) → next_at laid w i ≡ Acts.Store o k scalar x p
          → (cell_at laid (cell_of laid o k)).scalar ≡ scalar → is_of laid scalar x ≡ true
          → (v : ℤ) (c : Option Content) → Fits (store_step laid i s v (cell_of laid o k) x c w)
      store_fits o k scalar x p e is h v None = fit
      store_fits o k scalar x p e is h v (Some c) =
          either (is_zero v) _ _ (λ t.
          takes i _ s Answers.Done (slice_set w.contents (cell_of laid o k) (Is x)) w.standings e
          (stored_typed w.contents (cell_of laid o k) x fit.contents
          (subst (λ (y : Scalar). is_of laid y x ≡ true) (sym is) h)) (store_takes o k scalar x p)) fit

      act_fits : (v : ℤ) (n : Next) → next_at laid w i ≡ n → IsProper laid i n → Fits (act_step laid i s v n w)
      unfolding act_step
      act_fits v (Acts.Load o k scalar volatile p) e h =
          load_fits o k scalar volatile p e h.scalar v volatile (slice_get w.contents (cell_of laid o k)) refl
      act_fits v (Acts.Store o k scalar x p) e h =
          store_fits o k scalar x p e h.0.scalar h.1 v (slice_get w.contents (cell_of laid o k))
      act_fits v (Acts.Chosen low high) e h =
          either (is_between low high (Number v))
          _ _ (λ t. takes i _ s (Answers.Given (Number v)) w.contents w.standings e fit.contents
          (choice_takes low high (Number v) t)) fit
      act_fits v (Acts.Clear o) e h =
          either (is_zero v) _ _ (λ t.
          takes i _ s Answers.Done (each_from
          (λ c x. if is_part laid o c then cleared_content (cell_at laid c).scalar else x) 0 w.contents) w.standings
          e
          (cleared_typed o w.contents fit.contents) (clear_takes o)) fit
      act_fits v (Acts.Lock m p) e h =
          either (is_zero v) _ _ (λ t.
          either (holds m s) _ _ (λ q. record { contents = fit.contents; answers = fit.answers })
          (either (is_taken m w.standings) _ _ (λ q. stays _)
          (takes i _ (with_mutex m true s) Answers.Done w.contents w.standings e fit.contents (lock_takes m p))))
          fit
      act_fits v (Acts.Unlock m p) e h =
          either (is_zero v) _ _ (λ t.
          either (holds m s) _ _ (λ q.
          takes i _ (with_mutex m false s) Answers.Done w.contents _ e fit.contents (unlock_takes m p))
          (record { contents = fit.contents; answers = fit.answers })) fit
      act_fits v Acts.Yield e h =
          either (is_zero v) _ _ (λ t.
          takes i _ (yielded laid i s) Answers.Done w.contents w.standings e fit.contents yield_takes) fit
      act_fits v (Acts.Probe m p) e h =
          either (is_zero v) _ _ (λ t.
          takes i _ s (Answers.Given (truth_value (is_taken m w.standings))) w.contents w.standings e fit.contents
          (probe_takes m p (is_taken m w.standings))) fit
      act_fits v (Acts.Fault class p) e h =
          either (is_zero v) _ _ (λ t. record { contents = fit.contents; answers = fit.answers }) fit
      act_fits v Acts.Spins e h = either (is_zero v) _ _ (λ t. fit) fit
      act_fits v Acts.Ended e h = fit
      act_fits v Acts.Misfit e h = fit

    module _ (proper : (i : ℕ) → i < length w.standings → IsProper laid i (next_at laid w i)) where
      run_fits : (i : ℕ) (v : ℤ) (s : Option Standing) → slice_get w.standings i ≡ s → Fits (run_step laid i v s w)
      run_fits i v None q = fit
      run_fits i v (Some s) q =
          either (is_ready s.status && none_above s.priority w.standings) _ _
          (λ t. act_fits i s v (next_at laid w i) refl (proper i (slice_get_within w.standings i s q))) fit

      wake_fits : (i : ℕ) (s : Option Standing) → Fits (wake_step laid i s w)
      wake_fits i None = fit
      wake_fits i (Some s) = either (tasks_may_run laid w && is_waiting s.status) _ _ (λ t. stays _) fit

      step_fits : (c : Choice) → Fits (step laid w c)
      unfolding step
      step_fits (Wake i) = either w.stopped _ _ (λ t. fit) (wake_fits i (slice_get w.standings i))
      step_fits (Run i v) = either w.stopped _ _ (λ t. fit) (run_fits i v (slice_get w.standings i) refl)

-- ## Worlds that are reached

length_tasks : (laid : LaidTree) (i : ℕ) (ts : List TypedTask) → length (start_tasks laid i ts) ≡ length ts
length_tasks laid i [] = refl
length_tasks laid i (t ∷ ts) = ap suc (length_tasks laid (suc i) ts)

length_section : (laid : LaidTree) (main : Option ℕ) → length (start_section laid main) ≡ length (listed main)
length_section laid None = refl
length_section laid (Some f) = refl

-- there are as many standings as bodies
pub as_many : (laid : LaidTree) (w : World) → IsReached laid w → length w.standings ≡ length (bodies_of laid.file)
unfolding start
as_many laid w r =
    let p = ap length (priorities_stay laid w r) in
    let a = length-map w.standings (λ (s : Standing). s.priority) in
    let b = length-map (start_standings laid) (λ (s : Standing). s.priority) in
    let c = length-append (start_tasks laid 0 laid.file.tasks) (start_section laid laid.file.main) in
    let d = length_tasks laid 0 laid.file.tasks in
    let e = length_section laid laid.file.main in
    let f = length-append (map (λ (t : TypedTask). t.function) laid.file.tasks) (listed laid.file.main) in
    let g = length-map laid.file.tasks (λ (t : TypedTask). t.function) in
    omega (arith, p, a, b, c, d, e, f, g)

no_answers : (ss : List Standing) (i : ℕ) → get_or (map (λ s. (let none : List Answer = [] in none)) ss) i [] ≡ []
no_answers [] zero = refl
no_answers [] (suc i) = refl
no_answers (s ∷ ss) zero = refl
no_answers (s ∷ ss) (suc i) = no_answers ss i

module _ (laid : LaidTree) (many : length laid.bodies ≡ length (bodies_of laid.file))
    (proper : (i : ℕ) → i < length laid.bodies → (answers : List Answer) → Fit laid (next laid i) answers
    → IsProper laid i (next laid i answers)) where
  acts : (w : World) → IsFit laid w → (i : ℕ) → i < length laid.bodies → IsProper laid i (next_at laid w i)
  unfolding next_at
  acts w f i lt = proper i lt (answers_of w i) (f.answers i)

  starts : HoldsTypes laid (start laid) → IsFit laid (start laid)
  unfolding start
  starts h = record {
    contents = h;
    answers = λ i. subst (λ (l : List Answer). Fit laid (next laid i) l) (sym (no_answers (start_standings laid) i)) tt;
  }

  reached_fit : HoldsTypes laid (start laid) → (w : World) → IsReached laid w → IsFit laid w
  reached_fit h w at_start = starts h
  reached_fit h w (by_step {w = v} r c e) =
      let f = reached_fit h v r in
      let n = as_many laid v r in
      step_fits laid v f (λ i lt. acts v f i (omega (arith, lt, n, many))) c

-- a body stands for each task, and for the initial section where there is one
pub same_bodies : (file : TypedFileTree) → length (layout_of file).bodies ≡ length (bodies_of (layout_of file).file)
unfolding layout_of
same_bodies file = refl

pub worlds_are_proper : WorldsAreProper
worlds_are_proper main items file typed order laid h w r =
    let proper : (i : ℕ) → i < length laid.bodies → (answers : List Answer) → Fit laid (next laid i) answers
    → IsProper laid i (next laid i answers) =
    λ i lt answers fit. actions_are_proper main items file typed order laid h i lt answers fit in
    let many : length laid.bodies ≡ length (bodies_of laid.file) =
    subst (λ (l : LaidTree). length l.bodies ≡ length (bodies_of l.file)) (layout_is file order laid h)
    (same_bodies file) in
    let f = reached_fit laid many proper (starts_hold main items file typed order laid h) w r in
    record { contents = f.contents; answers = f.answers; actions = acts laid many proper w f }
