-- There is progress in each world that is reached.
use Rattle.std.proofs.Common.{◌≡◌, ◌≢◌, ◌⊎◌, refl, ap, sym, subst, ◌∙◌, ℕ, zero, suc, ◌<◌, ◌≤◌, inl, inr, Bool, true}
use Rattle.std.proofs.Common.{false, List, [], ◌∷◌, length, get_or, Option, Some, None, arith, slice_get}
use Rattle.std.specs.Prelude.{if◌then◌else◌}
use Rattle.std.proofs.lemmas.Option.{slice_get_within}
use Rattle.std.proofs.lemmas.Bool.{cases_eq, cases_lt}
use Rattle.concrete_steps.specs.tm_cint.declared.Class.TheVariants as Classes
use Rattle.concrete_steps.specs.tm_typed.CallGraph.{calls_in}
use Rattle.concrete_steps.specs.tm_typed.Functions.{TypedBodyTree}
use Rattle.concrete_steps.specs.tm_typed.Files.{no_typed_function, TypedFileTree}
use Rattle.concrete_steps.specs.tm_typed.declared.types.Scalar.{Scalar}
use Rattle.concrete_steps.specs.tm_laid.Paths.{bodies_of}
use Rattle.concrete_steps.specs.tm_laid.Layouts.{LaidTree, layout_of, cell_of, object_at}
use Rattle.concrete_steps.specs.concrete_values.declared.values.Answer.{Answer}
use Rattle.concrete_steps.specs.concrete_values.declared.actions.Next.{Next}
use Rattle.concrete_steps.specs.concrete_values.declared.actions.Next.TheVariants as Acts
use Rattle.concrete_steps.specs.declared.worlds.Status.{Status}
use Rattle.concrete_steps.specs.declared.worlds.Choice.{Choice}
use Rattle.concrete_steps.specs.declared.worlds.Choice.TheVariants.{Wake, Run}
use Rattle.concrete_steps.specs.declared.worlds.Stepped.TheVariants as Steps
use Rattle.concrete_steps.specs.declared.worlds.Status.TheVariants.{Waiting, Ready, Blocked, Done}
use Rattle.concrete_steps.specs.Worlds.{holds, is_done, is_section_done, step, World, Standing, standing, answers_of}
use Rattle.concrete_steps.specs.Worlds.{next_at}
use Rattle.concrete_steps.specs.Places.{is_pointer_scalar}
use Rattle.concrete_steps.specs.NextAction.{next}
use Rattle.concrete_steps.specs.Moves.{status_of}
use Rattle.concrete_steps.specs.Occurring.{IsReached}
use Rattle.concrete_steps.proofs.Reached.{at, get_some}
use Rattle.next_action_laws.specs.typed_file_laws.Sites.{is_defined_object, function_of_file}
use Rattle.next_action_laws.specs.typed_file_laws.Mentions.{StatementsMention}
use Rattle.next_action_laws.specs.Actions.{IsProper}
use Rattle.next_action_laws.specs.Laws.{HasLayout}
use Rattle.next_action_laws.specs.Worlds.{IsProperWorld}
use Rattle.next_action_laws.proofs.low.typed_file_laws.MentionFiles.{sites_stand}
use Rattle.next_action_laws.proofs.Answered.{layout_is}
use Rattle.next_action_laws.proofs.ProperWorlds.{as_many, same_bodies, worlds_are_proper}
use Rattle.progress_laws.specs.Progress.{leads_to, HasBegun, HasTurn, GoesOn, HasProgress, ProgressIsMade, IsAnswerable}
use Rattle.progress_laws.specs.Progress.{ActionsAreAnswerable, EndsAreDone, IsAtRest, RunsEndAtRest}
use Rattle.progress_laws.proofs.Answerable.{IsAnswerableBody, next_good}
use Rattle.progress_laws.proofs.Reaching.{goes, sized, counted, none_open, ends_done, begun, Begun, Quiet, NoneOpen}
use Rattle.progress_laws.proofs.Reaching.{not_ready}
use Rattle.progress_laws.proofs.CellPlaces.{cells_among}
use Rattle.progress_laws.proofs.Leading.{IsThere, IsClosed, act_leads, some_number, run_is, wake_is, ready_there}

-- ## Where actions stand

module _ (laid : LaidTree) (w : World) (sizes : length laid.cells ≤ length w.contents) (closed : NoneOpen laid w)
    (among : (o k : ℕ) → o < length laid.objects → k < (object_at laid o).cells
    → cell_of laid o k < length laid.cells) where
  within : (i : ℕ) (action : Next) → IsProper laid i action → IsThere laid w action
  within i (Acts.Load o k sc b p) h = let a = among o k h.object h.inside in omega (arith, a, sizes)
  within i (Acts.Store o k sc v p) h = let a = among o k h.0.object h.0.inside in omega (arith, a, sizes)
  within i (Acts.Chosen low high) h = tt
  within i (Acts.Clear o) h = tt
  within i (Acts.Lock m p) h = tt
  within i (Acts.Unlock m p) h = tt
  within i Acts.Yield h = tt
  within i (Acts.Probe m p) h = tt
  within i (Acts.Fault class p) h = tt
  within i Acts.Ended h = tt
  within i Acts.Spins h = tt
  within i Acts.Misfit h = tt

  shut : (i : ℕ) (action : Next) → IsProper laid i action → IsClosed laid w action
  shut i (Acts.Load o k sc b p) h = λ e.
      subst (λ (s : Scalar). is_pointer_scalar s ≡ false) h.scalar
      (closed (cell_of laid o k) (among o k h.object h.inside) e)
  shut i (Acts.Store o k sc v p) h = tt
  shut i (Acts.Chosen low high) h = tt
  shut i (Acts.Clear o) h = tt
  shut i (Acts.Lock m p) h = tt
  shut i (Acts.Unlock m p) h = tt
  shut i Acts.Yield h = tt
  shut i (Acts.Probe m p) h = tt
  shut i (Acts.Fault class p) h = tt
  shut i Acts.Ended h = tt
  shut i Acts.Spins h = tt
  shut i Acts.Misfit h = tt

-- ## Each world that is reached

module _ (file : TypedFileTree) (order : List ℕ) (laid : LaidTree) (h : HasLayout file order laid) (w : World)
    (r : IsReached laid w) (proper : IsProperWorld laid w) where
  bodies : length w.standings ≡ length laid.bodies
  bodies =
      let a = as_many laid w r in
      let c : length laid.bodies ≡ length (bodies_of laid.file) =
      subst (λ (l : LaidTree). length l.bodies ≡ length (bodies_of l.file)) (layout_is file order laid h)
      (same_bodies file) in
      omega (arith, a, c)

  acts : (i : ℕ) → i < length w.standings → IsProper laid i (next_at laid w i)
  acts i lt = let b = bodies in proper.actions i (omega (arith, lt, b))

  unended : (i : ℕ) → HasTurn w i → next_at laid w i ≡ Acts.Ended → ⊥
  unended i t e =
      let d : status_of w i ≡ Done = ends_done laid w r i (ready_there w i t.ready) e in
      (let clash : Ready ≡ Done = sym t.ready ∙ d in cc)

  fitting : (i : ℕ) → i < length w.standings → next_at laid w i ≡ Acts.Misfit → ⊥
  fitting i lt e = subst (IsProper laid i) e (acts i lt)

  goes_on : ((i : ℕ) (answers : List Answer) → IsAnswerable (next laid i answers)) → (i : ℕ) → HasTurn w i
      → GoesOn laid w i
  unfolding next_at
  goes_on answerable i t =
      let lt = ready_there w i t.ready in
      let among = cells_among file order laid h in
      let n = some_number laid w (next_at laid w i)
      (shut laid w (sized laid w r) (none_open laid w r) among i (next_at laid w i) (acts i lt))
      (answerable i (answers_of w i)) in
      record {
        unended = unended i t;
        every = λ v e. run_is laid w (goes laid w r) i v lt t
            ∙ act_leads laid w i (standing w i) v (next_at laid w i)
            (within laid w (sized laid w r) (none_open laid w r) among i (next_at laid w i) (acts i lt)) (unended i t)
            (fitting i lt) e;
        number = n.0;
        some = n.1;
      }

  section_turn : (i : ℕ) → i ≡ length laid.file.tasks → i < length w.standings → status_of w i ≢ Done → HasTurn w i
  section_turn i e lt ne =
      let c = counted laid w r in
      by (begun laid (omega (arith, e, lt, c)) w r)
    where
      first : Quiet laid w → (j : ℕ) → (standing w i).priority < (standing w j).priority → status_of w j ≡ Ready → ⊥
      first q j p f = elim (cases_eq j (length laid.file.tasks)) [
        | inl same ↦ (let x : (standing w j).priority ≡ (standing w i).priority = ap (λ k. (standing w k).priority)
            (same ∙ sym e) in
            absurd (omega (arith, x, p)))
        | inr other ↦ not_ready (status_of w j) (q j other).status f
      ]

      by : Begun laid w → HasTurn w i
      by (inl d) = absurd (ne (ap (status_of w) e ∙ d))
      by (inr b) = record { ready = ap (status_of w) e ∙ b.0; first = first b.1 }

-- ## Which actions are answerable

module _ (file : TypedFileTree)
    (stand : (k : ℕ) (body : TypedBodyTree) → (function_of_file file k).body ≡ Some body
    → StatementsMention (is_defined_object file) (calls_in file.calls k) body.statements) where
  body_answerable : (k : ℕ) (b : Option TypedBodyTree) → (function_of_file file k).body ≡ b → IsAnswerableBody b
  body_answerable k None e = tt
  body_answerable k (Some b) e = (is_defined_object file, calls_in file.calls k, stand k b e)

  bodies_answerable : (k : ℕ) → IsAnswerableBody (get_or (layout_of file).file.functions k no_typed_function).body
  unfolding layout_of
  bodies_answerable k = body_answerable k (function_of_file file k).body refl

  all_good : (i : ℕ) (answers : List Answer) → IsAnswerable (next (layout_of file) i answers)
  all_good = next_good (layout_of file) bodies_answerable

pub actions_are_answerable : ActionsAreAnswerable
actions_are_answerable main items file typed order laid h =
    subst (λ (l : LaidTree). (i : ℕ) (answers : List Answer) → IsAnswerable (next l i answers))
    (layout_is file order laid h)
    (all_good file (λ k b e. let s = sites_stand main items file typed k b e in s.0))

all_begun : (laid : LaidTree) (w : World) → HasBegun laid w → (x : Option Standing)
    → slice_get w.standings (length laid.file.tasks) ≡ x → is_section_done x ≡ true
all_begun laid w h None e = refl
all_begun laid w h (Some s) e =
    ap is_done (ap (λ (t : Standing). t.status) (sym (get_some w.standings (length laid.file.tasks) s e))
    ∙ h (length laid.file.tasks) refl (slice_get_within w.standings (length laid.file.tasks) s e))

pub progress_is_made : ProgressIsMade
progress_is_made main items file typed order laid h w r =
    let proper = worlds_are_proper main items file typed order laid h w r in
    let answerable = actions_are_answerable main items file typed order laid h in
    record {
      turns = goes_on file order laid h w r proper answerable;
      section = section_turn file order laid h w r proper;
      wakes = λ m i lt e. wake_is laid w (goes laid w r) i lt
          (all_begun laid w m (slice_get w.standings (length laid.file.tasks)) refl) e;
    }

pub ends_are_done : EndsAreDone
ends_are_done laid w r = ends_done laid w r

-- ## Where runs end

-- one that is ready, and above which none is
record Top (ss : List Standing) : Type 0 where
  number : ℕ
  ready : (at ss number).status ≡ Ready
  first : (j : ℕ) → (at ss number).priority < (at ss j).priority → (at ss j).status ≡ Ready → ⊥

none_ready : (j : ℕ) → (at [] j).status ≡ Ready → ⊥
none_ready zero e = absurd cc
none_ready (suc j) e = absurd cc

abbrev NoneReady : List Standing → Type 0
NoneReady ss = (j : ℕ) → (at ss j).status ≡ Ready → ⊥

top_later : (s : Standing) (ss : List Standing) → (t : Top ss)
    → ((at ss t.number).priority < s.priority → s.status ≡ Ready → ⊥) → Top (s ∷ ss)
top_later s ss t h = record { number = suc t.number; ready = t.ready; first = first }
  where
    first : (j : ℕ) → (at ss t.number).priority < (at (s ∷ ss) j).priority → (at (s ∷ ss) j).status ≡ Ready → ⊥
    first zero lt e = h lt e
    first (suc j) lt e = t.first j lt e

top_first : (s : Standing) (ss : List Standing) → s.status ≡ Ready
    → ((j : ℕ) → s.priority < (at ss j).priority → (at ss j).status ≡ Ready → ⊥) → Top (s ∷ ss)
top_first s ss r h = record { number = zero; ready = r; first = first }
  where
    first : (j : ℕ) → s.priority < (at (s ∷ ss) j).priority → (at (s ∷ ss) j).status ≡ Ready → ⊥
    first zero lt e = absurd (omega (arith, lt))
    first (suc j) lt e = h j lt e

none_more : (s : Standing) (ss : List Standing) → (s.status ≡ Ready → ⊥) → NoneReady ss → NoneReady (s ∷ ss)
none_more s ss h k zero e = h e
none_more s ss h k (suc j) e = k j e

is_ready_or : (x : Status) → (x ≡ Ready) ⊎ (x ≡ Ready → ⊥)
is_ready_or Ready = inl refl
is_ready_or Waiting = inr (λ e. absurd cc)
is_ready_or (Blocked m) = inr (λ e. absurd cc)
is_ready_or Done = inr (λ e. absurd cc)

top : (ss : List Standing) → Top ss ⊎ NoneReady ss
top [] = inr none_ready
top (s ∷ ss) = elim (top ss) [
  | inr none ↦ elim (is_ready_or s.status) [
    | inl r ↦ inl (top_first s ss r (λ j lt e. none j e))
    | inr n ↦ inr (none_more s ss n none)
  ]
  | inl t ↦ elim (is_ready_or s.status) [
    | inr n ↦ inl (top_later s ss t (λ lt e. n e))
    | inl r ↦ elim (cases_lt (at ss t.number).priority s.priority) [
      | inl lt ↦ inl (top_first s ss r (λ j more e. t.first j (omega (arith, lt, more)) e))
      | inr ge ↦ inl (top_later s ss t (λ more e. absurd (omega (arith, ge, more))))
    ]
  ]
]

leads_allowed : (s : Standing) (action : Next) → leads_to s action ≡ Steps.NotAllowed → ⊥
leads_allowed s (Acts.Load o k sc b p) e = absurd cc
leads_allowed s (Acts.Store o k sc v p) e = absurd cc
leads_allowed s (Acts.Chosen low high) e = absurd cc
leads_allowed s (Acts.Clear o) e = absurd cc
leads_allowed s (Acts.Lock m p) e = by (holds m s) e
  where
    by : (b : Bool) → (if b then Steps.Stopped Classes.Lock p else Steps.Done) ≡ Steps.NotAllowed → ⊥
    by true e = absurd cc
    by false e = absurd cc
leads_allowed s (Acts.Unlock m p) e = by (holds m s) e
  where
    by : (b : Bool) → (if b then Steps.Done else Steps.Stopped Classes.Lock p) ≡ Steps.NotAllowed → ⊥
    by true e = absurd cc
    by false e = absurd cc
leads_allowed s Acts.Yield e = absurd cc
leads_allowed s (Acts.Probe m p) e = absurd cc
leads_allowed s (Acts.Fault class p) e = absurd cc
leads_allowed s Acts.Ended e = absurd cc
leads_allowed s Acts.Spins e = absurd cc
leads_allowed s Acts.Misfit e = absurd cc

module _ (laid : LaidTree) (w : World) (progress : HasProgress laid w)
    (refused : (c : Choice) → (step laid w c).answer ≡ Steps.NotAllowed) where
  no_turn : (i : ℕ) → HasTurn w i → ⊥
  no_turn i t =
      let g = progress.turns i t in
      leads_allowed (standing w i) (next_at laid w i) (sym (g.every g.number g.some) ∙ refused (Run i g.number))

  no_ready : NoneReady w.standings
  no_ready = elim (top w.standings) [
    | inr none ↦ none
    | inl t ↦ absurd (no_turn t.number (record { ready = t.ready; first = t.first }))
  ]

  done_or : (x : Status) → (x ≡ Done) ⊎ (x ≡ Done → ⊥)
  done_or Done = inl refl
  done_or Waiting = inr (λ e. absurd cc)
  done_or Ready = inr (λ e. absurd cc)
  done_or (Blocked m) = inr (λ e. absurd cc)

  has_begun : HasBegun laid w
  has_begun i e lt = elim (done_or (status_of w i)) [
    | inl d ↦ d
    | inr n ↦ absurd (no_turn i (progress.section i e lt n))
  ]

  at_rest : (i : ℕ) → i < length w.standings → IsAtRest (status_of w i)
  at_rest i lt = by (status_of w i) refl
    where
      by : (x : Status) → status_of w i ≡ x → IsAtRest x
      by Done e = tt
      by (Blocked m) e = tt
      by Ready e = absurd (no_ready i e)
      by Waiting e =
          let done = progress.wakes has_begun i lt e in
          absurd (let clash : Steps.Done ≡ Steps.NotAllowed = sym done ∙ refused (Wake i) in cc)

pub runs_end_at_rest : RunsEndAtRest
runs_end_at_rest main items file typed order laid h w r refused =
    at_rest laid w (progress_is_made main items file typed order laid h w r) refused
