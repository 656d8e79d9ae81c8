-- Whoever is blocked waits for a mutex that is held.
use Rattle.std.proofs.Common.{◌≡◌, ◌≢◌, ◌⊎◌, refl, ap, sym, subst, ◌∙◌, ℕ, zero, suc, ◌<◌, inl, inr, Bool, true, false}
use Rattle.std.proofs.Common.{List, [], ◌∷◌, ◌++◌, length, Option, Some, None, arith}
use Rattle.std.specs.Prelude.{◌&&◌, ◌||◌, if◌then◌else◌, ◌==◌, nat_lt}
use Rattle.std.proofs.lemmas.Bool.{cases_eq, eq-eqb, eqb-true}
use Rattle.concrete_steps.specs.tm_typed.declared.files.TypedTask.{TypedTask}
use Rattle.concrete_steps.specs.tm_laid.Layouts.{LaidTree}
use Rattle.concrete_steps.specs.concrete_values.declared.values.Answer.{Answer}
use Rattle.concrete_steps.specs.declared.worlds.Status.{Status}
use Rattle.concrete_steps.specs.declared.worlds.Status.TheVariants.{Waiting, Ready, Blocked, Done}
use Rattle.concrete_steps.specs.declared.worlds.Choice.{Choice}
use Rattle.concrete_steps.specs.NextAction.{next}
use Rattle.concrete_steps.specs.Worlds.{World, Standing, standing, no_standing, next_at, holds, is_ended, is_section}
use Rattle.concrete_steps.specs.Worlds.{no_mutex, with_status, start, start_tasks, start_section, is_taken, step, woken}
use Rattle.concrete_steps.specs.Worlds.{is_blocked_on}
use Rattle.concrete_steps.specs.Moves.{status_of, OthersStand, settled_status, Turn, IsMove, wakes, loads, stores}
use Rattle.concrete_steps.specs.Moves.{chooses, clears, takes, waits_for, gives_up, gives_way, probes, goes_round}
use Rattle.concrete_steps.specs.Moves.{held_with, NowHolds}
use Rattle.concrete_steps.specs.Occurring.{IsReached, at_start, by_step}
use Rattle.concrete_steps.proofs.Moving.{steps_are_moves}
use Rattle.concrete_steps.proofs.Reached.{at, blocked_at_locks}
use Rattle.progress_laws.specs.Progress.{BlockedAwaitHolders}
use Rattle.progress_laws.proofs.Reaching.{Begun, begun, counted, IsIdle}
use Rattle.progress_laws.proofs.Leading.{ready_there}

abbrev pub Held : World → ℕ → Type 0
Held w m = (k : ℕ) × (holds m (standing w k) ≡ true)

abbrev pub Awaits : World → Type 0
Awaits w = (j m : ℕ) → status_of w j ≡ Blocked m → Held w m

or_from : (a b : Bool) → (a || b) ≡ true → (a ≡ true) ⊎ (b ≡ true)
or_from true b e = inl refl
or_from false b e = inr e

taken_by : (m : ℕ) (ss : List Standing) → is_taken m ss ≡ true → (k : ℕ) × (holds m (at ss k) ≡ true)
taken_by m [] e = absurd cc
taken_by m (s ∷ ss) e = elim (or_from (holds m s) (is_taken m ss) e) [
  | inl h ↦ (0, h)
  | inr t ↦ (let r = taken_by m ss t in (suc r.0, r.1))
]

taken_at : (m : ℕ) (ss : List Standing) (k : ℕ) → holds m (at ss k) ≡ true → is_taken m ss ≡ false → ⊥
taken_at m [] zero h e = absurd cc
taken_at m [] (suc k) h e = by m h
  where
    by : (m : ℕ) → holds m no_standing ≡ true → ⊥
    by zero h = absurd cc
    by (suc m) h = absurd cc
taken_at m (s ∷ ss) zero h e =
    absurd (let f : (true || is_taken m ss) ≡ false = ap (λ b. b || is_taken m ss) (sym h) ∙ e in cc)
taken_at m (s ∷ ss) (suc k) h e = taken_at m ss k h (rest (holds m s) e)
  where
    rest : (b : Bool) → (b || is_taken m ss) ≡ false → is_taken m ss ≡ false
    rest true e = absurd cc
    rest false e = e

open_status : (b : Bool) (base : Status) (m : ℕ) → ((m : ℕ) → base ≡ Blocked m → ⊥) → settled_status b base ≡ Blocked m
    → ⊥
open_status true base m h e = absurd cc
open_status false base m h e = h m e

with_other : (m n : ℕ) (b : Bool) (s : Standing) → n ≢ m → holds n s ≡ true → held_with m b s n ≡ true
with_other m n b s ne h = by (n == m) refl
  where
    by : (t : Bool) → (n == m) ≡ t → (if t then b else holds n s) ≡ true
    by true e = absurd (ne (eqb-true n m e))
    by false e = h

not_cleared : (t c : Bool) → t ≡ true → (c ≡ true → ⊥) → (if c then false else t) ≡ true
not_cleared t true h n = absurd (n refl)
not_cleared t false h n = h

and_both : (a b : Bool) → (a && b) ≡ true → b ≡ true
and_both true b e = e
and_both false b e = absurd cc

module _ (laid : LaidTree) (w w' : World) (h : Awaits w)
    (run : (i : ℕ) → i < length w.standings → is_section laid i ≡ true → status_of w i ≡ Ready → (j m : ℕ) → j ≢ i
    → status_of w j ≡ Blocked m → ⊥) where
  -- a task takes an answer, and holds what this says
  turned_awaits : (i : ℕ) (a : Answer) (base : Status) → Turn laid w w' i a base → ((m : ℕ) → base ≡ Blocked m → ⊥)
      → (f : ℕ → Bool) → NowHolds laid w' i f
      → ((j m : ℕ) → j ≢ i → status_of w' j ≡ Blocked m
      → (status_of w j ≡ Blocked m) × (holds m (standing w i) ≡ true → f m ≡ true))
      → Awaits w'
  turned_awaits i a base t free f now others j m e = elim (cases_eq j i) [
    | inl same ↦ absurd (open_status (is_ended (next_at laid w' i)) base m free
        (sym t.status ∙ ap (status_of w') (sym same) ∙ e))
    | inr other ↦ (let o = others j m other e in let k = h j m o.0 in
        elim (cases_eq k.0 i) [
          | inr apart ↦ (k.0, t.other_held k.0 m apart ∙ k.1)
          | inl mine ↦ (
            i,
            now.now m ∙ not_cleared (f m) (is_ended (next_at laid w' i) && is_section laid i)
                (o.1 (ap (λ q. holds m (standing w q)) (sym mine) ∙ k.1))
                (λ c. run i (ready_there w i t.ready)
                (and_both (is_ended (next_at laid w' i)) (is_section laid i) c) t.ready j m other o.0),
          )
        ])
  ]

  plain_awaits : (i : ℕ) (a : Answer) → Turn laid w w' i a Ready → OthersStand w w' i
      → NowHolds laid w' i (λ m. holds m (standing w i)) → Awaits w'
  plain_awaits i a t o now = turned_awaits i a Ready t (λ m e. absurd cc) (λ m. holds m (standing w i)) now
      (λ j m ne e. (sym (o.same j ne) ∙ e, λ x. x))

  way_free : (b : Bool) (m : ℕ) → (let x : Status = if b then Ready else Waiting in x) ≡ Blocked m → ⊥
  way_free true m e = absurd cc
  way_free false m e = absurd cc

  woken_still : (n m : ℕ) (s : Standing) → (woken n s).status ≡ Blocked m → (s.status ≡ Blocked m) × (m ≢ n)
  woken_still n m s e = by (is_blocked_on n s.status) refl
    where
      back : (b : Bool) → is_blocked_on n s.status ≡ b → b ≡ false → s.status ≡ Blocked m
      back true q r = absurd cc
      back false q r = ap (λ (c : Bool). (if c then with_status Ready s else s).status) (sym q) ∙ e

      by : (b : Bool) → is_blocked_on n s.status ≡ b → (s.status ≡ Blocked m) × (m ≢ n)
      by true q =
          absurd (let clash : Ready ≡ Blocked m = ap (λ (c : Bool). (if c then with_status Ready s else s).status)
          (sym q) ∙ e in cc)
      by false q = (
        back false q refl,
        λ same.
            (let z : is_blocked_on n (Blocked n) ≡ false = ap (λ x. is_blocked_on n (Blocked x)) (sym same)
            ∙ ap (is_blocked_on n) (sym (back false q refl)) ∙ q in
            absurd (let clash : true ≡ false = sym (eq-eqb n n refl) ∙ z in cc)),
      )

  move_awaits : (c : Choice) → IsMove laid w w' c → Awaits w'
  move_awaits _ (wakes {i = i} a b c o e held f) = λ j m q. elim (cases_eq j i) [
    | inl same ↦ absurd (let clash : Ready ≡ Blocked m = sym c ∙ ap (status_of w') (sym same) ∙ q in cc)
    | inr other ↦ (let k = h j m (sym (o.same j other) ∙ q) in (k.0, held.same k.0 m ∙ k.1))
  ]
  move_awaits _ (loads {i = i} a b c t o n f) = plain_awaits i _ t o n
  move_awaits _ (stores {i = i} a b t o n is f) = plain_awaits i _ t o n
  move_awaits _ (chooses {i = i} a b t o n f) = plain_awaits i _ t o n
  move_awaits _ (clears {i = i} a t o n f) = plain_awaits i _ t o n
  move_awaits _ (takes {i = i} {m = l} a free t o n f) =
      turned_awaits i _ Ready t (λ m e. absurd cc)
      (held_with l (nat_lt l (length (standing w i).held)) (standing w i)) n
      (λ j m ne e. (
        sym (o.same j ne) ∙ e,
        λ x. with_other l m (nat_lt l (length (standing w i).held)) (standing w i)
            (λ same. taken_at l w.standings i (ap (λ q. holds q (standing w i)) (sym same) ∙ x) free) x,
      ))
  move_awaits _ (waits_for {i = i} {m = l} a b taken d e f o g held k) = λ j m q. elim (cases_eq j i) [
    | inl same ↦ (let same_mutex : Blocked l ≡ Blocked m = sym f ∙ ap (status_of w') (sym same) ∙ q in
        let eq : l ≡ m = cc in
        let r = taken_by l w.standings taken in
        (r.0, held.same r.0 m ∙ ap (λ x. holds x (standing w r.0)) (sym eq) ∙ r.1))
    | inr other ↦ (let r = h j m (sym (o.same j other) ∙ q) in (r.0, held.same r.0 m ∙ r.1))
  ]
  move_awaits _ (gives_up {i = i} {m = l} a b t o n f) =
      turned_awaits i _ Ready t (λ m e. absurd cc) (held_with l false (standing w i)) n
      (λ j m ne e. (let s = woken_still l m (standing w j) (sym (o j ne) ∙ e) in
      (s.0, λ x. with_other l m false (standing w i) s.1 x)))
  move_awaits _ (gives_way {i = i} a t o n f) =
      turned_awaits i _ _ t (way_free (is_section laid i)) (λ m. holds m (standing w i)) n
      (λ j m ne e. (sym (o.same j ne) ∙ e, λ x. x))
  move_awaits _ (probes {i = i} a t o n f) = plain_awaits i _ t o n
  move_awaits _ (goes_round a b c same) = subst Awaits (sym same) h

-- ## The start

module _ (laid : LaidTree) where
  set_open : (b : Bool) (p : ℕ) (x : Status) (held held' : List Bool) (m : ℕ) → (x ≡ Blocked m → ⊥)
      → (let s : Standing = if b
      then record { priority = p; status = Done; held = held' }
      else record { priority = p; status = x; held = held } in
      s.status ≡ Blocked m → ⊥)
  set_open true p x held held' m h e = absurd cc
  set_open false p x held held' m h e = h e

  nobody_there : (j m : ℕ) → (at [] j).status ≡ Blocked m → ⊥
  nobody_there zero m e = absurd cc
  nobody_there (suc j) m e = absurd cc

  start_open : (main : Option ℕ) (k : ℕ) (ts : List TypedTask) (j m : ℕ)
      → (at (start_tasks laid k ts ++ start_section laid main) j).status ≡ Blocked m → ⊥
  start_open None k [] j m e = nobody_there j m e
  start_open (Some f) k [] zero m e =
      set_open (is_ended (next laid (length laid.file.tasks) [])) 0 Ready (no_mutex laid)
      (if is_section laid (length laid.file.tasks) then no_mutex laid else no_mutex laid) m (λ q. absurd cc) e
  start_open (Some f) k [] (suc j) m e = nobody_there j m e
  start_open main k (t ∷ ts) zero m e =
      set_open (is_ended (next laid k [])) t.priority Waiting (no_mutex laid)
      (if is_section laid k then no_mutex laid else no_mutex laid) m (λ q. absurd cc) e
  start_open main k (t ∷ ts) (suc j) m e = start_open main (suc k) ts j m e

  start_awaits : Awaits (start laid)
  unfolding start
  start_awaits j m e = absurd (start_open laid.file.main 0 laid.file.tasks j m e)

  alone : (w : World) → IsReached laid w → (i : ℕ) → i < length w.standings → is_section laid i ≡ true
      → status_of w i ≡ Ready
      → (j m : ℕ) → j ≢ i → status_of w j ≡ Blocked m → ⊥
  alone w r i lt sec ready j m ne e =
      let same : i ≡ length laid.file.tasks = eqb-true i (length laid.file.tasks) sec in
      let n = counted laid w r in
      by same (begun laid (omega (arith, same, lt, n)) w r)
    where
      by : i ≡ length laid.file.tasks → Begun laid w → ⊥
      by same (inl d) = absurd (let clash : Ready ≡ Done = sym ready ∙ ap (status_of w) same ∙ d in cc)
      by same (inr b) = subst IsIdle e ((b.1 j (λ q. ne (q ∙ sym same))).status)

  pub awaited : (w : World) → IsReached laid w → Awaits w
  awaited w at_start = start_awaits
  awaited w (by_step {w = v} r c e) =
      move_awaits laid v (step laid v c).world (awaited v r) (alone v r) c (steps_are_moves laid v r c e)

pub blocked_await_holders : BlockedAwaitHolders
blocked_await_holders laid w r i m e =
    let k = awaited laid w r i m e in
    let free = (blocked_at_locks laid w r i m e).1 in
    (k.0, λ same. absurd (let clash : true ≡ false = sym k.1 ∙ ap (λ q. holds m (standing w q)) same ∙ free in cc), k.1)
