-- What holds in every world that is reached: of the held sets, and of the tasks that are blocked or done.
use Rattle.std.proofs.Common.{◌≡◌, ◌≢◌, ◌⊎◌, inl, inr, ℕ, zero, suc, ◌+◌, ◌<◌, refl, ap, ◌∙◌, sym, subst, Bool, true, false, if◌then◌else◌, ℤ, ◌&&◌, ◌||◌, List, [], ◌∷◌, ◌++◌, map, get_or, length, Option, Some, None, slice_get, slice_set, arith}
use Rattle.std.proofs.lemmas.List.{get_or-set_same, get_or-set_other}
use Rattle.std.proofs.Math.ListN.{get_or-map}
use Rattle.std.proofs.lemmas.Option.{slice_get_within}
use native.Mathlib.Decide.{ℕ_discrete}
use Rattle.tm_cint.specs.Conversions.{is_zero}
use Rattle.tm_terms.specs.declared.places.Place.{Place}
use Rattle.concrete_values.specs.tm_laid.Layouts.{LaidTree}
use Rattle.concrete_values.specs.declared.values.Answer.{Answer}
use Rattle.concrete_values.specs.declared.actions.Next.{Next}
use Rattle.concrete_values.specs.declared.actions.Next.TheVariants as Acts
use Rattle.concrete_steps.specs.declared.worlds.Status.{Status}
use Rattle.concrete_steps.specs.declared.worlds.Status.TheVariants.{Waiting, Ready, Blocked, Done}
use Rattle.concrete_steps.specs.NextAction.{next}
use Rattle.concrete_values.specs.tm_typed.declared.types.Scalar.{Scalar}
use Rattle.concrete_values.specs.tm_typed.declared.files.TypedTask.{TypedTask}
use Rattle.concrete_values.specs.tm_laid.Layouts.{cell_of}
use Rattle.concrete_values.specs.declared.values.Value.TheVariants.{Number}
use Rattle.concrete_values.specs.Actions.{is_of, is_between}
use Rattle.concrete_steps.specs.declared.worlds.Content.{Content}
use Rattle.concrete_steps.specs.declared.worlds.Content.TheVariants.{Open, Is}
use Rattle.concrete_steps.specs.declared.worlds.Choice.{Choice}
use Rattle.concrete_steps.specs.declared.worlds.Choice.TheVariants.{Wake, Run}
use Rattle.concrete_steps.specs.Worlds.{Standing, World, Outcome, next_at, holds, is_blocked_on, is_ready, is_waiting, is_ended, no_mutex, is_section, with_status, with_mutex, settled, start_standing, start_tasks, start_section, start_standings, start, refused, did, stand, told, answered, woken, freed, none_above, is_taken, plainly, openly, load_step, store_step, yielded, act_step, run_step, tasks_may_run, wake_step, chosen_step, step}
use Rattle.concrete_steps.specs.Occurring.{IsReached, at_start, by_step}
use Rattle.concrete_steps.specs.Worlds.{no_standing}
use Rattle.concrete_steps.specs.Laws.{IsLock, HeldApart, BlockedAtLocks, DoneAtEnds}

abbrev pub at : List Standing → ℕ → Standing
at ss i = get_or ss i no_standing

abbrev does : LaidTree → List (List Answer) → ℕ → Next
does laid answers i = next laid i (get_or answers i [])

-- of the standings and the answers
pub record IsSound (laid : LaidTree) (ss : List Standing) (answers : List (List Answer)) : Type 0 where
  pub apart : (i j m : ℕ) → i ≢ j → holds m (at ss i) ≡ true → holds m (at ss j) ≡ true → ⊥
  pub blocked : (i m : ℕ) → (at ss i).status ≡ Blocked m → IsLock m (does laid answers i) × (holds m (at ss i) ≡ false)
  pub done : (i : ℕ) → (at ss i).status ≡ Done → does laid answers i ≡ Acts.Ended

-- others hold the same, and stand as before or are ready
pub record AreKept (ss ss' : List Standing) : Type 0 where
  pub size : length ss' ≡ length ss
  pub held : (j : ℕ) → (at ss' j).held ≡ (at ss j).held
  pub status : (j : ℕ) → ((at ss' j).status ≡ (at ss j).status) ⊎ ((at ss' j).status ≡ Ready)

pub kept_same : (ss : List Standing) → AreKept ss ss
kept_same ss = record { size = refl; held = λ j. refl; status = λ j. inl refl }

woken_held : (b : Bool) (s : Standing) → (if b then with_status Ready s else s).held ≡ s.held
woken_held true s = refl
woken_held false s = refl

woken_status : (b : Bool) (s : Standing) → ((if b then with_status Ready s else s).status ≡ s.status) ⊎ ((if b then with_status Ready s else s).status ≡ Ready)
woken_status true s = inr refl
woken_status false s = inl refl

pub length_map : {A : Type 0} {B : Type 0} (f : A → B) (xs : List A) → length (map f xs) ≡ length xs
length_map f [] = refl
length_map f (x ∷ xs) = ap suc (length_map f xs)

pub at_map : (m : ℕ) (ss : List Standing) (j : ℕ) → at (map (woken m) ss) j ≡ woken m (at ss j)
at_map m ss j = get_or-map (woken m) ss j no_standing

pub kept_woken : (m : ℕ) (ss : List Standing) → AreKept ss (map (woken m) ss)
kept_woken m ss = record {
  size = length_map (woken m) ss;
  held = λ j. ap (λ s. s.held) (at_map m ss j) ∙ woken_held (is_blocked_on m (at ss j).status) (at ss j);
  status = λ j.
      subst (λ s. (s.status ≡ (at ss j).status) ⊎ (s.status ≡ Ready)) (sym (at_map m ss j)) (woken_status (is_blocked_on m (at ss j).status) (at ss j));
}

-- ## Sets of mutexes

set_true : (xs : List Bool) (m n : ℕ) → get_or (slice_set xs m true) n false ≡ true → (n ≡ m) ⊎ (get_or xs n false ≡ true)
set_true [] m n e = inr e
set_true (x ∷ xs) zero zero e = inl refl
set_true (x ∷ xs) zero (suc n) e = inr e
set_true (x ∷ xs) (suc m) zero e = inr e
set_true (x ∷ xs) (suc m) (suc n) e = up (set_true xs m n e)
  where
    up : (n ≡ m) ⊎ (get_or xs n false ≡ true) → (suc n ≡ suc m) ⊎ (get_or xs n false ≡ true)
    up (inl h) = inl (ap suc h)
    up (inr h) = inr h

set_false : (xs : List Bool) (m n : ℕ) → get_or (slice_set xs m false) n false ≡ true → get_or xs n false ≡ true
set_false [] m n e = e
set_false (x ∷ xs) zero zero e = absurd cc
set_false (x ∷ xs) zero (suc n) e = e
set_false (x ∷ xs) (suc m) zero e = e
set_false (x ∷ xs) (suc m) (suc n) e = set_false xs m n e

pub none_in : {A : Type 0} (xs : List A) (m : ℕ) → get_or (map (λ x. false) xs) m false ≡ false
none_in [] m = refl
none_in (x ∷ xs) zero = refl
none_in (x ∷ xs) (suc m) = none_in xs m

or_left : (a b : Bool) → (a || b) ≡ false → a ≡ false
or_left true b e = absurd cc
or_left false b e = refl

or_right : (a b : Bool) → (a || b) ≡ false → b ≡ false
or_right true b e = absurd cc
or_right false b e = e

not_taken : (m : ℕ) (ss : List Standing) (j : ℕ) → is_taken m ss ≡ false → holds m (at ss j) ≡ false
not_taken m [] j e = refl
not_taken m (s ∷ ss) zero e = or_left (holds m s) (is_taken m ss) e
not_taken m (s ∷ ss) (suc j) e = not_taken m ss j (or_right (holds m s) (is_taken m ss) e)

both : {b : Bool} → b ≡ true → b ≡ false → ⊥
both e f = absurd cc

pub get_some : (ss : List Standing) (i : ℕ) (s : Standing) → slice_get ss i ≡ Some s → at ss i ≡ s
get_some [] zero s e = absurd cc
get_some [] (suc i) s e = absurd cc
get_some (x ∷ ss) zero s e = cc
get_some (x ∷ ss) (suc i) s e = get_some ss i s e

ended_is : (action : Next) → is_ended action ≡ true → action ≡ Acts.Ended
ended_is (Acts.Load o k s v p) e = absurd cc
ended_is (Acts.Store o k s v p) e = absurd cc
ended_is (Acts.Chosen l h) e = absurd cc
ended_is (Acts.Clear o) e = absurd cc
ended_is (Acts.Lock m p) e = absurd cc
ended_is (Acts.Unlock m p) e = absurd cc
ended_is Acts.Yield e = absurd cc
ended_is (Acts.Probe m p) e = absurd cc
ended_is (Acts.Fault c p) e = absurd cc
ended_is Acts.Ended e = refl
ended_is Acts.Spins e = absurd cc
ended_is Acts.Misfit e = absurd cc

-- ## One task comes to a new standing

-- what a task holds no other holds
pub record IsFree (ss : List Standing) (i : ℕ) (s : Standing) : Type 0 where
  pub free : (j m : ℕ) → j ≢ i → holds m s ≡ true → holds m (at ss j) ≡ true → ⊥

-- the standing fits the next action
pub record Fits (action : Next) (s : Standing) : Type 0 where
  pub blocked : (m : ℕ) → s.status ≡ Blocked m → IsLock m action × (holds m s ≡ false)
  pub done : s.status ≡ Done → action ≡ Acts.Ended

module _ (laid : LaidTree) (ss ss' : List Standing) (answers answers' : List (List Answer)) (h : IsSound laid ss answers) (k : AreKept ss ss')
    (i : ℕ) (s : Standing) (lt : i < length ss) (free : IsFree ss i s) (others : (j : ℕ) → j ≢ i → get_or answers' j [] ≡ get_or answers j [])
    (fits : Fits (does laid answers' i) s) where
  abbrev new : List Standing
  new = slice_set ss' i s

  here : at new i ≡ s
  here = get_or-set_same ss' i s no_standing (subst (λ n. i < n) (sym k.size) lt)

  there : (j : ℕ) → j ≢ i → at new j ≡ at ss' j
  there j ne = get_or-set_other ss' i j s no_standing ne

  held_there : (j m : ℕ) → j ≢ i → holds m (at new j) ≡ holds m (at ss j)
  held_there j m ne = ap (λ (t : Standing). holds m t) (there j ne) ∙ ap (λ (l : List Bool). get_or l m false) (k.held j)

  held_here : (m : ℕ) → holds m (at new i) ≡ holds m s
  held_here m = ap (λ (t : Standing). holds m t) here

  apart_by : (a b m : ℕ) → Dec (a ≡ i) → Dec (b ≡ i) → a ≢ b → holds m (at new a) ≡ true → holds m (at new b) ≡ true → ⊥
  apart_by a b m (yes e) (yes f) ne x y = ne (e ∙ sym f)
  apart_by a b m (yes e) (no f) ne x y =
      free.free b m f (sym (held_here m) ∙ ap (λ z. holds m (at new z)) (sym e) ∙ x) (sym (held_there b m f) ∙ y)
  apart_by a b m (no e) (yes f) ne x y =
      free.free a m e (sym (held_here m) ∙ ap (λ z. holds m (at new z)) (sym f) ∙ y) (sym (held_there a m e) ∙ x)
  apart_by a b m (no e) (no f) ne x y = h.apart a b m ne (sym (held_there a m e) ∙ x) (sym (held_there b m f) ∙ y)

  other_blocked : (j m : ℕ) → j ≢ i → ((at ss' j).status ≡ (at ss j).status) ⊎ ((at ss' j).status ≡ Ready) → (at new j).status ≡ Blocked m
      → IsLock m (does laid answers' j) × (holds m (at new j) ≡ false)
  other_blocked j m ne (inl same) e =
      let old = h.blocked j m (sym same ∙ ap (λ (t : Standing). t.status) (sym (there j ne)) ∙ e) in
      (subst (λ l. IsLock m (next laid j l)) (sym (others j ne)) old.0, held_there j m ne ∙ old.1)
  other_blocked j m ne (inr ready) e =
      let clash : Ready ≡ Blocked m = sym ready ∙ ap (λ (t : Standing). t.status) (sym (there j ne)) ∙ e in absurd cc

  other_done : (j : ℕ) → j ≢ i → ((at ss' j).status ≡ (at ss j).status) ⊎ ((at ss' j).status ≡ Ready) → (at new j).status ≡ Done → does laid answers' j ≡ Acts.Ended
  other_done j ne (inl same) e =
      ap (λ l. next laid j l) (others j ne) ∙ h.done j (sym same ∙ ap (λ (t : Standing). t.status) (sym (there j ne)) ∙ e)
  other_done j ne (inr ready) e = let clash : Ready ≡ Done = sym ready ∙ ap (λ (t : Standing). t.status) (sym (there j ne)) ∙ e in absurd cc

  blocked_by : (j m : ℕ) → Dec (j ≡ i) → (at new j).status ≡ Blocked m → IsLock m (does laid answers' j) × (holds m (at new j) ≡ false)
  blocked_by j m (yes q) e =
      let mine = fits.blocked m (ap (λ (t : Standing). t.status) (sym here) ∙ ap (λ z. (at new z).status) (sym q) ∙ e) in
      subst (λ z. IsLock m (does laid answers' z) × (holds m (at new z) ≡ false)) (sym q) (mine.0, held_here m ∙ mine.1)
  blocked_by j m (no ne) e = other_blocked j m ne (k.status j) e

  done_by : (j : ℕ) → Dec (j ≡ i) → (at new j).status ≡ Done → does laid answers' j ≡ Acts.Ended
  done_by j (yes q) e =
      ap (λ z. does laid answers' z) q ∙ fits.done (ap (λ (t : Standing). t.status) (sym here) ∙ ap (λ z. (at new z).status) (sym q) ∙ e)
  done_by j (no ne) e = other_done j ne (k.status j) e

  pub sound_set : IsSound laid new answers'
  sound_set = record {
    apart = λ a b m ne x y. apart_by a b m (ℕ_discrete a i) (ℕ_discrete b i) ne x y;
    blocked = λ j m e. blocked_by j m (ℕ_discrete j i) e;
    done = λ j e. done_by j (ℕ_discrete j i) e;
  }

-- ## A task takes an answer

-- it is ready, or waits
pub record IsAwake (s : Standing) : Type 0 where
  pub not_blocked : (m : ℕ) → s.status ≡ Blocked m → ⊥
  pub not_done : s.status ≡ Done → ⊥

settled_free : (laid : LaidTree) (ss : List Standing) (i : ℕ) (s : Standing) (b c : Bool) → IsFree ss i s
    → IsFree ss i (if b then record s { status = Done; held = if c then no_mutex laid else s.held } else s)
settled_free laid ss i s true true f = record { free = λ j m ne x y. both x (none_in laid.file.mutexes m) }
settled_free laid ss i s true false f = record { free = λ j m ne x y. f.free j m ne x y }
settled_free laid ss i s false c f = f

settled_fits : (laid : LaidTree) (i : ℕ) (s : Standing) (action : Next) (b : Bool) → is_ended action ≡ b → IsAwake s
    → Fits action (if b then record s { status = Done; held = if is_section laid i then no_mutex laid else s.held } else s)
settled_fits laid i s action true e w = record { blocked = λ m q. absurd cc; done = λ q. ended_is action e }
settled_fits laid i s action false e w = record { blocked = λ m q. absurd (w.not_blocked m q); done = λ q. absurd (w.not_done q) }

abbrev pub IsSoundWorld : LaidTree → World → Type 0
IsSoundWorld laid w = IsSound laid w.standings w.answers

sound_answered : (laid : LaidTree) (w v : World) (i : ℕ) (s : Standing) (a : Answer) → IsSoundWorld laid w → AreKept w.standings v.standings
    → v.answers ≡ w.answers → i < length w.standings → IsFree w.standings i s → IsAwake s → IsSoundWorld laid (answered laid i s a v).world
unfolding next_at
sound_answered laid w v i s a h k e lt f awake =
    sound_set laid w.standings v.standings w.answers (told i a v).answers h k i (settled laid i (next laid i (get_or (told i a v).answers i [])) s) lt
    (settled_free laid w.standings i s (is_ended (next laid i (get_or (told i a v).answers i []))) (is_section laid i) f)
    (λ j ne. get_or-set_other v.answers i j _ [] ne ∙ ap (λ l. get_or l j []) e)
    (settled_fits laid i s (next laid i (get_or (told i a v).answers i [])) (is_ended (next laid i (get_or (told i a v).answers i []))) refl awake)

-- ## Steps

pub and_left : (a b : Bool) → (a && b) ≡ true → a ≡ true
and_left true b e = refl
and_left false b e = absurd cc

module _ (laid : LaidTree) (w : World) (h : IsSoundWorld laid w) where
  abbrev Good : Outcome → Type 0
  Good o = IsSoundWorld laid o.world

  good_if : (b : Bool) (o o' : Outcome) → (b ≡ true → Good o) → (b ≡ false → Good o') → Good (if b then o else o')
  good_if true o o' x y = x refl
  good_if false o o' x y = y refl

  module _ (i : ℕ) (s : Standing) (found : slice_get w.standings i ≡ Some s) (ready : is_ready s.status ≡ true) where
    lt : i < length w.standings
    lt = slice_get_within w.standings i s found

    mine : at w.standings i ≡ s
    mine = get_some w.standings i s found

    free : IsFree w.standings i s
    free = record {
      free = λ j m ne x y. h.apart j i m ne y (ap (λ (t : Standing). holds m t) mine ∙ x);
    }

    awake_by : (x : Status) → is_ready x ≡ true → (x ≡ Done → ⊥) × ((m : ℕ) → x ≡ Blocked m → ⊥)
    awake_by Ready e = (λ q. absurd cc, λ m q. absurd cc)
    awake_by Waiting e = absurd cc
    awake_by (Blocked n) e = absurd cc
    awake_by Done e = absurd cc

    awake : IsAwake s
    awake = record { not_blocked = (awake_by s.status ready).1; not_done = (awake_by s.status ready).0 }

    good_answer : (a : Answer) (v : World) → v.standings ≡ w.standings → v.answers ≡ w.answers → Good (answered laid i s a v)
    good_answer a v e f =
        sound_answered laid w v i s a h (subst (λ l. AreKept w.standings l) (sym e) (kept_same w.standings)) f lt free awake

    good_plain : (v : ℤ) (o : Outcome) → Good o → Good (plainly v o w)
    good_plain v o g = good_if (is_zero v) o (refused w) (λ e. g) (λ e. h)

    good_open : (v : ℤ) (fits : Bool) → Good (openly laid i s v fits w)
    good_open v fits = good_if fits _ (refused w) (λ e. good_answer _ w refl refl) (λ e. h)

    good_load : (v : ℤ) (scalar : Scalar) (volatile : Bool) (c : Option Content) → Good (load_step laid i s v scalar volatile c w)
    good_load v scalar true None = h
    good_load v scalar false None = h
    good_load v scalar true (Some Open) = good_open v (is_of laid scalar (Number v))
    good_load v scalar true (Some (Is x)) = good_open v (is_of laid scalar (Number v))
    good_load v scalar false (Some Open) = good_open v (is_of laid scalar (Number v))
    good_load v scalar false (Some (Is x)) = good_plain v _ (good_answer _ w refl refl)

    good_store : (v : ℤ) (c : ℕ) (x : _) (old : Option Content) → Good (store_step laid i s v c x old w)
    good_store v c x None = h
    good_store v c x (Some old) = good_plain v _ (good_answer _ _ refl refl)

    -- a mutex that nobody holds is taken
    taken_free : (m : ℕ) → is_taken m w.standings ≡ false → IsFree w.standings i (with_mutex m true s)
    taken_free m e = record { free = λ j n ne x y. by_mutex j n ne y (set_true s.held m n x) }
      where
        by_mutex : (j n : ℕ) → j ≢ i → holds n (at w.standings j) ≡ true → (n ≡ m) ⊎ (get_or s.held n false ≡ true) → ⊥
        by_mutex j n ne y (inl q) = both (ap (λ z. holds z (at w.standings j)) (sym q) ∙ y) (not_taken m w.standings j e)
        by_mutex j n ne y (inr x) = free.free j n ne x y

    given_free : (m : ℕ) → IsFree w.standings i (with_mutex m false s)
    given_free m = record { free = λ j n ne x y. free.free j n ne (set_false s.held m n x) y }

    blocks : (m : ℕ) (p : Place) → next_at laid w i ≡ Acts.Lock m p → holds m s ≡ false → Good (did (stand i (with_status (Blocked m) s) w))
    unfolding next_at
    blocks m p e not_held =
        sound_set laid w.standings w.standings w.answers w.answers h (kept_same w.standings) i (with_status (Blocked m) s) lt
        (record { free = λ j n ne x y. free.free j n ne x y }) (λ j ne. refl)
        (record {
          blocked = λ n q. let same : m ≡ n = cc in
              subst (λ z. IsLock z (next laid i (get_or w.answers i [])) × (holds z s ≡ false)) same ((p, e), not_held);
          done = λ q. absurd cc;
        })

    yield_awake : (b : Bool) → IsAwake (with_status (if b then Ready else Waiting) s)
    yield_awake true = record { not_blocked = λ m q. absurd cc; not_done = λ q. absurd cc }
    yield_awake false = record { not_blocked = λ m q. absurd cc; not_done = λ q. absurd cc }

    good_act : (v : ℤ) (action : Next) → next_at laid w i ≡ action → Good (act_step laid i s v action w)
    unfolding act_step
    good_act v (Acts.Load o k scalar volatile p) e = good_load v scalar volatile (slice_get w.contents (cell_of laid o k))
    good_act v (Acts.Store o k scalar x p) e = good_store v (cell_of laid o k) x (slice_get w.contents (cell_of laid o k))
    good_act v (Acts.Chosen low high) e = good_open v (is_between low high (Number v))
    good_act v (Acts.Clear o) e = good_plain v _ (good_answer _ _ refl refl)
    good_act v (Acts.Lock m p) e =
        good_plain v _
        (good_if (holds m s) _ _ (λ q. h) (λ not_held.
        good_if (is_taken m w.standings) _ _ (λ q. blocks m p e not_held) (λ q.
        sound_answered laid w w i (with_mutex m true s) _ h (kept_same w.standings) refl lt (taken_free m q)
        (record { not_blocked = awake.not_blocked; not_done = awake.not_done }))))
    good_act v (Acts.Unlock m p) e =
        good_plain v _
        (good_if (holds m s) _ _ (λ q.
        sound_answered laid w (freed m w) i (with_mutex m false s) _ h (kept_woken m w.standings) refl lt (given_free m)
        (record { not_blocked = awake.not_blocked; not_done = awake.not_done })) (λ q. h))
    good_act v Acts.Yield e =
        good_plain v _
        (sound_answered laid w w i (yielded laid i s) _ h (kept_same w.standings) refl lt (record { free = λ j m ne x y. free.free j m ne x y })
        (yield_awake (is_section laid i)))
    good_act v (Acts.Probe m p) e = good_plain v _ (good_answer _ w refl refl)
    good_act v (Acts.Fault class p) e = good_plain v _ h
    good_act v Acts.Spins e = good_plain v _ h
    good_act v Acts.Ended e = h
    good_act v Acts.Misfit e = h

  woken_good : (i : ℕ) (s : Standing) → slice_get w.standings i ≡ Some s → Good (did (stand i (with_status Ready s) w))
  woken_good i s found =
      sound_set laid w.standings w.standings w.answers w.answers h (kept_same w.standings) i (with_status Ready s) (slice_get_within w.standings i s found)
      (record {
        free = λ j m ne x y. h.apart j i m ne y (ap (λ (t : Standing). holds m t) (get_some w.standings i s found) ∙ x);
      })
      (λ j ne. refl) (record { blocked = λ m q. absurd cc; done = λ q. absurd cc })

  good_run : (i : ℕ) (v : ℤ) (s : Option Standing) → slice_get w.standings i ≡ s → Good (run_step laid i v s w)
  good_run i v None e = h
  good_run i v (Some s) e =
      good_if (is_ready s.status && none_above s.priority w.standings) _ _
      (λ q. good_act i s e (and_left (is_ready s.status) (none_above s.priority w.standings) q) v (next_at laid w i) refl) (λ q. h)

  good_wake : (i : ℕ) (s : Option Standing) → slice_get w.standings i ≡ s → Good (wake_step laid i s w)
  good_wake i None e = h
  good_wake i (Some s) e = good_if (tasks_may_run laid w && is_waiting s.status) _ _ (λ q. woken_good i s e) (λ q. h)

  good_choice : (c : Choice) → Good (chosen_step laid w c)
  good_choice (Wake i) = good_wake i (slice_get w.standings i) refl
  good_choice (Run i v) = good_run i v (slice_get w.standings i) refl

  pub good_step : (c : Choice) → Good (step laid w c)
  unfolding step
  good_step c = good_if w.stopped _ _ (λ q. h) (λ q. good_choice c)

-- ## The start

-- a task, or the section, that has had no answer
record IsFresh (laid : LaidTree) (i : ℕ) (s : Standing) : Type 0 where
  held : (m : ℕ) → holds m s ≡ false
  blocked : (m : ℕ) → s.status ≡ Blocked m → ⊥
  done : s.status ≡ Done → next laid i [] ≡ Acts.Ended

fresh_by : (laid : LaidTree) (i : ℕ) (s : Standing) (b c : Bool) → is_ended (next laid i []) ≡ b → IsAwake s → ((m : ℕ) → holds m s ≡ false)
    → IsFresh laid i (if b then record s { status = Done; held = if c then no_mutex laid else s.held } else s)
fresh_by laid i s true true e w f = record { held = λ m. none_in laid.file.mutexes m; blocked = λ m q. absurd cc; done = λ q. ended_is (next laid i []) e }
fresh_by laid i s true false e w f = record { held = f; blocked = λ m q. absurd cc; done = λ q. ended_is (next laid i []) e }
fresh_by laid i s false c e w f = record { held = f; blocked = w.not_blocked; done = λ q. absurd (w.not_done q) }

fresh_start : (laid : LaidTree) (i priority : ℕ) (status : Status) → (status ≡ Done → ⊥) → ((m : ℕ) → status ≡ Blocked m → ⊥)
    → IsFresh laid i (start_standing laid i priority status)
fresh_start laid i priority status nd nb =
    fresh_by laid i (record { priority = priority; status = status; held = no_mutex laid }) (is_ended (next laid i [])) (is_section laid i) refl
    (record { not_blocked = nb; not_done = nd }) (λ m. none_in laid.file.mutexes m)

fresh_none : (laid : LaidTree) (i : ℕ) → IsFresh laid i no_standing
fresh_none laid i = record { held = λ m. refl; blocked = λ m q. absurd cc; done = λ q. absurd cc }

fresh_section : (laid : LaidTree) (main : Option ℕ) (k j : ℕ) → k ≡ length laid.file.tasks → IsFresh laid (k + j) (at (start_section laid main) j)
fresh_section laid None k j e = fresh_none laid (k + j)
fresh_section laid (Some f) k zero e =
    subst (λ z. IsFresh laid z (start_standing laid (length laid.file.tasks) 0 Ready)) (sym e ∙ (let q : k ≡ k + 0 = omega arith in q))
    (fresh_start laid (length laid.file.tasks) 0 Ready (λ q. absurd cc) (λ m q. absurd cc))
fresh_section laid (Some f) k (suc j) e = fresh_none laid (k + suc j)

fresh_at : (laid : LaidTree) (ts : List TypedTask) (k j : ℕ) → k + length ts ≡ length laid.file.tasks
    → IsFresh laid (k + j) (at (start_tasks laid k ts ++ start_section laid laid.file.main) j)
fresh_at laid [] k j e = fresh_section laid laid.file.main k j (let q : k ≡ k + 0 = omega arith in q ∙ e)
fresh_at laid (t ∷ ts) k zero e =
    subst (λ z. IsFresh laid z (start_standing laid k t.priority Waiting)) (let q : k ≡ k + 0 = omega arith in q)
    (fresh_start laid k t.priority Waiting (λ q. absurd cc) (λ m q. absurd cc))
fresh_at laid (t ∷ ts) k (suc j) e =
    subst (λ z. IsFresh laid z (at (start_tasks laid (suc k) ts ++ start_section laid laid.file.main) j)) (let q : suc k + j ≡ k + suc j = omega arith in q)
    (fresh_at laid ts (suc k) j (let q : suc k + length ts ≡ k + suc (length ts) = omega arith in q ∙ e))

no_answers : {A : Type 0} (xs : List A) (j : ℕ) → get_or (map (λ x. (let none : List Answer = [] in none)) xs) j [] ≡ []
no_answers [] j = refl
no_answers (x ∷ xs) zero = refl
no_answers (x ∷ xs) (suc j) = no_answers xs j

start_sound : (laid : LaidTree) → IsSoundWorld laid (start laid)
unfolding start
start_sound laid = record {
  apart = λ i j m ne x y. both x ((fresh i).held m);
  blocked = λ i m e. absurd ((fresh i).blocked m e);
  done = λ i e. ap (λ l. next laid i l) (no_answers (start_standings laid) i) ∙ (fresh i).done e;
}
  where
    fresh : (j : ℕ) → IsFresh laid j (at (start_tasks laid 0 laid.file.tasks ++ start_section laid laid.file.main) j)
    fresh j =
        subst (λ z. IsFresh laid z (at (start_tasks laid 0 laid.file.tasks ++ start_section laid laid.file.main) j)) (let q : 0 + j ≡ j = omega arith in q)
        (fresh_at laid laid.file.tasks 0 j (omega arith))

reached_sound : (laid : LaidTree) (w : World) → IsReached laid w → IsSoundWorld laid w
reached_sound laid w at_start = start_sound laid
reached_sound laid w (by_step {w = v} r c e) = good_step laid v (reached_sound laid v r) c

not_true : (b : Bool) → (b ≡ true → ⊥) → b ≡ false
not_true true h = absurd (h refl)
not_true false h = refl

pub held_apart : HeldApart
held_apart laid w r i j m ne x = not_true (holds m (at w.standings j)) (λ y. (reached_sound laid w r).apart i j m ne x y)

pub blocked_at_locks : BlockedAtLocks
unfolding next_at
blocked_at_locks laid w r i m e = (reached_sound laid w r).blocked i m e

pub done_at_ends : DoneAtEnds
unfolding next_at
done_at_ends laid w r i e = (reached_sound laid w r).done i e
