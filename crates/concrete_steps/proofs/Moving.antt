-- Each step that is done is a move in clauses.
use Rattle.std.proofs.Common.{◌≡◌, ◌≢◌, ℕ, zero, suc, ◌+◌, ◌<◌, refl, ap, ◌∙◌, sym, subst, Bool, true, false, not, eqb, ltb, if◌then◌else◌, ℤ, ◌&&◌, List, [], ◌∷◌, ◌++◌, map, get_or, length, Option, Some, None, slice_get, slice_set, arith}
use Rattle.std.proofs.lemmas.List.{get_or-set_same, get_or-set_other}
use Rattle.std.proofs.lemmas.Bool.{eq-eqb, eqb-true, lt-ltb, ltb-true}
use Rattle.std.proofs.lemmas.Option.{slice_get_within}
use Rattle.tm_cint.specs.Conversions.{is_zero}
use Rattle.tm_terms.specs.declared.places.Place.{Place}
use Rattle.concrete_values.specs.tm_typed.declared.types.Scalar.{Scalar}
use Rattle.concrete_values.specs.tm_laid.Layouts.{LaidTree, cell_at, cell_of}
use Rattle.concrete_values.specs.declared.values.Value.{Value}
use Rattle.concrete_values.specs.declared.values.Value.TheVariants.{Number}
use Rattle.concrete_values.specs.declared.values.Answer.{Answer}
use Rattle.concrete_values.specs.declared.values.Answer.TheVariants as Answers
use Rattle.concrete_values.specs.declared.actions.Next.{Next}
use Rattle.concrete_values.specs.declared.actions.Next.TheVariants as Acts
use Rattle.concrete_values.specs.Values.{truth_value}
use Rattle.concrete_values.specs.Actions.{is_of, is_between}
use Rattle.concrete_steps.specs.declared.worlds.Content.{Content}
use Rattle.concrete_steps.specs.declared.worlds.Content.TheVariants.{Open, Is}
use Rattle.concrete_steps.specs.declared.worlds.Status.{Status}
use Rattle.concrete_steps.specs.declared.worlds.Status.TheVariants.{Waiting, Ready, Blocked, Done}
use Rattle.concrete_steps.specs.declared.worlds.Choice.{Choice}
use Rattle.concrete_steps.specs.declared.worlds.Choice.TheVariants.{Wake, Run}
use Rattle.concrete_steps.specs.declared.worlds.Stepped.TheVariants as Steps
use Rattle.concrete_steps.specs.NextAction.{next}
use Rattle.concrete_steps.specs.Worlds.{Standing, World, Outcome, next_at, holds, is_ready, is_waiting, is_ended, no_mutex, is_section, with_status, with_mutex, settled, refused, did, halted, stand, told, answered, each_from, is_part, cleared_content, cleared, woken, freed, none_above, is_taken, plainly, openly, load_step, store_step, yielded, act_step, run_step, tasks_may_run, wake_step, chosen_step, step, start, start_standings, is_blocked_on}
use Rattle.concrete_steps.specs.Worlds.{no_standing, standing}
use Rattle.concrete_steps.specs.Laws.{StepsAreMoves, PrioritiesStay}
use Rattle.concrete_steps.specs.Occurring.{IsReached, at_start, by_step}
use Rattle.concrete_steps.specs.Moves.{status_of, content_of, SameHeld, SameContents, OthersStand, settled_status, Turn, NowHolds, Reads, reads_value, reads_open, reads_any, held_with, IsMove, wakes, loads, stores, chooses, clears, takes, waits_for, gives_up, gives_way, probes, goes_round}
use Rattle.concrete_steps.proofs.Reached.{at, length_map, AreKept, kept_same, kept_woken, at_map, none_in, get_some, and_left}

-- ## Lists

length_set : {A : Type 0} (xs : List A) (i : ℕ) (x : A) → length (slice_set xs i x) ≡ length xs
length_set [] i x = refl
length_set (y ∷ xs) zero x = refl
length_set (y ∷ xs) (suc i) x = ap suc (length_set xs i x)

get_each : (f : ℕ → Content → Content) (k : ℕ) (xs : List Content) (c : ℕ) → c < length xs → get_or (each_from f k xs) c Open ≡ f (k + c) (get_or xs c Open)
get_each f k [] c h = absurd (omega (arith, h))
get_each f k (x ∷ xs) zero h = ap (λ z. f z x) (let q : k ≡ k + 0 = omega arith in q)
get_each f k (x ∷ xs) (suc c) h = get_each f (suc k) xs c (omega (arith, h)) ∙ ap (λ z. f z (get_or xs c Open)) (let q : suc k + c ≡ k + suc c = omega arith in q)

some_content : (xs : List Content) (c : ℕ) (x : Content) → slice_get xs c ≡ Some x → get_or xs c Open ≡ x
some_content [] zero x e = absurd cc
some_content [] (suc c) x e = absurd cc
some_content (y ∷ xs) zero x e = cc
some_content (y ∷ xs) (suc c) x e = some_content xs c x e

beyond_set : (xs : List Bool) (m : ℕ) (b : Bool) → (m < length xs → ⊥) → get_or (slice_set xs m b) m false ≡ false
beyond_set [] m b h = refl
beyond_set (x ∷ xs) zero b h = absurd (h (omega arith))
beyond_set (x ∷ xs) (suc m) b h = beyond_set xs m b (λ l. h (omega (arith, l)))

-- the set with one mutex held or free, at that mutex and at another
set_here : (xs : List Bool) (m : ℕ) (t : Bool) → ltb m (length xs) ≡ t → get_or (slice_set xs m true) m false ≡ t
set_here xs m true e = get_or-set_same xs m true false (ltb-true m (length xs) e)
set_here xs m false e = beyond_set xs m true (λ l. let clash : true ≡ false = sym (lt-ltb m (length xs) l) ∙ e in absurd cc)

held_by : (xs : List Bool) (m n : ℕ) (b now q : Bool) → eqb n m ≡ q → get_or (slice_set xs m b) m false ≡ now
    → get_or (slice_set xs m b) n false ≡ (if q then now else get_or xs n false)
held_by xs m n b now true e h = ap (λ z. get_or (slice_set xs m b) z false) (eqb-true n m e) ∙ h
held_by xs m n b now false e h =
    get_or-set_other xs m n b false (λ s. let clash : true ≡ false = sym (eq-eqb n m s) ∙ e in absurd cc)

-- ## Turns

ready_is : (x : Status) → is_ready x ≡ true → x ≡ Ready
ready_is Ready e = refl
ready_is Waiting e = absurd cc
ready_is (Blocked m) e = absurd cc
ready_is Done e = absurd cc

waiting_is : (x : Status) → is_waiting x ≡ true → x ≡ Waiting
waiting_is Waiting e = refl
waiting_is Ready e = absurd cc
waiting_is (Blocked m) e = absurd cc
waiting_is Done e = absurd cc

is_ready_of : (x : Status) → x ≡ Ready → is_ready x ≡ true
is_ready_of x e = ap is_ready e

and_right : (a b : Bool) → (a && b) ≡ true → b ≡ true
and_right true b e = e
and_right false b e = absurd cc

not_both : (a b : Bool) → not (a && b) ≡ true → a ≡ true → b ≡ true → ⊥
not_both true true e f g = absurd cc
not_both true false e f g = absurd cc
not_both false b e f g = absurd cc

none_ready : (p : ℕ) (ss : List Standing) (j : ℕ) → none_above p ss ≡ true → p < (at ss j).priority → (at ss j).status ≡ Ready → ⊥
none_ready p [] j e l r = absurd cc
none_ready p (s ∷ ss) zero e l r =
    not_both (is_ready s.status) (ltb p s.priority) (and_left (not (is_ready s.status && ltb p s.priority)) (none_above p ss) e)
    (is_ready_of s.status r) (lt-ltb p s.priority l)
none_ready p (s ∷ ss) (suc j) e l r =
    none_ready p ss j (and_right (not (is_ready s.status && ltb p s.priority)) (none_above p ss) e) l r

settled_is : (laid : LaidTree) (i : ℕ) (s : Standing) (b c : Bool)
    → (if b then record s { status = Done; held = if c then no_mutex laid else s.held } else s).status ≡ settled_status b s.status
settled_is laid i s true c = refl
settled_is laid i s false c = refl

settled_holds : (laid : LaidTree) (s : Standing) (m : ℕ) (b c : Bool)
    → holds m (if b then record s { status = Done; held = if c then no_mutex laid else s.held } else s) ≡ (if b && c then false else holds m s)
settled_holds laid s m true true = none_in laid.file.mutexes m
settled_holds laid s m true false = refl
settled_holds laid s m false c = refl

-- ## Steps

pub record IsSized (w : World) : Type 0 where
  pub size : length w.answers ≡ length w.standings

module _ (laid : LaidTree) (w : World) (sized : IsSized w) where
  -- a choice that is done is a move, and the lists keep their sizes
  pub record Moves (c : Choice) (o : Outcome) : Type 0 where
    pub move : o.answer ≡ Steps.Done → IsMove laid w o.world c
    pub size : IsSized o.world

  no_move : (c : Choice) → Moves c (refused w)
  no_move c = record { move = λ e. absurd cc; size = sized }

  no_halt : (c : Choice) (class : _) (p : Place) → Moves c (halted class p w)
  no_halt c class p = record { move = λ e. absurd cc; size = record { size = sized.size } }

  moves_if : (c : Choice) (b : Bool) (o o' : Outcome) → (b ≡ true → Moves c o) → (b ≡ false → Moves c o') → Moves c (if b then o else o')
  moves_if c true o o' x y = x refl
  moves_if c false o o' x y = y refl

  -- one task stands differently
  stand_size : (i : ℕ) (s : Standing) → IsSized (stand i s w)
  stand_size i s = record { size = sized.size ∙ sym (length_set w.standings i s) }

  same_held : (i : ℕ) (s t : Standing) → at w.standings i ≡ s → i < length w.standings → t.held ≡ s.held → SameHeld w (stand i t w)
  same_held i s t e lt h = record { same = λ j m. by_place j m (eqb j i) refl }
    where
      by_place : (j m : ℕ) (b : Bool) → eqb j i ≡ b → holds m (at (slice_set w.standings i t) j) ≡ holds m (at w.standings j)
      by_place j m true q =
          ap (λ z. holds m (at (slice_set w.standings i t) z)) (eqb-true j i q) ∙ ap (λ (x : Standing). holds m x) (get_or-set_same w.standings i t no_standing lt)
          ∙ ap (λ (l : List Bool). get_or l m false) h ∙ ap (λ (x : Standing). holds m x) (sym e) ∙ ap (λ z. holds m (at w.standings z)) (sym (eqb-true j i q))
      by_place j m false q =
          ap (λ (x : Standing). holds m x) (get_or-set_other w.standings i j t no_standing (λ s. let clash : true ≡ false = sym (eq-eqb j i s) ∙ q in absurd cc))

  module _ (i : ℕ) (s : Standing) (found : slice_get w.standings i ≡ Some s) where
    lt : i < length w.standings
    lt = slice_get_within w.standings i s found

    mine : at w.standings i ≡ s
    mine = get_some w.standings i s found

    module _ (ready : is_ready s.status ≡ true) (top : none_above s.priority w.standings ≡ true) where
      is_ready_now : status_of w i ≡ Ready
      is_ready_now = ap (λ (x : Standing). x.status) mine ∙ ready_is s.status ready

      is_first : (j : ℕ) → (standing w i).priority < (standing w j).priority → status_of w j ≡ Ready → ⊥
      is_first j l r = none_ready s.priority w.standings j top (subst (λ z. z < (standing w j).priority) (ap (λ (x : Standing). x.priority) mine) l) r

      -- the world after an answer, where the cells hold these contents and the others stand so
      abbrev then_world : Standing → Answer → List Content → List Standing → World
      then_world t a cs ss = (answered laid i t a (record w { contents = cs; standings = ss })).world

      module _ (t : Standing) (a : Answer) (cs : List Content) (ss : List Standing) (k : AreKept w.standings ss) where
        abbrev action : Next
        action = next laid i (get_or (slice_set w.answers i (get_or w.answers i [] ++ a ∷ [])) i [])

        in_answers : i < length w.answers
        in_answers = subst (λ n. i < n) (sym sized.size) lt

        in_standings : i < length ss
        in_standings = subst (λ n. i < n) (sym k.size) lt

        stands : at (slice_set ss i (settled laid i action t)) i ≡ settled laid i action t
        stands = get_or-set_same ss i (settled laid i action t) no_standing in_standings

        turn : Turn laid w (then_world t a cs ss) i a t.status
        unfolding next_at
        turn = record {
          ready = is_ready_now;
          first = is_first;
          answers = get_or-set_same w.answers i (get_or w.answers i [] ++ a ∷ []) [] in_answers;
          status = ap (λ (x : Standing). x.status) stands ∙ settled_is laid i t (is_ended action) (is_section laid i);
          other_answers = λ j ne. get_or-set_other w.answers i j (get_or w.answers i [] ++ a ∷ []) [] ne;
          other_held = λ j m ne.
              ap (λ (x : Standing). holds m x) (get_or-set_other ss i j (settled laid i action t) no_standing ne) ∙ ap (λ (l : List Bool). get_or l m false) (k.held j);
        }

        now_holds : (f : ℕ → Bool) → ((m : ℕ) → holds m t ≡ f m) → NowHolds laid (then_world t a cs ss) i f
        unfolding next_at
        now_holds f h = record {
          now = λ m.
              ap (λ (x : Standing). holds m x) stands ∙ settled_holds laid t m (is_ended action) (is_section laid i)
              ∙ ap (λ b. if is_ended action && is_section laid i then false else b) (h m);
        }

        other_status : (j : ℕ) → j ≢ i → status_of (then_world t a cs ss) j ≡ (at ss j).status
        unfolding next_at
        other_status j ne = ap (λ (x : Standing). x.status) (get_or-set_other ss i j (settled laid i action t) no_standing ne)

        then_sized : IsSized (then_world t a cs ss)
        unfolding next_at
        then_sized = record {
          size =
              length_set w.answers i (get_or w.answers i [] ++ a ∷ []) ∙ sized.size ∙ sym k.size ∙ sym (length_set ss i (settled laid i action t));
        }

      -- where the task keeps its mutexes
      turn_ready : (a : Answer) (cs : List Content) → Turn laid w (then_world s a cs w.standings) i a Ready
      turn_ready a cs = subst (λ x. Turn laid w (then_world s a cs w.standings) i a x) (ready_is s.status ready) (turn s a cs w.standings (kept_same w.standings))

      others : (t : Standing) (a : Answer) (cs : List Content) → OthersStand w (then_world t a cs w.standings) i
      others t a cs = record { same = λ j ne. other_status t a cs w.standings (kept_same w.standings) j ne }

      keeps : (t : Standing) (a : Answer) (cs : List Content) → t.held ≡ s.held → NowHolds laid (then_world t a cs w.standings) i (λ m. holds m (standing w i))
      keeps t a cs h =
          now_holds t a cs w.standings (kept_same w.standings) (λ m. holds m (standing w i))
          (λ m. ap (λ (l : List Bool). get_or l m false) h ∙ ap (λ (x : Standing). holds m x) (sym mine))

      same_contents : (t : Standing) (a : Answer) (ss : List Standing) → SameContents w (then_world t a w.contents ss)
      same_contents t a ss = record { same = λ c. refl }

      sized_now : (t : Standing) (a : Answer) (cs : List Content) → IsSized (then_world t a cs w.standings)
      sized_now t a cs = then_sized t a cs w.standings (kept_same w.standings)

      plain : (v : ℤ) (o : Outcome) → Moves (Run i v) o → Moves (Run i v) (plainly v o w)
      plain v o m = moves_if (Run i v) (is_zero v) o (refused w) (λ q. m) (λ q. no_move (Run i v))

      load_answer : (v : ℤ) (o k : ℕ) (scalar : Scalar) (volatile : Bool) (p : Place) (x : Value) → next_at laid w i ≡ Acts.Load o k scalar volatile p
          → cell_of laid o k < length w.contents → Reads laid scalar volatile (content_of w (cell_of laid o k)) x
          → Moves (Run i v) (answered laid i s (Answers.Given x) w)
      load_answer v o k scalar volatile p x e c r = record {
        move = λ q.
            loads e c r (turn_ready (Answers.Given x) w.contents) (others s (Answers.Given x) w.contents) (keeps s (Answers.Given x) w.contents refl)
            (same_contents s (Answers.Given x) w.standings);
        size = sized_now s (Answers.Given x) w.contents;
      }

      load_move : (v : ℤ) (o k : ℕ) (scalar : Scalar) (volatile : Bool) (p : Place) (c : Option Content) → next_at laid w i ≡ Acts.Load o k scalar volatile p
          → slice_get w.contents (cell_of laid o k) ≡ c → Moves (Run i v) (load_step laid i s v scalar volatile c w)
      load_move v o k scalar true p None e f = no_move (Run i v)
      load_move v o k scalar false p None e f = no_move (Run i v)
      load_move v o k scalar true p (Some Open) e f =
          moves_if (Run i v) (is_of laid scalar (Number v)) _ _
          (λ q. load_answer v o k scalar true p (Number v) e (slice_get_within w.contents (cell_of laid o k) Open f) (reads_any q)) (λ q. no_move (Run i v))
      load_move v o k scalar true p (Some (Is x)) e f =
          moves_if (Run i v) (is_of laid scalar (Number v)) _ _
          (λ q. load_answer v o k scalar true p (Number v) e (slice_get_within w.contents (cell_of laid o k) (Is x) f) (reads_any q)) (λ q. no_move (Run i v))
      load_move v o k scalar false p (Some Open) e f =
          moves_if (Run i v) (is_of laid scalar (Number v)) _ _
          (λ q. load_answer v o k scalar false p (Number v) e (slice_get_within w.contents (cell_of laid o k) Open f)
          (subst (λ c. Reads laid scalar false c (Number v)) (sym (some_content w.contents (cell_of laid o k) Open f)) (reads_open q))) (λ q. no_move (Run i v))
      load_move v o k scalar false p (Some (Is x)) e f =
          plain v _
          (load_answer v o k scalar false p x e (slice_get_within w.contents (cell_of laid o k) (Is x) f)
          (subst (λ c. Reads laid scalar false c x) (sym (some_content w.contents (cell_of laid o k) (Is x) f)) reads_value))

      store_move : (v : ℤ) (o k : ℕ) (scalar : Scalar) (x : Value) (p : Place) (c : Option Content) → next_at laid w i ≡ Acts.Store o k scalar x p
          → slice_get w.contents (cell_of laid o k) ≡ c → Moves (Run i v) (store_step laid i s v (cell_of laid o k) x c w)
      store_move v o k scalar x p None e f = no_move (Run i v)
      store_move v o k scalar x p (Some old) e f =
          let here = slice_get_within w.contents (cell_of laid o k) old f in
          let cs = slice_set w.contents (cell_of laid o k) (Is x) in
          plain v _
          (record {
            move = λ q.
                stores e here (turn_ready Answers.Done cs) (others s Answers.Done cs) (keeps s Answers.Done cs refl)
                (get_or-set_same w.contents (cell_of laid o k) (Is x) Open here) (λ c ne. get_or-set_other w.contents (cell_of laid o k) c (Is x) Open ne);
            size = sized_now s Answers.Done cs;
          })

      choose_move : (v low high : ℤ) → next_at laid w i ≡ Acts.Chosen low high → Moves (Run i v) (openly laid i s v (is_between low high (Number v)) w)
      choose_move v low high e =
          moves_if (Run i v) (is_between low high (Number v)) _ _
          (λ q. record {
            move = λ r.
                chooses e q (turn_ready (Answers.Given (Number v)) w.contents) (others s (Answers.Given (Number v)) w.contents)
                (keeps s (Answers.Given (Number v)) w.contents refl) (same_contents s (Answers.Given (Number v)) w.standings);
            size = sized_now s (Answers.Given (Number v)) w.contents;
          }) (λ q. no_move (Run i v))

      clear_move : (v : ℤ) (o : ℕ) → next_at laid w i ≡ Acts.Clear o → Moves (Run i v) (plainly v (answered laid i s Answers.Done (cleared laid o w)) w)
      clear_move v o e =
          let cs = each_from (λ c x. if is_part laid o c then cleared_content (cell_at laid c).scalar else x) 0 w.contents in
          plain v _
          (record {
            move = λ q.
                clears e (turn_ready Answers.Done cs) (others s Answers.Done cs) (keeps s Answers.Done cs refl)
                (λ c l. get_each (λ c x. if is_part laid o c then cleared_content (cell_at laid c).scalar else x) 0 w.contents c l
                ∙ ap (λ z. if is_part laid o z then cleared_content (cell_at laid z).scalar else content_of w c) (let z : 0 + c ≡ c = omega arith in z));
            size = sized_now s Answers.Done cs;
          })

      take_move : (v : ℤ) (m : ℕ) (p : Place) → next_at laid w i ≡ Acts.Lock m p → is_taken m w.standings ≡ false
          → Moves (Run i v) (answered laid i (with_mutex m true s) Answers.Done w)
      take_move v m p e f = record {
        move = λ q.
            takes e f
            (subst (λ x. Turn laid w (then_world (with_mutex m true s) Answers.Done w.contents w.standings) i Answers.Done x) (ready_is s.status ready)
            (turn (with_mutex m true s) Answers.Done w.contents w.standings (kept_same w.standings)))
            (others (with_mutex m true s) Answers.Done w.contents)
            (now_holds (with_mutex m true s) Answers.Done w.contents w.standings (kept_same w.standings) (held_with m (ltb m (length (standing w i).held)) (standing w i))
            (λ n. held_by s.held m n true (ltb m (length s.held)) (eqb n m) refl (set_here s.held m (ltb m (length s.held)) refl)
            ∙ ap (λ (x : Standing). held_with m (ltb m (length x.held)) x n) (sym mine)))
            (same_contents (with_mutex m true s) Answers.Done w.standings);
        size = sized_now (with_mutex m true s) Answers.Done w.contents;
      }

      wait_move : (v : ℤ) (m : ℕ) (p : Place) → next_at laid w i ≡ Acts.Lock m p → holds m s ≡ false → is_taken m w.standings ≡ true
          → Moves (Run i v) (did (stand i (with_status (Blocked m) s) w))
      wait_move v m p e f g = record {
        move = λ q.
            waits_for e (ap (λ (x : Standing). holds m x) mine ∙ f) g is_ready_now is_first
            (ap (λ (x : Standing). x.status) (get_or-set_same w.standings i (with_status (Blocked m) s) no_standing lt))
            (record { same = λ j ne. ap (λ (x : Standing). x.status) (get_or-set_other w.standings i j (with_status (Blocked m) s) no_standing ne) })
            (record { same = λ j. refl }) (same_held i s (with_status (Blocked m) s) mine lt refl) (record { same = λ c. refl });
        size = stand_size i (with_status (Blocked m) s);
      }

      unlock_move : (v : ℤ) (m : ℕ) (p : Place) → next_at laid w i ≡ Acts.Unlock m p → holds m s ≡ true
          → Moves (Run i v) (answered laid i (with_mutex m false s) Answers.Done (freed m w))
      unlock_move v m p e f =
          let ss = map (woken m) w.standings in
          let k = kept_woken m w.standings in
          record {
            move = λ q.
                gives_up e (ap (λ (x : Standing). holds m x) mine ∙ f)
                (subst (λ x. Turn laid w (then_world (with_mutex m false s) Answers.Done w.contents ss) i Answers.Done x) (ready_is s.status ready)
                (turn (with_mutex m false s) Answers.Done w.contents ss k))
                (λ j ne. other_status (with_mutex m false s) Answers.Done w.contents ss k j ne ∙ ap (λ (x : Standing). x.status) (at_map m w.standings j))
                (now_holds (with_mutex m false s) Answers.Done w.contents ss k (held_with m false (standing w i))
                (λ n. held_by s.held m n false false (eqb n m) refl (freed_here s.held m) ∙ ap (λ (x : Standing). held_with m false x n) (sym mine)))
                (same_contents (with_mutex m false s) Answers.Done ss);
            size = then_sized (with_mutex m false s) Answers.Done w.contents ss k;
          }
        where
          freed_here : (xs : List Bool) (m : ℕ) → get_or (slice_set xs m false) m false ≡ false
          freed_here [] m = refl
          freed_here (x ∷ xs) zero = refl
          freed_here (x ∷ xs) (suc m) = freed_here xs m

      yield_move : (v : ℤ) → next_at laid w i ≡ Acts.Yield → Moves (Run i v) (answered laid i (yielded laid i s) Answers.Done w)
      yield_move v e = record {
        move = λ q.
            gives_way e (turn (yielded laid i s) Answers.Done w.contents w.standings (kept_same w.standings)) (others (yielded laid i s) Answers.Done w.contents)
            (keeps (yielded laid i s) Answers.Done w.contents refl) (same_contents (yielded laid i s) Answers.Done w.standings);
        size = sized_now (yielded laid i s) Answers.Done w.contents;
      }

      probe_move : (v : ℤ) (m : ℕ) (p : Place) → next_at laid w i ≡ Acts.Probe m p
          → Moves (Run i v) (answered laid i s (Answers.Given (truth_value (is_taken m w.standings))) w)
      probe_move v m p e =
          let a = Answers.Given (truth_value (is_taken m w.standings)) in
          record {
            move = λ q. probes e (turn_ready a w.contents) (others s a w.contents) (keeps s a w.contents refl) (same_contents s a w.standings);
            size = sized_now s a w.contents;
          }

      act_move : (v : ℤ) (n : Next) → next_at laid w i ≡ n → Moves (Run i v) (act_step laid i s v n w)
      unfolding act_step
      act_move v (Acts.Load o k scalar volatile p) e = load_move v o k scalar volatile p (slice_get w.contents (cell_of laid o k)) e refl
      act_move v (Acts.Store o k scalar x p) e = store_move v o k scalar x p (slice_get w.contents (cell_of laid o k)) e refl
      act_move v (Acts.Chosen low high) e = choose_move v low high e
      act_move v (Acts.Clear o) e = clear_move v o e
      act_move v (Acts.Lock m p) e =
          plain v _
          (moves_if (Run i v) (holds m s) _ _ (λ q. no_halt (Run i v) _ p) (λ q.
          moves_if (Run i v) (is_taken m w.standings) _ _ (λ r. wait_move v m p e q r) (λ r. take_move v m p e r)))
      act_move v (Acts.Unlock m p) e = plain v _ (moves_if (Run i v) (holds m s) _ _ (λ q. unlock_move v m p e q) (λ q. no_halt (Run i v) _ p))
      act_move v Acts.Yield e = plain v _ (yield_move v e)
      act_move v (Acts.Probe m p) e = plain v _ (probe_move v m p e)
      act_move v (Acts.Fault class p) e = plain v _ (no_halt (Run i v) class p)
      act_move v Acts.Spins e = plain v _ (record { move = λ q. goes_round e is_ready_now is_first refl; size = sized })
      act_move v Acts.Ended e = no_move (Run i v)
      act_move v Acts.Misfit e = no_move (Run i v)

    wake_move : tasks_may_run laid w ≡ true → is_waiting s.status ≡ true → Moves (Wake i) (did (stand i (with_status Ready s) w))
    wake_move f g = record {
      move = λ q.
          wakes f (ap (λ (x : Standing). x.status) mine ∙ waiting_is s.status g)
          (ap (λ (x : Standing). x.status) (get_or-set_same w.standings i (with_status Ready s) no_standing lt))
          (record { same = λ j ne. ap (λ (x : Standing). x.status) (get_or-set_other w.standings i j (with_status Ready s) no_standing ne) })
          (record { same = λ j. refl }) (same_held i s (with_status Ready s) mine lt refl) (record { same = λ c. refl });
      size = stand_size i (with_status Ready s);
    }

  run_move : (i : ℕ) (v : ℤ) (s : Option Standing) → slice_get w.standings i ≡ s → Moves (Run i v) (run_step laid i v s w)
  run_move i v None e = no_move (Run i v)
  run_move i v (Some s) e =
      moves_if (Run i v) (is_ready s.status && none_above s.priority w.standings) _ _
      (λ q. act_move i s e (and_left (is_ready s.status) (none_above s.priority w.standings) q) (and_right (is_ready s.status) (none_above s.priority w.standings) q) v
      (next_at laid w i) refl) (λ q. no_move (Run i v))

  waken_move : (i : ℕ) (s : Option Standing) → slice_get w.standings i ≡ s → Moves (Wake i) (wake_step laid i s w)
  waken_move i None e = no_move (Wake i)
  waken_move i (Some s) e =
      moves_if (Wake i) (tasks_may_run laid w && is_waiting s.status) _ _
      (λ q. wake_move i s e (and_left (tasks_may_run laid w) (is_waiting s.status) q) (and_right (tasks_may_run laid w) (is_waiting s.status) q)) (λ q. no_move (Wake i))

  choice_move : (c : Choice) → Moves c (chosen_step laid w c)
  choice_move (Wake i) = waken_move i (slice_get w.standings i) refl
  choice_move (Run i v) = run_move i v (slice_get w.standings i) refl

  pub step_move : (c : Choice) → Moves c (step laid w c)
  unfolding step
  step_move c = moves_if c w.stopped _ _ (λ q. no_move c) (λ q. choice_move c)

reached_sized : (laid : LaidTree) (w : World) → IsReached laid w → IsSized w
unfolding start
reached_sized laid w at_start = record { size = length_map (λ s. (let none : List Answer = [] in none)) (start_standings laid) }
reached_sized laid w (by_step {w = v} r c e) = (step_move laid v (reached_sized laid v r) c).size

pub steps_are_moves : StepsAreMoves
steps_are_moves laid w r c e = (step_move laid w (reached_sized laid w r) c).move e

-- ## Priorities

map_set : (ss : List Standing) (i : ℕ) (s t : Standing) → slice_get ss i ≡ Some s → t.priority ≡ s.priority
    → map (λ (x : Standing). x.priority) (slice_set ss i t) ≡ map (λ x. x.priority) ss
map_set [] i s t e f = refl
map_set (x ∷ ss) zero s t e f = let same : s ≡ x = cc in ap (λ z. z ∷ map (λ x. x.priority) ss) (f ∙ ap (λ (y : Standing). y.priority) same)
map_set (x ∷ ss) (suc i) s t e f = ap (λ z. x.priority ∷ z) (map_set ss i s t e f)

woken_rank : (b : Bool) (s : Standing) → (if b then with_status Ready s else s).priority ≡ s.priority
woken_rank true s = refl
woken_rank false s = refl

map_woken : (m : ℕ) (ss : List Standing) → map (λ (x : Standing). x.priority) (map (woken m) ss) ≡ map (λ x. x.priority) ss
map_woken m [] = refl
map_woken m (s ∷ ss) =
    ap (λ z. z ∷ map (λ (x : Standing). x.priority) (map (woken m) ss)) (woken_rank (is_blocked_on m s.status) s) ∙ ap (λ z. s.priority ∷ z) (map_woken m ss)

get_woken : (m : ℕ) (ss : List Standing) (i : ℕ) (s : Standing) → slice_get ss i ≡ Some s → slice_get (map (woken m) ss) i ≡ Some (woken m s)
get_woken m [] zero s e = absurd cc
get_woken m [] (suc i) s e = absurd cc
get_woken m (x ∷ ss) zero s e = let same : x ≡ s = cc in ap (λ z. Some (woken m z)) same
get_woken m (x ∷ ss) (suc i) s e = get_woken m ss i s e

settled_rank : (laid : LaidTree) (s : Standing) (b c : Bool)
    → (if b then record s { status = Done; held = if c then no_mutex laid else s.held } else s).priority ≡ s.priority
settled_rank laid s true c = refl
settled_rank laid s false c = refl

module _ (laid : LaidTree) (w : World) where
  abbrev Keeps : Outcome → Type 0
  Keeps o = map (λ (s : Standing). s.priority) o.world.standings ≡ map (λ s. s.priority) w.standings

  keep_if : (b : Bool) (o o' : Outcome) → Keeps o → Keeps o' → Keeps (if b then o else o')
  keep_if true o o' x y = x
  keep_if false o o' x y = y

  module _ (i : ℕ) (s : Standing) (found : slice_get w.standings i ≡ Some s) where
    keep_answer : (t : Standing) (a : Answer) (cs : List Content) → t.priority ≡ s.priority
        → Keeps (answered laid i t a (record w { contents = cs }))
    keep_answer t a cs e =
        map_set w.standings i s (settled laid i (next_at laid (told i a (record w { contents = cs })) i) t) found
        (settled_rank laid t (is_ended (next_at laid (told i a (record w { contents = cs })) i)) (is_section laid i) ∙ e)

    keep_unlock : (m : ℕ) (a : Answer) → Keeps (answered laid i (with_mutex m false s) a (freed m w))
    keep_unlock m a =
        map_set (map (woken m) w.standings) i (woken m s) (settled laid i (next_at laid (told i a (freed m w)) i) (with_mutex m false s))
        (get_woken m w.standings i s found)
        (settled_rank laid (with_mutex m false s) (is_ended (next_at laid (told i a (freed m w)) i)) (is_section laid i)
        ∙ sym (woken_rank (is_blocked_on m s.status) s))
        ∙ map_woken m w.standings

    keep_load : (v : ℤ) (scalar : Scalar) (volatile : Bool) (c : Option Content) → Keeps (load_step laid i s v scalar volatile c w)
    keep_load v scalar true None = refl
    keep_load v scalar false None = refl
    keep_load v scalar true (Some Open) = keep_if (is_of laid scalar (Number v)) _ _ (keep_answer s _ w.contents refl) refl
    keep_load v scalar true (Some (Is x)) = keep_if (is_of laid scalar (Number v)) _ _ (keep_answer s _ w.contents refl) refl
    keep_load v scalar false (Some Open) = keep_if (is_of laid scalar (Number v)) _ _ (keep_answer s _ w.contents refl) refl
    keep_load v scalar false (Some (Is x)) = keep_if (is_zero v) _ _ (keep_answer s _ w.contents refl) refl

    keep_store : (v : ℤ) (c : ℕ) (x : Value) (old : Option Content) → Keeps (store_step laid i s v c x old w)
    keep_store v c x None = refl
    keep_store v c x (Some old) = keep_if (is_zero v) _ _ (keep_answer s _ (slice_set w.contents c (Is x)) refl) refl

    keep_act : (v : ℤ) (n : Next) → Keeps (act_step laid i s v n w)
    unfolding act_step
    keep_act v (Acts.Load o k scalar volatile p) = keep_load v scalar volatile (slice_get w.contents (cell_of laid o k))
    keep_act v (Acts.Store o k scalar x p) = keep_store v (cell_of laid o k) x (slice_get w.contents (cell_of laid o k))
    keep_act v (Acts.Chosen low high) = keep_if (is_between low high (Number v)) _ _ (keep_answer s _ w.contents refl) refl
    keep_act v (Acts.Clear o) = keep_if (is_zero v) _ _ (keep_answer s _ _ refl) refl
    keep_act v (Acts.Lock m p) =
        keep_if (is_zero v) _ _
        (keep_if (holds m s) _ _ refl
        (keep_if (is_taken m w.standings) _ _ (map_set w.standings i s (with_status (Blocked m) s) found refl)
        (keep_answer (with_mutex m true s) _ w.contents refl))) refl
    keep_act v (Acts.Unlock m p) = keep_if (is_zero v) _ _ (keep_if (holds m s) _ _ (keep_unlock m _) refl) refl
    keep_act v Acts.Yield = keep_if (is_zero v) _ _ (keep_answer (yielded laid i s) _ w.contents refl) refl
    keep_act v (Acts.Probe m p) = keep_if (is_zero v) _ _ (keep_answer s _ w.contents refl) refl
    keep_act v (Acts.Fault class p) = keep_if (is_zero v) _ _ refl refl
    keep_act v Acts.Spins = keep_if (is_zero v) _ _ refl refl
    keep_act v Acts.Ended = refl
    keep_act v Acts.Misfit = refl

  keep_run : (i : ℕ) (v : ℤ) (s : Option Standing) → slice_get w.standings i ≡ s → Keeps (run_step laid i v s w)
  keep_run i v None e = refl
  keep_run i v (Some s) e = keep_if (is_ready s.status && none_above s.priority w.standings) _ _ (keep_act i s e v (next_at laid w i)) refl

  keep_wake : (i : ℕ) (s : Option Standing) → slice_get w.standings i ≡ s → Keeps (wake_step laid i s w)
  keep_wake i None e = refl
  keep_wake i (Some s) e = keep_if (tasks_may_run laid w && is_waiting s.status) _ _ (map_set w.standings i s (with_status Ready s) e refl) refl

  keep_choice : (c : Choice) → Keeps (chosen_step laid w c)
  keep_choice (Wake i) = keep_wake i (slice_get w.standings i) refl
  keep_choice (Run i v) = keep_run i v (slice_get w.standings i) refl

  keep_step : (c : Choice) → Keeps (step laid w c)
  unfolding step
  keep_step c = keep_if w.stopped _ _ refl (keep_choice c)

pub priorities_stay : PrioritiesStay
priorities_stay laid w at_start = refl
priorities_stay laid w (by_step {w = v} r c e) = keep_step laid v c ∙ priorities_stay laid v r
