-- Each action of a task in a run is a step of the soundness theorem's worlds.
use Rattle.std.proofs.Common.{◌≡◌, ◌≢◌, ◌⊎◌, inl, inr, refl, sym, ap, subst, ◌∙◌, ℕ, ◌<◌, Bool, true, false}
use Rattle.std.proofs.Common.{[], ◌∷◌}
use Rattle.std.proofs.Common.{◌++◌, length, if◌then◌else◌, arith}
use Rattle.std.specs.Prelude.{ℤ, cond, nat_lt, ◌==◌}
use Rattle.std.proofs.lemmas.Bool.{lt-ltb, ltb-true, eq-eqb, ne_eqb}
use native.Mathlib.Decide.{ℕ_discrete}
use Rattle.layout_laws.specs.tm_terms.declared.places.Place.{Place}
use Rattle.layout_laws.specs.tm_typed.declared.types.Scalar.{Scalar}
use Rattle.layout_laws.specs.tm_typed.declared.types.Scalar.TheVariants as Scalars
use Rattle.layout_laws.specs.tm_laid.Layouts.{LaidTree, cell_at, cell_of, abstract_at}
use Rattle.program_shape.specs.concrete_values.declared.values.Value.{Value}
use Rattle.program_shape.specs.concrete_values.declared.values.Value.TheVariants.{Number}
use Rattle.program_shape.specs.concrete_values.declared.values.Answer.{Answer}
use Rattle.program_shape.specs.concrete_values.declared.values.Answer.TheVariants as Answers
use Rattle.program_shape.specs.concrete_values.declared.actions.Next.{Next}
use Rattle.program_shape.specs.concrete_values.declared.actions.Next.TheVariants as Acts
use Rattle.program_shape.specs.concrete_values.Values.{truth_value}
use Rattle.program_shape.specs.concrete_values.Actions.{is_of, is_between}
use Rattle.program_shape.specs.concrete_steps.declared.worlds.Content.{Content}
use Rattle.program_shape.specs.concrete_steps.declared.worlds.Content.TheVariants.{Is}
use Rattle.program_shape.specs.concrete_steps.declared.worlds.Status.{Status}
use Rattle.program_shape.specs.concrete_steps.declared.worlds.Status.TheVariants.{Waiting, Ready, Blocked, Done}
use Rattle.program_shape.specs.concrete_steps.NextAction.{next}
use Rattle.program_shape.specs.concrete_steps.Worlds.{Standing, World, standing, answers_of, next_at, holds, is_ended}
use Rattle.program_shape.specs.concrete_steps.Worlds.{is_blocked_on}
use Rattle.program_shape.specs.concrete_steps.Worlds.{with_status, woken, cleared_content, is_part}
use Rattle.program_shape.specs.concrete_steps.Moves.{status_of, content_of, SameContents, OthersStand, settled_status}
use Rattle.program_shape.specs.concrete_steps.Moves.{Turn, Reads}
use Rattle.program_shape.specs.concrete_steps.Moves.{reads_value, reads_open, reads_any, held_with}
use Rattle.program_shape.specs.flow_graph.Graphs.{Edges}
use Rattle.program_shape.specs.mutex_configs.Sets.{has}
use Rattle.next_action_laws.specs.Actions.{IsCell}
use Rattle.next_action_laws.specs.Worlds.{HoldsTypes}
use Rattle.program_shape.specs.tm_soundness.Shape.{Shape, Content as AContent, given, open_cell, Reads as MayRead}
use Rattle.program_shape.specs.tm_soundness.Shape.{reads_given}
use Rattle.program_shape.specs.tm_soundness.Shape.{reads_open as may_read_open}
use Rattle.program_shape.specs.tm_soundness.GraphWorlds.{ready, blocked}
use Rattle.program_shape.specs.tm_soundness.Worlds.{Source, World as AWorld, settled, released, SameHeld as AlikeHeld}
use Rattle.program_shape.specs.tm_soundness.Worlds.{OthersStay}
use Rattle.program_shape.specs.tm_soundness.Worlds.{SameContent, Turn as ATurn, Step, step_loads, step_loads_any}
use Rattle.program_shape.specs.tm_soundness.Worlds.{step_stores}
use Rattle.program_shape.specs.tm_soundness.Worlds.{step_chooses, step_clears, step_locks, step_unlocks, step_yields}
use Rattle.program_shape.specs.tm_soundness.Worlds.{step_finds_held}
use Rattle.program_shape.specs.tm_soundness.Worlds.{step_finds_free, IsHeldFree}
use Rattle.program_shape.specs.tm_soundness.Numbered.{TaskOf}
use Rattle.program_shape.proofs.low.tm_soundness.FromRows.{pick_yes, pick_no}
use Rattle.program_equations.specs.Readings.{read_layout}
use Rattle.program_shape.specs.Shape.{Parts, shape_of, Has, MayChoose, IsPartOf, abstract_of_cell, cleared_as}
use Rattle.sound_runs.specs.Sources.{source_of, action_of, LaysCell, LaysCells}
use Rattle.sound_runs.specs.Images.{parts_with, world_of, content_as, status_as, contents_as}
use Rattle.sound_runs.proofs.Stood.{abstract_is}
use Rattle.sound_runs.proofs.Readings.{is_of_read}

-- ## Statuses and contents

pub ready_as : (x : Status) → status_as x ≡ ready → x ≡ Ready
ready_as Ready e = refl
ready_as Waiting e = absurd (cc)
ready_as (Blocked m) e = absurd (cc)
ready_as Done e = absurd (cc)

pub cleared_is : (s : Scalar) → content_as (cleared_content s) ≡ cleared_as s
cleared_is (Scalars.Int t) = refl
cleared_is (Scalars.Pointer class) = refl

there_is : (b : Bool) (k : AContent Value) → b ≡ true → cond b k open_cell ≡ k
there_is true k e = refl
there_is false k e = absurd (cc)

-- what a real cell holds
pub content_there : (laid : LaidTree) (w : World) (c : ℕ) → c < length laid.cells
    → contents_as laid w c ≡ content_as (content_of w c)
content_there laid w c lt =
    there_is (nat_lt c (length laid.cells)) (content_as (content_of w c)) (lt-ltb c (length laid.cells) lt)

pub content_same : (laid : LaidTree) (w w' : World) (c : ℕ) → content_of w' c ≡ content_of w c
    → contents_as laid w' c ≡ contents_as laid w c
content_same laid w w' c e = ap (λ z. cond (nat_lt c (length laid.cells)) (content_as z) open_cell) e

woken_if : (b : Bool) (s : Standing) → (if b then with_status Ready s else s).status ≡ (if b then Ready else s.status)
woken_if true s = refl
woken_if false s = refl

pub next_is : (laid : LaidTree) (w : World) (i : ℕ) → next_at laid w i ≡ next laid i (answers_of w i)
unfolding next_at
next_is laid w i = refl

-- ## Steps

module _ (laid : LaidTree) (graph : ℕ → Edges) (tasks : ℕ) (number : TaskOf tasks → ℕ) (rank : ℕ → ℕ)
    (one : (i j : TaskOf tasks) → number i ≡ number j → i ≡ j) (lays : LaysCells laid) where
  abbrev x : Parts
  x = parts_with laid graph tasks number rank

  abbrev S : Shape
  S = shape_of x

  abbrev N : Source S
  N = source_of x (next laid)

  abbrev as_world : World → (TaskOf tasks → ℕ) → AWorld S N
  as_world w held = world_of laid graph tasks number rank w held

  settled_same : (n : Next) (base : Status)
      → status_as (settled_status (is_ended n) base) ≡ settled S N (action_of x n) (status_as base)
  settled_same (Acts.Load o k s true p) base = refl
  settled_same (Acts.Load o k s false p) base = refl
  settled_same (Acts.Store o k s v p) base = refl
  settled_same (Acts.Chosen low high) base = refl
  settled_same (Acts.Clear o) base = refl
  settled_same (Acts.Lock m p) base = refl
  settled_same (Acts.Unlock m p) base = refl
  settled_same Acts.Yield base = refl
  settled_same (Acts.Probe m p) base = refl
  settled_same (Acts.Fault class p) base = refl
  settled_same Acts.Ended base = refl
  settled_same Acts.Spins base = refl
  settled_same Acts.Misfit base = refl

  pub settled_is : (n : Next) (base : Status)
      → status_as (settled_status (is_ended n) base) ≡ settled S N (action_of x n) (status_as base)
  settled_is = settled_same

  released_by : (m : ℕ) (st : Status)
      → status_as (if is_blocked_on m st then Ready else st) ≡ released S N m (status_as st)
  released_by m Waiting = refl
  released_by m Ready = refl
  released_by m Done = refl
  released_by m (Blocked n) = by_same (ℕ_discrete n m)
    where
      by_same : Dec (n ≡ m) → status_as (if (m == n) then Ready else Blocked n) ≡ released S N m (blocked n)
      by_same (yes e) =
          ap (λ b. status_as (if b then Ready else Blocked n)) (eq-eqb m n (sym e))
          ∙ sym (pick_yes (ℕ_discrete n m) ready (blocked n) e)
      by_same (no d) =
          ap (λ b. status_as (if b then Ready else Blocked n)) (ne_eqb m n (λ e. d (sym e)))
          ∙ sym (pick_no (ℕ_discrete n m) ready (blocked n) d)

  pub released_is : (m : ℕ) (s : Standing) → status_as (woken m s).status ≡ released S N m (status_as s.status)
  released_is m s = ap status_as (woken_if (is_blocked_on m s.status) s) ∙ released_by m s.status

  module _ (w w' : World) (s : TaskOf tasks) (H H' : TaskOf tasks → ℕ)
      (ranks : (j : TaskOf tasks) → rank (number s) < rank (number j)
      → (standing w (number s)).priority < (standing w (number j)).priority)
      (same_others : (j : TaskOf tasks) → (j ≡ s → ⊥) → H' j ≡ H j)
      (has_held : (m : ℕ) → m < 16 → has (H s) m ≡ holds m (standing w (number s))) where
    abbrev i : ℕ
    i = number s

    abbrev C : AWorld S N
    C = as_world w H

    abbrev C' : AWorld S N
    C' = as_world w' H'

    pub turn : (a : Answer) (base : Status) → Turn laid w w' i a base
        → ATurn S N C C' s (answers_of w i ++ a ∷ []) (status_as base)
    turn a base t = record {
      runs = ap status_as t.ready;
      top = λ j above e. t.first (number j) (ranks j above) (ready_as (status_of w (number j)) e);
      answers = t.answers;
      status = ap status_as t.status ∙ (settled_same (next_at laid w' i) base
          ∙ ap (λ n. settled S N (action_of x n) (status_as base)) (next_is laid w' i ∙ ap (next laid i) t.answers));
      others_answers = λ j not. t.other_answers (number j) (λ e. not (one j s e));
      others_held = same_others;
    }

    pub stay : OthersStand w w' i → OthersStay S N C C' s
    stay others j not = ap status_as (others.same (number j) (λ e. not (one j s e)))

    pub acts : (n : Next) → next_at laid w i ≡ n → N.next s (C.answers s) ≡ action_of x n
    acts n is = ap (action_of x) (sym (next_is laid w i) ∙ is)

    pub same_content : SameContents w w' → SameContent S N C C'
    same_content same c = content_same laid w w' c (same.same c)

    -- what the task holds is as it was
    pub alike : ((m : ℕ) → m < 16 → has (H' s) m ≡ holds m (standing w i)) → AlikeHeld S N (C'.held s) (C.held s)
    alike now n = (
      λ h. record { small = h.small; is = has_held n h.small ∙ (sym (now n h.small) ∙ h.is) },
      λ h. record { small = h.small; is = now n h.small ∙ (sym (has_held n h.small) ∙ h.is) },
    )

    -- the value is of the type of the cell
    typed_in : (o k : ℕ) (sc : Scalar) (v : Value) → IsCell laid i o k sc → is_of laid sc v ≡ true
        → N.typed (S.abstract_cell (cell_of laid o k)) v
    typed_in o k sc v h typed =
        let l : LaysCell laid o k = lays o k h.object h.inside in
        is_of_read laid (abstract_at laid (abstract_of_cell laid (cell_of laid o k))).scalar v
        ∙ subst (λ z. is_of laid z v ≡ true)
        (sym (ap (λ y. (abstract_at laid y).scalar) (abstract_is laid o k l) ∙ (l.scalar ∙ h.scalar))) typed

    load_read : (o k : ℕ) (sc : Scalar) (b : Bool) (p : Place) (v : Value) (kc : Content)
        → next_at laid w i ≡ Acts.Load o k sc b p → IsCell laid i o k sc → HoldsTypes laid w
        → content_of w (cell_of laid o k) ≡ kc → Reads laid sc b kc v → Turn laid w w' i (Answers.Given v) Ready
        → OthersStand w w' i → ((m : ℕ) → m < 16 → has (H' s) m ≡ holds m (standing w i)) → SameContents w w'
        → Step S N C C'
    load_read o k sc b p v kc is cell types e reads_value t others now same =
        let l : LaysCell laid o k = lays o k cell.object cell.inside in
        let c : ℕ = cell_of laid o k in
        let there : C.content c ≡ given v = content_there laid w c l.within ∙ ap content_as e in
        step_loads s c v (acts (Acts.Load o k sc false p) is)
        (subst (λ z. MayRead S (S.abstract_cell c) z v) (sym there) reads_given)
        (typed_in o k sc v cell (subst (λ z. is_of laid z v ≡ true) cell.scalar (types c v e)))
        (turn (Answers.Given v) Ready t) (stay others) (alike now) (same_content same)
    load_read o k sc b p v kc is cell types e (reads_open {n = n} h) t others now same =
        let l : LaysCell laid o k = lays o k cell.object cell.inside in
        let c : ℕ = cell_of laid o k in
        let there : C.content c ≡ open_cell = content_there laid w c l.within ∙ ap content_as e in
        step_loads s c (Number n) (acts (Acts.Load o k sc false p) is)
        (subst (λ z. MayRead S (S.abstract_cell c) z (Number n)) (sym there)
        (may_read_open (typed_in o k sc (Number n) cell h)))
        (typed_in o k sc (Number n) cell h)
        (turn (Answers.Given (Number n)) Ready t) (stay others) (alike now) (same_content same)
    load_read o k sc b p v kc is cell types e (reads_any {n = n} h) t others now same =
        let c : ℕ = cell_of laid o k in
        let may : MayChoose (read_layout laid) (Acts.Load o k sc true p) (Number n) = is_of_read laid sc (Number n) ∙ h in
        step_loads_any s c (Number n) (acts (Acts.Load o k sc true p) is)
        (subst (λ z. MayChoose (read_layout laid) z (Number n)) (sym (sym (next_is laid w i) ∙ is)) may)
        (turn (Answers.Given (Number n)) Ready t) (stay others) (alike now) (same_content same)

    pub load_moves : (o k : ℕ) (sc : Scalar) (b : Bool) (p : Place) (v : Value)
        → next_at laid w i ≡ Acts.Load o k sc b p → IsCell laid i o k sc → HoldsTypes laid w
        → Reads laid sc b (content_of w (cell_of laid o k)) v → Turn laid w w' i (Answers.Given v) Ready
        → OthersStand w w' i → ((m : ℕ) → m < 16 → has (H' s) m ≡ holds m (standing w i)) → SameContents w w'
        → Step S N C C'
    load_moves o k sc b p v is cell types r t others now same =
        load_read o k sc b p v (content_of w (cell_of laid o k)) is cell types refl r t others now same

    pub store_moves : (o k : ℕ) (sc : Scalar) (v : Value) (p : Place)
        → next_at laid w i ≡ Acts.Store o k sc v p → IsCell laid i o k sc → Turn laid w w' i Answers.Done Ready
        → OthersStand w w' i → ((m : ℕ) → m < 16 → has (H' s) m ≡ holds m (standing w i))
        → content_of w' (cell_of laid o k) ≡ Is v
        → ((c : ℕ) → c ≢ cell_of laid o k → content_of w' c ≡ content_of w c) → Step S N C C'
    store_moves o k sc v p is cell t others now new rest =
        let l : LaysCell laid o k = lays o k cell.object cell.inside in
        let c : ℕ = cell_of laid o k in
        step_stores s c v (acts (Acts.Store o k sc v p) is) (turn Answers.Done Ready t) (stay others) (alike now)
        (content_there laid w' c l.within ∙ ap content_as new)
        (λ d not. content_same laid w w' d (rest d not))

    pub choose_moves : (low high n : ℤ) → next_at laid w i ≡ Acts.Chosen low high
        → is_between low high (Number n) ≡ true → Turn laid w w' i (Answers.Given (Number n)) Ready
        → OthersStand w w' i → ((m : ℕ) → m < 16 → has (H' s) m ≡ holds m (standing w i)) → SameContents w w'
        → Step S N C C'
    choose_moves low high n is may t others now same =
        step_chooses s (Number n) (acts (Acts.Chosen low high) is)
        (subst (λ z. MayChoose (read_layout laid) z (Number n)) (sym (sym (next_is laid w i) ∙ is)) may)
        (turn (Answers.Given (Number n)) Ready t) (stay others) (alike now) (same_content same)

    pub clear_moves : (o : ℕ) → next_at laid w i ≡ Acts.Clear o → Turn laid w w' i Answers.Done Ready
        → OthersStand w w' i → ((m : ℕ) → m < 16 → has (H' s) m ≡ holds m (standing w i))
        → ((c : ℕ) → c < length laid.cells
        → content_of w' c ≡ (if is_part laid o c then cleared_content (cell_at laid c).scalar else content_of w c))
        → Step S N C C'
    clear_moves o is t others now new =
        step_clears s o (acts (Acts.Clear o) is) (turn Answers.Done Ready t) (stay others) (alike now)
        (λ c h. content_there laid w' c h.within
        ∙ (ap content_as (new c h.within)
        ∙ (ap (λ b. content_as (if b then cleared_content (cell_at laid c).scalar else content_of w c)) h.part
        ∙ cleared_is (cell_at laid c).scalar)))
        (λ c not. beyond c not (nat_lt c (length laid.cells)) refl)
      where
        inside : (c : ℕ) → c < length laid.cells → (IsPartOf laid o c → ⊥) → (b : Bool) → is_part laid o c ≡ b
            → content_of w' c ≡ content_of w c
        inside c lt not true e = absurd (not (record { within = lt; part = e }))
        inside c lt not false e =
            new c lt ∙ ap (λ b. if b then cleared_content (cell_at laid c).scalar else content_of w c) e

        beyond : (c : ℕ) → (IsPartOf (read_layout laid) o c → ⊥) → (b : Bool) → nat_lt c (length laid.cells) ≡ b
            → contents_as laid w' c ≡ contents_as laid w c
        beyond c not true e =
            content_same laid w w' c (inside c (ltb-true c (length laid.cells) e)
            (λ h. not (record { within = h.within; part = h.part })) (is_part laid o c) refl)
        beyond c not false e =
            ap (λ b. cond b (content_as (content_of w' c)) open_cell) e
            ∙ sym (ap (λ b. cond b (content_as (content_of w c)) open_cell) e)

    pub lock_moves : (m : ℕ) (p : Place) → next_at laid w i ≡ Acts.Lock m p → m < 16 → IsHeldFree S N C m
        → Turn laid w w' i Answers.Done Ready → OthersStand w w' i
        → ((n : ℕ) → n < 16 → has (H' s) n ≡ held_with m true (standing w i) n) → SameContents w w' → Step S N C C'
    lock_moves m p is small free t others now same =
        step_locks s m (acts (Acts.Lock m p) is) free (turn Answers.Done Ready t) (stay others)
        (λ n. (λ h. back n h (ℕ_discrete n m), λ h. forth n h)) (same_content same)
      where
        other : (n : ℕ) → n ≢ m → n < 16 → has (H' s) n ≡ has (H s) n
        other n d lt =
            now n lt ∙ (ap (λ b. if b then true else holds n (standing w i)) (ne_eqb n m d) ∙ sym (has_held n lt))

        back : (n : ℕ) → Has (H' s) n → Dec (n ≡ m) → Has (H s) n ⊎ (n ≡ m)
        back n h (yes e) = inr e
        back n h (no d) = inl (record { small = h.small; is = sym (other n d h.small) ∙ h.is })

        new : (n : ℕ) → n ≡ m → Has (H' s) n
        new n e =
            let lt : n < 16 = omega (arith, e, small) in
            record {
              small = lt;
              is = now n lt ∙ ap (λ b. if b then true else holds n (standing w i)) (eq-eqb n m e);
            }

        old : (n : ℕ) → Has (H s) n → Dec (n ≡ m) → Has (H' s) n
        old n h (yes e) = new n e
        old n h (no d) = record { small = h.small; is = other n d h.small ∙ h.is }

        forth : (n : ℕ) → Has (H s) n ⊎ (n ≡ m) → Has (H' s) n
        forth n (inl h) = old n h (ℕ_discrete n m)
        forth n (inr e) = new n e

    pub unlock_moves : (m : ℕ) (p : Place) → next_at laid w i ≡ Acts.Unlock m p → m < 16
        → holds m (standing w i) ≡ true → Turn laid w w' i Answers.Done Ready
        → ((j : ℕ) → j ≢ i → status_of w' j ≡ (woken m (standing w j)).status)
        → ((n : ℕ) → n < 16 → has (H' s) n ≡ held_with m false (standing w i) n) → SameContents w w' → Step S N C C'
    unlock_moves m p is small mine t others now same =
        step_unlocks s m (acts (Acts.Unlock m p) is) (record { small = small; is = has_held m small ∙ mine })
        (turn Answers.Done Ready t)
        (λ j not. ap status_as (others (number j) (λ e. not (one j s e))) ∙ released_is m (standing w (number j)))
        (λ n. (λ h. back n h (ℕ_discrete n m), λ h d. record { small = h.small; is = other n d h.small ∙ h.is }))
        (same_content same)
      where
        other : (n : ℕ) → (n ≡ m → ⊥) → n < 16 → has (H' s) n ≡ has (H s) n
        other n d lt =
            now n lt ∙ (ap (λ b. if b then false else holds n (standing w i)) (ne_eqb n m d) ∙ sym (has_held n lt))

        back : (n : ℕ) → Has (H' s) n → Dec (n ≡ m) → Has (H s) n × (n ≡ m → ⊥)
        back n h (yes e) =
            let gone : has (H' s) n ≡ false =
            now n h.small ∙ ap (λ b. if b then false else holds n (standing w i)) (eq-eqb n m e) in
            let clash : true ≡ false = sym h.is ∙ gone in absurd (cc)
        back n h (no d) = (record { small = h.small; is = sym (other n d h.small) ∙ h.is }, d)

    -- the task waits behind its yield
    pub yield_moves : next_at laid w i ≡ Acts.Yield → Turn laid w w' i Answers.Done Waiting
        → OthersStand w w' i → ((m : ℕ) → m < 16 → has (H' s) m ≡ holds m (standing w i)) → SameContents w w'
        → Step S N C C'
    yield_moves is t others now same =
        step_yields s (acts Acts.Yield is) (turn Answers.Done Waiting t) (stay others) (alike now) (same_content same)

    pub probe_moves : (m : ℕ) (p : Place) (b : Bool) → next_at laid w i ≡ Acts.Probe m p
        → (b ≡ true → IsHeldFree S N C m → ⊥) → (b ≡ false → IsHeldFree S N C m)
        → Turn laid w w' i (Answers.Given (truth_value b)) Ready → OthersStand w w' i
        → ((n : ℕ) → n < 16 → has (H' s) n ≡ holds n (standing w i)) → SameContents w w' → Step S N C C'
    probe_moves m p true is taken free t others now same =
        step_finds_held s m (acts (Acts.Probe m p) is) (taken refl) (turn (Answers.Given (truth_value true)) Ready t)
        (stay others) (alike now) (same_content same)
    probe_moves m p false is taken free t others now same =
        step_finds_free s m (acts (Acts.Probe m p) is) (free refl) (turn (Answers.Given (truth_value false)) Ready t)
        (stay others) (alike now) (same_content same)
